-- `card::registers::write` meets its contract. Assumes nothing.
use lib.Dec.{lit<}
use borrow.Author.Rules.{rules}
use Rattle.card.proofs.RegisterLaws.{below, at-command, at_status, at_mask, flag_cleared, flag_left, past, block_ignored, block_written}
use Rattle.card.proofs.registers.write.Goals as goal

pub returns-then-address-eq0 : goal.returns-then-address-eq0
returns-then-address-eq0 c =
    let e = c.command.ensures in
    let s = at-command _ c.args.made c.requires {address = c.args.address} c.args.value (search rules) e.result e.registers e.proper in
    record { result = s.0; registers = s.1.0; proper = s.1.1 }

pub returns-then-address-eq1 : goal.returns-then-address-eq1
returns-then-address-eq1 c =
    let s = at_status _ c.args.made c.requires {address = c.args.address} c.args.value (search rules) in
    record { result = s.0; registers = s.1.0; proper = s.1.1 }

pub bounds-registers-2 : goal.bounds-registers-2
bounds-registers-2 c = search (below, lit<)

pub returns-then-address-eq2 : goal.returns-then-address-eq2
returns-then-address-eq2 c =
    let s = at_mask _ c.args.made c.requires {address = c.args.address} c.args.value (search rules) in
    record { result = s.0; registers = s.1.0; proper = s.1.1 }

pub bounds-registers-3 : goal.bounds-registers-3
bounds-registers-3 c = search (below, lit<)

pub returns-then-value-eq1 : goal.returns-then-value-eq1
returns-then-value-eq1 c =
    let s = flag_cleared _ c.args.made c.requires {address = c.args.address} c.args.value (search rules) (search rules) in
    record { result = s.0; registers = s.1.0; proper = s.1.1 }

pub returns-else-value-eq1 : goal.returns-else-value-eq1
returns-else-value-eq1 c =
    let s = flag_left _ c.args.made c.requires {address = c.args.address} c.args.value (search rules) (search rules) in
    record { result = s.0; registers = s.1.0; proper = s.1.1 }

pub returns-then-address-ge516 : goal.returns-then-address-ge516
returns-then-address-ge516 c =
    let s = past _ c.args.made c.requires {address = c.args.address} c.args.value (search rules) (search rules) (search rules) (search rules) (search rules) in
    record { result = s.0; registers = s.1.0; proper = s.1.1 }

pub bounds-registers-1 : goal.bounds-registers-1
bounds-registers-1 c = search (below, lit<)

pub bounds-registers-address : goal.bounds-registers-address
bounds-registers-address c = search below

pub returns-then-registers-ne1 : goal.returns-then-registers-ne1
returns-then-registers-ne1 c =
    let s = block_written _ c.args.made c.requires {address = c.args.address} c.args.value (search rules) (search rules) (search rules) (search rules) (search rules) (search rules) in
    record { result = s.0; registers = s.1.0; proper = s.1.1 }

pub returns-else-registers-ne1 : goal.returns-else-registers-ne1
returns-else-registers-ne1 c =
    let s = block_ignored _ c.args.made c.requires {address = c.args.address} c.args.value (search rules) (search rules) (search rules) (search rules) (search rules) (search rules) in
    record { result = s.0; registers = s.1.0; proper = s.1.1 }
