-- `card::registers::command` meets its contract. Assumes nothing.
use lib.Dec.{lit<}
use borrow.Author.Rules.{rules}
use Rattle.card.proofs.RegisterLaws.{below, start_ignored, start-taken, abandon_taken, others_ignored}
use Rattle.card.proofs.registers.command.Goals as goal

pub bounds-registers-1 : goal.bounds-registers-1
bounds-registers-1 c = search (below, lit<)

pub returns-then-registers-eq1 : goal.returns-then-registers-eq1
returns-then-registers-eq1 c =
    let s = start_ignored _ c.args.made c.requires {value = c.args.value} (search rules) (search rules) in
    record { result = s.0; registers = s.1.0; proper = s.1.1 }

pub bounds-registers-1-then-value-eq1 : goal.bounds-registers-1-then-value-eq1
bounds-registers-1-then-value-eq1 c = search (below, lit<)

pub returns-then-value-eq1 : goal.returns-then-value-eq1
returns-then-value-eq1 c =
    let s = start-taken _ c.args.made c.requires {value = c.args.value} (search rules) (search rules) in
    record { result = s.0; registers = s.1.0; proper = s.1.1 }

pub bounds-registers-1-then-value-eq2 : goal.bounds-registers-1-then-value-eq2
bounds-registers-1-then-value-eq2 c = search (below, lit<)

pub returns-then-value-eq2 : goal.returns-then-value-eq2
returns-then-value-eq2 c =
    let s = abandon_taken _ c.args.made c.requires {value = c.args.value} (search rules) in
    record { result = s.0; registers = s.1.0; proper = s.1.1 }

pub returns : goal.returns
returns c =
    let s = others_ignored _ c.args.made c.requires {value = c.args.value} (search rules) (search rules) in
    record { result = s.0; registers = s.1.0; proper = s.1.1 }
