-- `card::registers::end` meets its contract. Assumes nothing.
use lib.Dec.{lit<}
use lib.Seq.{lt-length-set}
use borrow.Author.Rules.{rules}
use Rattle.card.proofs.RegisterLaws.{below, ended-silent, ended-flagged}
use Rattle.card.proofs.registers.end.Goals as goal

pub bounds-registers-1 : goal.bounds-registers-1
bounds-registers-1 c = search (below, lit<)

pub bounds-registers-2 : goal.bounds-registers-2
bounds-registers-2 c = search (lt-length-set, below, lit<)

pub bounds-registers-3 : goal.bounds-registers-3
bounds-registers-3 c = search (lt-length-set, below, lit<)

pub returns-then-registers-eq1 : goal.returns-then-registers-eq1
returns-then-registers-eq1 c =
    let s = ended-flagged _ c.args.made c.requires c.args.refusal c.ended_status.ensures (search rules) in
    record { registers = s.0; proper = s.1 }

pub returns-else-registers-eq1 : goal.returns-else-registers-eq1
returns-else-registers-eq1 c =
    let s = ended-silent _ c.args.made c.requires c.args.refusal c.ended_status.ensures (search rules) in
    record { registers = s.0; proper = s.1 }
