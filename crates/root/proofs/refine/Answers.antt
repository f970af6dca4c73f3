-- The quotient is the root's further digits.
use Rattle.root.proofs.Squares.{refined}
use Rattle.root.proofs.refine.Goals as goal

pub returns-then-q-u : goal.returns-then-q-u
returns-then-q-u c = refined _ _ _ _ c.requires c.if-q-u.true
