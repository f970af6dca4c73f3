use Rattle.step_refine.specs.State.{bracket_of}
use Rattle.step_refine.proofs.RefineLaws.{no_turn, goes_on, no_guess}
use Rattle.step_refine.proofs.way.Goals as goal

pub returns-then-left-eq0 : goal.returns-then-left-eq0
returns-then-left-eq0 c = no_turn c.args.left (bracket_of c.args.s) c.if-left-eq0.true

pub returns-then-is_finite : goal.returns-then-is_finite
returns-then-is_finite c =
    goes_on c.args.left (bracket_of c.args.s) c.if-left-eq0.false c.next.ensures c.is_finite.ensures c.if-is_finite.true

pub returns : goal.returns
returns c =
    no_guess c.args.left (bracket_of c.args.s) c.if-left-eq0.false c.next.ensures c.is_finite.ensures c.if-is_finite.false
