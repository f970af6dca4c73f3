use Rattle.step_refine.specs.State.{bracket_of}
use Rattle.step_refine.proofs.RefineLaws.{no_value, arrived, turned}
use Rattle.step_refine.proofs.next.Goals as goal

pub returns-then-not-is_finite : goal.returns-then-not-is_finite
returns-then-not-is_finite c =
    no_value c.args.r.left (bracket_of c.args.r.at) c.args.y c.is_finite.ensures c.if-not-is_finite.true

pub returns-then-is_near : goal.returns-then-is_near
returns-then-is_near c =
    arrived c.args.r.left (bracket_of c.args.r.at) c.args.y c.is_finite.ensures c.if-not-is_finite.false c.next-x.ensures c.is_near.ensures c.if-is_near.true

pub returns : goal.returns
returns c =
    turned c.args.r.left (bracket_of c.args.r.at) c.args.y c.is_finite.ensures c.if-not-is_finite.false c.next-x.ensures c.is_near.ensures c.if-is_near.false c.narrowed.ensures c.way.ensures
