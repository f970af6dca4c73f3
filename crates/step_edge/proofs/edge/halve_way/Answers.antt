use Rattle.std.proofs.Common.{ap, map}
use Rattle.step_refine.specs.State.{point_of}
use Rattle.step_edge.specs.State.{gap}
use Rattle.step_edge.proofs.EdgeLaws.{halves_none, halves_on}
use Rattle.step_edge.proofs.edge.halve_way.Goals as goal

pub returns-then-k-eq0 : goal.returns-then-k-eq0
returns-then-k-eq0 g c =
    λ o p room h. halves_none room o h p (gap c.args.g) c.args.k c.if-k-eq0.true (ap (map point_of) c.clear.ensures)

pub returns : goal.returns
returns g c = λ o p room h. halves_on room o h p (gap c.args.g) c.args.k c.if-k-eq0.false
