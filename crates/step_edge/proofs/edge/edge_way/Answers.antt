use Rattle.step_edge.specs.State.{gap}
use Rattle.step_edge.proofs.EdgeLaws.{edge_starts}
use Rattle.step_edge.proofs.edge.edge_way.Goals as goal

pub returns : goal.returns
returns c = λ o r room h. edge_starts room o h (gap c.args.g)
