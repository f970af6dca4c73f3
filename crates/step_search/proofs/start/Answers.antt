use Rattle.step_search.proofs.HoldsLaws.{starts}
use Rattle.step_search.proofs.start.Goals as goal

pub returns : goal.returns
returns g c = λ n r. starts n g.row.N _ r _ c.clear.ensures c.clear-2.ensures
