use Rattle.search_pairs.specs.Row.{points}
use Rattle.step_component.proofs.ComponentLaws.{component_starts}
use Rattle.step_component.proofs.component.component_way.Goals as goal

pub returns : goal.returns
returns g c =
    λ r. component_starts c.args.i (points c.args.grid) c.args.n g.row.N c.args.found.now.items (c.runs_way.ensures r)
