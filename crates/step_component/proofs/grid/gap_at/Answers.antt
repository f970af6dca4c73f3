use Rattle.std.proofs.Common.{◌∙◌}
use Rattle.search_pairs.specs.Row.{points}
use Rattle.step_component.proofs.ComponentLaws.{gap_there}
use Rattle.step_component.proofs.grid.gap_at.Goals as goal

pub returns : goal.returns
returns c = λ i n. c.beside.ensures ∙ gap_there (points c.args.grid) c.args.k i n c.at.ensures c.behind.ensures
