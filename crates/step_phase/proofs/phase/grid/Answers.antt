use Rattle.std.proofs.Common.{◌∙◌, ap}
use Rattle.search_pairs.specs.Row.{column}
use Rattle.step_scan.proofs.RowLaws.{column_taken}
use Rattle.step_phase.proofs.phase.grid.Goals as goal

pub returns : goal.returns
returns c = ap (column c.args.samples.now) c.min.ensures ∙ column_taken c.args.samples.now c.args.i
