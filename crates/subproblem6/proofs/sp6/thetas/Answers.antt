-- The map of the set is the set of the list's map.
use mathlib.Core.Path.{◌∙◌}
use Rattle.std.proofs.Common.{rules}
use Rattle.solutionset.proofs.Map.{map_get_all}
use Rattle.subproblem6.specs.Subproblem6.{theta}
use Rattle.subproblem6.proofs.sp6.thetas.Goals as goal

pub returns : goal.returns
returns c =
    c.map.ensures (theta c.args.s) (λ x y p. search rules) ∙ map_get_all (theta c.args.s) c.args.xi
