-- The code's structs as the machine's records: those of refine_bracket as search_refine has them.
use Rattle.std.specs.Prelude.{[], Float}
use Rattle.std.specs.declared.ops.ControlFlow.{ControlFlow}
use Rattle.std.specs.declared.ops.ControlFlow.TheVariants.{Continue, Break}
use Rattle.search_definition.specs.Found.{Origin}
pub use Rattle.search_refine.specs.Point.{point_of}
pub use Rattle.search_refine.specs.Bracket.{bracket_of}
use Rattle.search_steps.specs.Way as Ways
use Rattle.search_steps.specs.RefineSteps as Steps
use Rattle.search_steps.specs.RefineSteps.{refining, one_pair}
use Rattle.step_refine.specs.declared.Refining as DeclaredRefining

abbrev pub refining_of : DeclaredRefining.Refining → Steps.Refining
refining_of r = refining r.left (bracket_of r.at)

-- the pair that it is over with is named by o
abbrev pub way_of : Origin → ControlFlow Float DeclaredRefining.Refining → Ways.Way Steps.Refining
way_of o (Continue r) = Ways.pause [] (refining_of r)
way_of o (Break x) = Ways.over (one_pair x o)
