-- The code's enum of a component as the machine's.
use Rattle.std.specs.Prelude.{◌≡◌, false, List, ℕ, suc, ◌+◌, ◌-◌, ◌≤◌, ◌<◌}
use Rattle.float.specs.Number.{is_finite}
use Rattle.search_definition.specs.Dip.{Point}
use Rattle.search_steps.specs.ComponentSteps as Steps
use Rattle.search_steps.specs.Kept.{EdgeKept}
use Rattle.step_refine.specs.Point as DeclaredPoint
use Rattle.step_scan.specs.State.{scan_of, last_of}
use Rattle.step_edge.specs.State.{edge_of}
use Rattle.step_component.specs.declared.component.Component as DeclaredComponent
use Rattle.step_component.specs.declared.component.Component.TheVariants.{InRun, InEdge}

-- over the grid's samples 0 to n, with an edge's row r
abbrev pub component_of : ℕ → List DeclaredPoint.Point → DeclaredComponent.Component → Steps.Component
component_of n r (InRun u z) = Steps.in_run (n - (u.from + u.count)) u.from u.count (scan_of (last_of u) z)
component_of n r (InEdge k z) = Steps.in_edge (n - suc k) k (edge_of r z)

-- what is kept of the numbers, as far as a step needs it: `ComponentKept n` says it (proofs/ComponentLaws.antt, `kept_handy`)
abbrev pub Handy : Steps.Component → Type 0
Handy (Steps.in_run r s m z) = Unit
Handy (Steps.in_edge r k z) = EdgeKept z

-- of c samples of a row P from l on the first m are finite, and the next is not, if there is one: the walk over the runs comes to the run of these m
pub record Ran (P : ℕ → Point) (c l m : ℕ) : Type 0 where
  pub within : m ≤ c
  pub ends : m < c → is_finite (P (l + m)).y ≡ false
  pub walks : (i n : ℕ) → Steps.runs_way i P n (c - m) l m ≡ Steps.runs_way i P n c l 0
