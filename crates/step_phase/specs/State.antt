-- The code's place in a search over the whole grid's samples as the machine's.
use Rattle.std.specs.Prelude.{List, ℕ, suc, ◌-◌, Float}
use Rattle.search_steps.specs.Way.{Way, chain}
use Rattle.search_steps.specs.ComponentSteps.{Component, component_next}
use Rattle.search_steps.specs.Steps as Steps
use Rattle.search_steps.specs.Steps.{Samples, taken_at, searching, components_way}
use Rattle.step_refine.specs.Point as DeclaredPoint
use Rattle.step_component.specs.State.{component_of}
use Rattle.step_phase.specs.declared.phase.Place as DeclaredPlace

-- over the grid's samples 0 to n, with an edge's row r
abbrev pub place_of : ℕ → List DeclaredPoint.Point → DeclaredPlace.Place → Steps.Phase
place_of n r p = searching (3 - p.i) p.i (component_of n r p.at)

-- the way of the machine's `next` from `searching (3 - i) i z`
abbrev pub searched : ℕ → Samples → ℕ → Component → Float → Way Steps.Phase
searched n S i z y = chain (searching (3 - i) i) (component_next i (taken_at S i) n z y) (components_way n S (3 - i) (suc i))
