-- What the code of a whole search holds, as the machine's state: a phase by value, and three lists.
use Rattle.std.specs.Prelude.{◌≡◌, Bool, true, false, List, [], ℕ, ◌-◌, Float, length, get_or, Option, Some, None}
use Rattle.std.specs.Float.{nan}
use Rattle.search_steps.specs.Steps as Steps
use Rattle.search_steps.specs.Steps.{State, next}
use Rattle.step_refine.specs.Point as DeclaredPoint
use Rattle.step_pairs.specs.declared.Found as DeclaredFound
use Rattle.step_pairs.specs.Landed.{putting}
use Rattle.step_scan.specs.State.{samples_of}
use Rattle.search_pairs.specs.declared.row.Sample as DeclaredSample
use Rattle.step_phase.specs.State.{place_of}
use Rattle.step_search.specs.declared.SearchPhase as Declared
use Rattle.step_search.specs.declared.SearchPhase.TheVariants.{Sampling, Searching, Ended}

-- the lists: the samples taken, an edge's row, the pairs found
pub record Memory : Type 0 where
  pub samples : List DeclaredSample.Sample
  pub row : List DeclaredPoint.Point
  pub found : List DeclaredFound.Found

abbrev pub memory : List DeclaredSample.Sample → List DeclaredPoint.Point → List DeclaredFound.Found → Memory
memory s r h = record { samples = s; row = r; found = h }

-- the error's four values, by component
abbrev pub values : List Float → ℕ → Float
values e i = get_or e i nan

-- with the samples s and an edge's row r
abbrev pub phase_of : ℕ → List DeclaredSample.Sample → List DeclaredPoint.Point → Declared.SearchPhase → Steps.Phase
phase_of n s r Sampling = Steps.sampling (n - length s) (length s)
phase_of n s r (Searching p) = place_of n r p
phase_of n s r Ended = Steps.ended

abbrev pub is_over : Declared.SearchPhase → Bool
is_over Sampling = false
is_over (Searching p) = false
is_over Ended = true

-- The code is in the machine's state s, with a list for so many pairs as there is room.
pub record Holds (n room : ℕ) (s : State) (f : Declared.SearchPhase) (m : Memory) : Type 0 where
  pub phase : phase_of n m.samples m.row f ≡ s.phase
  pub samples : samples_of m.samples ≡ s.samples
  pub pairs : m.found ≡ putting room [] s.found

-- from f and m to g and w as the machine steps, with the values e
abbrev pub StepsTo : ℕ → ℕ → List Float → Declared.SearchPhase → Memory → Declared.SearchPhase → Memory → Type 0
StepsTo n room e f m g w = (s : State) → Holds n room s f m → Holds n room (next n s (values e)) g w

-- the phase in which the walk over the components pauses, or the end
abbrev pub phase_at : Option Steps.Phase → Steps.Phase
phase_at (Some p) = p
phase_at None = Steps.ended
