-- Where the code is after k steps from the start: what the machine's theorem (search_steps, Runs) says of it. Statements; proofs/Ran.antt proves them.
use Rattle.std.specs.Prelude.{◌≡◌, true, false, map, ℕ, ◌*◌, ◌≤◌, ◌<◌, Float}
use Rattle.search_definition.specs.Search.{search_1d_bracketed}
use Rattle.search_steps.specs.Steps.{start}
use Rattle.search_steps.specs.Kept.{PhaseKept}
use Rattle.search_steps.specs.Run.{steps, evaluations}
use Rattle.step_pairs.specs.Landed.{pair_of}
use Rattle.step_search.specs.Holds.{Memory, phase_of, is_over, Holds}
use Rattle.step_search.specs.declared.SearchPhase.{SearchPhase}

module _ (err : ℕ → Float → Float) (n room : ℕ) where
  -- k steps from the start
  abbrev pub After : ℕ → SearchPhase → Memory → Type 0
  After k f m = Holds n room (steps err n k (start n)) f m

  pub record Ran (k : ℕ) (f : SearchPhase) (m : Memory) : Type 0 where
    -- what a step requires holds
    pub kept : PhaseKept n (phase_of n m.samples m.row f)
    -- it is over after the definition's evaluations, and not before
    pub goes_on : k < evaluations err n → is_over f ≡ false
    pub ends : k ≡ evaluations err n → is_over f ≡ true
    -- and then the list holds the definition's pairs, in its order, and nothing else
    pub listed : k ≡ evaluations err n → 44 * n ≤ room → m.found ≡ map pair_of (search_1d_bracketed err n).found
