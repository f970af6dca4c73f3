-- The customer's first demand, of the solve call: "The lent memory, angle list and flag list, holds after every call what document 01 says, for any numbers: refusals 1 to 8
-- leave it as it came, refusal 9 leaves the first answers that fit." What a call gives and leaves is `solve`, `written` and `flagged` by its contract; here is what those are. Document 02, request 1: "10 and every later number report zeros and write nothing."
use Prim.Native.Nat.{ℕ, ◌<◌, ◌≤◌}
use mathlib.Core.Path.{◌≡◌, refl, sym}
use mathlib.Core.List.{List, []}
use borrow.Author.Tests.{eq-eqb, ne_eqb, le-leb, lt-leb}
use lib.Ieee.{Float}
use lib.ListN.{length}
use Rattle.answers.specs.Written.{room, fitting, written, flagged}
use Rattle.answers.proofs.Kept.{Kept, kept}
use Rattle.answers.proofs.Laws.{nothing}
use Rattle.limits.proofs.Filter.{none_allowed}
use Rattle.full_list.specs.Full.{no_search}
use Rattle.solve.specs.Solve.{refused, full, answers, solve}
use Rattle.solve.specs.InNumbers.{Solved}

abbrev solved : ℕ → ℕ → ℕ → Solved
solved refusal answers evals = record { refusal = refusal; answers = answers; evals = evals }

pub record Lent (family n : ℕ) (arm pose limits angles : List Float) (flags : List ℕ) : Type 0 where
  -- refusals 10 and 4 to 8 report zeros and leave both lists as they came
  pub zeros : (refused family n arm pose limits ≡ 0 → ⊥) → solve family n arm pose limits (room angles flags) ≡ solved (refused family n arm pose limits) 0 0
  pub refused_angles : (refused family n arm pose limits ≡ 0 → ⊥) → written (answers family n arm pose limits) angles flags ≡ angles
  pub refused_flags : (refused family n arm pose limits ≡ 0 → ⊥) → flagged (answers family n arm pose limits) angles flags ≡ flags
  -- refusal 9 is given exactly if the answers inside the limits do not all fit, with their true number and the evaluations
  pub too_many : refused family n arm pose limits ≡ 0 → room angles flags < length (answers family n arm pose limits)
      → solve family n arm pose limits (room angles flags) ≡ solved 9 (length (answers family n arm pose limits)) (full family n arm pose limits).evals
  pub few_enough : refused family n arm pose limits ≡ 0 → length (answers family n arm pose limits) ≤ room angles flags
      → solve family n arm pose limits (room angles flags) ≡ solved 0 (length (answers family n arm pose limits)) (full family n arm pose limits).evals
  -- the lists hold the first answers that fit both, and past them what they held
  pub lists : Kept (fitting (answers family n arm pose limits) angles flags) angles flags (written (answers family n arm pose limits) angles flags) (flagged (answers family n arm pose limits) angles flags)

module _ (family n : ℕ) (arm pose limits angles : List Float) (flags : List ℕ) where
  none : (refused family n arm pose limits ≡ 0 → ⊥) → full family n arm pose limits ≡ no_search []
  unfolding full
  none h = rw (ne_eqb (refused family n arm pose limits) 0 h)

  by_refusal : (refused family n arm pose limits ≡ 0 → ⊥) → solve family n arm pose limits (room angles flags) ≡ solved (refused family n arm pose limits) 0 0
  unfolding solve
  by_refusal h = rw (none h, none_allowed limits, ne_eqb (refused family n arm pose limits) 0 h)

  over : refused family n arm pose limits ≡ 0 → room angles flags < length (answers family n arm pose limits)
      → solve family n arm pose limits (room angles flags) ≡ solved 9 (length (answers family n arm pose limits)) (full family n arm pose limits).evals
  unfolding solve
  over z h = rw (eq-eqb (refused family n arm pose limits) 0 z, lt-leb (length (answers family n arm pose limits)) (room angles flags) h)

  within : refused family n arm pose limits ≡ 0 → length (answers family n arm pose limits) ≤ room angles flags
      → solve family n arm pose limits (room angles flags) ≡ solved 0 (length (answers family n arm pose limits)) (full family n arm pose limits).evals
  unfolding solve
  within z h = rw (eq-eqb (refused family n arm pose limits) 0 z, le-leb (length (answers family n arm pose limits)) (room angles flags) h)

  pub lent : Lent family n arm pose limits angles flags
  lent =
      record {
        zeros = by_refusal;
        refused_angles = λ h. rw (answers, none h, none_allowed limits) (sym (nothing angles flags).all_angles);
        refused_flags = λ h. rw (answers, none h, none_allowed limits) (sym (nothing angles flags).all_flags);
        too_many = over;
        few_enough = within;
        lists = kept (answers family n arm pose limits) angles _ flags _ _ (record { all_angles = refl; all_flags = refl; all_counted = refl });
      }
