-- The customer's first demand, of the block call: "refusals 1 to 8 leave it as it came". What a call gives and leaves is `solve-block`, `written` and `flagged` by its
-- contract; here is what those are where a block is refused by 1 to 3, and that elsewhere the call is the solve call, of which solve: proofs/Lent.antt speaks.
use Prim.Native.Nat.{ℕ}
use mathlib.Core.Path.{◌≡◌, sym}
use mathlib.Core.List.{List, []}
use borrow.Author.Tests.{eq-eqb, ne_eqb}
use lib.Ieee.{Float}
use Rattle.answers.specs.Written.{room, written, flagged}
use Rattle.answers.proofs.Laws.{nothing}
use Rattle.block.specs.Block.{refusal, family, samples, arm, pose}
use Rattle.solve.specs.Solve.{answers, solve}
use Rattle.solve_block.specs.SolveBlock.{solve_block, block_answers}

pub record Lent (bytes : List ℕ) (limits angles : List Float) (flags : List ℕ) : Type 0 where
  -- refusals 1 to 3 report zeros and leave both lists as they came
  pub refused : (refusal bytes ≡ 0 → ⊥) → solve_block bytes limits (room angles flags) ≡ record { refusal = refusal bytes; answers = 0; evals = 0 }
  pub refused_angles : (refusal bytes ≡ 0 → ⊥) → written (block_answers bytes limits) angles flags ≡ angles
  pub refused_flags : (refusal bytes ≡ 0 → ⊥) → flagged (block_answers bytes limits) angles flags ≡ flags
  -- where none of them applies, the call is the solve call with the block's numbers
  pub solved : refusal bytes ≡ 0 → solve_block bytes limits (room angles flags) ≡ solve (family bytes) (samples bytes) (arm bytes) (pose bytes) limits (room angles flags)
  pub same_answers : refusal bytes ≡ 0 → block_answers bytes limits ≡ answers (family bytes) (samples bytes) (arm bytes) (pose bytes) limits

module _ (bytes : List ℕ) (limits angles : List Float) (flags : List ℕ) where
  none : (refusal bytes ≡ 0 → ⊥) → block_answers bytes limits ≡ []
  unfolding block_answers
  none h = rw (ne_eqb (refusal bytes) 0 h)

  by_refusal : (refusal bytes ≡ 0 → ⊥) → solve_block bytes limits (room angles flags) ≡ record { refusal = refusal bytes; answers = 0; evals = 0 }
  unfolding solve_block
  by_refusal h = rw (ne_eqb (refusal bytes) 0 h)

  by_solve : refusal bytes ≡ 0 → solve_block bytes limits (room angles flags) ≡ solve (family bytes) (samples bytes) (arm bytes) (pose bytes) limits (room angles flags)
  unfolding solve_block
  by_solve z = rw (eq-eqb (refusal bytes) 0 z)

  all : refusal bytes ≡ 0 → block_answers bytes limits ≡ answers (family bytes) (samples bytes) (arm bytes) (pose bytes) limits
  unfolding block_answers
  all z = rw (eq-eqb (refusal bytes) 0 z)

  pub lent : Lent bytes limits angles flags
  lent =
      record {
        refused = by_refusal;
        refused_angles = λ h. rw (none h) (sym (nothing angles flags).all_angles);
        refused_flags = λ h. rw (none h) (sym (nothing angles flags).all_flags);
        solved = by_solve;
        same_answers = all;
      }
