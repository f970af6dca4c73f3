-- `solve_block`: refused with nothing written, or as the solve call has it.
use Rattle.std.proofs.Common.{◌≡◌, ◌≢◌, ℕ, List, [], Float, ◌∙◌}
use borrow.Author.Tests.{ne_eqb}
use Rattle.answers.specs.Written.{room, written, flagged}
use Rattle.answers.proofs.Laws.{nothing}
use Rattle.block.specs.Block.{refusal, family, samples, arm, pose}
use Rattle.refusals.proofs.Outcomes.{number-positive}
use Rattle.solve.specs.InNumbers.{Solved, refuses}
use Rattle.solve.specs.Solve.{answers, solve}
use Rattle.solve_block.specs.SolveBlock.{solve_block, block_answers}
use Rattle.solve_block.proofs.solve_block.Goals as goal

module _ (bytes : List ℕ) (limits a : List Float) (f : List ℕ) where
  module _ {refused : ℕ} (e : refused ≡ refusal bytes) (h : refused ≢ 0) where
    none : block_answers bytes limits ≡ []
    unfolding block_answers
    none = rw (← e, ne_eqb refused 0 h)

    result-refused : refuses refused ≡ solve_block bytes limits (room a f)
    unfolding solve_block
    result-refused = rw (← e, ne_eqb refused 0 h)

    angles-refused : a ≡ written (block_answers bytes limits) a f
    angles-refused = rw none (nothing a f).all_angles

    flags-refused : f ≡ flagged (block_answers bytes limits) a f
    flags-refused = rw none (nothing a f).all_flags

  module _ {fam n : ℕ} {m p : List Float} (z : 0 ≡ refusal bytes) (e-f : fam ≡ family bytes) (e-n : n ≡ samples bytes) (e-m : m ≡ arm bytes) (e-p : p ≡ pose bytes) where
    same : answers fam n m p limits ≡ block_answers bytes limits
    unfolding block_answers
    same = rw (e-f, e-n, e-m, e-p, ← z)

    result-solved : {s : Solved} → s ≡ solve fam n m p limits (room a f) → s ≡ solve_block bytes limits (room a f)
    unfolding solve_block
    result-solved e-s = rw (e-s, e-f, e-n, e-m, e-p, ← z)

    angles-solved : {a' : List Float} → a' ≡ written (answers fam n m p limits) a f → a' ≡ written (block_answers bytes limits) a f
    angles-solved w = rw same at w

    flags-solved : {f' : List ℕ} → f' ≡ flagged (answers fam n m p limits) a f → f' ≡ flagged (block_answers bytes limits) a f
    flags-solved w = rw same at w

pub returns-in-Err-clause-result : goal.returns-in-Err-clause-result
returns-in-Err-clause-result c = c.refuse.ensures ∙ result-refused _ _ _ _ c.in-Err.ensures.refusal (number-positive _)

pub returns-in-Err-clause-angles : goal.returns-in-Err-clause-angles
returns-in-Err-clause-angles c = angles-refused _ _ _ _ c.in-Err.ensures.refusal (number-positive _)

pub returns-in-Err-clause-flags : goal.returns-in-Err-clause-flags
returns-in-Err-clause-flags c = flags-refused _ _ _ _ c.in-Err.ensures.refusal (number-positive _)

pub returns-in-Ok-clause-result : goal.returns-in-Ok-clause-result
returns-in-Ok-clause-result c =
    let e = c.in-Ok.ensures.block in
    result-solved _ _ _ _ c.in-Ok.ensures.refusal (rw e at c.family-family.ensures) (rw e at c.samples-n.ensures) (rw e at c.arm-arm.ensures) (rw e at c.pose-pose.ensures) c.solve.ensures.result

pub returns-in-Ok-clause-angles : goal.returns-in-Ok-clause-angles
returns-in-Ok-clause-angles c =
    let e = c.in-Ok.ensures.block in
    angles-solved _ _ _ _ c.in-Ok.ensures.refusal (rw e at c.family-family.ensures) (rw e at c.samples-n.ensures) (rw e at c.arm-arm.ensures) (rw e at c.pose-pose.ensures) c.solve.ensures.angles

pub returns-in-Ok-clause-flags : goal.returns-in-Ok-clause-flags
returns-in-Ok-clause-flags c =
    let e = c.in-Ok.ensures.block in
    flags-solved _ _ _ _ c.in-Ok.ensures.refusal (rw e at c.family-family.ensures) (rw e at c.samples-n.ensures) (rw e at c.arm-arm.ensures) (rw e at c.pose-pose.ensures) c.solve.ensures.flags
