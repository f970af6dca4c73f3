-- Joint limits filter what is given, and change nothing that is solved. Assumes nothing.
use Prim.Native.Nat.{ℕ, ◌*◌, ◌≤◌}
use mathlib.Core.Path.{◌≡◌, refl, ap}
use mathlib.Core.Bool.{Bool, true, false, cond}
use mathlib.Core.List.{List, []}
use native.Mathlib.Omega.{arith}
use borrow.Author.Tests.{eq-eqb, ne_eqb}
use lib.Dec.{eqb}
use lib.Ieee.{Float}
use lib.ListN.{length}
use Rattle.kinematics.specs.Kinematics.{from_numbers}
use Rattle.kinematics.specs.Pose.{pose_rotation, pose_place}
use Rattle.family6.proofs.AtMost44.{at_most_44}
use Rattle.refusals.specs.Judge.{judge}
use Rattle.limits.specs.Limits.{refusal_10}
use Rattle.limits.proofs.Filter.{unlimited, the_allowed}
use Rattle.full_list.specs.Full.{Full, no_search, by_family, tolerance, of_numbers}
use Rattle.full_list.proofs.Laws.{without_search_few, closed}
use Rattle.solve.specs.Solve.{refused, full, answers, solve}
use Rattle.solve.specs.Limited.{Limited}

module _ (family n : ℕ) (arm pose : List Float) where
  by_judge : refused family n arm pose [] ≡ judge family n arm pose
  unfolding refused refusal_10
  by_judge = refl

  -- limits that are not refused play no part in what is refused, nor in what is solved
  module _ (limits : List Float) where
    same_refusal : refusal_10 limits ≡ 0 → refused family n arm pose limits ≡ judge family n arm pose
    unfolding refused
    same_refusal e = rw (eq-eqb (refusal_10 limits) 0 e)

    same_solving : refusal_10 limits ≡ 0 → full family n arm pose limits ≡ full family n arm pose []
    unfolding full
    same_solving e = rw (same_refusal e, by_judge)

    same_evaluations : (room : ℕ) → refusal_10 limits ≡ 0 → (solve family n arm pose limits room).evals ≡ (solve family n arm pose [] room).evals
    unfolding solve
    same_evaluations room e = ap (λ (f : Full). f.evals) (same_solving e)

    ten_first : (refusal_10 limits ≡ 0 → ⊥) → refused family n arm pose limits ≡ refusal_10 limits
    unfolding refused
    ten_first h = rw (ne_eqb (refusal_10 limits) 0 h)

    -- what is solved, or nothing
    solved_few : (m : ℕ) (t : Bool) → length (of_numbers family n arm pose).answers ≤ m → length (cond t (of_numbers family n arm pose) (no_search [])).answers ≤ m
    solved_few m true h = h
    solved_few m false h = omega arith

    full_few : (m : ℕ) → length (of_numbers family n arm pose).answers ≤ m → length (answers family n arm pose limits) ≤ m
    unfolding full
    full_few m h =
        let all = solved_few m (eqb (refused family n arm pose limits) 0) h in
        let stay = (the_allowed limits (full family n arm pose limits).answers).no_more in
        omega arith

    few_8 : (family ≡ 6 → ⊥) → length (answers family n arm pose limits) ≤ 8
    few_8 other =
        full_few 8
        (rw (closed family n (pose_rotation pose) (pose_place pose) (from_numbers arm) tolerance other)
        (without_search_few family (pose_rotation pose) (pose_place pose) (from_numbers arm) tolerance))

    searched_few : family ≡ 6 → length (of_numbers family n arm pose).answers ≤ 44 * n
    unfolding by_family
    searched_few six = rw six (at_most_44 (pose_rotation pose) (pose_place pose) (from_numbers arm) tolerance n)

    few_44 : family ≡ 6 → length (answers family n arm pose limits) ≤ 44 * n
    few_44 six = full_few (44 * n) (searched_few six)

    pub limited : Limited family n arm pose limits
    limited =
        record {
          filtered = (the_allowed limits (full family n arm pose limits).answers).filtered;
          without_limits = unlimited (full family n arm pose []).answers;
          refused_without = by_judge;
          same_solving = same_solving;
          same_evaluations = same_evaluations;
          ten_first = ten_first;
          at_most_8 = few_8;
          at_most_44 = few_44;
        }
