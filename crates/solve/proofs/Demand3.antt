-- The solve call meets demand 3, whatever finite numbers are lent, whatever n from 1 to 400 and whatever limits that are not refused. Assumes nothing.
use mathlib.Core.Path.{◌≡◌, sym, ◌∙◌, ap}
use mathlib.Core.List.{List, map}
use Prim.Native.Nat.{ℕ}
use native.Mathlib.Omega.{arith}
use borrow.Author.Tests.{eq-eqb, le-leb}
use lib.Ieee.{Float}
use lib.ListN.{length, length-map}
use Rattle.kinematics.specs.Kinematics.{from_numbers}
use Rattle.kinematics.specs.Pose.{pose_rotation, pose_place}
use Rattle.search_definition.specs.Found.{Out, pair_of, pairs}
use Rattle.search_definition.specs.Demand.{Demand3}
use Rattle.search_definition.proofs.Demand.{demand_3}
use Rattle.search_error.proofs.Strict.{strict}
use Rattle.search.specs.Demand.{two_parallel_search}
use Rattle.search.proofs.Listed.{within}
use Rattle.family6.specs.TwoParallel.{answer_of, two_parallel, evaluations}
use Rattle.refusals.specs.Judge.{judge}
use Rattle.limits.specs.Limits.{allowed, refusal_10}
use Rattle.limits.proofs.Filter.{the_allowed}
use Rattle.full_list.specs.Full.{Full, tolerance, by_family, of_numbers}
use Rattle.solve.specs.Solve.{refused, full, answers, solve}
use Rattle.solve.specs.Demand3.{err, definition, answered, of_pairs, Finite, SolveDemand3}

module _ (n : ℕ) (arm pose : List Float) (f : Finite n arm pose) (limits : List Float) (l : refusal_10 limits ≡ 0) where
  judged : judge 6 n arm pose ≡ 0
  unfolding judge
  judged =
      rw (eq-eqb (length arm) 39 f.arm_long, eq-eqb (length pose) 12 f.pose_long, le-leb 1 n f.some, le-leb n 400 f.most, f.arm_finite, f.pose_finite)

  accepted : refused 6 n arm pose limits ≡ 0
  unfolding refused
  accepted = rw (eq-eqb (refusal_10 limits) 0 l) judged

  pub unrefused : full 6 n arm pose limits ≡ of_numbers 6 n arm pose
  unfolding full
  unrefused = rw (eq-eqb (refused 6 n arm pose limits) 0 accepted)

  abbrev searched : Out
  searched = two_parallel_search (from_numbers arm) (pose_rotation pose) (pose_place pose) n

  same : searched ≡ definition n arm pose
  same = sym (within (err n arm pose) n f.most)

  family_6 : full 6 n arm pose limits ≡ (record { answers = two_parallel (pose_rotation pose) (pose_place pose) (from_numbers arm) tolerance n; evals = evaluations (pose_rotation pose) (pose_place pose) (from_numbers arm) n })
  unfolding by_family
  family_6 = unrefused

  all_answers : (full 6 n arm pose limits).answers ≡ of_pairs n arm pose
  unfolding two_parallel
  all_answers = ap (λ (x : Full). x.answers) family_6 ∙ ap (λ (o : Out). map (answer_of (pose_rotation pose) (pose_place pose) (from_numbers arm) tolerance) (pairs o)) same

  all_evals : (full 6 n arm pose limits).evals ≡ length (definition n arm pose).asked
  unfolding evaluations
  all_evals = ap (λ (x : Full). x.evals) family_6 ∙ ap (λ (o : Out). length o.asked) same

  number : length (of_pairs n arm pose) ≡ length (definition n arm pose).found
  unfolding pairs
  number =
      length-map (pairs (definition n arm pose)) (answer_of (pose_rotation pose) (pose_place pose) (from_numbers arm) tolerance)
      ∙ length-map (definition n arm pose).found pair_of

  some_stay : answers 6 n arm pose limits ≡ allowed limits (of_pairs n arm pose)
  some_stay = rw all_answers

  pub demand : (room : ℕ) → SolveDemand3 n arm pose limits room
  unfolding solve
  demand room =
      let d : Demand3 (err n arm pose) n (answered n arm pose) = demand_3 (err n arm pose) n (answered n arm pose) (strict _ _ _) in
      let stay = (the_allowed limits (of_pairs n arm pose)).no_more in
      record {
        evaluations = all_evals;
        bounded = omega (arith, all_evals, d.evaluations);
        list = some_stay;
        one_each = number;
        counted = ap length some_stay;
        few = rw some_stay (omega (arith, number, d.listed, stay));
        listed = d;
      }
