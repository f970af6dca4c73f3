-- Family 6: two_parallel of inverse_kinematics/mod.rs (lines 365 to 505), with n samples in place of its 200 and the tolerance of subproblem1's flag handed down.
-- The Rust's kin.h.column(0) is h1 here, its kin.p.column(0) is p0.
use Rattle.std.specs.Prelude.{◌||◌, List, map, ℕ, Float, length}
use Rattle.float.specs.Num.{◌⊖◌}
use Rattle.float.specs.Wrap.{wrap_to_pi}
use Rattle.linear.specs.Matrix.{Matrix, product, apply, transpose, rot}
use Rattle.linear.specs.Vector.{◌-ᵛ◌, negᵛ}
use Rattle.linear.specs.declared.vector.Vector3.{Vector3}
use Rattle.solutionset.specs.SolutionSet4.{at}
use Rattle.solutionset.specs.declared.Pair as Angles
use Rattle.subproblems.specs.Subproblem1.{subproblem1_within}
use Rattle.kinematics.specs.declared.Kinematics.{Kinematics}
use Rattle.answers.specs.declared.Answer.{Answer}
use Rattle.search_definition.specs.Found.{SearchPair, pairs}
use Rattle.families_shared.specs.Place.{p_16}
use Rattle.search_error.specs.Error.{t64_given_q1}
use Rattle.family6_answers.specs.Pairs.{no_answer}
use Rattle.search.specs.Demand.{two_parallel_search}

module _ (r_06 : Matrix) (p_0t : Vector3) (kin : Kinematics) (tolerance : Float) where
  -- what the loop over q1_vec pushes for q1 and t64[i] = (q6, q4)
  unfoldable pub answer : Float → Angles.Pair → Answer
  answer q1 t64 =
      let q6 = t64.first in
      let q4 = t64.second in
      let r-01 = rot kin.h1 q1 in
      let r-34 = rot kin.h4 q4 in
      let r-56 = rot kin.h6 q6 in
      let r-16 = product (product (transpose r-01) r_06) (transpose r-56) in
      let t23 = subproblem1_within (apply r-34 kin.h5) (apply r-16 kin.h5) kin.h2 tolerance in
      let r-13 = rot kin.h2 t23.theta in
      let p_13 = apply (transpose r-01) (p_16 r_06 p_0t kin) -ᵛ kin.p1 -ᵛ apply r-13 kin.p3 -ᵛ apply (product r-13 r-34) kin.p4 -ᵛ apply r-16 kin.p5 in
      let q2 = subproblem1_within kin.p2 p_13 kin.h2 tolerance in
      let q5 = subproblem1_within (apply (transpose r-34) kin.h2) (apply (product (product r-56 (transpose r_06)) r-01) kin.h2) (negᵛ kin.h5) tolerance in
      record {
        q1 = q1;
        q2 = q2.theta;
        q3 = wrap_to_pi (t23.theta ⊖ q2.theta);
        q4 = q4;
        q5 = q5.theta;
        q6 = q6;
        is_ls = t23.is_ls || q2.is_ls || q5.is_ls;
      }

  -- the answer of the pair (q1, i). t64[i] is there for every pair of the search (proofs/Held.antt).
  unfoldable pub answer_of : SearchPair → Answer
  answer_of pair = answer pair.q1 (at no_answer (t64_given_q1 kin r_06 p_0t pair.q1) pair.i)

  -- an answer for each pair of the search, in the search's order
  unfoldable pub two_parallel : ℕ → List Answer
  two_parallel n = map answer_of (pairs (two_parallel_search kin r_06 p_0t n))

-- "the number of evaluations of the search error": of the angles that the search asks
unfoldable pub evaluations : Matrix → Vector3 → Kinematics → ℕ → ℕ
evaluations r_06 p_0t kin n = length (two_parallel_search kin r_06 p_0t n).asked
