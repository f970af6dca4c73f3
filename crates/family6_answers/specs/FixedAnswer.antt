-- The answers of family 6 from what the search computes once: the axes normalised, the negations, p_16 (search_error: specs/Fixed.antt). family6: proofs/SameAnswer.antt shows that they are those of its definition.
use Rattle.std.specs.Prelude.{◌||◌, Float}
use Rattle.float.specs.Num.{◌⊖◌}
use Rattle.float.specs.Wrap.{wrap_to_pi}
use Rattle.linear.specs.Matrix.{Matrix, product, apply, transpose, rot_unit}
use Rattle.linear.specs.Vector.{◌-ᵛ◌}
use Rattle.solutionset.specs.SolutionSet4.{at}
use Rattle.solutionset.specs.declared.Pair as Angles
use Rattle.subproblems.specs.Subproblem1.{subproblem1_within}
use Rattle.subproblems.specs.declared.Solved1.{Solved1}
use Rattle.answers.specs.declared.Answer.{Answer}
use Rattle.search_definition.specs.Found.{SearchPair}
use Rattle.search_error.specs.Fixed.{given_q1, t64}
use Rattle.family6_answers.specs.Pairs.{no_answer}
use Rattle.search_error.specs.declared.Fixed.{Fixed}
use Rattle.search_error.specs.declared.GivenQ1.{GivenQ1}

module _ (g : Fixed) (tolerance : Float) where
  -- (t23, t23_is_ls); r_16 is the Rust's r_01^T r_06 r_56^T
  unfoldable pub t23 : Matrix → Matrix → Solved1 Float
  t23 r-16 r-34 = subproblem1_within (apply r-34 g.kin.h5) (apply r-16 g.kin.h5) g.kin.h2 tolerance

  -- (q2, q2_is_ls)
  unfoldable pub q2 : GivenQ1 → Matrix → Matrix → Float → Solved1 Float
  q2 t r-16 r-34 theta =
      let r-13 = rot_unit g.u2 theta in
      let p_13 = t.p -ᵛ apply r-13 g.kin.p3 -ᵛ apply (product r-13 r-34) g.kin.p4 -ᵛ apply r-16 g.kin.p5 in
      subproblem1_within g.kin.p2 p_13 g.kin.h2 tolerance

  -- (q5, q5_is_ls)
  unfoldable pub q5 : Float → Matrix → Matrix → Solved1 Float
  q5 q1 r-34 r-56 =
      subproblem1_within (apply (transpose r-34) g.kin.h2) (apply (product (product r-56 (transpose g.r_06)) (rot_unit g.u1 q1)) g.kin.h2) g.minus_h5 tolerance

  -- the answer for q1 and one of subproblem 6's answers there, (t6, t4)
  unfoldable pub answer : Float → GivenQ1 → Angles.Pair → Answer
  answer q1 t t64 =
      let r-34 = rot_unit g.u4 t64.second in
      let r-56 = rot_unit g.u6 t64.first in
      let r-16 = product t.rotation (transpose r-56) in
      let s23 = t23 r-16 r-34 in
      let s2 = q2 t r-16 r-34 s23.theta in
      let s5 = q5 q1 r-34 r-56 in
      record {
        q1 = q1;
        q2 = s2.theta;
        q3 = wrap_to_pi (s23.theta ⊖ s2.theta);
        q4 = t64.second;
        q5 = s5.theta;
        q6 = t64.first;
        is_ls = s23.is_ls || s2.is_ls || s5.is_ls;
      }

  unfoldable pub answer_at : SearchPair → Answer
  answer_at pair =
      let t = given_q1 g pair.q1 in
      answer pair.q1 t (at no_answer (t64 g t) pair.i)
