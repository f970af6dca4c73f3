-- What three_parallel_two_intersecting and three_parallel have in common: theta14 = q2 + q3 + q4, and the end, where q1, q5 and q6 are found
-- and for each q3 there is a q2 and a q4.
use Rattle.std.specs.Prelude.{Bool, ◌||◌, List, [], ◌∷◌, flat_map, Float}
use Rattle.float.specs.Num.{◌⊖◌}
use Rattle.float.specs.Wrap.{wrap_to_pi}
use Rattle.linear.specs.Matrix.{Matrix, product, apply, transpose, rot}
use Rattle.linear.specs.Vector.{norm, ◌+ᵛ◌, negᵛ}
use Rattle.linear.specs.declared.vector.Vector3.{Vector3}
use Rattle.solutionset.specs.SolutionSet2.{get_all}
use Rattle.subproblems.specs.Subproblem1.{subproblem1_within}
use Rattle.subproblems.specs.Subproblem3.{subproblem3}
use Rattle.subproblems.specs.declared.Solved1.{Solved1}
use Rattle.subproblems.specs.declared.Solved2.{Solved2}
use Rattle.kinematics.specs.declared.Kinematics.{Kinematics}
use Rattle.answers.specs.declared.Answer.{Answer}

-- (theta14, theta14_is_ls)
unfoldable pub theta14 : Matrix → Kinematics → Float → Matrix → Matrix → Solved1 Float
theta14 r_06 kin tolerance r-01 r-45 =
    subproblem1_within (apply r-45 kin.h6) (apply (product (transpose r-01) r_06) kin.h6) kin.h2 tolerance

-- (theta3, theta3_is_ls), with d = d_inner.norm()
unfoldable pub theta3 : Kinematics → Vector3 → Solved2 Float
theta3 kin d_inner = subproblem3 (negᵛ kin.p3) kin.p2 kin.h2 (norm d_inner)

-- what `for q3 in theta3.get_all()` pushes for one q3. is-ls joins every flag but that of q2
unfoldable pub elbow_q3 : Kinematics → Float → Vector3 → Float → Float → Float → Float → Bool → Float → List Answer
elbow_q3 kin tolerance d_inner theta14 q1 q5 q6 is-ls q3 =
    let q2 = subproblem1_within (kin.p2 +ᵛ apply (rot kin.h2 q3) kin.p3) d_inner kin.h2 tolerance in
    record {
      q1 = q1;
      q2 = q2.theta;
      q3 = q3;
      q4 = wrap_to_pi (theta14 ⊖ q2.theta ⊖ q3);
      q5 = q5;
      q6 = q6;
      is_ls = is-ls || q2.is_ls;
    }
    ∷ []

-- what it pushes in all. is-ls joins every flag but those of q2 and q3
unfoldable pub elbow : Kinematics → Float → Vector3 → Float → Float → Float → Float → Bool → List Answer
unfolding theta3 elbow_q3
elbow kin tolerance d_inner theta14 q1 q5 q6 is-ls =
    let t = theta3 kin d_inner in
    flat_map (elbow_q3 kin tolerance d_inner theta14 q1 q5 q6 (is-ls || t.is_ls)) (get_all t.set)
