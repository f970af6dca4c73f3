-- The end of spherical_two_parallel, spherical_two_intersecting and spherical, which have it word for word: q1, q2 and q3 are found,
-- r_36 follows, and for each q5 a q4 and a q6.
use Rattle.std.specs.Prelude.{Bool, ◌||◌, List, [], ◌∷◌, flat_map, Float}
use Rattle.linear.specs.Matrix.{Matrix, product, apply, row_apply, transpose, rot}
use Rattle.linear.specs.Vector.{dot, negᵛ}
use Rattle.solutionset.specs.SolutionSet2.{get_all}
use Rattle.subproblems.specs.Subproblem1.{subproblem1_within}
use Rattle.subproblems.specs.Subproblem4.{subproblem4}
use Rattle.subproblems.specs.declared.Solved2.{Solved2}
use Rattle.kinematics.specs.declared.Kinematics.{Kinematics}
use Rattle.answers.specs.declared.Answer.{Answer}

-- rot(&(-kin.h.column(2)), q3) * rot(&(-kin.h.column(1)), q2) * rot(&(-kin.h.column(0)), q1) * r_0t
unfoldable pub r_36 : Matrix → Kinematics → Float → Float → Float → Matrix
r_36 r-0t kin q1 q2 q3 =
    product (product (product (rot (negᵛ kin.h3) q3) (rot (negᵛ kin.h2) q2)) (rot (negᵛ kin.h1) q1)) r-0t

-- (t5, q5_is_ls)
unfoldable pub t5 : Kinematics → Matrix → Solved2 Float
t5 kin r_36 = subproblem4 kin.h4 kin.h6 kin.h5 (dot (row_apply kin.h4 r_36) kin.h6)

-- what `for q5 in t5.get_all()` pushes for one q5. is-ls joins the flags of q1, q2, q3 and q5
unfoldable pub wrist_q5 : Kinematics → Float → Matrix → Float → Float → Float → Bool → Float → List Answer
wrist_q5 kin tolerance r_36 q1 q2 q3 is-ls q5 =
    let q4 = subproblem1_within (apply (rot kin.h5 q5) kin.h6) (apply r_36 kin.h6) kin.h4 tolerance in
    let q6 =
    subproblem1_within (apply (rot (negᵛ kin.h5) q5) kin.h4) (apply (transpose r_36) kin.h4) (negᵛ kin.h6)
    tolerance
    in
    record {
      q1 = q1;
      q2 = q2;
      q3 = q3;
      q4 = q4.theta;
      q5 = q5;
      q6 = q6.theta;
      is_ls = is-ls || q4.is_ls || q6.is_ls;
    }
    ∷ []

-- what it pushes in all. is-ls joins the flags of q1, q2 and q3
unfoldable pub wrist : Kinematics → Float → Matrix → Float → Float → Float → Bool → List Answer
unfolding t5 wrist_q5
wrist kin tolerance r_36 q1 q2 q3 is-ls =
    let t = t5 kin r_36 in
    flat_map (wrist_q5 kin tolerance r_36 q1 q2 q3 (is-ls || t.is_ls)) (get_all t.set)
