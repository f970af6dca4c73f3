-- Family 4: three_parallel_two_intersecting of inverse_kinematics/mod.rs. The answers in the Rust's order; a definition for the body of each
-- `for` says what it pushes.
-- The tolerance of subproblem1's flag is handed down. The Rust's kin.h.column(0) is h1 here, its kin.p.column(0) is p0.
use Rattle.std.specs.Prelude.{Bool, ◌||◌, List, flat_map, Float}
use Rattle.linear.specs.Matrix.{Matrix, product, apply, row_apply, transpose, rot}
use Rattle.linear.specs.Vector.{dot, ◌+ᵛ◌, ◌-ᵛ◌, negᵛ, column_sum}
use Rattle.linear.specs.declared.vector.Vector3.{Vector3}
use Rattle.solutionset.specs.SolutionSet2.{get_all}
use Rattle.subproblems.specs.Subproblem1.{subproblem1_within}
use Rattle.subproblems.specs.Subproblem4.{subproblem4}
use Rattle.subproblems.specs.declared.Solved1.{Solved1}
use Rattle.subproblems.specs.declared.Solved2.{Solved2}
use Rattle.kinematics.specs.declared.Kinematics.{Kinematics}
use Rattle.answers.specs.declared.Answer.{Answer}
use Rattle.families_elbow.specs.Elbow.{theta14, elbow}
use Rattle.families_shared.specs.Place.{p_16}

-- (theta1, theta1_is_ls), with sum_p_2_5 = kin.p.fixed_columns::<4>(1).column_sum()
unfoldable pub theta1 : Kinematics → Vector3 → Solved2 Float
theta1 kin p_16 =
    let sum-p-2-5 = column_sum kin.p1 kin.p2 kin.p3 kin.p4 in
    subproblem4 kin.h2 p_16 (negᵛ kin.h1) (dot kin.h2 sum-p-2-5)

-- (theta5, theta5_is_ls)
unfoldable pub theta5 : Matrix → Kinematics → Matrix → Solved2 Float
theta5 r_06 kin r-01 =
    subproblem4 kin.h2 kin.h6 kin.h5 (dot (row_apply (row_apply kin.h2 (transpose r-01)) r_06) kin.h6)

-- r_01.transpose() * p_16 - p_12 - r_14 * p_45
unfoldable pub d_inner : Kinematics → Vector3 → Matrix → Matrix → Vector3
d_inner kin p_16 r-01 r-14 =
    let p-45 = kin.p4 +ᵛ kin.p5 in
    apply (transpose r-01) p_16 -ᵛ kin.p1 -ᵛ apply r-14 p-45

-- (q6, q6_is_ls)
unfoldable pub q6 : Matrix → Kinematics → Float → Matrix → Matrix → Matrix → Solved1 Float
q6 r_06 kin tolerance r-01 r-45 r-14 =
    let r-50 = product (product (product (transpose r-45) (transpose r-14)) (transpose r-01)) r_06 in
    subproblem1_within kin.h5 (apply r-50 kin.h5) kin.h6 tolerance

-- for q5 in theta5.get_all(). (The Rust finds q6 anew for each q3, on which it does not depend.)
unfoldable pub at_q5 : Matrix → Kinematics → Float → Vector3 → Matrix → Float → Bool → Bool → Float → List Answer
unfolding theta14 d_inner q6 elbow
at_q5 r_06 kin tolerance p_16 r-01 q1 theta1-is-ls theta5-is-ls q5 =
    let r-45 = rot kin.h5 q5 in
    let t = theta14 r_06 kin tolerance r-01 r-45 in
    let r-14 = rot kin.h2 t.theta in
    let s = q6 r_06 kin tolerance r-01 r-45 r-14 in
    elbow kin tolerance (d_inner kin p_16 r-01 r-14) t.theta q1 q5 s.theta
    (theta1-is-ls || theta5-is-ls || t.is_ls || s.is_ls)

-- for q1 in theta1.get_all()
unfoldable pub at_q1 : Matrix → Kinematics → Float → Vector3 → Bool → Float → List Answer
unfolding theta5 at_q5
at_q1 r_06 kin tolerance p_16 theta1-is-ls q1 =
    let r-01 = rot kin.h1 q1 in
    let t = theta5 r_06 kin r-01 in
    flat_map (at_q5 r_06 kin tolerance p_16 r-01 q1 theta1-is-ls t.is_ls) (get_all t.set)

unfoldable pub three_parallel_two_intersecting : Matrix → Vector3 → Kinematics → Float → List Answer
unfolding p_16 theta1 at_q1
three_parallel_two_intersecting r_06 p_0t kin tolerance =
    let p = p_16 r_06 p_0t kin in
    let t = theta1 kin p in
    flat_map (at_q1 r_06 kin tolerance p t.is_ls) (get_all t.set)
