-- Family 1: spherical_two_parallel of inverse_kinematics/mod.rs. The answers in the Rust's order; a definition for the body of each `for`
-- says what it pushes.
-- The tolerance of subproblem1's flag is handed down. The Rust's kin.h.column(0) is h1 here, its kin.p.column(0) is p0.
use Rattle.std.specs.Prelude.{Bool, ◌||◌, List, flat_map, Float}
use Rattle.linear.specs.Matrix.{Matrix, apply, rot}
use Rattle.linear.specs.Vector.{dot, norm, ◌+ᵛ◌, ◌-ᵛ◌, negᵛ}
use Rattle.linear.specs.declared.vector.Vector3.{Vector3}
use Rattle.solutionset.specs.SolutionSet2.{get_all}
use Rattle.subproblems.specs.Subproblem1.{subproblem1_within}
use Rattle.subproblems.specs.Subproblem3.{subproblem3}
use Rattle.subproblems.specs.Subproblem4.{subproblem4}
use Rattle.subproblems.specs.declared.Solved1.{Solved1}
use Rattle.subproblems.specs.declared.Solved2.{Solved2}
use Rattle.kinematics.specs.declared.Kinematics.{Kinematics}
use Rattle.answers.specs.declared.Answer.{Answer}
use Rattle.families_wrist.specs.Wrist.{r_36, wrist}

-- (t1, q1_is_ls)
unfoldable pub t1 : Matrix → Vector3 → Kinematics → Solved2 Float
t1 r-0t p_0t kin =
    subproblem4 kin.h2 (p_0t -ᵛ apply r-0t kin.p6 -ᵛ kin.p0) (negᵛ kin.h1) (dot kin.h2 (kin.p1 +ᵛ kin.p2 +ᵛ kin.p3))

-- rot(&(-kin.h.column(0)), q1) * (-p_0t + r_0t * kin.p.column(6) + kin.p.column(0)) + kin.p.column(1)
unfoldable pub p_13 : Matrix → Vector3 → Kinematics → Float → Vector3
p_13 r-0t p_0t kin q1 = apply (rot (negᵛ kin.h1) q1) (negᵛ p_0t +ᵛ apply r-0t kin.p6 +ᵛ kin.p0) +ᵛ kin.p1

-- (t3, q3_is_ls)
unfoldable pub t3 : Kinematics → Vector3 → Solved2 Float
t3 kin p_13 = subproblem3 (negᵛ kin.p3) kin.p2 kin.h3 (norm p_13)

-- (q2, q2_is_ls)
unfoldable pub q2 : Kinematics → Float → Vector3 → Float → Solved1 Float
q2 kin tolerance p_13 q3 = subproblem1_within (negᵛ kin.p2 -ᵛ apply (rot kin.h3 q3) kin.p3) p_13 kin.h2 tolerance

-- for q3 in t3.get_all()
unfoldable pub at_q3 : Matrix → Kinematics → Float → Vector3 → Float → Bool → Bool → Float → List Answer
unfolding q2 r_36 wrist
at_q3 r-0t kin tolerance p_13 q1 q1-is-ls q3-is-ls q3 =
    let s = q2 kin tolerance p_13 q3 in
    wrist kin tolerance (r_36 r-0t kin q1 s.theta q3) q1 s.theta q3 (q1-is-ls || s.is_ls || q3-is-ls)

-- for q1 in t1.get_all()
unfoldable pub at_q1 : Matrix → Vector3 → Kinematics → Float → Bool → Float → List Answer
unfolding p_13 t3 at_q3
at_q1 r-0t p_0t kin tolerance q1-is-ls q1 =
    let p = p_13 r-0t p_0t kin q1 in
    let t = t3 kin p in
    flat_map (at_q3 r-0t kin tolerance p q1 q1-is-ls t.is_ls) (get_all t.set)

unfoldable pub spherical_two_parallel : Matrix → Vector3 → Kinematics → Float → List Answer
unfolding t1 at_q1
spherical_two_parallel r-0t p_0t kin tolerance =
    let t = t1 r-0t p_0t kin in
    flat_map (at_q1 r-0t p_0t kin tolerance t.is_ls) (get_all t.set)
