-- Family 5: three_parallel of inverse_kinematics/mod.rs. The answers in the Rust's order; a definition for the body of each `for` says what it
-- pushes. subproblem6 gives no flag.
-- The tolerance of subproblem1's flag is handed down. The Rust's kin.h.column(0) is h1 here, its kin.p.column(0) is p0.
use Rattle.std.specs.Prelude.{◌||◌, List, [], ◌∷◌, flat_map, Float}
use Rattle.float.specs.Num.{nought}
use Rattle.linear.specs.Matrix.{Matrix, product, apply, transpose, rot}
use Rattle.linear.specs.Vector.{dot, ◌+ᵛ◌, ◌-ᵛ◌, negᵛ}
use Rattle.linear.specs.declared.vector.Vector3.{Vector3}
use Rattle.solutionset.specs.SolutionSet4.{get_all}
use Rattle.solutionset.specs.declared.Pair.{Pair}
use Rattle.solutionset.specs.declared.set4.SolutionSet4.{SolutionSet4}
use Rattle.subproblems.specs.Subproblem1.{subproblem1_within}
use Rattle.subproblem6.specs.Subproblem6.{subproblem6}
use Rattle.subproblems.specs.declared.Solved1.{Solved1}
use Rattle.kinematics.specs.declared.Kinematics.{Kinematics}
use Rattle.answers.specs.declared.Answer.{Answer}
use Rattle.families_elbow.specs.Elbow.{theta14, elbow}
use Rattle.families_shared.specs.Place.{p_16}

-- the lists of subproblem6, and d1
unfoldable pub theta15 : Matrix → Kinematics → Vector3 → SolutionSet4 Pair
theta15 r_06 kin p_16 =
    let h-sp = kin.h2 ∷ kin.h2 ∷ kin.h2 ∷ kin.h2 ∷ [] in
    let k-sp = negᵛ kin.h1 ∷ kin.h5 ∷ negᵛ kin.h1 ∷ kin.h5 ∷ [] in
    let p-sp = p_16 ∷ negᵛ kin.p5 ∷ apply r_06 kin.h6 ∷ negᵛ kin.h6 ∷ [] in
    let d1 = dot kin.h2 (kin.p2 +ᵛ kin.p3 +ᵛ kin.p4 +ᵛ kin.p1) in
    subproblem6 h-sp k-sp p-sp d1 nought

-- (q6, q6_is_ls)
unfoldable pub q6 : Matrix → Kinematics → Float → Matrix → Matrix → Solved1 Float
q6 r_06 kin tolerance r-01 r-45 =
    subproblem1_within (apply (transpose r-45) kin.h2) (apply (product (transpose r_06) r-01) kin.h2) (negᵛ kin.h6) tolerance

-- r_01.transpose() * p_16 - kin.p.column(1) - r_14 * r_45 * kin.p.column(5) - r_14 * kin.p.column(4)
unfoldable pub d_inner : Kinematics → Vector3 → Matrix → Matrix → Matrix → Vector3
d_inner kin p_16 r-01 r-45 r-14 =
    apply (transpose r-01) p_16 -ᵛ kin.p1 -ᵛ apply (product r-14 r-45) kin.p5 -ᵛ apply r-14 kin.p4

-- for (q1, q5) in theta15.get_all()
unfoldable pub at_q15 : Matrix → Kinematics → Float → Vector3 → Pair → List Answer
unfolding theta14 q6 d_inner elbow
at_q15 r_06 kin tolerance p_16 q15 =
    let q1 = q15.first in
    let q5 = q15.second in
    let r-01 = rot kin.h1 q1 in
    let r-45 = rot kin.h5 q5 in
    let t = theta14 r_06 kin tolerance r-01 r-45 in
    let s = q6 r_06 kin tolerance r-01 r-45 in
    let r-14 = rot kin.h2 t.theta in
    elbow kin tolerance (d_inner kin p_16 r-01 r-45 r-14) t.theta q1 q5 s.theta (t.is_ls || s.is_ls)

unfoldable pub three_parallel : Matrix → Vector3 → Kinematics → Float → List Answer
unfolding p_16 theta15 at_q15
three_parallel r_06 p_0t kin tolerance =
    let p = p_16 r_06 p_0t kin in
    flat_map (at_q15 r_06 kin tolerance p) (get_all (theta15 r_06 kin p))
