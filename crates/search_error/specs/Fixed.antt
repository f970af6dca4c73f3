-- The same error, with what does not depend on q1 computed once: the axes normalised, the negations, p_16 and l2. proofs/SameError.antt shows that it is the same function.
use Rattle.std.specs.Prelude.{List, [], ◌∷◌, map, ℕ, Float, get_or, replicate}
use Rattle.std.specs.Float.{nan}
use Rattle.std.proofs.lemmas.List.Edits.{sets}
use Rattle.float.specs.Num.{◌⊖◌, ◌⊘◌, nought, infinity}
use Rattle.linear.specs.Vector.{dot, norm, normalize, ◌-ᵛ◌, negᵛ}
use Rattle.linear.specs.Matrix.{Matrix, product, apply, row_apply, transpose, rot_unit}
use Rattle.linear.specs.declared.vector.Vector3.{Vector3}
use Rattle.solutionset.specs.SolutionSet4.{get_all}
use Rattle.solutionset.specs.declared.Pair.{Pair}
use Rattle.solutionset.specs.declared.set4.SolutionSet4.{SolutionSet4}
use Rattle.subproblems.specs.Subproblem1.{subproblem1_theta}
use Rattle.subproblem6.specs.Subproblem6.{subproblem6}
use Rattle.kinematics.specs.declared.Kinematics.{Kinematics}
use Rattle.families_shared.specs.Place.{p_16}
use Rattle.search_error.specs.Error.{max_positive}
use Rattle.search_error.specs.declared.Fixed.{Fixed}
use Rattle.search_error.specs.declared.GivenQ1.{GivenQ1}
use Rattle.search_error.specs.declared.GivenT64.{GivenT64}
use Rattle.search_error.specs.declared.component.Branch.{Branch}

unfoldable pub fixed : Kinematics → Matrix → Vector3 → Fixed
fixed kin r_06 p_0t =
    record {
      kin = kin;
      u1 = normalize kin.h1;
      u2 = normalize kin.h2;
      u4 = normalize kin.h4;
      u6 = normalize kin.h6;
      minus_h5 = negᵛ kin.h5;
      minus_h6 = negᵛ kin.h6;
      r_06 = r_06;
      p_16 = p_16 r_06 p_0t kin;
      l2 = max_positive (norm kin.p2);
    }

-- what q1 gives to all answers: r_01^T r_06, the first of subproblem 6's vectors h, and r_01^T p_16 - p1
unfoldable pub given_q1 : Fixed → Float → GivenQ1
given_q1 g q1 =
    let r-10 = transpose (rot_unit g.u1 q1) in
    record {
      rotation = product r-10 g.r_06;
      h = row_apply (row_apply g.kin.h2 r-10) g.r_06;
      p = apply r-10 g.p_16 -ᵛ g.kin.p1;
    }

unfoldable pub t64 : Fixed → GivenQ1 → SolutionSet4 Pair
t64 g t =
    let d1 = dot g.kin.h2 (t.p -ᵛ g.kin.p2 -ᵛ g.kin.p3) in
    subproblem6 (t.h ∷ g.kin.h2 ∷ t.h ∷ g.kin.h2 ∷ []) (g.minus_h6 ∷ g.kin.h4 ∷ g.minus_h6 ∷ g.kin.h4 ∷ []) (g.kin.p5 ∷ g.kin.p4 ∷ g.kin.h5 ∷ g.minus_h5 ∷ []) d1 nought

-- what an answer (t6, t4) of subproblem 6 gives at q1: r_34, r_56, and r_16, the Rust's r_01^T r_06 r_56^T
unfoldable pub given_t64 : Fixed → GivenQ1 → Pair → GivenT64
given_t64 g t a =
    let r-56 = rot_unit g.u6 a.first in
    record {
      r_34 = rot_unit g.u4 a.second;
      r_56 = r-56;
      r_16 = product t.rotation (transpose r-56);
    }

-- r_16 and r_34 are the Rust's r_01^T r_06 r_56^T and r_34
unfoldable pub t23 : Fixed → Matrix → Matrix → Float
t23 g r-16 r-34 = subproblem1_theta (apply r-34 g.kin.h5) (apply r-16 g.kin.h5) g.kin.h2

unfoldable pub p_13 : Fixed → GivenQ1 → Matrix → Matrix → Float → Vector3
p_13 g t r-16 r-34 t23 =
    let r-13 = rot_unit g.u2 t23 in
    t.p -ᵛ apply r-13 g.kin.p3 -ᵛ apply (product r-13 r-34) g.kin.p4 -ᵛ apply r-16 g.kin.p5

unfoldable pub gap : Fixed → GivenQ1 → Matrix → Matrix → Float
unfolding p_13
gap g t r-16 r-34 = norm (p_13 g t r-16 r-34 (t23 g r-16 r-34))

unfoldable pub answer_error : Fixed → GivenQ1 → Pair → Float
answer_error g t a =
    let r-16 = product t.rotation (transpose (rot_unit g.u6 a.first)) in
    let r-34 = rot_unit g.u4 a.second in
    (gap g t r-16 r-34 ⊖ g.l2) ⊘ g.l2

unfoldable pub error_of : Fixed → Float → List Float
error_of g q1 =
    let t = given_q1 g q1 in
    sets (replicate 4 infinity) 0 (map (answer_error g t) (get_all (t64 g t)))

unfoldable pub error_at : Fixed → ℕ → Float → Float
error_at g i q1 = get_or (error_of g q1) i nan

-- the error of one component
abbrev pub branch_error : Branch → Float → Float
branch_error b = error_at b.fixed b.i
