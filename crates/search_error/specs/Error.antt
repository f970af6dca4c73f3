-- The error of two_parallel (inverse_kinematics/mod.rs, lines 365 to 463) as a function of the arm, the pose and q1. The Rust's kin.h.column(0) is h1 here, its kin.p.column(0) is p0.
-- "The error of two_parallel takes an angle q1 and gives its components, all infinite at first; component i, counted from 0, is set from answer i of subproblem 6 at q1 where there is one."
use Rattle.std.specs.Prelude.{cond, List, [], ◌∷◌, map, ℕ, Float, get_or, replicate}
use Rattle.std.specs.Float.{nan, binary64}
use Rattle.std.specs.Float.Ieee.{lt, of_bits}
use Rattle.std.proofs.lemmas.List.Edits.{sets}
use Rattle.float.specs.Num.{◌⊖◌, ◌⊘◌, nought, infinity}
use Rattle.linear.specs.Vector.{dot, norm, ◌-ᵛ◌, negᵛ}
use Rattle.linear.specs.Matrix.{Matrix, product, apply, row_apply, transpose, rot}
use Rattle.linear.specs.declared.vector.Vector3.{Vector3}
use Rattle.solutionset.specs.SolutionSet4.{get_all, size}
use Rattle.solutionset.specs.declared.Pair.{Pair}
use Rattle.solutionset.specs.declared.set4.SolutionSet4.{SolutionSet4}
use Rattle.subproblems.specs.Subproblem1.{subproblem1}
use Rattle.subproblem6.specs.Subproblem6.{subproblem6}
use Rattle.kinematics.specs.declared.Kinematics.{Kinematics}
use Rattle.families_shared.specs.Place.{p_16}

-- f64::MIN_POSITIVE
abbrev pub min_positive : Float
min_positive = of_bits binary64 0x0010_0000_0000_0000

-- x.max(f64::MIN_POSITIVE): of a NaN it is the other operand
abbrev pub max_positive : Float → Float
max_positive x = cond (lt min_positive x) x min_positive

module _ (kin : Kinematics) (r_06 : Matrix) (p_0t : Vector3) where
  -- subproblem 6's answers (t6, t4) at q1
  unfoldable pub t64_given_q1 : Float → SolutionSet4 Pair
  t64_given_q1 q1 =
      let r-01 = rot kin.h1 q1 in
      let h1 = row_apply (row_apply kin.h2 (transpose r-01)) r_06 in
      let d1 = dot kin.h2 (apply (transpose r-01) (p_16 r_06 p_0t kin) -ᵛ kin.p1 -ᵛ kin.p2 -ᵛ kin.p3) in
      subproblem6 (h1 ∷ kin.h2 ∷ h1 ∷ kin.h2 ∷ []) (negᵛ kin.h6 ∷ kin.h4 ∷ negᵛ kin.h6 ∷ kin.h4 ∷ [])
      (kin.p5 ∷ kin.p4 ∷ kin.h5 ∷ negᵛ kin.h5 ∷ []) d1 nought

  -- what one answer sets at q1
  unfoldable pub answer_error : Float → Pair → Float
  answer_error q1 t64 =
      let r-01 = rot kin.h1 q1 in
      let r-34 = rot kin.h4 t64.second in
      let r-56 = rot kin.h6 t64.first in
      let r-16 = product (product (transpose r-01) r_06) (transpose r-56) in
      let t23 = (subproblem1 (apply r-34 kin.h5) (apply r-16 kin.h5) kin.h2).theta in
      let r-13 = rot kin.h2 t23 in
      let l2 = max_positive (norm kin.p2) in
      let p_13 = apply (transpose r-01) (p_16 r_06 p_0t kin) -ᵛ kin.p1 -ᵛ apply r-13 kin.p3 -ᵛ apply (product r-13 r-34) kin.p4 -ᵛ apply r-16 kin.p5 in
      (norm p_13 ⊖ l2) ⊘ l2

  -- the four components
  unfoldable pub error_given_q1 : Float → List Float
  error_given_q1 q1 = sets (replicate 4 infinity) 0 (map (answer_error q1) (get_all (t64_given_q1 q1)))

  -- "Error i is component i." (There is none with another number.)
  unfoldable pub error_i : ℕ → Float → Float
  error_i i q1 = get_or (error_given_q1 q1) i nan

  -- the number of subproblem 6's answers at q1
  abbrev pub t64_count : Float → ℕ
  t64_count q1 = size (t64_given_q1 q1)
