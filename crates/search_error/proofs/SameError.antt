-- The error with its constants computed once is the error of the definition, as a function of the component and the angle. Assumes nothing.
use mathlib.Core.Path.{◌≡◌, refl}
use mathlib.Core.List.{map}
use lib.Ieee.{Float, nan}
use lib.ListN.{get_or, replicate}
use lib.Seq.{sets}
use Rattle.float.specs.Num.{infinity}
use Rattle.linear.specs.Matrix.{Matrix, product, row_apply, rot}
use Rattle.linear.specs.declared.vector.Vector3.{Vector3}
use Rattle.solutionset.specs.SolutionSet4.{get_all}
use Rattle.solutionset.specs.declared.Pair.{Pair}
use Rattle.subproblems.specs.Subproblem1.{subproblem1_within, subproblem1}
use Rattle.kinematics.specs.declared.Kinematics.{Kinematics}
use Rattle.search_error.specs.Error as Plain
use Rattle.search_error.specs.Error.{t64_given_q1, error_given_q1, error_i}
use Rattle.search_error.specs.Fixed.{fixed, given_q1, t64, t23, p_13, gap, answer_error, error_of, error_at}

module _ (kin : Kinematics) (r_06 : Matrix) (p_0t : Vector3) where
  pub t64_same : (q1 : Float) → t64 (fixed kin r_06 p_0t) (given_q1 (fixed kin r_06 p_0t) q1) ≡ t64_given_q1 kin r_06 p_0t q1
  unfolding t64 t64_given_q1 given_q1 fixed rot row_apply
  t64_same q1 = refl

  answer_same : (q1 : Float) (a : Pair) → answer_error (fixed kin r_06 p_0t) (given_q1 (fixed kin r_06 p_0t) q1) a ≡ Plain.answer_error kin r_06 p_0t q1 a
  unfolding answer_error gap p_13 t23 given_q1 fixed rot product Plain.answer_error subproblem1 subproblem1_within
  answer_same q1 a = refl

  pub error_same : (q1 : Float) → error_of (fixed kin r_06 p_0t) q1 ≡ error_given_q1 kin r_06 p_0t q1
  unfolding error_of error_given_q1
  error_same q1 =
      λ j. sets (replicate 4 infinity) 0 (map (λ (a : Pair). answer_same q1 a j) (get_all (t64_same q1 j)))

  -- as functions
  pub error_at_same : error_at (fixed kin r_06 p_0t) ≡ error_i kin r_06 p_0t
  unfolding error_at error_i
  error_at_same = λ j i q1. get_or (error_same q1 j) i nan
