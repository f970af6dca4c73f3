-- The answers from what is computed once are those of the definition. Assumes nothing.
use mathlib.Core.Path.{◌≡◌, refl, ◌∙◌, ap}
use lib.Ieee.{Float}
use Rattle.linear.specs.Matrix.{Matrix, product, transpose, rot}
use Rattle.linear.specs.declared.vector.Vector3.{Vector3}
use Rattle.solutionset.specs.SolutionSet4.{at}
use Rattle.solutionset.specs.declared.Pair as Angles
use Rattle.solutionset.specs.declared.set4.SolutionSet4.{SolutionSet4}
use Rattle.kinematics.specs.declared.Kinematics.{Kinematics}
use Rattle.search_definition.specs.Found.{SearchPair}
use Rattle.search_error.specs.Fixed.{fixed, given_q1}
use Rattle.search_error.proofs.SameError.{t64_same}
use Rattle.family6_answers.specs.FixedAnswer.{t23, q2, q5, answer, answer_at}
use Rattle.family6_answers.specs.Pairs.{no_answer}
use Rattle.family6.specs.TwoParallel as Plain
use Rattle.family6.specs.TwoParallel.{answer_of}

module _ (r_06 : Matrix) (p_0t : Vector3) (kin : Kinematics) (tolerance : Float) where
  answer_same : (q1 : Float) (a : Angles.Pair) → answer (fixed kin r_06 p_0t) tolerance q1 (given_q1 (fixed kin r_06 p_0t) q1) a ≡ Plain.answer r_06 p_0t kin tolerance q1 a
  unfolding answer t23 q2 q5 given_q1 fixed rot product transpose Plain.answer
  answer_same q1 a = refl

  at_same : (p : SearchPair) → answer_at (fixed kin r_06 p_0t) tolerance p ≡ answer_of r_06 p_0t kin tolerance p
  unfolding answer_at answer_of
  at_same p =
      answer_same p.q1 _ ∙ ap (λ (s : SolutionSet4 Angles.Pair). Plain.answer r_06 p_0t kin tolerance p.q1 (at no_answer s p.i)) (t64_same kin r_06 p_0t p.q1)

  -- as functions
  pub answer_at_same : answer_at (fixed kin r_06 p_0t) tolerance ≡ answer_of r_06 p_0t kin tolerance
  answer_at_same = λ j p. at_same p j
