-- `answer_of`: from what is computed once, the definition's answer.
use Prim.Native.Nat.{ℕ, ◌<◌}
use mathlib.Core.Path.{◌≡◌, ◌∙◌, ap}
use lib.Ieee.{Float}
use Rattle.linear.specs.Matrix.{Matrix}
use Rattle.linear.specs.declared.vector.Vector3.{Vector3}
use Rattle.kinematics.specs.declared.Kinematics.{Kinematics}
use Rattle.answers.specs.declared.Answer.{Answer}
use Rattle.search_definition.specs.Found.{SearchPair}
use Rattle.search_error.specs.Error.{t64_count}
use Rattle.search_error.specs.Fixed.{fixed}
use Rattle.search_error.specs.declared.Fixed.{Fixed}
use Rattle.search_error.proofs.SameError.{t64_same}
use Rattle.family6_answers.specs.FixedAnswer.{answer_at}
use Rattle.family6_answers.specs.Pairs.{pair, Answered}
use Rattle.family6.specs.TwoParallel.{answer_of}
use Rattle.family6.proofs.SameAnswer.{answer_at_same}
use Rattle.family6.proofs.answer_of.Goals as goal

module _ (r_06 : Matrix) (p_0t : Vector3) (kin : Kinematics) (q1 : Float) (i : ℕ) {g : Fixed} (e : g ≡ fixed kin r_06 p_0t) where
  answered : i < t64_count kin r_06 p_0t q1 → Answered g q1 i
  answered h = rw (e, t64_same kin r_06 p_0t) h

  met : (tolerance : Float) {q : Answer} → q ≡ answer_at g tolerance (pair q1 i) → q ≡ answer_of r_06 p_0t kin tolerance (pair q1 i)
  met tolerance e-q =
      e-q
      ∙ ap (λ (x : Fixed). answer_at x tolerance (pair q1 i)) e
      ∙ ap (λ (h : SearchPair → Answer). h (pair q1 i)) (answer_at_same r_06 p_0t kin tolerance)

pub answer_at-requires : goal.answer_at-requires
answer_at-requires c = search answered

pub returns : goal.returns
returns c = search met
