-- What is computed once gives the definition's subproblem 6.
use Prim.Native.Nat.{ℕ}
use mathlib.Core.Path.{◌≡◌}
use lib.Ieee.{Float}
use Rattle.linear.specs.Matrix.{Matrix}
use Rattle.linear.specs.declared.vector.Vector3.{Vector3}
use Rattle.kinematics.specs.declared.Kinematics.{Kinematics}
use Rattle.solutionset.specs.SolutionSet4.{size}
use Rattle.solutionset.specs.declared.Pair.{Pair}
use Rattle.solutionset.specs.declared.set4.SolutionSet4.{SolutionSet4}
use Rattle.search_error.specs.Error.{t64_count}
use Rattle.search_error.specs.Fixed.{fixed, given_q1, t64}
use Rattle.search_error.specs.declared.Fixed.{Fixed}
use Rattle.search_error.specs.declared.GivenQ1.{GivenQ1}
use Rattle.search_error.proofs.SameError.{t64_same}
use Rattle.card.proofs.pairs.t64_count.Goals as goal

met : (r_06 : Matrix) (p_0t : Vector3) (kin : Kinematics) (q1 : Float) {g : Fixed} {t : GivenQ1} {set : SolutionSet4 Pair} {n : ℕ}
    → g ≡ fixed kin r_06 p_0t
    → t ≡ given_q1 g q1
    → set ≡ t64 g t
    → n ≡ size set
    → n ≡ t64_count kin r_06 p_0t q1
met r_06 p_0t kin q1 e e-t e-s e-n = rw (e-s, e-t, e, t64_same kin r_06 p_0t) at e-n

pub returns : goal.returns
returns c = search met
