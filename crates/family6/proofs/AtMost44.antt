-- Document 01: "family 6 at most 44 × n" answers. So it is for every arm, pose, tolerance and n; the number that `two_parallel` returns is the length of this list.
use mathlib.Core.Path.{◌≡◌, ◌∙◌}
use Prim.Native.Nat.{ℕ, ◌*◌, ◌≤◌}
use native.Mathlib.Omega.{arith}
use lib.Ieee.{Float}
use lib.ListN.{length, length-map}
use Rattle.linear.specs.Matrix.{Matrix}
use Rattle.linear.specs.declared.vector.Vector3.{Vector3}
use Rattle.kinematics.specs.declared.Kinematics.{Kinematics}
use Rattle.search_definition.specs.Found.{pairs, pair_of}
use Rattle.search.specs.Demand.{two_parallel_search}
use Rattle.family6.specs.TwoParallel.{answer_of, two_parallel}
use Rattle.family6.proofs.Held.{few}

pub at_most_44 : (r_06 : Matrix) (p_0t : Vector3) (kin : Kinematics) (tolerance : Float) (n : ℕ) → length (two_parallel r_06 p_0t kin tolerance n) ≤ 44 * n
unfolding two_parallel pairs
at_most_44 r_06 p_0t kin tolerance n =
    let o = two_parallel_search kin r_06 p_0t n in
    let e : length (two_parallel r_06 p_0t kin tolerance n) ≡ length o.found = length-map (pairs o) (answer_of r_06 p_0t kin tolerance) ∙ length-map o.found pair_of in
    omega (arith, few kin r_06 p_0t n)
