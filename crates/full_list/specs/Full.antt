-- The full list of an arm and a pose. Document 01: "Families, with the reference function: 1 spherical_two_parallel, 2 spherical_two_intersecting, 3 spherical,
-- 4 three_parallel_two_intersecting, 5 three_parallel, 6 two_parallel".
use Rattle.std.specs.Prelude.{ℕ, cond, List, eqb, Float}
use Rattle.float.specs.Num.{millionth}
use Rattle.kinematics.specs.Kinematics.{from_numbers}
use Rattle.kinematics.specs.Pose.{pose_rotation, pose_place}
use Rattle.linear.specs.Matrix.{Matrix}
use Rattle.linear.specs.declared.vector.Vector3.{Vector3}
use Rattle.kinematics.specs.declared.Kinematics.{Kinematics}
use Rattle.answers.specs.declared.Answer.{Answer}
use Rattle.families.specs.SphericalTwoParallel.{spherical_two_parallel}
use Rattle.families.specs.SphericalTwoIntersecting.{spherical_two_intersecting}
use Rattle.families.specs.Spherical.{spherical}
use Rattle.families.specs.ThreeParallelTwoIntersecting.{three_parallel_two_intersecting}
use Rattle.families.specs.ThreeParallel.{three_parallel}
use Rattle.family6.specs.TwoParallel.{two_parallel, evaluations}

-- all answers in the Rust's order, and how often the search error was evaluated
pub record Full : Type 0 where
  pub answers : List Answer
  pub evals : ℕ

-- families 1 to 5 do not search
abbrev pub no_search : List Answer → Full
no_search l = record { answers = l; evals = 0 }

unfoldable pub without_search : ℕ → Matrix → Vector3 → Kinematics → Float → List Answer
without_search family r p kin tolerance =
    cond (eqb family 1)
    (spherical_two_parallel r p kin tolerance)
    (cond (eqb family 2)
    (spherical_two_intersecting r p kin tolerance)
    (cond (eqb family 3)
    (spherical r p kin tolerance)
    (cond (eqb family 4) (three_parallel_two_intersecting r p kin tolerance) (three_parallel r p kin tolerance))))

-- family 6 does
unfoldable pub by_family : ℕ → ℕ → Matrix → Vector3 → Kinematics → Float → Full
by_family family n r p kin tolerance =
    cond (eqb family 6)
    (record { answers = two_parallel r p kin tolerance n; evals = evaluations r p kin n })
    (no_search (without_search family r p kin tolerance))

-- the 1e-6 by which subproblem1 flags
abbrev pub tolerance : Float
tolerance = millionth

-- of the numbers of an arm and a pose
abbrev pub of_numbers : ℕ → ℕ → List Float → List Float → Full
of_numbers family n arm pose = by_family family n (pose_rotation pose) (pose_place pose) (from_numbers arm) tolerance
