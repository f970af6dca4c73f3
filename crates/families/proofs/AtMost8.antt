-- Document 01: "Families 1 to 5 give at most 8 answers". So it is for every arm, pose and tolerance, and the list that a family's function returns has room for as many.
use Prim.Native.Nat.{◌≤◌}
use lib.Ieee.{Float}
use lib.ListN.{length}
use Rattle.linear.specs.Matrix.{Matrix}
use Rattle.linear.specs.declared.vector.Vector3.{Vector3}
use Rattle.kinematics.specs.declared.Kinematics.{Kinematics}
use Rattle.families.specs.SphericalTwoParallel.{spherical_two_parallel}
use Rattle.families.specs.SphericalTwoIntersecting.{spherical_two_intersecting}
use Rattle.families.specs.Spherical.{spherical}
use Rattle.families.specs.ThreeParallelTwoIntersecting.{three_parallel_two_intersecting}
use Rattle.families.specs.ThreeParallel.{three_parallel}
use Rattle.family1.proofs.Few.{spherical_two_parallel_few}
use Rattle.family2.proofs.Few.{spherical_two_intersecting_few}
use Rattle.family3.proofs.Few.{spherical_few}
use Rattle.family4.proofs.Few.{three_parallel_two_intersecting_few}
use Rattle.family5.proofs.Few.{three_parallel_few}

pub record AtMost8 (r : Matrix) (p : Vector3) (kin : Kinematics) (tolerance : Float) : Type 0 where
  pub family1 : length (spherical_two_parallel r p kin tolerance) ≤ 8
  pub family2 : length (spherical_two_intersecting r p kin tolerance) ≤ 8
  pub family3 : length (spherical r p kin tolerance) ≤ 8
  pub family4 : length (three_parallel_two_intersecting r p kin tolerance) ≤ 8
  pub family5 : length (three_parallel r p kin tolerance) ≤ 8

pub at_most_8 : (r : Matrix) (p : Vector3) (kin : Kinematics) (tolerance : Float) → AtMost8 r p kin tolerance
at_most_8 r p kin tolerance =
    record {
      family1 = spherical_two_parallel_few r p kin tolerance;
      family2 = spherical_two_intersecting_few r p kin tolerance;
      family3 = spherical_few r p kin tolerance;
      family4 = three_parallel_two_intersecting_few r p kin tolerance;
      family5 = three_parallel_few r p kin tolerance;
    }
