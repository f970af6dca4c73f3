-- The families by their numbers. Document 01: "Families, with the reference function: 1 spherical_two_parallel, 2 spherical_two_intersecting, 3 spherical,
-- 4 three_parallel_two_intersecting, 5 three_parallel, 6 two_parallel".
use Rattle.std.specs.Prelude.{ℕ, cond, eqb, Result, Ok, Err}
use Rattle.refusals.specs.declared.refusal.Refusal.{Refusal}
use Rattle.refusals.specs.declared.refusal.Refusal.TheVariants as Refused
use Rattle.refusals.specs.declared.family.Family.{Family}
use Rattle.refusals.specs.declared.family.Family.TheVariants.{SphericalTwoParallel, SphericalTwoIntersecting, Spherical, ThreeParallelTwoIntersecting, ThreeParallel, TwoParallel}

abbrev pub family_number : Family → ℕ
family_number SphericalTwoParallel = 1
family_number SphericalTwoIntersecting = 2
family_number Spherical = 3
family_number ThreeParallelTwoIntersecting = 4
family_number ThreeParallel = 5
family_number TwoParallel = 6

-- the family of a number, which is refused where it is not 1 to 6
abbrev pub family_of : ℕ → Result Family Refusal
family_of number =
    cond (eqb number 1)
    (Ok SphericalTwoParallel)
    (cond (eqb number 2)
    (Ok SphericalTwoIntersecting)
    (cond (eqb number 3)
    (Ok Spherical)
    (cond (eqb number 4) (Ok ThreeParallelTwoIntersecting) (cond (eqb number 5) (Ok ThreeParallel) (cond (eqb number 6) (Ok TwoParallel) (Err Refused.Family))))))
