-- The port's cut of subproblem5 is subproblem5: the circles, the points and their candidates are what the definition says of each h and each pair of signs.
use mathlib.Core.Path.{◌≡◌, refl}
use mathlib.Core.List.{flat_map}
use Rattle.linear.specs.Vector.{norm}
use Rattle.linear.specs.declared.vector.Vector3.{Vector3}
use Rattle.polynomial.specs.Convolution.{cone_polynomials}
use Rattle.subproblem5.specs.Port.{circle, point, points, angles, agree, of_points, at_root}
use Rattle.subproblem5.specs.Reduced.{reduced_solutionset}
use Rattle.subproblem5.specs.Subproblem5.{h_vec, subproblem5}

pub cut : (p0 p1 p2 p3 k1 k2 k3 : Vector3)
    → let c1 = circle p0 p1 k1 k2 in
    let c3 = circle p2 p3 k3 k2 in
    let cone-1 = cone_polynomials p0 k1 p1 c1.p_s k2 in
    let cone-3 = cone_polynomials p2 k3 p3 c3.p_s k2 in
    reduced_solutionset (flat_map (at_root c1 c3 k2) (h_vec cone-1 cone-3)) ≡ subproblem5 p0 p1 p2 p3 k1 k2 k3
unfolding subproblem5 circle at_root of_points points point agree angles norm flat_map
cut p0 p1 p2 p3 k1 k2 k3 = refl
