-- subproblem6 of subproblems/mod.rs: "Solves for `theta1` and `theta2` where `h1' * rot(k1, theta1) + h2' * rot(k2, theta2) = d1` and `h3' * rot(k3, theta1) + h4' * rot(k4, theta2) = d2`.
-- There can be up to 4 solutions".
use Rattle.std.specs.Prelude.{ℕ, List, map, Float, get_or}
use Rattle.std.specs.Float.{nan}
use Rattle.float.specs.Num.{◌⊕◌, ◌⊖◌, ◌⊗◌}
use Rattle.float.specs.Arctangent.{atan2}
use Rattle.linear.specs.Vector.{dot}
use Rattle.linear.specs.declared.vector.Vector3.{Vector3}
use Rattle.solutionset.specs.SolutionSet4.{get_all, from_vec}
use Rattle.solutionset.specs.declared.Pair.{Pair}
use Rattle.solutionset.specs.declared.set4.SolutionSet4.{SolutionSet4}
use Rattle.qr.specs.Qr.{qr}
use Rattle.polynomial.specs.Triangular.{solve_lower_triangular_system_2x2}
use Rattle.ellipse.specs.Ellipse.{transpose_2, solve_two_ellipse_numeric}
use Rattle.polynomial.specs.declared.Vector2.{Vector2}
use Rattle.qr.specs.declared.Vector4.{Vector4}
use Rattle.subproblems.specs.Columns.{columns, along}
use Rattle.subproblem6.specs.declared.Plane.{Plane}

-- a row of the matrix a: h_i.transpose() * a_i and h_j.transpose() * a_j side by side
unfoldable pub row : Vector3 → Vector3 → Vector3 → Vector3 → Vector3 → Vector3 → Vector4
row hi ki pi hj kj pj =
    let ai = columns ki pi in
    let aj = columns kj pj in
    record { x = dot hi ai.first; y = dot hi ai.second; z = dot hj aj.first; w = dot hj aj.second }

-- an entry of the vector b: d - (h_i.transpose() * k_i * k_i.transpose() * p_i)[0] - (h_j.transpose() * k_j * k_j.transpose() * p_j)[0]
unfoldable pub entry : Float → Vector3 → Vector3 → Vector3 → Vector3 → Vector3 → Vector3 → Float
entry d hi ki pi hj kj pj = d ⊖ along hi ki pi ⊖ along hj kj pj

-- the solutions of the two equations: x_min = q * solve_lower_triangular_system_2x2(&r, &b) over the first two columns of Q, with r = qr.r().transpose(),
-- and "The last two columns of Q are the null vectors." (document 01)
unfoldable pub plane : Vector4 → Vector4 → Vector2 → Plane
plane a0 a1 b =
    let f = qr a0 a1 in
    let q0 = f.q0 in
    let q1 = f.q1 in
    let y = solve_lower_triangular_system_2x2 (transpose_2 f.r) b in
    record {
      x_min =
          record {
            x = q0.x ⊗ y.x ⊕ q1.x ⊗ y.y;
            y = q0.y ⊗ y.x ⊕ q1.y ⊗ y.y;
            z = q0.z ⊗ y.x ⊕ q1.z ⊗ y.y;
            w = q0.w ⊗ y.x ⊕ q1.w ⊗ y.y;
          };
      x_null_1 = f.q2;
      x_null_2 = f.q3;
    }

-- xi_i: where both (sin, cos) pairs are of length 1
unfoldable pub unit_points : Plane → SolutionSet4 Pair
unit_points s =
    let m = s.x_min in
    let n1 = s.x_null_1 in
    let n2 = s.x_null_2 in
    solve_two_ellipse_numeric (record { x = m.x; y = m.y })
    (record { m00 = n1.x; m01 = n2.x; m10 = n1.y; m11 = n2.y })
    (record { x = m.z; y = m.w })
    (record { m00 = n1.z; m01 = n2.z; m10 = n1.w; m11 = n2.w })

-- x = x_min + x_null_1 * xi.0 + x_null_2 * xi.1, theta = (x[0].atan2(x[1]), x[2].atan2(x[3]))
unfoldable pub theta : Plane → Pair → Pair
theta s xi =
    let m = s.x_min in
    let n1 = s.x_null_1 in
    let n2 = s.x_null_2 in
    let x0 = m.x ⊕ n1.x ⊗ xi.first ⊕ n2.x ⊗ xi.second in
    let x1 = m.y ⊕ n1.y ⊗ xi.first ⊕ n2.y ⊗ xi.second in
    let x2 = m.z ⊕ n1.z ⊗ xi.first ⊕ n2.z ⊗ xi.second in
    let x3 = m.w ⊕ n1.w ⊗ xi.first ⊕ n2.w ⊗ xi.second in
    record { first = atan2 x0 x1; second = atan2 x2 x3 }

abbrev pub thetas : Plane → SolutionSet4 Pair → SolutionSet4 Pair
thetas s xi = from_vec (map (theta s) (get_all xi))

-- one of four vectors. (There is none with another number.)
abbrev pub at : List Vector3 → ℕ → Vector3
at l i = get_or l i (record { x = nan; y = nan; z = nan })

unfoldable pub subproblem6 : List Vector3 → List Vector3 → List Vector3 → Float → Float → SolutionSet4 Pair
unfolding row entry plane unit_points theta
subproblem6 h k p d1 d2 =
    let a0 = row (at h 0) (at k 0) (at p 0) (at h 1) (at k 1) (at p 1) in
    let a1 = row (at h 2) (at k 2) (at p 2) (at h 3) (at k 3) (at p 3) in
    let b0 = entry d1 (at h 0) (at k 0) (at p 0) (at h 1) (at k 1) (at p 1) in
    let b1 = entry d2 (at h 2) (at k 2) (at p 2) (at h 3) (at k 3) (at p 3) in
    let s = plane a0 a1 (record { x = b0; y = b1 }) in
    thetas s (unit_points s)
