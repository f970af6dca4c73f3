-- What the private functions of src/ give, for their contracts and proofs: no definition cites this file. The port computes what does not depend on h once for each
-- circle, and takes the test on norms by their squares. That this makes the definitions is proved in proofs/Cut.antt.
use Rattle.std.specs.Prelude.{Bool, cond, List, [], ◌∷◌, ◌++◌, map, Float}
use Rattle.std.specs.Float.Ieee.{lt, neg}
use Rattle.float.specs.Num.{◌⊖◌, ◌⊗◌, nought, one}
use Rattle.float.specs.Number.{abs}
use Rattle.float.specs.Arctangent.{atan2}
use Rattle.float.specs.Root.{sqrt}
use Rattle.linear.specs.Vector.{dot, norm_squared, ◌+ᵛ◌, ◌-ᵛ◌, scaleᵛ}
use Rattle.linear.specs.Matrix.{apply, outer}
use Rattle.linear.specs.declared.vector.Vector3.{Vector3}
use Rattle.solutionset.specs.declared.Triple.{Triple}
use Rattle.polynomial.specs.declared.Vector2.{Vector2}
use Rattle.norms.specs.Norms.{tolerance}
use Rattle.subproblems.specs.Columns.{columns}
use Rattle.subproblems.specs.Subproblem1.{subproblem1}
use Rattle.triple_sort.specs.declared.Ordered.{Ordered}
use Rattle.subproblem5.specs.Reduced.{with_ordering, solution_of}
use Rattle.subproblem5.specs.Subproblem5.{◌+²◌, ◌·²◌, scale², over², norm_squared², times, transpose_times, j_transpose_times}
use Rattle.subproblem5.specs.declared.Circle.{Circle}
use Rattle.subproblem5.specs.declared.Point.{Point}
use Rattle.subproblem5.specs.declared.Points.{Points}

-- ---- of subproblem5. The first circle is of p0, p1 and k1, the second of p2, p3 and k3
unfoldable pub circle : Vector3 → Vector3 → Vector3 → Vector3 → Circle
circle p0 p k k2 =
    let p-s = p0 +ᵛ apply (outer k k) p in
    let a = columns k p in
    record {
      a = a;
      p_s = p-s;
      delta = dot k2 p-s;
      a_k2 = transpose_times a k2;
      norm_sq = norm_squared² (transpose_times a k2);
      j_a_k2 = j_transpose_times a k2;
    }

abbrev pub sq : Circle → Float → Float
sq c h = let hd = h ⊖ c.delta in c.norm_sq ⊖ hd ⊗ hd

-- of one sign: sc1, v1 and the square of (v1 - h * k2).norm()
unfoldable pub point : Circle → Vector2 → Vector2 → Vector3 → Float → Point
point c const pm hk2 sign =
    let sc = over² (const +² sign ·² pm) c.norm_sq in
    let v = times c.a sc +ᵛ c.p_s in
    record { sc = sc; v = v; distance_sq = norm_squared (v -ᵛ hk2) }

-- of both signs, with sq1 for the square
unfoldable pub points : Circle → Float → Float → Vector3 → Points
points c h square hk2 =
    let const = scale² c.a_k2 (h ⊖ c.delta) in
    let pm = scale² c.j_a_k2 (sqrt square) in
    record { plus = point c const pm hk2 one; minus = point c const pm hk2 (neg one) }

unfoldable pub angles : Vector3 → Point → Point → Triple
angles k2 q1 q3 =
    record {
      first = atan2 q1.sc.x q1.sc.y;
      second = (subproblem1 q3.v q1.v k2).theta;
      third = atan2 q3.sc.x q3.sc.y;
    }

-- the test on norms
unfoldable pub agree : Point → Point → Bool
agree q1 q3 = lt (abs (sqrt q1.distance_sq ⊖ sqrt q3.distance_sq)) tolerance

abbrev pub candidate : Vector3 → Point → Point → List Triple
candidate k2 q1 q3 = cond (agree q1 q3) (angles k2 q1 q3 ∷ []) []

-- the signs of the first circle go slower
unfoldable pub of_points : Vector3 → Points → Points → List Triple
of_points k2 s1 s3 =
    candidate k2 s1.plus s3.plus
    ++ (candidate k2 s1.plus s3.minus
    ++ (candidate k2 s1.minus s3.plus ++ (candidate k2 s1.minus s3.minus ++ [])))

unfoldable pub at_root : Circle → Circle → Vector3 → Float → List Triple
at_root c1 c3 k2 h =
    let hk2 = scaleᵛ k2 h in
    cond (lt (sq c1 h) nought) []
    (cond (lt (sq c3 h) nought) [] (of_points k2 (points c1 h (sq c1 h) hk2) (points c3 h (sq c3 h) hk2)))

-- ---- of reduced_solutionset: a solution with its first number as the ordering value, and the loop over such
abbrev pub by_first : Triple → Ordered
by_first solution = record { ordering = solution.first; solution = solution }

abbrev pub with_gaps : Float → List Ordered → List Ordered
with_gaps last l = with_ordering last (map solution_of l)
