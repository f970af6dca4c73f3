-- subproblem5 of subproblems/mod.rs: "Solves for `theta1`, `theta2`, and `theta3` where `p0 + rot(k1, theta1) * p1 = rot(k2, theta2) * (p2 + rot(k3, theta3) * p3)` if possible.
-- There can be up to 4 solutions." Name by name as there; what the port has besides is in Port.antt.
use Rattle.std.specs.Prelude.{cond, Float}
use mathlib.Core.List.{List, [], ◌∷◌, flat_map}
use Rattle.std.specs.Float.Ieee.{lt, neg}
use Rattle.float.specs.Num.{◌⊕◌, ◌⊖◌, ◌⊗◌, ◌⊘◌, as_f64, nought, one, millionth}
use Rattle.float.specs.Number.{abs}
use Rattle.float.specs.Arctangent.{atan2}
use Rattle.float.specs.Root.{sqrt}
use Rattle.linear.specs.Vector.{dot, norm, ◌+ᵛ◌, ◌-ᵛ◌, scaleᵛ}
use Rattle.linear.specs.Matrix.{apply, outer}
use Rattle.linear.specs.declared.vector.Vector3.{Vector3}
use Rattle.solutionset.specs.declared.Triple.{Triple}
use Rattle.solutionset.specs.declared.set4.SolutionSet4.{SolutionSet4}
use Rattle.polynomial.specs.Convolution.{vec_self_convolve_2, vec_self_convolve_3, vec_convolve_3, cone_polynomials}
use Rattle.polynomial.specs.Quartic.{solve_quartic_roots}
use Rattle.polynomial.specs.Roots.{real_parts, real_quartic}
use Rattle.polynomial.specs.declared.Cone.{Cone}
use Rattle.polynomial.specs.declared.Vector2.{Vector2}
use Rattle.polynomial.specs.declared.Vector5.{Vector5}
use Rattle.subproblems.specs.Columns.{columns}
use Rattle.subproblems.specs.Subproblem1.{subproblem1}
use Rattle.subproblems.specs.declared.Columns.{Columns}
use Rattle.subproblem5.specs.Reduced.{reduced_solutionset}

-- ---- nalgebra's operations on Vector2, Vector5 and Matrix3x2: part by part, and "a matrix product's entry is a dot product" (document 01)
infixl 6 ◌+²◌
infixl 6 ◌-²◌
infixl 7 ◌·²◌
abbrev pub ◌+²◌ : Vector2 → Vector2 → Vector2
a +² b = record { x = a.x ⊕ b.x; y = a.y ⊕ b.y }

abbrev pub ◌-²◌ : Vector2 → Vector2 → Vector2
a -² b = record { x = a.x ⊖ b.x; y = a.y ⊖ b.y }

abbrev pub ◌·²◌ : Float → Vector2 → Vector2
s ·² v = record { x = s ⊗ v.x; y = s ⊗ v.y }

abbrev pub scale² : Vector2 → Float → Vector2
scale² v s = record { x = v.x ⊗ s; y = v.y ⊗ s }

abbrev pub over² : Vector2 → Float → Vector2
over² v s = record { x = v.x ⊘ s; y = v.y ⊘ s }

abbrev pub norm_squared² : Vector2 → Float
norm_squared² v = v.x ⊗ v.x ⊕ v.y ⊗ v.y

-- u - s * v
abbrev pub less⁵ : Vector5 → Float → Vector5 → Vector5
less⁵ u s v =
    record {
      a = u.a ⊖ s ⊗ v.a;
      b = u.b ⊖ s ⊗ v.b;
      c = u.c ⊖ s ⊗ v.c;
      d = u.d ⊖ s ⊗ v.d;
      e = u.e ⊖ s ⊗ v.e;
    }

-- a * sc
abbrev pub times : Columns → Vector2 → Vector3
times a sc =
    let u = a.first in
    let w = a.second in
    record { x = u.x ⊗ sc.x ⊕ w.x ⊗ sc.y; y = u.y ⊗ sc.x ⊕ w.y ⊗ sc.y; z = u.z ⊗ sc.x ⊕ w.z ⊗ sc.y }

-- a.transpose() * k2
abbrev pub transpose_times : Columns → Vector3 → Vector2
transpose_times a k2 = record { x = dot a.first k2; y = dot a.second k2 }

-- j * a.transpose() * k2 with j = Matrix2::new(0.0, 1.0, -1.0, 0.0), from the left: first the rows of j * a.transpose(), in which the zeros count, for infinities and signs
unfoldable pub j_transpose_times : Columns → Vector3 → Vector2
j_transpose_times a k2 =
    let row : Float → Float → Vector3 =
    λ s t.
    record {
      x = s ⊗ a.first.x ⊕ t ⊗ a.second.x;
      y = s ⊗ a.first.y ⊕ t ⊗ a.second.y;
      z = s ⊗ a.first.z ⊕ t ⊗ a.second.z;
    } in
    record { x = dot (row nought one) k2; y = dot (row (neg one) nought) k2 }

-- ---- subproblem5, by its names
-- EPSILON is 1e-6
abbrev pub epsilon : Float
epsilon = millionth

-- of cone 1, which is (p_1, r_1), and cone 3, which is (p_3, r_3)
unfoldable pub eqn_real : Cone → Cone → Vector5
eqn_real cone-1 cone-3 =
    let p_13 = cone-1.p -² cone-3.p in
    let p-13-sq = vec_self_convolve_2 p_13 in
    let rhs = cone-3.r -ᵛ cone-1.r -ᵛ p-13-sq in
    less⁵ (vec_self_convolve_3 rhs) (as_f64 4) (vec_convolve_3 p-13-sq cone-1.r)

-- all_roots, .filter(|c| c.im.abs() < EPSILON).map(|c| c.re)
unfoldable pub h_vec : Cone → Cone → List Float
unfolding eqn_real
h_vec cone-1 cone-3 = real_parts epsilon (solve_quartic_roots (real_quartic (eqn_real cone-1 cone-3)))

-- signs_1.iter().zip(signs_3.iter())
abbrev pub signs : List (Float × Float)
signs = (one, one) ∷ (one, neg one) ∷ (neg one, one) ∷ (neg one, neg one) ∷ []

module _ (p0 p1 p2 p3 k1 k2 k3 : Vector3) where
  abbrev p1_s : Vector3
  p1_s = p0 +ᵛ apply (outer k1 k1) p1

  abbrev p3_s : Vector3
  p3_s = p2 +ᵛ apply (outer k3 k3) p3

  abbrev delta1 : Float
  delta1 = dot k2 p1_s

  abbrev delta3 : Float
  delta3 = dot k2 p3_s

  abbrev a_1 : Columns
  a_1 = columns k1 p1

  abbrev a_3 : Columns
  a_3 = columns k3 p3

  -- for &h in h_vec.into_iter()
  module _ (h : Float) where
    abbrev const_1 : Vector2
    const_1 = scale² (transpose_times a_1 k2) (h ⊖ delta1)

    abbrev const_3 : Vector2
    const_3 = scale² (transpose_times a_3 k2) (h ⊖ delta3)

    abbrev sq1 : Float
    sq1 = let hd1 = h ⊖ delta1 in norm_squared² (transpose_times a_1 k2) ⊖ hd1 ⊗ hd1

    abbrev sq3 : Float
    sq3 = let hd3 = h ⊖ delta3 in norm_squared² (transpose_times a_3 k2) ⊖ hd3 ⊗ hd3

    abbrev pm_1 : Vector2
    pm_1 = scale² (j_transpose_times a_1 k2) (sqrt sq1)

    abbrev pm_3 : Vector2
    pm_3 = scale² (j_transpose_times a_3 k2) (sqrt sq3)

    -- for (&sign_1, &sign_3): a candidate, or none
    abbrev of_signs : Float × Float → List Triple
    of_signs sign =
        let sc1 = over² (const_1 +² sign.0 ·² pm_1) (norm_squared² (transpose_times a_1 k2)) in
        let sc3 = over² (const_3 +² sign.1 ·² pm_3) (norm_squared² (transpose_times a_3 k2)) in
        let v1 = times a_1 sc1 +ᵛ p1_s in
        let v3 = times a_3 sc3 +ᵛ p3_s in
        cond (lt (abs (norm (v1 -ᵛ scaleᵛ k2 h) ⊖ norm (v3 -ᵛ scaleᵛ k2 h))) millionth)
        (record { first = atan2 sc1.x sc1.y; second = (subproblem1 v3 v1 k2).theta; third = atan2 sc3.x sc3.y } ∷ [])
        []

    -- if sq1 < 0.0 or sq3 < 0.0: continue
    abbrev of_root : List Triple
    of_root = cond (lt sq1 nought) [] (cond (lt sq3 nought) [] (flat_map of_signs signs))

  -- "subproblem5 has up to 16 candidates; over four, they are sorted and thinned by gap as in reduced_solutionset." (document 01)
  unfoldable pub subproblem5 : SolutionSet4 Triple
  unfolding h_vec j_transpose_times
  subproblem5 =
      let cone-1 = cone_polynomials p0 k1 p1 p1_s k2 in
      let cone-3 = cone_polynomials p2 k3 p3 p3_s k2 in
      reduced_solutionset (flat_map of_root (h_vec cone-1 cone-3))
