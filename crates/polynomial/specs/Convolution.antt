-- subproblems/auxiliary.rs: the convolutions and cone_polynomials.
use Rattle.std.specs.Float.Ieee.{neg}
use Rattle.scalar.specs.Num.{◌⊕◌, ◌⊗◌, ◌⊘◌, one, two}
use Rattle.linear.specs.Vector.{dot, cross, norm_squared}
use Rattle.linear.specs.declared.vector.Vector3.{Vector3}
use Rattle.polynomial.specs.declared.Vector2.{Vector2}
use Rattle.polynomial.specs.declared.Vector5.{Vector5}
use Rattle.polynomial.specs.declared.Cone.{Cone}

-- "Performs convolution on a 2d vector with itself"
unfoldable pub vec_self_convolve_2 : Vector2 → Vector3
vec_self_convolve_2 v =
    let a = v.x in
    let b = v.y in
    record { x = a ⊗ a; y = two ⊗ a ⊗ b; z = b ⊗ b }

-- "Performs convolution on a 3d vector with itself"
unfoldable pub vec_self_convolve_3 : Vector3 → Vector5
vec_self_convolve_3 v =
    let a = v.x in
    let b = v.y in
    let c = v.z in
    record { a = a ⊗ a; b = two ⊗ a ⊗ b; c = two ⊗ a ⊗ c ⊕ b ⊗ b; d = two ⊗ b ⊗ c; e = c ⊗ c }

-- "Performs convolution between two 3d vectors"
unfoldable pub vec_convolve_3 : Vector3 → Vector3 → Vector5
vec_convolve_3 v1 v2 =
    let a = v1.x in
    let b = v1.y in
    let c = v1.z in
    let x = v2.x in
    let y = v2.y in
    let z = v2.z in
    record {
      a = a ⊗ x;
      b = b ⊗ x ⊕ a ⊗ y;
      c = a ⊗ z ⊕ b ⊗ y ⊕ c ⊗ x;
      d = b ⊗ z ⊕ c ⊗ y;
      e = c ⊗ z;
    }

-- the polynomials P and R of a cone. `(2.0 * beta).powi(2) * r`: the square is one product, and a factor of each part
unfoldable pub cone_polynomials : Vector3 → Vector3 → Vector3 → Vector3 → Vector3 → Cone
cone_polynomials p0-i k-i p-i p-i-s k2 =
    let ki-x-k2 = cross k-i k2 in
    let ki-x-ki-x-k2 = cross k-i ki-x-k2 in
    let norm-ki-x-k2-sq = dot ki-x-k2 ki-x-k2 in
    let ki-x-pi = cross k-i p-i in
    let norm-ki-x-pi-sq = dot ki-x-pi ki-x-pi in
    let alpha = dot p0-i ki-x-ki-x-k2 ⊘ norm-ki-x-k2-sq in
    let delta = dot k2 p-i-s in
    let beta = dot p0-i ki-x-k2 ⊘ norm-ki-x-k2-sq in
    let p-const = norm-ki-x-pi-sq ⊕ norm_squared p-i-s ⊕ two ⊗ alpha ⊗ delta in
    let square = two ⊗ beta ⊗ (two ⊗ beta) in
    record {
      p = record { x = neg two ⊗ alpha; y = p-const };
      r =
          record {
            x = square ⊗ neg one;
            y = square ⊗ (two ⊗ delta);
            z = square ⊗ (neg delta ⊗ delta ⊕ norm-ki-x-pi-sq ⊗ norm-ki-x-k2-sq);
          };
    }
