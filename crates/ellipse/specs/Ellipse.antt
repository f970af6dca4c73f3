-- solve_two_ellipse_numeric of subproblems/auxiliary.rs, by its names: "Solve for intersection of 2 ellipses defined by `xm1'*xm1 + xi'*xn1'*xn1*xi + xm1'*xn1*xi == 1`" and the same with 2,
-- "Where `xi = [xi_1; xi_2]`". (With 2.0 in b_1 and b_2 the last product counts twice.)
use Rattle.std.specs.Prelude.{map, Float}
use Rattle.std.specs.Float.Ieee.{neg}
use Rattle.float.specs.Num.{◌⊕◌, ◌⊖◌, ◌⊗◌, ◌⊘◌, one, two}
use Rattle.solutionset.specs.SolutionSet4.{from_vec}
use Rattle.solutionset.specs.declared.Pair.{Pair}
use Rattle.solutionset.specs.declared.set4.SolutionSet4.{SolutionSet4}
use Rattle.polynomial.specs.Const.{epsilon}
use Rattle.polynomial.specs.Roots.{real_parts, real_quartic}
use Rattle.polynomial.specs.Quartic.{solve_quartic_roots}
use Rattle.polynomial.specs.declared.Vector2.{Vector2}
use Rattle.polynomial.specs.declared.Vector5.{Vector5}
use Rattle.polynomial.specs.declared.Matrix2.{Matrix2}
use Rattle.ellipse.specs.declared.Conic.{Conic}

abbrev pub transpose_2 : Matrix2 → Matrix2
transpose_2 m = record { m00 = m.m00; m01 = m.m10; m10 = m.m01; m11 = m.m11 }

-- an entry is the dot product of a row and a column
abbrev pub product_2 : Matrix2 → Matrix2 → Matrix2
product_2 a b =
    record {
      m00 = a.m00 ⊗ b.m00 ⊕ a.m01 ⊗ b.m10;
      m01 = a.m00 ⊗ b.m01 ⊕ a.m01 ⊗ b.m11;
      m10 = a.m10 ⊗ b.m00 ⊕ a.m11 ⊗ b.m10;
      m11 = a.m10 ⊗ b.m01 ⊕ a.m11 ⊗ b.m11;
    }

-- a row times a matrix
abbrev pub row_apply_2 : Vector2 → Matrix2 → Vector2
row_apply_2 v m = record { x = v.x ⊗ m.m00 ⊕ v.y ⊗ m.m10; y = v.x ⊗ m.m01 ⊕ v.y ⊗ m.m11 }

-- the coefficients of an ellipse: a .. f of the first, a1, b1, c1, d1, e1, fq of the second
unfoldable pub coefficients : Vector2 → Matrix2 → Conic
coefficients xm xn =
    let a_1 = product_2 (transpose_2 xn) xn in
    let b_1 = row_apply_2 (record { x = two ⊗ xm.x; y = two ⊗ xm.y }) xn in
    record {
      a = a_1.m00;
      b = two ⊗ a_1.m10;
      c = a_1.m11;
      d = b_1.x;
      e = b_1.y;
      f = xm.x ⊗ xm.x ⊕ xm.y ⊗ xm.y ⊖ one;
    }

-- ---- the coefficients of the quartic in y, of the ellipses g and h
unfoldable pub z0 : Conic → Conic → Float
z0 g h =
    let a = g.a in
    let d = g.d in
    let f = g.f in
    let a1 = h.a in
    let d1 = h.d in
    let fq = h.f in
    f ⊗ a ⊗ d1 ⊗ d1
    ⊕ a ⊗ a ⊗ fq ⊗ fq
    ⊖ d ⊗ a ⊗ d1 ⊗ fq
    ⊕ a1 ⊗ a1 ⊗ f ⊗ f
    ⊖ two ⊗ a ⊗ fq ⊗ a1 ⊗ f
    ⊖ d ⊗ d1 ⊗ a1 ⊗ f
    ⊕ a1 ⊗ d ⊗ d ⊗ fq

unfoldable pub z1 : Conic → Conic → Float
z1 g h =
    let a = g.a in
    let b = g.b in
    let d = g.d in
    let e = g.e in
    let f = g.f in
    let a1 = h.a in
    let b1 = h.b in
    let d1 = h.d in
    let e1 = h.e in
    let fq = h.f in
    e1 ⊗ d ⊗ d ⊗ a1
    ⊖ fq ⊗ d1 ⊗ a ⊗ b
    ⊖ two ⊗ a ⊗ fq ⊗ a1 ⊗ e
    ⊖ f ⊗ a1 ⊗ b1 ⊗ d
    ⊕ two ⊗ d1 ⊗ b1 ⊗ a ⊗ f
    ⊕ two ⊗ e1 ⊗ fq ⊗ a ⊗ a
    ⊕ d1 ⊗ d1 ⊗ a ⊗ e
    ⊖ e1 ⊗ d1 ⊗ a ⊗ d
    ⊖ two ⊗ a ⊗ e1 ⊗ a1 ⊗ f
    ⊖ f ⊗ a1 ⊗ d1 ⊗ b
    ⊕ two ⊗ f ⊗ e ⊗ a1 ⊗ a1
    ⊖ fq ⊗ b1 ⊗ a ⊗ d
    ⊖ e ⊗ a1 ⊗ d1 ⊗ d
    ⊕ two ⊗ fq ⊗ b ⊗ a1 ⊗ d

unfoldable pub z2 : Conic → Conic → Float
z2 g h =
    let a = g.a in
    let b = g.b in
    let c = g.c in
    let d = g.d in
    let e = g.e in
    let f = g.f in
    let a1 = h.a in
    let b1 = h.b in
    let c1 = h.c in
    let d1 = h.d in
    let e1 = h.e in
    let fq = h.f in
    e1 ⊗ e1 ⊗ a ⊗ a
    ⊕ two ⊗ c1 ⊗ fq ⊗ a ⊗ a
    ⊖ e ⊗ a1 ⊗ d1 ⊗ b
    ⊕ fq ⊗ a1 ⊗ b ⊗ b
    ⊖ e ⊗ a1 ⊗ b1 ⊗ d
    ⊖ fq ⊗ b1 ⊗ a ⊗ b
    ⊖ two ⊗ a ⊗ e1 ⊗ a1 ⊗ e
    ⊕ two ⊗ d1 ⊗ b1 ⊗ a ⊗ e
    ⊖ c1 ⊗ d1 ⊗ a ⊗ d
    ⊖ two ⊗ a ⊗ c1 ⊗ a1 ⊗ f
    ⊕ b1 ⊗ b1 ⊗ a ⊗ f
    ⊕ two ⊗ e1 ⊗ b ⊗ a1 ⊗ d
    ⊕ e ⊗ e ⊗ a1 ⊗ a1
    ⊖ c ⊗ a1 ⊗ d1 ⊗ d
    ⊖ e1 ⊗ b1 ⊗ a ⊗ d
    ⊕ two ⊗ f ⊗ c ⊗ a1 ⊗ a1
    ⊖ f ⊗ a1 ⊗ b1 ⊗ b
    ⊕ c1 ⊗ d ⊗ d ⊗ a1
    ⊕ d1 ⊗ d1 ⊗ a ⊗ c
    ⊖ e1 ⊗ d1 ⊗ a ⊗ b
    ⊖ two ⊗ a ⊗ fq ⊗ a1 ⊗ c

unfoldable pub z3 : Conic → Conic → Float
z3 g h =
    let a = g.a in
    let b = g.b in
    let c = g.c in
    let d = g.d in
    let e = g.e in
    let a1 = h.a in
    let b1 = h.b in
    let c1 = h.c in
    let d1 = h.d in
    let e1 = h.e in
    neg two ⊗ a ⊗ a1 ⊗ c ⊗ e1
    ⊕ e1 ⊗ a1 ⊗ b ⊗ b
    ⊕ two ⊗ c1 ⊗ b ⊗ a1 ⊗ d
    ⊖ c ⊗ a1 ⊗ b1 ⊗ d
    ⊕ b1 ⊗ b1 ⊗ a ⊗ e
    ⊖ e1 ⊗ b1 ⊗ a ⊗ b
    ⊖ two ⊗ a ⊗ c1 ⊗ a1 ⊗ e
    ⊖ e ⊗ a1 ⊗ b1 ⊗ b
    ⊖ c1 ⊗ b1 ⊗ a ⊗ d
    ⊕ two ⊗ e1 ⊗ c1 ⊗ a ⊗ a
    ⊕ two ⊗ e ⊗ c ⊗ a1 ⊗ a1
    ⊖ c ⊗ a1 ⊗ d1 ⊗ b
    ⊕ two ⊗ d1 ⊗ b1 ⊗ a ⊗ c
    ⊖ c1 ⊗ d1 ⊗ a ⊗ b

unfoldable pub z4 : Conic → Conic → Float
z4 g h =
    let a = g.a in
    let b = g.b in
    let c = g.c in
    let a1 = h.a in
    let b1 = h.b in
    let c1 = h.c in
    a ⊗ a ⊗ c1 ⊗ c1
    ⊖ two ⊗ a ⊗ c1 ⊗ a1 ⊗ c
    ⊕ a1 ⊗ a1 ⊗ c ⊗ c
    ⊖ b ⊗ a ⊗ b1 ⊗ c1
    ⊖ b ⊗ b1 ⊗ a1 ⊗ c
    ⊕ b ⊗ b ⊗ a1 ⊗ c1
    ⊕ c ⊗ a ⊗ b1 ⊗ b1

unfoldable pub quartic_in_y : Conic → Conic → Vector5
quartic_in_y g h = record { a = z4 g h; b = z3 g h; c = z2 g h; d = z1 g h; e = z0 g h }

-- x of y: minus the quotient
unfoldable pub x_of : Conic → Conic → Float → Float
x_of g h y =
    let a = g.a in
    let b = g.b in
    let c = g.c in
    let d = g.d in
    let e = g.e in
    let f = g.f in
    let a1 = h.a in
    let b1 = h.b in
    let c1 = h.c in
    let d1 = h.d in
    let e1 = h.e in
    let fq = h.f in
    let y-sq = y ⊗ y in
    neg
    ((a ⊗ c1 ⊗ y-sq ⊕ a ⊗ fq ⊖ a1 ⊗ c ⊗ y-sq ⊕ a ⊗ e1 ⊗ y ⊖ a1 ⊗ e ⊗ y ⊕ neg a1 ⊗ f)
    ⊘ (a ⊗ b1 ⊗ y ⊕ a ⊗ d1 ⊖ a1 ⊗ b ⊗ y ⊕ neg a1 ⊗ d))

abbrev pub point : Conic → Conic → Float → Pair
point g h y = record { first = x_of g h y; second = y }

unfoldable pub solve_two_ellipse_numeric : Vector2 → Matrix2 → Vector2 → Matrix2 → SolutionSet4 Pair
solve_two_ellipse_numeric xm1 xn1 xm2 xn2 =
    let g = coefficients xm1 xn1 in
    let h = coefficients xm2 xn2 in
    let y = solve_quartic_roots (real_quartic (quartic_in_y g h)) in
    from_vec (map (point g h) (real_parts epsilon y))
