-- The parts of the code, over structs of four and of three numbers. proofs/Steps.antt shows that they are the steps of specs/Qr.antt.
use Rattle.std.specs.Prelude.{cond, Option, None, Some, Bool, List, [], ◌∷◌, map, Float, get_or, drop}
use Rattle.std.specs.Float.Ieee.{lt}
use Rattle.float.specs.Num.{◌⊗◌, ◌⊘◌, nought, two}
use Rattle.linear.specs.declared.vector.Vector3.{Vector3}
use Rattle.qr.specs.Qr.{entries, dot, turned, v_of, is_zero, less, identity, row}
use Rattle.qr.specs.declared.Vector4.{Vector4}
use Rattle.qr.specs.declared.QrFactors.{QrFactors}
use Rattle.qr.specs.declared.householder.Reflection.{Reflection}
use Rattle.qr.specs.declared.householder.Columns4.{Columns4}

abbrev pub vector_4 : List Float → Vector4
vector_4 l = record { x = get_or l 0 nought; y = get_or l 1 nought; z = get_or l 2 nought; w = get_or l 3 nought }

abbrev pub entries_3 : Vector3 → List Float
entries_3 a = a.x ∷ a.y ∷ a.z ∷ []

abbrev pub vector_3 : List Float → Vector3
vector_3 l = record { x = get_or l 0 nought; y = get_or l 1 nought; z = get_or l 2 nought }

-- the last three of four
abbrev pub lower : Vector4 → Vector3
lower a = vector_3 (drop 1 (entries a))

abbrev pub turned_4 : Bool → Vector4 → Vector4
turned_4 t a = vector_4 (map (turned t) (entries a))

-- what the step of a part needs: v, and v·v; none where the part is zero
unfoldable pub reflection_4 : Vector4 → Option (Reflection Vector4)
reflection_4 a = let v = v_of (entries a) in cond (is_zero (entries a)) None (Some (record { v = vector_4 v; vv = dot v v }))

unfoldable pub reflection_3 : Vector3 → Option (Reflection Vector3)
reflection_3 a = let v = v_of (entries_3 a) in cond (is_zero (entries_3 a)) None (Some (record { v = vector_3 v; vv = dot v v }))

-- the column w after the step of the first column
unfoldable pub reflect_4 : Option (Reflection Vector4) → Vector4 → Vector4
reflect_4 None w = w
reflect_4 (Some m) w = let v = entries m.v in vector_4 (less (entries w) v (two ⊗ dot v (entries w) ⊘ m.vv))

-- the last three of w after the step of the second column
abbrev pub lower_reflected : Option (Reflection Vector3) → Vector4 → Vector3
lower_reflected None w = lower w
lower_reflected (Some m) w =
    let v = entries_3 m.v in
    let p = drop 1 (entries w) in
    vector_3 (less p v (two ⊗ dot v p ⊘ m.vv))

-- the column w after it: its first entry stays
unfoldable pub reflect_3 : Option (Reflection Vector3) → Vector4 → Vector4
reflect_3 m w = let u = lower_reflected m w in record { x = w.x; y = u.x; z = u.y; w = u.z }

-- a column of the identity after both steps
abbrev pub both : Option (Reflection Vector4) → Option (Reflection Vector3) → List Float → Vector4
both m n e = reflect_3 n (reflect_4 m (vector_4 e))

-- the columns of Q, before any is negated
unfoldable pub columns : Option (Reflection Vector4) → Option (Reflection Vector3) → Columns4
columns m n =
    let q = map (λ e. entries (both m n e)) identity in
    record { c0 = vector_4 (row 0 q); c1 = vector_4 (row 1 q); c2 = vector_4 (row 2 q); c3 = vector_4 (row 3 q) }

-- the factors, of the columns of Q and the entries of R before any is negated
unfoldable pub factors : Columns4 → Float → Float → Float → QrFactors
factors q r00 r01 r11 =
    let first = lt r00 nought in
    let second = lt r11 nought in
    record {
      q0 = turned_4 first q.c0;
      q1 = turned_4 second q.c1;
      q2 = q.c2;
      q3 = q.c3;
      r = record { m00 = turned first r00; m01 = turned first r01; m10 = nought; m11 = turned second r11 };
    }
