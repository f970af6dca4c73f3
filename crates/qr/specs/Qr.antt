-- The QR of a matrix of four rows and two columns, as document 01 fixes it:
-- "QR: Householder, column by column, on the part from the diagonal down. The vector v is that part with its norm added to the leading entry, with that entry's sign (plus at zero); a zero part is skipped.
--  Each column w, of the matrix and of the identity that becomes Q transposed, becomes w - v × (2 × (v·w) / (v·v)).
--  A negative diagonal entry of R negates its row of R and its column of Q. The last two columns of Q are the null vectors."
-- A column is the list of its entries.
use Rattle.std.specs.Prelude.{ℕ, Bool, true, cond, ◌&&◌, List, [], ◌∷◌, ◌++◌, map, Float, get_or, take, drop}
use Rattle.std.specs.Float.Ieee.{neg, lt, eq}
use Rattle.float.specs.Num.{◌⊕◌, ◌⊖◌, ◌⊗◌, ◌⊘◌, nought, one, two}
use Rattle.float.specs.Root.{sqrt}
use Rattle.qr.specs.declared.Vector4.{Vector4}
use Rattle.qr.specs.declared.QrFactors.{QrFactors}

abbrev pub entries : Vector4 → List Float
entries a = a.x ∷ a.y ∷ a.z ∷ a.w ∷ []

-- "Dot products add from the first term to the last": s, and what follows it
abbrev pub added : Float → List Float → List Float → Float
added s [] w = s
added s (x ∷ v) [] = s
added s (x ∷ v) (y ∷ w) = added (s ⊕ x ⊗ y) v w

abbrev pub dot : List Float → List Float → Float
dot [] w = nought
dot (x ∷ v) [] = nought
dot (x ∷ v) (y ∷ w) = added (x ⊗ y) v w

-- x with its sign turned where the test says so
abbrev pub turned : Bool → Float → Float
turned t x = cond t (neg x) x

-- "The vector v is that part with its norm added to the leading entry, with that entry's sign (plus at zero)"
abbrev pub v_of : List Float → List Float
v_of [] = []
v_of (x ∷ p) = (x ⊕ turned (lt x nought) (sqrt (dot (x ∷ p) (x ∷ p)))) ∷ p

-- "a zero part is skipped"
abbrev pub is_zero : List Float → Bool
is_zero [] = true
is_zero (x ∷ p) = eq x nought && is_zero p

-- w - v × f
abbrev pub less : List Float → List Float → Float → List Float
less [] v f = []
less (x ∷ w) [] f = x ∷ w
less (x ∷ w) (y ∷ v) f = (x ⊖ y ⊗ f) ∷ less w v f

-- the step of the part p, of what stands beside that part in a column: "w - v × (2 × (v·w) / (v·v))"
abbrev pub reflected : List Float → List Float → List Float
reflected p w = let v = v_of p in cond (is_zero p) w (less w v (two ⊗ dot v w ⊘ dot v v))

-- the column w after the step of the column a at the diagonal's place k: what stands above stays
unfoldable pub stepped : ℕ → List Float → List Float → List Float
stepped k a w = take k w ++ reflected (drop k a) (drop k w)

-- the step of the column k, on each column
abbrev pub step : ℕ → List (List Float) → List (List Float)
step k m = map (stepped k (get_or m k [])) m

abbrev pub identity : List (List Float)
identity =
    (one ∷ nought ∷ nought ∷ nought ∷ [])
    ∷ (nought ∷ one ∷ nought ∷ nought ∷ [])
    ∷ (nought ∷ nought ∷ one ∷ nought ∷ [])
    ∷ (nought ∷ nought ∷ nought ∷ one ∷ [])
    ∷ []

-- row i: of the matrix it is a row of R, of the identity's columns, which are Q transposed, a column of Q
abbrev pub row : ℕ → List (List Float) → List Float
row i m = map (λ w. get_or w i nought) m

-- "A negative diagonal entry of R negates its row of R and its column of Q."
abbrev pub signed : ℕ → List (List Float) → List Float
signed i m = let r = row i m in map (turned (lt (get_or r i nought) nought)) r

-- the column of Q in a row: what stands after the two entries of R
abbrev pub column : List Float → Vector4
column r = record { x = get_or r 2 nought; y = get_or r 3 nought; z = get_or r 4 nought; w = get_or r 5 nought }

-- The matrix has the columns a0 and a1. Only three entries of R are read; the one below the diagonal is 0.0, as in nalgebra's r().
unfoldable pub qr : Vector4 → Vector4 → QrFactors
qr a0 a1 =
    let m = step 1 (step 0 (entries a0 ∷ entries a1 ∷ identity)) in
    let r0 = signed 0 m in
    let r1 = signed 1 m in
    record {
      q0 = column r0;
      q1 = column r1;
      q2 = column (row 2 m);
      q3 = column (row 3 m);
      r = record { m00 = get_or r0 0 nought; m01 = get_or r0 1 nought; m10 = nought; m11 = get_or r1 1 nought };
    }
