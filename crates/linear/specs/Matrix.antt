-- Matrices as lists of three rows of three numbers, and the rotation about an axis. Every operation rounds.
use Rattle.std.specs.Prelude.{ℕ, List, [], ◌∷◌, Float, get_or}
use Rattle.std.specs.Float.{nan}
use Rattle.std.specs.Float.Ieee.{neg}
use Rattle.float.specs.Num.{◌⊕◌, ◌⊖◌, ◌⊗◌, nought, one}
use Rattle.float.specs.Sine.{sin, cos}
use Rattle.linear.specs.Vector.{normalize}
use Rattle.linear.specs.declared.vector.Vector3.{Vector3}

infixl 6 ◌+ᵐ◌
abbrev pub Matrix : Type 0
Matrix = List (List Float)

-- row i of a matrix, and number j of a row. (Outside the matrix, which no function below is at: no row, and NaN.)
abbrev pub row : Matrix → ℕ → List Float
row m i = get_or m i []

abbrev pub part : List Float → ℕ → Float
part a j = get_or a j nan

abbrev pub array3 : {A : Type 0} → A → A → A → List A
array3 a b c = a ∷ b ∷ c ∷ []

-- "a matrix product's entry is a dot product": of a row and the column j of b
abbrev pub entry : List Float → Matrix → ℕ → Float
entry a b j = part a 0 ⊗ part (row b 0) j ⊕ part a 1 ⊗ part (row b 1) j ⊕ part a 2 ⊗ part (row b 2) j

abbrev pub row_product : List Float → Matrix → List Float
row_product a b = array3 (entry a b 0) (entry a b 1) (entry a b 2)

unfoldable pub product : Matrix → Matrix → Matrix
product a b = array3 (row_product (row a 0) b) (row_product (row a 1) b) (row_product (row a 2) b)

-- a matrix times a vector
abbrev pub row_dot : List Float → Vector3 → Float
row_dot a v = part a 0 ⊗ v.x ⊕ part a 1 ⊗ v.y ⊕ part a 2 ⊗ v.z

unfoldable pub apply : Matrix → Vector3 → Vector3
apply a v = record { x = row_dot (row a 0) v; y = row_dot (row a 1) v; z = row_dot (row a 2) v }

-- the row v times a matrix
unfoldable pub row_apply : Vector3 → Matrix → Vector3
row_apply v a = let r = array3 v.x v.y v.z in record { x = entry r a 0; y = entry r a 1; z = entry r a 2 }

abbrev pub column : Matrix → ℕ → List Float
column a j = array3 (part (row a 0) j) (part (row a 1) j) (part (row a 2) j)

unfoldable pub transpose : Matrix → Matrix
transpose a = array3 (column a 0) (column a 1) (column a 2)

abbrev pub identity : Matrix
identity = array3 (array3 one nought nought) (array3 nought one nought) (array3 nought nought one)

-- "Matrix cross-product for a 3 x 3 vector" (subproblems/auxiliary.rs)
abbrev pub hat : Vector3 → Matrix
hat k = array3 (array3 nought (neg k.z) k.y) (array3 k.z nought (neg k.x)) (array3 (neg k.y) k.x nought)

-- the column a times the row b
abbrev pub outer : Vector3 → Vector3 → Matrix
outer a b =
    array3 (array3 (a.x ⊗ b.x) (a.x ⊗ b.y) (a.x ⊗ b.z)) (array3 (a.y ⊗ b.x) (a.y ⊗ b.y) (a.y ⊗ b.z))
    (array3 (a.z ⊗ b.x) (a.z ⊗ b.y) (a.z ⊗ b.z))

-- the sum of two matrices, and a matrix times a number, entry by entry
abbrev row_sum : List Float → List Float → List Float
row_sum a b = array3 (part a 0 ⊕ part b 0) (part a 1 ⊕ part b 1) (part a 2 ⊕ part b 2)

abbrev pub ◌+ᵐ◌ : Matrix → Matrix → Matrix
a +ᵐ b = array3 (row_sum (row a 0) (row b 0)) (row_sum (row a 1) (row b 1)) (row_sum (row a 2) (row b 2))

abbrev row_scale : List Float → Float → List Float
row_scale a s = array3 (part a 0 ⊗ s) (part a 1 ⊗ s) (part a 2 ⊗ s)

abbrev pub scaleᵐ : Matrix → Float → Matrix
scaleᵐ a s = array3 (row_scale (row a 0) s) (row_scale (row a 1) s) (row_scale (row a 2) s)

-- "Creates a 3x3 rotation matrix about `k` by `theta`" (subproblems/auxiliary.rs), for a normalised axis, a sine and a cosine:
-- Matrix3::identity() + hat(&k) * theta.sin() + hat(&k) * hat(&k) * (1.0 - theta.cos())
unfoldable pub rodrigues : Vector3 → Float → Float → Matrix
unfolding product
rodrigues k s c = identity +ᵐ scaleᵐ (hat k) s +ᵐ scaleᵐ (product (hat k) (hat k)) (one ⊖ c)

unfoldable pub rot_unit : Vector3 → Float → Matrix
unfolding rodrigues
rot_unit k θ = rodrigues k (sin θ) (cos θ)

-- the same, whole: let k = k.normalize()
unfoldable pub rot : Vector3 → Float → Matrix
unfolding rot_unit
rot k θ = rot_unit (normalize k) θ
