-- Vectors, as document 01 fixes nalgebra's operations on them. Every operation rounds.
use Rattle.std.specs.Prelude.{Float}
use Rattle.std.specs.Float.Ieee.{neg}
use Rattle.scalar.specs.Num.{◌⊕◌, ◌⊖◌, ◌⊗◌, ◌⊘◌}
use Rattle.root.specs.Root.{sqrt}
use Rattle.linear.specs.declared.vector.Vector3.{Vector3}

infixl 6 ◌+ᵛ◌
infixl 6 ◌-ᵛ◌
-- "Dot products add from the first term to the last": the sum starts with the first product, and not with 0.0
abbrev pub dot : Vector3 → Vector3 → Float
dot a b = a.x ⊗ b.x ⊕ a.y ⊗ b.y ⊕ a.z ⊗ b.z

-- "a cross product is (y1 × z2 - z1 × y2, z1 × x2 - x1 × z2, x1 × y2 - y1 × x2)"
abbrev pub cross : Vector3 → Vector3 → Vector3
cross a b =
    record {
      x = a.y ⊗ b.z ⊖ a.z ⊗ b.y;
      y = a.z ⊗ b.x ⊖ a.x ⊗ b.z;
      z = a.x ⊗ b.y ⊖ a.y ⊗ b.x;
    }

-- the sum, the difference and the negation, part by part
abbrev pub ◌+ᵛ◌ : Vector3 → Vector3 → Vector3
a +ᵛ b = record { x = a.x ⊕ b.x; y = a.y ⊕ b.y; z = a.z ⊕ b.z }

abbrev pub ◌-ᵛ◌ : Vector3 → Vector3 → Vector3
a -ᵛ b = record { x = a.x ⊖ b.x; y = a.y ⊖ b.y; z = a.z ⊖ b.z }

abbrev pub negᵛ : Vector3 → Vector3
negᵛ a = record { x = neg a.x; y = neg a.y; z = neg a.z }

-- each part times s, and each part over s
abbrev pub scaleᵛ : Vector3 → Float → Vector3
scaleᵛ a s = record { x = a.x ⊗ s; y = a.y ⊗ s; z = a.z ⊗ s }

abbrev pub overᵛ : Vector3 → Float → Vector3
overᵛ a s = record { x = a.x ⊘ s; y = a.y ⊘ s; z = a.z ⊘ s }

-- "column_sum likewise": the four columns from the first to the last
abbrev pub column_sum : Vector3 → Vector3 → Vector3 → Vector3 → Vector3
column_sum a b c d = a +ᵛ b +ᵛ c +ᵛ d

abbrev pub norm_squared : Vector3 → Float
norm_squared a = dot a a

-- "a norm is the root of the vector's dot with itself"
unfoldable pub norm : Vector3 → Float
norm a = sqrt (dot a a)

-- "normalize divides each part by the norm"
unfoldable pub normalize : Vector3 → Vector3
normalize a = overᵛ a (norm a)
