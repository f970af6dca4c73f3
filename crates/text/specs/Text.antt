-- Text as bytes: what is printed of numbers.
use Rattle.std.specs.Prelude.{ℕ, zero, suc, ◌+◌, ◌/◌, ◌%◌, cond, List, [], ◌∷◌, ◌++◌, ltb, Float}
use Prim.Native.Char.{code}
use Prim.Native.String.{String, [] as []ˢ, ◌∷◌ as ◌∷ˢ◌}
use Rattle.std.specs.Float.{binary64}
use Rattle.std.specs.Float.Ieee.{to_bits}

-- the bytes of a text in ASCII
abbrev pub text : String → List ℕ
text []ˢ = []
text (c ∷ˢ s) = code c ∷ text s

-- the digit of a number below 16: 0 to 9, then a to f
abbrev pub glyph : ℕ → ℕ
glyph d = cond (ltb d 10) (48 + d) (87 + d)

-- the last k digits of n in a base, the most significant first
unfoldable pub digits : ℕ → ℕ → ℕ → List ℕ
digits base zero n = []
digits base (suc k) n = digits base k (n / base) ++ (glyph (n % base) ∷ [])

-- how many decimal digits n has, where it has at most k + 1
unfoldable pub places : ℕ → ℕ → ℕ
places zero n = 1
places (suc k) n = cond (ltb n 10) 1 (suc (places k (n / 10)))

-- n in decimal, with no zeros in front. Every 64-bit number has at most 20 digits.
unfoldable pub decimal : ℕ → List ℕ
decimal n = digits 10 (places 19 n) n

-- "16 hexadecimal digits of their bits in lower case". The bits of every NaN are 7ff8000000000000.
unfoldable pub hex : Float → List ℕ
hex x = digits 16 16 (to_bits binary64 x)
