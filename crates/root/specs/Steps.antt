-- What the code's functions promise each other on the way to a root: their guesses, words and digits. Nothing of this stands beneath `sqrt` or `cbrt`.
use Rattle.std.specs.Prelude.{◌≡◌, ℕ, zero, suc, ◌+◌, ◌-◌, ◌*◌, ◌/◌, ◌%◌, ◌^◌, ◌≤◌, ◌<◌}
use Rattle.root.specs.Root.{WholeRoot, square, cube}
use Rattle.root.specs.declared.Digits.{Digits}
use Rattle.root.specs.declared.CubeWords.{CubeWords}

-- what `refine` asks: a is the whole root of n, b is a base that a step can have, and l is below b * b
pub record Refinable (n a l b : ℕ) : Type 0 where
  pub root : WholeRoot square n a
  pub small : a < 2 ^ 27
  pub some : 0 < b
  pub wide : b ≤ 2 * a
  pub narrow : b ≤ 2 ^ 27
  pub digits : l < b * b

-- the square and the cube of r: the square above its last 54 digits, and the cube above its last 54 digits and those
pub record HasCube (r : ℕ) (c : CubeWords) : Type 0 where
  pub above : c.square ≡ r * r / 2 ^ 54
  pub whole : c.high * 2 ^ 54 + c.low ≡ cube r
  pub last : c.low < 2 ^ 54

-- the cube root of n is at least e - 1 and below e + 1
pub record Beside (e n : ℕ) : Type 0 where
  pub low : cube (e - 1) ≤ n
  pub high : n < cube (e + 1)

-- q is half the cube root of n, rounded: of its whole part and one more
pub record HalfCubeRoot (n q : ℕ) : Type 0 where
  pub r : ℕ
  pub root : WholeRoot cube n r
  pub is : q ≡ (r + 1) / 2

-- u units are m * 2 ^ j / 2 ^ 52, with the leading digit at the 53rd place
pub record Normal (u : ℕ) (d : Digits) : Type 0 where
  pub least : 2 ^ 52 ≤ d.m
  pub most : d.m < 2 ^ 53
  pub exponent : d.j ≤ 2097
  pub same : d.m * 2 ^ d.j ≡ u * 2 ^ 52

-- the size of the value of a bit pattern, by its exponent's field and its digits, in units of 2 ^ -1074
abbrev pub field_units : ℕ → ℕ → ℕ
field_units zero t = t
field_units (suc e) t = (2 ^ 52 + t) * 2 ^ e

abbrev pub units_of : ℕ → ℕ
units_of b = field_units (b / 2 ^ 52) (b % 2 ^ 52)
