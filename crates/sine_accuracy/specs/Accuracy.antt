-- How good the sine and the cosine are. Document 02, request 4:
-- "For every finite x with size at most 4, the sine is to be shown within 2^-45 of the exact sum of the terms (-1)^j × x^(2j+1) / (2j+1)! for j = 0 to 20,
--  taken as a fraction of whole numbers; the cosine likewise with x^(2j) / (2j)!."
-- Statements only: `SinesGood` and `CosinesGood` at the end, which proofs/Shown.antt proves (`sin-good`, `cos-good`). `sin` and `cos` are the definitions of `float`, which its functions are proved equal to.
-- All numbers here are whole. The least f64 above zero is 2 ^ -1074, a unit; every finite f64 is a whole number of units, with a sign.
-- `HasValue x negative X (2 ^ 1074)` says that x is X / 2 ^ 1074, or - X / 2 ^ 1074 where `negative` is true; an infinity or a NaN is no such fraction.
use Rattle.std.specs.Prelude.{◌≡◌, ℕ, zero, suc, ◌+◌, ◌-◌, ◌*◌, ◌/◌, ◌%◌, ◌^◌, ◌≤◌, Bool, true, false, not, cond, T, eqb, Float}
use Rattle.std.specs.Bool.{beq}
use Rattle.std.specs.Float.{binary64}
use Rattle.std.specs.Float.Ieee.{fits}
use Rattle.std.specs.Float.Ieee.Exact.{HasValue}
use Rattle.float.specs.Number.{is_finite}
use Rattle.float.specs.Sine.{fact, sin, cos}

-- "within 2^-45" is within 1 / `bound`
abbrev pub bound : ℕ
bound = 2 ^ 45

-- "for j = 0 to 20"
abbrev pub terms : ℕ
terms = 21

-- what every fraction here is over: 41 ! * (2 ^ 1074) ^ 41
abbrev pub whole : ℕ
whole = fact 41 * (2 ^ 1074) ^ 41

-- Y / 2 ^ 1074 as a number over `whole`
abbrev pub units_over : ℕ → ℕ
units_over Y = Y * (fact 41 * (2 ^ 1074) ^ 40)

-- (X / 2 ^ 1074) ^ i / i ! as a number over `whole`; i is at most 41
unfoldable pub term_over : ℕ → ℕ → ℕ
unfolding fact
term_over i X = fact 41 / fact i * (2 ^ 1074) ^ (41 - i) * X ^ i

-- of the m terms x ^ (2 j + o) / (2 j + o) ! from j on, for x = X / 2 ^ 1074: the sum of those with an even j, where (-1) ^ j is 1, if `even` is true, and else of those with an odd j, where it is -1
unfoldable pub part : Bool → ℕ → ℕ → ℕ → ℕ → ℕ
unfolding term_over
part even o zero j X = 0
part even o (suc m) j X = cond (beq even (eqb (j % 2) 0)) (term_over (2 * j + o) X) 0 + part even o m (suc j) X

-- y is finite, and |y - (p - n) / whole| is at most 1 / bound: times bound * whole, and with what is taken away on the other side
pub record Close (y : Float) (p n : ℕ) : Type 0 where
  pub negative : Bool
  pub units : ℕ
  pub value : HasValue y negative units (2 ^ 1074)
  pub above : bound * (units_over (cond negative 0 units) + n) ≤ bound * (p + units_over (cond negative units 0)) + whole
  pub below : bound * (p + units_over (cond negative units 0)) ≤ bound * (units_over (cond negative 0 units) + n) + whole

-- x is units / 2 ^ 1074, or the opposite where it is negative. If its size is at most 4, the sine is close to the sum of (-1) ^ j * x ^ (2 j + 1) / (2 j + 1) !, j = 0 to 20.
-- For a negative x each of these odd powers has the other sign
pub record SinGood (x : Float) : Type 0 where
  pub negative : Bool
  pub units : ℕ
  pub value : HasValue x negative units (2 ^ 1074)
  pub close : units ≤ 4 * 2 ^ 1074 → Close (sin x) (part (not negative) 1 terms 0 units) (part negative 1 terms 0 units)

-- likewise, the cosine is close to the sum of (-1) ^ j * x ^ (2 j) / (2 j) !, j = 0 to 20. Even powers have no sign
pub record CosGood (x : Float) : Type 0 where
  pub negative : Bool
  pub units : ℕ
  pub value : HasValue x negative units (2 ^ 1074)
  pub close : units ≤ 4 * 2 ^ 1074 → Close (cos x) (part true 0 terms 0 units) (part false 0 terms 0 units)

-- "For every finite x with size at most 4, the sine": `fits binary64 x` says that x is an f64
abbrev pub SinesGood : Type 0
SinesGood = (x : Float) → T (fits binary64 x) → is_finite x ≡ true → SinGood x

-- "the cosine likewise"
abbrev pub CosinesGood : Type 0
CosinesGood = (x : Float) → T (fits binary64 x) → is_finite x ≡ true → CosGood x
