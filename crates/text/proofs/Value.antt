-- The decimal digits of a 64-bit number read as that number.
use Prim.Native.Nat.{ℕ, zero, suc, ◌+◌, ◌*◌, ◌-◌, ◌/◌, ◌%◌, ◌^◌, ◌<◌}
use mathlib.Core.Path.{◌≡◌, refl}
use mathlib.Core.Bool.{Bool, true, false, cond}
use mathlib.Core.List.{List, [], ◌∷◌, ◌++◌}
use native.Mathlib.Nat.{div-add-mod, mod-lt, pow-succ'}
use native.Mathlib.Omega.{arith}
use borrow.Author.Tests.{lt-ltb, ltb-true}
use lib.Dec.{ltb}
use Rattle.text.specs.Text.{glyph, digits, places, decimal}

-- the number that digits stand for, after those that stand for n
abbrev pub reads : ℕ → List ℕ → ℕ
reads n [] = n
reads n (d ∷ l) = reads (10 * n + (d - 48)) l

abbrev pub value : List ℕ → ℕ
value l = reads 0 l

reads_last : (n : ℕ) (l : List ℕ) (d : ℕ) → reads n (l ++ (d ∷ [])) ≡ 10 * reads n l + (d - 48)
reads_last n [] d = refl
reads_last n (c ∷ l) d = reads_last (10 * n + (c - 48)) l d

glyph_value : (n : ℕ) → glyph (n % 10) - 48 ≡ n % 10
glyph_value n = let h : n % 10 < 10 = mod-lt n (omega arith) in rw (lt-ltb (n % 10) 10 h) (omega arith)

tenth : (k n : ℕ) → n < 10 ^ suc k → n / 10 < 10 ^ k
tenth k n h = omega (arith, pow-succ' 10 k)

digits_value : (k n : ℕ) → n < 10 ^ k → value (digits 10 k n) ≡ n
unfolding digits
digits_value zero n h = omega arith
digits_value (suc k) n h =
    rw (reads_last 0 (digits 10 k (n / 10)) (glyph (n % 10)), digits_value k (n / 10) (tenth k n h), glyph_value n) (div-add-mod n 10)

counted : (b : Bool) (p n : ℕ) → ltb n 10 ≡ b → n / 10 < 10 ^ p → n < 10 ^ cond b 1 (suc p)
counted true p n t h = ltb-true n 10 t
counted false p n t h = rw (pow-succ' 10 p) (omega arith)

places_enough : (k n : ℕ) → n < 10 ^ suc k → n < 10 ^ places k n
unfolding places
places_enough zero n h = h
places_enough (suc k) n h = counted (ltb n 10) (places k (n / 10)) n refl (places_enough k (n / 10) (tenth (suc k) n h))

pub decimal_value : (n : ℕ) → n < 10 ^ 20 → value (decimal n) ≡ n
unfolding decimal
decimal_value n h = digits_value (places 19 n) n (places_enough 19 n h)
