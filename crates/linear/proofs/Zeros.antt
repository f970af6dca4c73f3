-- Zeros in sums and products: which of them change no bit. Assumes nothing.
use mathlib.Core.Path.{◌≡◌, refl, sym, ap, ◌∙◌, subst}
use mathlib.Core.Bool.{Bool, true, false, ◌&&◌}
use Prim.Native.Nat.{ℕ, zero, suc, ◌*◌, ◌<◌, zero-le}
use native.Mathlib.Nat.{zero-mul, mul-zero, mul-one, one-mul, mul-pos, zero-lt-suc, zero-add, add-zero, sub-zero}
use lib.IntN.{ℤ, pos}
use lib.Dec.{T}
use lib.Ieee.{Float, nan, inf, fin, binary64, up, down, unlike, round, sum, add, mul, neg, fits, of_bits}
use lib.Ieee.Fits.{up_pos, down_pos}
use lib.Ieee.Scale.{round_same, finite}
use borrow.Author.Tests.{lt-ltb, le-ltb}
use Rattle.float.specs.Num.{◌⊕◌, ◌⊗◌, nought, one}
use Rattle.scalar.proofs.Own.{round_own, unique}

abbrev pub zeroed : Bool → Float
zeroed s = fin s 0 (pos 0)

round_nought : (s : Bool) (c : ℕ) → 0 < c → round binary64 s 0 c ≡ zeroed s
unfolding fits
round_nought s c h = round_same binary64 s 0 c 0 1 h (zero-lt-suc 0) (sym (zero-mul c)) ∙ round_own s 0 (pos 0) tt

-- ---- sums with a zero
sum_left : (s t : Bool) (b c : ℕ) → 0 < b → sum binary64 s 0 t b c ≡ round binary64 t b c
unfolding sum
sum_left true true b c h = rw zero-add
sum_left true false b c h = rw (lt-ltb 0 b h, sub-zero)
sum_left false true b c h = rw (lt-ltb 0 b h, sub-zero)
sum_left false false b c h = rw zero-add

sum_right : (s t : Bool) (a c : ℕ) → 0 < a → sum binary64 s a t 0 c ≡ round binary64 s a c
unfolding sum
sum_right true true a c h = rw add-zero
sum_right true false a c h = rw (le-ltb a 0 zero-le, lt-ltb 0 a h, sub-zero)
sum_right false true a c h = rw (le-ltb a 0 zero-le, sub-zero)
sum_right false false a c h = rw add-zero

sum_zeros : (s t : Bool) (c : ℕ) → 0 < c → sum binary64 s 0 t 0 c ≡ zeroed (s && t)
unfolding sum
sum_zeros true true c h = round_nought true c h
sum_zeros true false c h = round_nought false c h
sum_zeros false true c h = round_nought false c h
sum_zeros false false c h = round_nought false c h

-- a zero is written in one way
a_zero : (s : Bool) (e : ℤ) → T (fits binary64 (fin s 0 e)) → fin s 0 e ≡ zeroed s
unfolding fits
a_zero s e f = unique s 0 e 0 (pos 0) f tt (simp zero-mul)

left_own : (s t : Bool) (n : ℕ) (d : ℤ) → T (fits binary64 (fin t (suc n) d)) → zeroed s ⊕ fin t (suc n) d ≡ fin t (suc n) d
unfolding add
left_own s t n d f = simp (zero-mul, mul-one, one-mul) (sum_left s t (suc n * up d) (down d) (mul-pos (zero-lt-suc n) (up_pos d)) ∙ round_own t (suc n) d f)

right_own : (s t : Bool) (m : ℕ) (e : ℤ) → T (fits binary64 (fin s (suc m) e)) → fin s (suc m) e ⊕ zeroed t ≡ fin s (suc m) e
unfolding add
right_own s t m e f = simp (zero-mul, mul-one) (sum_right s t (suc m * up e) (down e) (mul-pos (zero-lt-suc m) (up_pos e)) ∙ round_own s (suc m) e f)

add_zeros : (s t : Bool) → zeroed s ⊕ zeroed t ≡ zeroed (s && t)
unfolding add
add_zeros s t = sum_zeros s t 1 (zero-lt-suc 0)

-- ---- one value, or two zeros of any signs
pub data Near (x y : Float) : Type 0 where
  same : x ≡ y → Near x y
  zeros : (s t : Bool) → x ≡ zeroed s → y ≡ zeroed t → Near x y

reversed : {x y : Float} → Near x y → Near y x
reversed (same p) = same (sym p)
reversed (zeros s t p q) = zeros t s q p

joined : {x y z : Float} → Near x y → Near y z → Near x z
joined (same p) (same q) = same (p ∙ q)
joined (same p) (zeros s t q r) = zeros s t (p ∙ q) r
joined (zeros s t p q) (same r) = zeros s t p (sym r ∙ q)
joined (zeros s t p q) (zeros s' u q' r) = zeros s u p r

pub add_left : (s : Bool) (p : Float) → T (fits binary64 p) → Near (zeroed s ⊕ p) p
unfolding add
add_left s nan f = same refl
add_left s (inf t) f = same refl
add_left s (fin t zero d) f = zeros (s && t) t (cc (a_zero t d f, add_zeros s t)) (a_zero t d f)
add_left s (fin t (suc n) d) f = same (left_own s t n d f)

pub add_right : (t : Bool) (p : Float) → T (fits binary64 p) → Near (p ⊕ zeroed t) p
unfolding add
add_right t nan f = same refl
add_right t (inf s) f = same refl
add_right t (fin s zero e) f = zeros (s && t) s (cc (a_zero s e f, add_zeros s t)) (a_zero s e f)
add_right t (fin s (suc m) e) f = same (right_own s t m e f)

pub near_add : {x y : Float} (w : Float) → T (fits binary64 w) → Near x y → Near (x ⊕ w) (y ⊕ w)
near_add w f (same p) = same (cc)
near_add w f (zeros s t p q) =
    joined (joined (same (cc)) (add_left s w f)) (reversed (joined (same (cc)) (add_left t w f)))

-- ---- products with a zero
zero_times : (s t : Bool) (n : ℕ) (d : ℤ) → zeroed s ⊗ fin t n d ≡ zeroed (unlike s t)
unfolding mul
zero_times s t n d = simp (zero-mul, one-mul) (round_nought (unlike s t) (down d) (down_pos d))

times_zero : (s t : Bool) (m : ℕ) (e : ℤ) → fin s m e ⊗ zeroed t ≡ zeroed (unlike s t)
unfolding mul
times_zero s t m e = simp (mul-zero, mul-one) (round_nought (unlike s t) (down e) (down_pos e))

zeros_times : (s t : Bool) (v : Float) → Near (zeroed s ⊗ v) (zeroed t ⊗ v)
unfolding mul
zeros_times s t nan = same refl
zeros_times s t (inf r) = same refl
zeros_times s t (fin r n d) = zeros (unlike s r) (unlike t r) (zero_times s r n d) (zero_times t r n d)

times_zeros : (s t : Bool) (p : Float) → Near (p ⊗ zeroed s) (p ⊗ zeroed t)
unfolding mul
times_zeros s t nan = same refl
times_zeros s t (inf r) = same refl
times_zeros s t (fin r m e) = zeros (unlike r s) (unlike r t) (times_zero r s m e) (times_zero r t m e)

pub near_mul : {x y v w : Float} → Near x y → Near v w → Near (x ⊗ v) (y ⊗ w)
near_mul {x} {y} {v} {w} a b = joined (left a) (right b)
  where
    left : Near x y → Near (x ⊗ v) (y ⊗ v)
    left (same p) = same (cc)
    left (zeros s t p q) = joined (same (cc)) (joined (zeros_times s t v) (same (cc)))

    right : Near v w → Near (y ⊗ v) (y ⊗ w)
    right (same p) = same (cc)
    right (zeros s t p q) = joined (same (cc)) (joined (times_zeros s t y) (same (cc)))

-- ---- what is not -0 takes in a zero of either sign
abbrev pub Takes : Float → Type 0
Takes a = (t : Bool) → a ⊕ zeroed t ≡ a

pub onto : {x y : Float} (a : Float) → Takes a → Near x y → a ⊕ x ≡ a ⊕ y
onto a g (same p) = cc
onto a g (zeros s t p q) = cc (g s, g t)

-- 0 + b is such a number, and so is 1 + 0 * s
pub takes_nought : (b : Float) → T (fits binary64 b) → Takes (nought ⊕ b)
unfolding add of_bits
takes_nought nan f = λ t. refl
takes_nought (inf s) f = λ t. refl
takes_nought (fin s zero d) f = subst Takes (sym (ap (λ (y : Float). nought ⊕ y) (a_zero s d f) ∙ add_zeros false s)) (add_zeros false)
takes_nought (fin s (suc n) d) f = subst Takes (sym (left_own false s n d f)) (λ t. right_own s t n d f)

pub takes_one : (s : Float) → Takes (one ⊕ nought ⊗ s)
unfolding add mul fits of_bits
takes_one nan = λ t. refl
takes_one (inf r) = λ t. refl
takes_one (fin r m e) = subst Takes (sym (ap (λ (y : Float). one ⊕ y) (zero_times false r m e) ∙ own (unlike false r))) own
  where
    own : Takes one
    own t = right_own false t 0 (pos 0) tt

add_nan : (x : Float) → x ⊕ nan ≡ nan
unfolding add
add_nan nan = refl
add_nan (inf s) = refl
add_nan (fin s m e) = refl

mul_nan : (x : Float) → x ⊗ nan ≡ nan
unfolding mul
mul_nan nan = refl
mul_nan (inf s) = refl
mul_nan (fin s m e) = refl

-- ---- x is a sum of p and of terms 0 * w: where w is finite it is p, but for the sign of a zero, and else it is a NaN.
-- The Bool says whether w is finite
pub data Like : Bool → Float → Float → Type 0 where
  kept : {x p : Float} → Near x p → Like true x p
  lost : {x p : Float} → x ≡ nan → Like false x p

-- a term 0 * w, or a sum of such
abbrev pub Null : Bool → Float → Type 0
Null b n = Like b n nought

pub null_left : (w : Float) → Null (finite w) (nought ⊗ w)
unfolding mul of_bits
null_left nan = lost refl
null_left (inf s) = lost refl
null_left (fin s m e) = kept (zeros (unlike false s) false (zero_times false s m e) refl)

pub null_right : (w : Float) → Null (finite w) (w ⊗ nought)
unfolding mul of_bits
null_right nan = lost refl
null_right (inf s) = lost refl
null_right (fin s m e) = kept (zeros (unlike s false) false (times_zero s false m e) refl)

pub finite_neg : (w : Float) → finite (neg w) ≡ finite w
unfolding neg
finite_neg nan = refl
finite_neg (inf s) = refl
finite_neg (fin s m e) = refl

near_zero : {n : Float} → Near n nought → (t : Bool) × (n ≡ zeroed t)
unfolding of_bits
near_zero (same p) = (false, p)
near_zero (zeros s t p q) = (s, p)

pub before : {b : Bool} (p : Float) {n : Float} → T (fits binary64 p) → Null b n → Like b (n ⊕ p) p
unfolding add
before p f (kept h) = let z = near_zero h in kept (joined (same (ap (λ (y : Float). y ⊕ p) z.1)) (add_left z.0 p f))
before p f (lost h) = lost (ap (λ (y : Float). y ⊕ p) h)

pub after : {b : Bool} (x : Float) {n : Float} → T (fits binary64 x) → Null b n → Like b (x ⊕ n) x
after x f (kept h) = let z = near_zero h in kept (joined (same (ap (λ (y : Float). x ⊕ y) z.1)) (add_right z.0 x f))
after x f (lost h) = lost (ap (λ (y : Float). x ⊕ y) h ∙ add_nan x)

pub twice : {b : Bool} {x y p : Float} → Like b x y → Like b y p → Like b x p
twice (kept g) (kept h) = kept (joined g h)
twice (lost g) h = lost g

-- such a sum times v is p times (v + 0 * w), once it is added to what takes in a zero
times_lost : {x y : Float} (v p : Float) → x ≡ nan → y ≡ nan → x ⊗ v ≡ p ⊗ y
unfolding mul
times_lost v p g h = cc (mul_nan p)

times : {b : Bool} (v p : Float) {x y : Float} → Like b x p → Like b y v → Near (x ⊗ v) (p ⊗ y)
times v p (kept g) (kept h) = near_mul g (reversed h)
times v p (lost g) (lost h) = same (times_lost v p g h)

pub entry : (a w v : Float) {x p : Float} → Takes a → T (fits binary64 v) → Like (finite w) x p → a ⊕ x ⊗ v ≡ a ⊕ p ⊗ (v ⊕ nought ⊗ w)
entry a w v {x} {p} g f h = onto a g (times v p h (after v f (null_left w)))
