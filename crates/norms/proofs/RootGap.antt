-- How far apart the square roots of two numbers come out, told from the numbers alone. The steps of 2 ^ -21 up to 2 ^ 53 of them are values of an f64,
-- and rounding passes no value: a root that lies between two steps comes out between them, or at one of them.
use Prim.Native.Nat.{ℕ, zero, suc, ◌+◌, ◌-◌, ◌*◌, ◌/◌, ◌^◌, ◌≤◌, ◌<◌, min}
use native.Mathlib.Nat.{le_trans, le_of_eq, le_of_lt, lt_of_lt_of_le, lt_of_le_of_lt, lt_of_not-le, mul_comm, mul_assoc, mul_left_comm, mul_right_comm, mul-mul-mul_comm, add-mul, mul-le-mul_right, mul-lt-mul_of_pos_right, le_of_mul-le-mul_right, mul-pos, le-div_iff_mul-le, div-lt_iff_lt-mul}
use native.Mathlib.Omega.{arith}
use mathlib.Core.Path.{◌≡◌, refl, sym, ap, subst, ◌∙◌}
use mathlib.Core.Bool.{Bool, true, false, cond, ◌&&◌, ◌||◌, true≢false, false≢true}
use lib.IntN.{ℤ, pos}
use lib.Dec.{T, ltb, eqb, eqb→eq, lit<, lit≤}
use lib.Pow.{pow-add, pow_pos}
use lib.Ieee.{Float, nan, inf, fin, binary64, up, down, odd, units, round, sum, add, sub, neg, below, level, lt, eq, le, size, of_bits, is_nan}
use lib.Ieee.Exact.{HasValue, round_exact}
use lib.Ieee.Fits.{down_pos}
use lib.Ieee.Nearest.{closest}
use lib.Ieee.Order.{round_mono}
use lib.Ieee.Positive.{positive}
use borrow.Author.Tests.{ltb-true, ltb-false, le-ltb}
use Rattle.float.specs.Num.{◌⊖◌, nought, one}
use Rattle.float.specs.Number.{abs}
use Rattle.root.specs.Root.{WholeRoot, square, whole_root, in_halves, rounded, scaled, sqrt}
use Rattle.float.specs.Size.{Unsigned}
use Rattle.root.proofs.Decode.{sqrt_open, neg_round, is_positive}
use Rattle.root.proofs.Power.{squares, least, most}
use Rattle.root.proofs.Whole.{twice, whole_root_is}
use Rattle.root.proofs.Squares.{square_suc}
use Rattle.norms.specs.Norms.{below_tolerance, above_tolerance, Near, Far}
use Rattle.norms.specs.Norms as norms
use Rattle.norms.proofs.Fractions.{quotient_low, quotient_high, up_to, away}
use Rattle.scalar.proofs.Order.{by_test, lt_one_way, lt_through}

-- ---- the powers of two that the tests of src/ compare with, by their bits as there
abbrev pub two^-42 : Float
two^-42 = of_bits binary64 0x3d50_0000_0000_0000

abbrev pub two^-21 : Float
two^-21 = of_bits binary64 0x3ea0_0000_0000_0000

abbrev pub two^-17 : Float
two^-17 = of_bits binary64 0x3ee0_0000_0000_0000

abbrev pub two^-7 : Float
two^-7 = of_bits binary64 0x3f80_0000_0000_0000

abbrev pub two^20 : Float
two^20 = of_bits binary64 0x4130_0000_0000_0000

abbrev pub two^60 : Float
two^60 = of_bits binary64 0x43b0_0000_0000_0000

-- ---- comparisons
is_true : (t : Bool) → T t → t ≡ true
is_true true h = refl
is_true false h = absurd h

both : (p q : Bool) → p && q ≡ true → (p ≡ true) × (q ≡ true)
both true true h = (refl, refl)
both true false h = absurd (false≢true h)
both false q h = absurd (false≢true h)

equal : (a b : ℕ) → eqb a b ≡ true → a ≡ b
equal a b h = eqb→eq a b (subst T (sym h) tt)

level_not_below : (s t : Bool) (a b : ℕ) → level s a t b ≡ true → below t b s a ≡ false
level_not_below false false a b h = le-ltb b a (le_of_eq (equal a b (both (eqb a b) true h).0))
level_not_below false true a b h =
    let w = both (eqb a b) (eqb a 0) h in
    let e = equal a b w.0 in
    let z = equal a 0 w.1 in
    let k : b + a ≤ 0 = omega arith in
    le-ltb 0 (b + a) k
level_not_below true false a b h = refl
level_not_below true true a b h = le-ltb a b (le_of_eq (sym (equal a b (both (eqb a b) true h).0)))

eq_not_lt : (x y : Float) → eq x y ≡ true → lt y x ≡ false
unfolding eq lt
eq_not_lt nan y h = absurd (false≢true h)
eq_not_lt (inf s) nan h = refl
eq_not_lt (inf true) (inf true) h = refl
eq_not_lt (inf true) (inf false) h = refl
eq_not_lt (inf false) (inf true) h = absurd (false≢true h)
eq_not_lt (inf false) (inf false) h = refl
eq_not_lt (inf s) (fin t n d) h = absurd (false≢true h)
eq_not_lt (fin s m e) nan h = refl
eq_not_lt (fin s m e) (inf t) h = absurd (false≢true h)
eq_not_lt (fin s m e) (fin t n d) h = level_not_below s t (m * up e * down d) (n * up d * down e) h

pub le_not_lt : (x y : Float) → T (le x y) → lt y x ≡ false
unfolding le
le_not_lt x y h =
    by_test (lt x y) (λ t. lt_one_way x y t)
    (λ t. by_test (eq x y) (λ e. eq_not_lt x y e) (λ e. absurd (rw (t, e) at h)))

-- ---- values
-- x is finite, +0 or more, and from l to h steps of 1 / D
abbrev Between : ℕ → ℕ → ℕ → Float → Type 0
Between D l h nan = ⊥
Between D l h (inf s) = ⊥
Between D l h (fin s m e) = (s ≡ false) × (l * down e ≤ m * up e * D) × (m * up e * D ≤ h * down e)

of_test : (a b : ℕ) → T (ltb a b || (eqb a b && true)) → a ≤ b
of_test a b h =
    by_test (ltb a b) (λ t. le_of_lt (ltb-true a b t))
    (λ t. by_test (eqb a b) (λ e. le_of_eq (equal a b e)) (λ e. absurd (rw (t, e) at h)))

-- x over y by cross products, where one of them is a known fraction
under : (D h m n : ℕ) (e d : ℤ) → m * up e * down d ≤ n * up d * down e → n * up d * D ≡ h * down d → m * up e * D ≤ h * down e
under D h m n e d g v =
    le_of_mul-le-mul_right
    (le_trans (le_of_eq (mul_right_comm (m * up e) D (down d)))
    (le_trans (mul-le-mul_right D g)
    (le_of_eq (mul_right_comm (n * up d) (down e) D ∙ ap (λ (z : ℕ). z * down e) v ∙ mul_right_comm h (down d) (down e)))))
    (down_pos d)

over : (D l m n : ℕ) (e d : ℤ) → m * up e * down d ≤ n * up d * down e → m * up e * D ≡ l * down e → l * down d ≤ n * up d * D
over D l m n e d g v =
    le_of_mul-le-mul_right
    (le_trans (le_of_eq (mul_right_comm l (down d) (down e) ∙ ap (λ (z : ℕ). z * down d) (sym v) ∙ mul_right_comm (m * up e) D (down d)))
    (le_trans (mul-le-mul_right D g) (le_of_eq (mul_right_comm (n * up d) (down e) D))))
    (down_pos e)

between : (D l h : ℕ) (x z y : Float) → Unsigned z → HasValue x false l D → HasValue y false h D → T (le x z) → T (le z y) → Between D l h z
unfolding le
between D l h nan z y u v w p q = absurd v
between D l h (inf s) z y u v w p q = absurd v
between D l h (fin true i c) z y u v w p q = absurd (true≢false v.0)
between D l h (fin false i c) nan y u v w p q = absurd u
between D l h (fin false i c) (inf true) y u v w p q = absurd (true≢false u)
between D l h (fin false i c) (inf false) nan u v w p q = absurd w
between D l h (fin false i c) (inf false) (inf t) u v w p q = absurd w
between D l h (fin false i c) (inf false) (fin t n d) u v w p q = absurd q
between D l h (fin false i c) (fin true m e) y u v w p q = absurd (true≢false u)
between D l h (fin false i c) (fin false m e) nan u v w p q = absurd w
between D l h (fin false i c) (fin false m e) (inf t) u v w p q = absurd w
between D l h (fin false i c) (fin false m e) (fin true n d) u v w p q = absurd (true≢false w.0)
between D l h (fin false i c) (fin false m e) (fin false n d) u v w p q = (
  refl,
  over D l i m c e (of_test (i * up c * down e) (m * up e * down c) p) v.1,
  under D h m n e d (of_test (m * up e * down d) (n * up d * down e) q) w.1,
)

-- ---- what `round` gives
odd_plain : (d q k l : ℕ) → Unsigned (odd d false q k l)
unfolding odd
odd_plain d zero k l = refl
odd_plain d (suc q) k l = refl

units_plain : (q k : ℕ) → Unsigned (units binary64 false q k)
unfolding units
units_plain q k = go (ltb (q * 2 ^ k) (2 ^ 2098))
  where
    go : (b : Bool) → Unsigned (cond b (odd 54 false q k 1074) (inf false))
    go true = odd_plain 54 q k 1074
    go false = refl

round_plain : (a b : ℕ) → Unsigned (round binary64 false a b)
unfolding round
round_plain a b = let k = size (a * 2 ^ 1074 / b) - 53 in units_plain (closest (a * 2 ^ 1074) (b * 2 ^ k)) k

-- a number of steps is a value
step_value : (g : ℕ) → g < 2 ^ 53 → HasValue (round binary64 false g (2 ^ 21)) false g (2 ^ 21)
step_value g h =
    round_exact binary64 false g (2 ^ 21) g 1053 (pow_pos 21) h
    (lt_of_lt_of_le (mul-lt-mul_of_pos_right h (pow_pos 1053)) (lit≤ tt))
    (ap (λ (x : ℕ). g * x) (pow-add 2 1053 21) ∙ sym (mul_assoc g (2 ^ 1053) (2 ^ 21)))

round_between : (a b l h : ℕ) → 0 < b → l * b ≤ a * 2 ^ 21 → a * 2 ^ 21 ≤ h * b → l < 2 ^ 53 → h < 2 ^ 53 → Between (2 ^ 21) l h (round binary64 false a b)
round_between a b l h B p q u v =
    between (2 ^ 21) l h (round binary64 false l (2 ^ 21)) (round binary64 false a b) (round binary64 false h (2 ^ 21)) (round_plain a b)
    (step_value l u)
    (step_value h v)
    (round_mono binary64 l (2 ^ 21) a b (pow_pos 21) B p)
    (round_mono binary64 a b h (2 ^ 21) B (pow_pos 21) q)

-- ---- roots
-- the whole number of steps of 2 ^ -42
abbrev pub steps : Float → ℕ
steps x = scaled 42 x

finer_low : (n p k : ℕ) → 0 < p → n / p * 2 ^ k ≤ n * 2 ^ k / p
finer_low n p k P =
    (le-div_iff_mul-le P).1
    (le_trans (le_of_eq (mul_right_comm (n / p) (2 ^ k) p)) (mul-le-mul_right (2 ^ k) (quotient_low n p)))

finer_high : (n p k : ℕ) → 0 < p → n * 2 ^ k / p < (n / p + 1) * 2 ^ k
finer_high n p k P =
    (div-lt_iff_lt-mul P).1
    (lt_of_lt_of_le (mul-lt-mul_of_pos_right (quotient_high n p P) (pow_pos k)) (le_of_eq (mul_right_comm (n / p + 1) p (2 ^ k))))

-- squares of steps of 2 ^ -21 are whole numbers of steps of 2 ^ -42
squared : (l : ℕ) → l * 2 ^ 1053 * (l * 2 ^ 1053) ≡ l * l * 2 ^ 2106
squared l = mul-mul-mul_comm l (2 ^ 1053) l (2 ^ 1053) ∙ ap (λ (x : ℕ). l * l * x) (sym (pow-add 2 1053 1053))

halves : (l A B : ℕ) → l * (2 * A * B) ≡ 2 * (l * A) * B
halves l A B = sym (mul_assoc l (2 * A) B) ∙ ap (λ (x : ℕ). x * B) (mul_left_comm l 2 A)

root_between : (x : Float) → T (positive x) → (l h : ℕ) → l * l ≤ steps x → steps x < h * h → l < 2 ^ 53 → h < 2 ^ 53 → Between (2 ^ 21) l h (sqrt x)
unfolding rounded
root_between nan p l h u v i j = absurd p
root_between (inf s) p l h u v i j = absurd p
root_between (fin true m e) p l h u v i j = absurd p
root_between (fin false m e) p l h u v i j =
    let x = fin false m e in
    let n = m * up e * 2 ^ 42 in
    let N = scaled 2148 x in
    let same : m * up e * 2 ^ 2148 ≡ n * 2 ^ 2106 = ap (λ (z : ℕ). m * up e * z) (pow-add 2 42 2106) ∙ sym (mul_assoc (m * up e) (2 ^ 42) (2 ^ 2106)) in
    let is : N ≡ n * 2 ^ 2106 / down e = ap (λ (z : ℕ). z / down e) same in
    let a : l * 2 ^ 1053 * (l * 2 ^ 1053) ≤ N = le_trans (le_of_eq (squared l)) (le_trans (mul-le-mul_right (2 ^ 2106) u) (le_trans (finer_low n (down e) 2106 (down_pos e)) (le_of_eq (sym is)))) in
    let more : (n / down e + 1) * 2 ^ 2106 ≤ h * h * 2 ^ 2106 = mul-le-mul_right (2 ^ 2106) (let w = v in omega arith) in
    let b : N ≤ h * 2 ^ 1053 * (h * 2 ^ 1053) = le_of_lt (lt_of_le_of_lt (le_of_eq is) (lt_of_lt_of_le (finer_high n (down e) 2106 (down_pos e)) (le_trans more (le_of_eq (sym (squared h)))))) in
    let S = in_halves square N in
    let t = twice squares N in
    let f : l * 2 ^ 1075 ≤ S * 2 ^ 21 = le_trans (le_of_eq (halves l (2 ^ 1053) (2 ^ 21))) (mul-le-mul_right (2 ^ 21) (t.reaches (l * 2 ^ 1053) a)) in
    let g : S * 2 ^ 21 ≤ h * 2 ^ 1075 = le_trans (mul-le-mul_right (2 ^ 21) (t.within (h * 2 ^ 1053) b)) (le_of_eq (sym (halves h (2 ^ 1053) (2 ^ 21)))) in
    subst (Between (2 ^ 21) l h) (sym (sqrt_open x p)) (round_between S (2 ^ 1075) l h (pow_pos 1075) f g i j)

-- ---- differences
abbrev gap : ℕ → ℕ → ℕ
gap a b = a - b + (b - a)

abs_plain : (x : Float) → Unsigned x → abs x ≡ x
abs_plain nan u = absurd u
abs_plain (inf s) u = ap inf (sym u)
abs_plain (fin s m e) u = ap (λ (t : Bool). fin t m e) (sym u)

abs_neg : (x : Float) → abs (neg x) ≡ abs x
unfolding neg
abs_neg nan = refl
abs_neg (inf s) = refl
abs_neg (fin s m e) = refl

abs_round : (a c : ℕ) → abs (round binary64 true a c) ≡ round binary64 false a c
abs_round a c = ap abs (sym (neg_round binary64 a c)) ∙ abs_neg (round binary64 false a c) ∙ abs_plain (round binary64 false a c) (round_plain a c)

abs_sub : (m : ℕ) (e : ℤ) (n : ℕ) (d : ℤ)
    → abs (fin false m e ⊖ fin false n d) ≡ round binary64 false (gap (m * up e * down d) (n * up d * down e)) (down e * down d)
unfolding sub add neg sum
abs_sub m e n d =
    let A = m * up e * down d in
    let B = n * up d * down e in
    let c = down e * down d in
    by_test (ltb A B)
    (λ t.
    let l = ltb-true A B t in
    let z : gap A B ≡ B - A = omega arith in
    rw (t, z) (abs_round (B - A) c))
    (λ t.
    let l = ltb-false A B t in
    let z : gap A B ≡ A - B = omega arith in
    rw (t, z) (abs_plain (round binary64 false (A - B) c) (round_plain (A - B) c)))

abbrev cross : ℕ → ℤ → ℤ → ℕ
cross m e d = m * up e * down d

-- the bounds of one fraction, over the other's denominator too
spread_low : (l m : ℕ) (e d : ℤ) → l * down e ≤ m * up e * 2 ^ 21 → l * (down e * down d) ≤ cross m e d * 2 ^ 21
spread_low l m e d h = le_trans (le_of_eq (sym (mul_assoc l (down e) (down d)))) (le_trans (mul-le-mul_right (down d) h) (le_of_eq (mul_right_comm (m * up e) (2 ^ 21) (down d))))

spread_high : (h m : ℕ) (e d : ℤ) → m * up e * 2 ^ 21 ≤ h * down e → cross m e d * 2 ^ 21 ≤ h * (down e * down d)
spread_high h m e d g = le_trans (le_of_eq (mul_right_comm (m * up e) (down d) (2 ^ 21))) (le_trans (mul-le-mul_right (down d) g) (le_of_eq (mul_assoc h (down e) (down d))))

close : (A B l c : ℕ) → l * c ≤ A * 2 ^ 21 → A * 2 ^ 21 ≤ (l + 2) * c → l * c ≤ B * 2 ^ 21 → B * 2 ^ 21 ≤ (l + 2) * c → gap A B * 2 ^ 20 ≤ 1 * c
close A B l c p q r s = let e = add-mul l 2 c in omega arith

apart : (A B l c : ℕ) → A * 2 ^ 21 ≤ (l + 1) * c → (l + 4) * c ≤ B * 2 ^ 21 → 3 * c ≤ gap A B * 2 ^ 21
apart A B l c p q = let e = add-mul l 1 c in let f = add-mul l 4 c in omega arith

apart_back : (A B l c : ℕ) → A * 2 ^ 21 ≤ (l + 1) * c → (l + 4) * c ≤ B * 2 ^ 21 → 3 * c ≤ gap B A * 2 ^ 21
apart_back A B l c p q = let e = add-mul l 1 c in let f = add-mul l 4 c in omega arith

swap : (e d : ℤ) → down e * down d ≡ down d * down e
swap e d = mul_comm (down e) (down d)

near_apart : (l : ℕ) (x y : Float) → Between (2 ^ 21) l (l + 2) x → Between (2 ^ 21) l (l + 2) y → le (abs (x ⊖ y)) below_tolerance ≡ true
near_apart l nan y u v = absurd u
near_apart l (inf s) y u v = absurd u
near_apart l (fin s m e) nan u v = absurd v
near_apart l (fin s m e) (inf t) u v = absurd v
near_apart l (fin true m e) (fin t n d) u v = absurd (true≢false u.0)
near_apart l (fin false m e) (fin true n d) u v = absurd (true≢false v.0)
near_apart l (fin false m e) (fin false n d) u v =
    let A = cross m e d in
    let B = cross n d e in
    let c = down e * down d in
    let w = swap e d in
    let h : gap A B * 2 ^ 20 ≤ 1 * c =
    close A B l c (spread_low l m e d u.1) (spread_high (l + 2) m e d u.2)
    (le_trans (le_of_eq (ap (λ (z : ℕ). l * z) w)) (spread_low l n d e v.1))
    (le_trans (spread_high (l + 2) n d e v.2) (le_of_eq (ap (λ (z : ℕ). (l + 2) * z) (sym w)))) in
    let k = round_mono binary64 (gap A B) c 1 (2 ^ 20) (mul-pos (down_pos e) (down_pos d)) (pow_pos 20) h in
    let q : below_tolerance ≡ round binary64 false 1 (2 ^ 20) = unfold of_bits round in refl in
    rw (abs_sub m e n d, q) (is_true (le (round binary64 false (gap A B) c) (round binary64 false 1 (2 ^ 20))) k)

-- x some steps below y, and the difference taken either way
module _ (l h : ℕ) where
  far_apart : (x y : Float) → Between (2 ^ 21) l (l + 1) x → Between (2 ^ 21) (l + 4) h y → (lt (abs (x ⊖ y)) above_tolerance ≡ false) × (lt (abs (y ⊖ x)) above_tolerance ≡ false)
  far_apart nan y u v = absurd u
  far_apart (inf s) y u v = absurd u
  far_apart (fin s m e) nan u v = absurd v
  far_apart (fin s m e) (inf t) u v = absurd v
  far_apart (fin true m e) (fin t n d) u v = absurd (true≢false u.0)
  far_apart (fin false m e) (fin true n d) u v = absurd (true≢false v.0)
  far_apart (fin false m e) (fin false n d) u v =
      let A = cross m e d in
      let B = cross n d e in
      let c = down e * down d in
      let w = swap e d in
      let C = mul-pos (down_pos e) (down_pos d) in
      let p = spread_high (l + 1) m e d u.2 in
      let q = le_trans (le_of_eq (ap (λ (z : ℕ). (l + 4) * z) w)) (spread_low (l + 4) n d e v.1) in
      let is : above_tolerance ≡ round binary64 false 3 (2 ^ 21) = unfold of_bits round in refl in
      let there = round_mono binary64 3 (2 ^ 21) (gap A B) c (pow_pos 21) C (apart A B l c p q) in
      let back = round_mono binary64 3 (2 ^ 21) (gap B A) c (pow_pos 21) C (apart_back A B l c p q) in (
        rw (abs_sub m e n d, is) (le_not_lt (round binary64 false 3 (2 ^ 21)) (round binary64 false (gap A B) c) there),
        rw (abs_sub n d m e, sym w, is) (le_not_lt (round binary64 false 3 (2 ^ 21)) (round binary64 false (gap B A) c) back),
      )

-- ---- what the tests say
-- a difference below or above 1 / 2 ^ k
module _ (m n : ℕ) (e d : ℤ) (k : ℕ) where
  abbrev D : ℕ
  D = gap (cross m e d) (cross n d e)

  less : lt (abs (fin false m e ⊖ fin false n d)) (round binary64 false 1 (2 ^ k)) ≡ true → D * 2 ^ k < down e * down d
  less t =
      lt_of_not-le
      (λ (g : down e * down d ≤ D * 2 ^ k).
      let j = round_mono binary64 1 (2 ^ k) D (down e * down d) (pow_pos k) (mul-pos (down_pos e) (down_pos d)) (let i = g in omega arith) in
      let f = le_not_lt (round binary64 false 1 (2 ^ k)) (round binary64 false D (down e * down d)) j in
      true≢false (sym t ∙ rw (abs_sub m e n d) f))

  more : lt (round binary64 false 1 (2 ^ k)) (abs (fin false m e ⊖ fin false n d)) ≡ true → down e * down d < D * 2 ^ k
  more t =
      lt_of_not-le
      (λ (g : D * 2 ^ k ≤ down e * down d).
      let j = round_mono binary64 D (down e * down d) 1 (2 ^ k) (mul-pos (down_pos e) (down_pos d)) (pow_pos k) (let i = g in omega arith) in
      let f = le_not_lt (round binary64 false D (down e * down d)) (round binary64 false 1 (2 ^ k)) j in
      true≢false (sym t ∙ rw (abs_sub m e n d) f))

-- a number below or not below 2 ^ j
under_power : (m : ℕ) (e : ℤ) (j : ℕ) → lt (fin false m e) (fin false 1 (pos j)) ≡ true → steps (fin false m e) < 2 ^ j * 2 ^ 42
unfolding lt
under_power m e j t =
    let l = ltb-true (m * up e * 1) (1 * 2 ^ j * down e) t in
    let s : m * up e < 2 ^ j * down e = omega arith in
    (div-lt_iff_lt-mul (down_pos e)).1 (lt_of_lt_of_le (mul-lt-mul_of_pos_right s (pow_pos 42)) (le_of_eq (mul_right_comm (2 ^ j) (down e) (2 ^ 42))))

from_one : (m : ℕ) (e : ℤ) → lt (fin false m e) (fin false 1 (pos 0)) ≡ false → 2 ^ 42 ≤ steps (fin false m e)
unfolding lt
from_one m e t =
    let l = ltb-false (m * up e * 1) (1 * 1 * down e) t in
    let s : down e ≤ m * up e = omega arith in
    (le-div_iff_mul-le (down_pos e)).1 (le_trans (le_of_eq (mul_comm (2 ^ 42) (down e))) (mul-le-mul_right (2 ^ 42) s))

-- ---- the laws
not_infinite : (x y : Float) → lt x y ≡ true → T (lt x (inf false))
unfolding lt
not_infinite nan y t = absurd (false≢true t)
not_infinite (inf true) y t = tt
not_infinite (inf false) nan t = absurd (false≢true t)
not_infinite (inf false) (inf s) t = absurd (false≢true t)
not_infinite (inf false) (fin s n d) t = absurd (false≢true t)
not_infinite (fin s m e) y t = tt

-- what is above zero and below something
finite_number : (x y : Float) → lt nought x ≡ true → lt x y ≡ true → T (positive x)
unfolding of_bits
finite_number x y z t = is_positive x (subst T (sym z) tt) (not_infinite x y t)

-- what is above zero, at a distance below something from a finite number
near_finite : (x y c : Float) → T (positive x) → lt (abs (x ⊖ y)) c ≡ true → T (lt y (inf false))
unfolding lt sub add neg
near_finite nan y c p t = absurd p
near_finite (inf s) y c p t = absurd p
near_finite (fin s m e) nan c p t = absurd (false≢true t)
near_finite (fin s m e) (inf true) c p t = tt
near_finite (fin s m e) (inf false) c p t = absurd (not_infinite (inf false) c t)
near_finite (fin s m e) (fin u n d) c p t = tt

finite_beside : (x y c : Float) → T (positive x) → lt nought y ≡ true → lt (abs (x ⊖ y)) c ≡ true → T (positive y)
unfolding of_bits
finite_beside x y c p z t = is_positive y (subst T (sym z) tt) (near_finite x y c p t)

-- a number of steps that is n or at most R more lies from G squared to the square of G + 2
squares_around : (a n R G : ℕ) → WholeRoot square n G → n ≤ a → a ≤ n + R → R < 2 * G + 4 → (G * G ≤ a) × (a < (G + 2) * (G + 2))
squares_around a n R G r p q s =
    let low = r.low in
    let high = r.high in
    let next : G + 1 + 1 ≡ G + 2 = omega arith in
    let e = rw next at (square_suc (G + 1)) in
    (omega arith, omega arith)

-- roots whose numbers of steps are at most R apart
near_roots : (x y : Float) → T (positive x) → T (positive y) → (R : ℕ) → steps x ≤ steps y + R → steps y ≤ steps x + R → R < 2 * whole_root square (min (steps x) (steps y)) + 4 → steps x < 2 ^ 51 * 2 ^ 51 → Near x y
near_roots x y p q R i j s f =
    let n = min (steps x) (steps y) in
    let G = whole_root square n in
    let r = whole_root_is squares n in
    let small = most squares n G (2 ^ 51) r (lt_of_le_of_lt (let z : n ≤ steps x = omega arith in z) f) in
    let u = squares_around (steps x) n R G r (omega arith) (omega arith) s in
    let v = squares_around (steps y) n R G r (omega arith) (omega arith) s in
    near_apart G (sqrt x) (sqrt y)
    (root_between x p G (G + 2) u.0 u.1 (omega arith) (omega arith))
    (root_between y q G (G + 2) v.0 v.1 (omega arith) (omega arith))

-- a difference below 1 / 2 ^ k leaves at most R steps, where R of them are as much
part_less : (A B k c : ℕ) → gap A B * 2 ^ k < c → ((B - A) * 2 ^ k < c) × ((A - B) * 2 ^ k < c)
part_less A B k c h = (
  lt_of_le_of_lt (mul-le-mul_right (2 ^ k) (let z : B - A ≤ gap A B = omega arith in z)) h,
  lt_of_le_of_lt (mul-le-mul_right (2 ^ k) (let z : A - B ≤ gap A B = omega arith in z)) h,
)

module _ (m n : ℕ) (e d : ℤ) where
  abbrev x : Float
  x = fin false m e

  abbrev y : Float
  y = fin false n d

  steps_near : (R k : ℕ) → 0 < R → R * 2 ^ k ≡ 2 ^ 42 → lt (abs (x ⊖ y)) (round binary64 false 1 (2 ^ k)) ≡ true → (steps x ≤ steps y + R) × (steps y ≤ steps x + R)
  steps_near R k r is t =
      let h = part_less (cross m e d) (cross n d e) k (down e * down d) (less m n e d k t) in
      let a = up_to (m * up e) (down e) (n * up d) (down d) R k (down_pos e) (down_pos d) r h.0 in
      let b = up_to (n * up d) (down d) (m * up e) (down e) R k (down_pos d) (down_pos e) r (lt_of_lt_of_le h.1 (le_of_eq (swap e d))) in
      (rw is at b, rw is at a)

  near_small_fin : T (positive x) → T (positive y) → lt x one ≡ true → lt (abs (x ⊖ y)) two^-42 ≡ true → Near x y
  near_small_fin p q u t =
      let is : two^-42 ≡ round binary64 false 1 (2 ^ 42) = unfold of_bits round in refl in
      let h = steps_near 1 42 (lit< tt) refl (rw is at t) in
      let v = under_power m e 0 (unfold of_bits in u) in
      near_roots x y p q 1 h.0 h.1 (omega arith) (lt_of_lt_of_le v (lit≤ tt))

  near_large_fin : T (positive x) → T (positive y) → lt x one ≡ false → lt x two^60 ≡ true → lt (abs (x ⊖ y)) two^-21 ≡ true → Near x y
  near_large_fin p q l u t =
      let is : two^-21 ≡ round binary64 false 1 (2 ^ 21) = unfold of_bits round in refl in
      let h = steps_near (2 ^ 21) 21 (pow_pos 21) refl (rw is at t) in
      let i = h.0 in
      let j = h.1 in
      let o = from_one m e (unfold of_bits in l) in
      let v = under_power m e 60 (unfold of_bits in u) in
      let n = min (steps x) (steps y) in
      let g : 2 ^ 20 * 2 ^ 20 ≤ n = omega arith in
      let b = least squares n (whole_root square n) (2 ^ 20) (whole_root_is squares n) g in
      near_roots x y p q (2 ^ 21) i j (omega arith) (lt_of_lt_of_le v (lit≤ tt))

-- roots whose numbers of steps are more than R apart, and the difference taken either way
four_on : (G : ℕ) → (G + 4) * (G + 4) ≡ G * G + (8 * G + 16)
four_on G =
    let a = square_suc G in
    let b = square_suc (G + 1) in
    let c = square_suc (G + 1 + 1) in
    let d = square_suc (G + 1 + 1 + 1) in
    let e : G + 1 + 1 + 1 + 1 ≡ G + 4 = omega arith in
    let f = rw e at d in
    omega arith

far_roots : (x y : Float) → T (positive x) → T (positive y) → (R : ℕ) → steps x + R ≤ steps y → 8 * whole_root square (steps x) + 16 ≤ R → steps y < 2 ^ 51 * 2 ^ 51 → Far x y × Far y x
far_roots x y p q R i s f =
    let G = whole_root square (steps x) in
    let H = whole_root square (steps y) in
    let r = whole_root_is squares (steps x) in
    let t = whole_root_is squares (steps y) in
    let rl = r.low in
    let rh = r.high in
    let tl = t.low in
    let th = t.high in
    let small = most squares (steps y) H (2 ^ 51) t f in
    let e = four_on G in
    let on : (G + 4) * (G + 4) ≤ steps y = omega arith in
    let up-to-it = least squares (steps y) H (G + 4) t on in
    far_apart G (H + 1) (sqrt x) (sqrt y)
    (root_between x p G (G + 1) rl rh (omega arith) (omega arith))
    (root_between y q (G + 4) (H + 1) on th (omega arith) (omega arith))

part_more : (A B k c : ℕ) → A ≤ B → c < gap A B * 2 ^ k → c < (B - A) * 2 ^ k
part_more A B k c l h = let z : gap A B ≡ B - A = omega arith in rw z at h

part_back : (A B k c : ℕ) → B ≤ A → c < gap A B * 2 ^ k → c < (A - B) * 2 ^ k
part_back A B k c l h = let z : gap A B ≡ A - B = omega arith in rw z at h

module _ (m n : ℕ) (e d : ℤ) where
  far_fin : (R k j g : ℕ) → T (positive (x m n e d)) → T (positive (y m n e d)) → R * 2 ^ k ≡ 2 ^ 42 → 8 * g + 16 ≤ R + 8 → 2 ^ j * 2 ^ 42 ≤ g * g → 2 ^ j * 2 ^ 42 ≤ 2 ^ 102 → lt (x m n e d) (fin false 1 (pos j)) ≡ true → lt (y m n e d) (fin false 1 (pos 60)) ≡ true → lt (round binary64 false 1 (2 ^ k)) (abs (x m n e d ⊖ y m n e d)) ≡ true → Far (x m n e d) (y m n e d)
  far_fin R k j g p q is s f w u v t =
      let a = steps (fin false m e) in
      let b = steps (fin false n d) in
      let h = more m n e d k t in
      let i = under_power m e j u in
      let o = under_power n d 60 v in
      by_test (ltb (cross m e d) (cross n d e))
      (λ l.
      let z : cross m e d ≤ cross n d e = le_of_lt (ltb-true (cross m e d) (cross n d e) l) in
      let c = rw is at (away (m * up e) (down e) (n * up d) (down d) R k (down_pos e) (down_pos d) (part_more (cross m e d) (cross n d e) k (down e * down d) z h)) in
      let G = most squares a (whole_root square a) g (whole_root_is squares a) (lt_of_lt_of_le i f) in
      (far_roots (fin false m e) (fin false n d) p q R c (omega arith) (lt_of_lt_of_le o (lit≤ tt))).0)
      (λ l.
      let z : cross n d e ≤ cross m e d = ltb-false (cross m e d) (cross n d e) l in
      let c = rw is at (away (n * up d) (down d) (m * up e) (down e) R k (down_pos d) (down_pos e) (lt_of_le_of_lt (le_of_eq (sym (swap e d))) (part_back (cross m e d) (cross n d e) k (down e * down d) z h))) in
      let less : b < g * g = omega arith in
      let G = most squares b (whole_root square b) g (whole_root_is squares b) less in
      (far_roots (fin false n d) (fin false m e) q p R c (omega arith) (lt_of_lt_of_le i w)).1)

-- ---- for any two numbers
by_fins : (P : Float → Float → Type 0)
    → ((m n : ℕ) (e d : ℤ) → T (positive (fin false m e)) → T (positive (fin false n d)) → P (fin false m e) (fin false n d))
    → (a b : Float)
    → T (positive a)
    → T (positive b)
    → P a b
by_fins P f nan b p q = absurd p
by_fins P f (inf s) b p q = absurd p
by_fins P f (fin true m e) b p q = absurd p
by_fins P f (fin false m e) nan p q = absurd q
by_fins P f (fin false m e) (inf s) p q = absurd q
by_fins P f (fin false m e) (fin true n d) p q = absurd q
by_fins P f (fin false m e) (fin false n d) p q = f m n e d p q

module _ (a b : Float) (za : lt nought a ≡ true) (zb : lt nought b ≡ true) where
  pub near_small : lt a one ≡ true → lt (abs (a ⊖ b)) two^-42 ≡ true → Near a b
  near_small u t =
      let p = finite_number a one za u in
      by_fins (λ a b. lt a one ≡ true → lt (abs (a ⊖ b)) two^-42 ≡ true → Near a b)
      (λ m n e d p q. near_small_fin m n e d p q) a b p (finite_beside a b two^-42 p zb t) u t

  pub near_large : lt a one ≡ false → lt a two^60 ≡ true → lt (abs (a ⊖ b)) two^-21 ≡ true → Near a b
  near_large l u t =
      let p = finite_number a two^60 za u in
      by_fins
      (λ a b. lt a one ≡ false → lt a two^60 ≡ true → lt (abs (a ⊖ b)) two^-21 ≡ true → Near a b)
      (λ m n e d p q. near_large_fin m n e d p q) a b p (finite_beside a b two^-21 p zb t) l u t

  module _ (v : lt b two^60 ≡ true) where
    abbrev q : T (positive b)
    q = finite_number b two^60 zb v

    pub far_small : lt a one ≡ true → lt two^-17 (abs (a ⊖ b)) ≡ true → Far a b
    far_small u t =
        by_fins (λ a b. lt b two^60 ≡ true → lt a one ≡ true → lt two^-17 (abs (a ⊖ b)) ≡ true → Far a b)
        (λ m n e d p q v u t. unfold of_bits round in far_fin m n e d (2 ^ 25) 17 0 (2 ^ 21) p q refl (lit≤ tt) (lit≤ tt) (lit≤ tt) u v t) a b (finite_number a one za u) q v u t

    pub far_large : lt a two^20 ≡ true → lt two^-7 (abs (a ⊖ b)) ≡ true → Far a b
    far_large u t =
        by_fins (λ a b. lt b two^60 ≡ true → lt a two^20 ≡ true → lt two^-7 (abs (a ⊖ b)) ≡ true → Far a b)
        (λ m n e d p q v u t. unfold of_bits round in far_fin m n e d (2 ^ 35) 7 20 (2 ^ 31) p q refl (lit≤ tt) (lit≤ tt) (lit≤ tt) u v t) a b (finite_number a two^20 za u) q v u t

-- ---- what they say of a distance d and a tolerance
as_test : (t : Bool) → t ≡ true → T t
as_test true h = tt
as_test false h = absurd (false≢true h)

le_number : (x y : Float) → le x y ≡ true → is_nan x ≡ false
unfolding le is_nan
le_number nan y h = absurd (false≢true h)
le_number (inf s) y h = refl
le_number (fin s m e) y h = refl

module _ (d : Float) (h : le d below_tolerance ≡ true) where
  not_over : lt below_tolerance d ≡ false
  not_over = le_not_lt d below_tolerance (as_test (le d below_tolerance) h)

  pub near_not_above : (tolerance : Float) → le below_tolerance tolerance ≡ true → lt tolerance d ≡ false
  near_not_above tolerance t =
      lt_through d below_tolerance tolerance (le_number d below_tolerance h) (unfold is_nan of_bits in refl) not_over
      (le_not_lt below_tolerance tolerance (as_test (le below_tolerance tolerance) t))

  pub near_below : lt d norms.tolerance ≡ true
  near_below =
      by_test (lt d norms.tolerance) (λ t. t)
      (λ t.
      let over = lt_through norms.tolerance d below_tolerance (unfold is_nan of_bits in refl) (le_number d below_tolerance h) t not_over in
      let is : lt below_tolerance norms.tolerance ≡ true = unfold lt of_bits in refl in
      absurd (true≢false (sym is ∙ over)))

pub far_not_below : (d : Float) → lt d above_tolerance ≡ false → lt d norms.tolerance ≡ false
far_not_below d h = lt_through norms.tolerance above_tolerance d (unfold is_nan of_bits in refl) (unfold is_nan of_bits in refl) (unfold lt of_bits in refl) h
