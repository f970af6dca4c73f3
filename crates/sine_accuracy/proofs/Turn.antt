-- The reduction of an angle of size at most 4: the difference is exact, and at most 101 / 128 in size. Assumes nothing.
use mathlib.Core.Path.{◌≡◌, refl, sym, ap, ◌∙◌, subst}
use Prim.Native.Nat.{ℕ, ◌+◌, ◌-◌, ◌*◌, ◌/◌, ◌^◌, ◌≤◌, ◌<◌}
use native.Mathlib.Nat.{le_trans, le_of_eq, le_refl, lt_of_le_of_lt, lt_of_lt_of_le, lt_of_not-le, not-le_of_lt, mul-one, mul_comm, mul_assoc, mul_left_comm, mul_right_comm, mul-mul-mul_comm, add-mul, mul-pos, mul-le-mul, mul-le-mul_right, mul-lt-mul_of_pos_right, lt_of_mul-lt-mul_right, le_of_mul-le-mul_right, eq_of_mul-eq-mul_right, div-mul-le_self, lt-div-mul-add}
use native.Mathlib.Omega.{arith}
use mathlib.Core.Bool.{Bool, true, false, not, cond}
use lib.IntN.{ℤ, pos, neg_ℤ}
use lib.Dec.{T, lit≤, lit<}
use lib.Pow.{pow-add, pow_pos, pow_mono}
use lib.Ieee.{Float, nan, inf, fin, binary64, up, down, unlike, round, div, fits, of_bits}
use lib.Ieee.Fits.{down_pos}
use lib.Ieee.Digits.{back}
use lib.Ieee.Exact.{HasValue, round_exact}
use lib.Ieee.Scale.{round_same}
use lib.Ieee.Scale as S
use Rattle.float.specs.Num.{frac_pi_2, ◌⊘◌, ◌⊕◌}
use Rattle.float.specs.Sine.{nearest_whole}
use Rattle.scalar.proofs.Own as own
use Rattle.float.proofs.Units.{Off, grid_off, round_value}
use Rattle.sine_accuracy.proofs.Ops.{Val, plus, minus, total, whole_range, sub_mul, off_cancel}
use Rattle.sine_accuracy.proofs.Poly.{◌⊞◌, Same}
use Rattle.sine_accuracy.proofs.Sums.{as_diff}

-- ---- a number of units that is a value rounds to itself
one_value : (y : Float) (s : Bool) (a b U : ℕ) → HasValue y s a U → HasValue y s b U → a ≡ b
one_value nan s a b U v w = absurd v
one_value (inf t) s a b U v w = absurd v
one_value (fin t m e) s a b U v w = eq_of_mul-eq-mul_right (down e) (down_pos e) a b (sym v.1 ∙ w.1)

pub record Held53 (D : ℕ) : Type 0 where
  pub digits : ℕ
  pub power : ℕ
  pub few : digits < 2 ^ 53
  pub is : D ≡ digits * 2 ^ power

pub grid_held : (D : ℕ) → Held53 D → D ≤ 2 ^ 22 * 2 ^ 1074 → S.grid binary64 D (2 ^ 1074) ≡ D
grid_held D h k =
    let U = 2 ^ 1074 in
    let q = h.digits in
    let j = h.power in
    let under : D < 2 ^ 2098 = lt_of_le_of_lt k (lit< tt) in
    one_value (round binary64 false D U) false (S.grid binary64 D U) D U (round_value false D U (whole_range D k))
    (round_exact binary64 false D U q j (lit< tt) h.few (subst (λ (x : ℕ). x < 2 ^ 2098) h.is under) (ap (λ (x : ℕ). x * U) h.is))

-- ---- a value that fits, in units
pub units_form : (s : Bool) (m : ℕ) (e : ℤ) (X : ℕ) → T (fits binary64 (fin s m e)) → Val (fin s m e) s X → Held53 X
units_form s m e X t v =
    let f = own.fitting s m e t in
    let g = own.grid e f.fine in
    record {
      digits = m;
      power = g.0;
      few = f.few;
      is = eq_of_mul-eq-mul_right (down e) (down_pos e) X (m * 2 ^ g.0) (sym v.1 ∙ mul_assoc m (up e) (2 ^ 1074) ∙ ap (λ (x : ℕ). m * x) g.1 ∙ sym (mul_assoc m (2 ^ g.0) (down e)));
    }

-- from 1/2 on it is a whole number of 2 ^ -53
pub coarse : (X : ℕ) → Held53 X → 2 ^ 1073 ≤ X → (a : ℕ) × (X ≡ a * 2 ^ 1021)
coarse X h k =
    let m = h.digits in
    let j = h.power in
    let far : 1021 ≤ j = enough m j h.few (subst (λ (x : ℕ). 2 ^ 1073 ≤ x) h.is k) in
    (m * 2 ^ (j - 1021), h.is ∙ ap (λ (x : ℕ). m * 2 ^ x) (sym (back j 1021 far)) ∙ ap (λ (x : ℕ). m * x) (pow-add 2 (j - 1021) 1021) ∙ sym (mul_assoc m (2 ^ (j - 1021)) (2 ^ 1021)))
  where
    enough : (m j : ℕ) → m < 2 ^ 53 → 2 ^ 1073 ≤ m * 2 ^ j → 1021 ≤ j
    enough m j f k = lt_of_not-le (λ (g : j ≤ 1020). not-le_of_lt (lt_of_lt_of_le (mul-lt-mul_of_pos_right f (pow_pos j)) (le_trans (mul-le-mul (le_refl (2 ^ 53)) (pow_mono {i = j} {j = 1020} g)) (lit≤ tt))) k)

-- ---- the quotient's nearest whole number
pub record Nearest (y : Float) (s : Bool) (Q : ℕ) : Type 0 where
  pub count : ℕ
  pub is : nearest_whole y ≡ cond s (neg_ℤ (pos count)) (pos count)
  pub most : 2 * Q ≤ 2 * (count * 2 ^ 1074) + 2 ^ 1074
  pub least : 2 * (count * 2 ^ 1074) ≤ 2 * Q + 2 ^ 1074

pub nearest_is : (y : Float) (s : Bool) (Q : ℕ) → Val y s Q → Nearest y s Q
unfolding nearest_whole
nearest_is nan s Q v = absurd v
nearest_is (inf t) s Q v = absurd v
nearest_is (fin t m e) s Q v =
    let a = m * up e in
    let b = down e in
    let i = (2 * a + b - 1) / (2 * b) in
    record {
      count = i;
      is = ap (λ (z : Bool). cond z (neg_ℤ (pos i)) (pos i)) v.0;
      most = upper (2 ^ 1074) a b i Q (down_pos e) v.1 (lt-div-mul-add {a = 2 * a + b - 1} {b = 2 * b} (twice b (down_pos e)));
      least = lower (2 ^ 1074) a b i Q (down_pos e) v.1 (div-mul-le_self (2 * a + b - 1) (2 * b));
    }
  where
    twice : (b : ℕ) → 0 < b → 0 < 2 * b
    twice b h = omega arith

    upper : (U a b i Q : ℕ) → 0 < b → a * U ≡ Q * b → 2 * a + b - 1 < i * (2 * b) + 2 * b → 2 * Q ≤ 2 * (i * U) + U
    upper U a b i Q p e h =
        let c : i * (2 * b) ≡ 2 * (i * b) = mul_left_comm i 2 b in
        let d : 2 * a ≤ 2 * (i * b) + b = omega arith in
        let f : (2 * a) * U ≤ (2 * (i * b) + b) * U = mul-le-mul_right U d in
        let g : (2 * a) * U ≡ 2 * Q * b = mul_assoc 2 a U ∙ ap (λ (x : ℕ). 2 * x) e ∙ sym (mul_assoc 2 Q b) in
        let k : (2 * (i * b) + b) * U ≡ (2 * (i * U) + U) * b =
        add-mul (2 * (i * b)) b U ∙ ap (λ (x : ℕ). x + b * U) (mul_assoc 2 (i * b) U ∙ ap (λ (x : ℕ). 2 * x) (mul_right_comm i b U) ∙ sym (mul_assoc 2 (i * U) b)) ∙ ap (λ (x : ℕ). 2 * (i * U) * b + x) (mul_comm b U) ∙ sym (add-mul (2 * (i * U)) U b) in
        le_of_mul-le-mul_right {k = b} (le_trans (le_of_eq (sym g)) (le_trans f (le_of_eq k))) p

    lower : (U a b i Q : ℕ) → 0 < b → a * U ≡ Q * b → i * (2 * b) ≤ 2 * a + b - 1 → 2 * (i * U) ≤ 2 * Q + U
    lower U a b i Q p e h =
        let c : i * (2 * b) ≡ 2 * (i * b) = mul_left_comm i 2 b in
        let d : 2 * (i * b) ≤ 2 * a + b = omega arith in
        let f : 2 * (i * b) * U ≤ (2 * a + b) * U = mul-le-mul_right U d in
        let g : 2 * (i * b) * U ≡ 2 * (i * U) * b = mul_assoc 2 (i * b) U ∙ ap (λ (x : ℕ). 2 * x) (mul_right_comm i b U) ∙ sym (mul_assoc 2 (i * U) b) in
        let k : (2 * a + b) * U ≡ (2 * Q + U) * b =
        add-mul (2 * a) b U ∙ ap (λ (x : ℕ). x + b * U) (mul_assoc 2 a U ∙ ap (λ (x : ℕ). 2 * x) e ∙ sym (mul_assoc 2 Q b)) ∙ ap (λ (x : ℕ). 2 * Q * b + x) (mul_comm b U) ∙ sym (add-mul (2 * Q) U b) in
        le_of_mul-le-mul_right {k = b} (le_trans (le_of_eq (sym g)) (le_trans f (le_of_eq k))) p

-- ---- linear parts
at_most : (i : ℕ) → i < 4 → i ≤ 3
at_most i h = omega arith

pub million : (b a n : ℕ) → 2 ^ 53 * b ≤ 2 ^ 53 * a + (a + 2 ^ 52 * n) → 1000000 * b ≤ 1000001 * a + 1000000 * n
million b a n h = omega arith

million_over : (b a n : ℕ) → 2 ^ 53 * a ≤ 2 ^ 53 * b + (a + 2 ^ 52 * n) → 1000000 * a ≤ 1000001 * b + 1000000 * n
million_over b a n h = omega arith

pub less_than : (Q X : ℕ) → 1000000 * (Q * 884279719003555) ≤ 1000001 * (X * 2 ^ 49) + 1000000 * 884279719003555 → 100 * Q ≤ 66 * X + 200
less_than Q X h = scaled (2 ^ 39) Q X (Q * 884279719003555) 884279719003555 (mul-le-mul (le_refl Q) (lit≤ tt)) (lit≤ tt) h (lit< tt)
  where
    end : (Q X : ℕ) → 1570000000 * Q ≤ 1024001024 * X + 2048000000 → 100 * Q ≤ 66 * X + 200
    end Q X h = omega arith

    linear : (q x w b n : ℕ) → 1570 * q ≤ b → n ≤ 2048 * w → 1000000 * b ≤ 1000001 * (1024 * x) + 1000000 * n → 1570000000 * q ≤ 1024001024 * x + 2048000000 * w
    linear q x w b n h k l = omega arith

    scaled : (w Q X b n : ℕ) → Q * (1570 * w) ≤ b → n ≤ 2048 * w → 1000000 * b ≤ 1000001 * (X * (1024 * w)) + 1000000 * n → 0 < w → 100 * Q ≤ 66 * X + 200
    scaled w Q X b n h k l p =
        let a = linear (Q * w) (X * w) w b n (le_trans (le_of_eq (mul_left_comm 1570 Q w)) h) k (le_trans l (le_of_eq (ap (λ (z : ℕ). 1000001 * z + 1000000 * n) (mul_left_comm X 1024 w)))) in
        end Q X
        (le_of_mul-le-mul_right {k = w}
        (le_trans (le_of_eq (mul_assoc 1570000000 Q w)) (le_trans a (le_of_eq (sym (add-mul (1024001024 * X) 2048000000 w ∙ ap (λ (z : ℕ). z + 2048000000 * w) (mul_assoc 1024001024 X w)))))) p)

under_four : (Q U X : ℕ) → 1000 ≤ U → X ≤ 4 * U → 100 * Q ≤ 66 * X + 200 → 2 * Q + U < 2 * (4 * U)
under_four Q U X b h k = omega arith

in_reach : (Q U X : ℕ) → 1000 ≤ U → X ≤ 2 ^ 20 * U → 100 * Q ≤ 66 * X + 200 → Q ≤ 2 ^ 20 * U
in_reach Q U X b h k = omega arith

pub below_count : (Q U X : ℕ) → 1000 ≤ U → X ≤ 2 ^ 20 * U → 100 * Q ≤ 66 * X + 200 → 2 * Q + U < 2 * (2 ^ 20 * U)
below_count Q U X b h k = omega arith

cut_above : (X m N b : ℕ) → 1000000 * (X * 2 ^ 49) ≤ 1000001 * b + 1000000 * 884279719003555 → 2 * b ≤ (2 * m + N) * 2 ^ 49 → 2000000 * X ≤ 1000001 * (2 * m + N) + 4000000
cut_above X m N b h k = omega arith

last_above : (U N X m : ℕ) → 1000 * N ≤ 1571 * U → 1000000 ≤ U → m ≤ 3 * N → 2000000 * X ≤ 1000001 * (2 * m + N) + 4000000 → 128 * X ≤ 128 * m + 101 * U
last_above U N X m r b c h = omega arith

cut_below : (X m N b : ℕ) → 1000000 * b ≤ 1000001 * (X * 2 ^ 49) + 1000000 * 884279719003555 → 2 * m * 2 ^ 49 ≤ 2 * b + N * 2 ^ 49 → 2000000 * m ≤ 2000002 * X + 1000000 * N + 4000000
cut_below X m N b h k = omega arith

last_below : (U N X m : ℕ) → 1000 * N ≤ 1571 * U → 1000000 ≤ U → X ≤ 4 * U → 2000000 * m ≤ 2000002 * X + 1000000 * N + 4000000 → 128 * m ≤ 128 * X + 101 * U
last_below U N X m r b c h = omega arith

-- ---- the quotient by FRAC_PI_2, which is 884279719003555 / 2 ^ 49
pub record Quotient (x : Float) (s : Bool) (X : ℕ) : Type 0 where
  pub units : ℕ
  pub value : Val (x ⊘ frac_pi_2) s units
  pub off : Off (2 ^ 53 * (units * 884279719003555)) (2 ^ 53 * (X * 2 ^ 49)) (X * 2 ^ 49 + 2 ^ 52 * 884279719003555)

no_sign : (s : Bool) → unlike s false ≡ s
no_sign true = refl
no_sign false = refl

pub quotient : (x : Float) (s : Bool) (X : ℕ) → Val x s X → X ≤ 2 ^ 20 * 2 ^ 1074 → Quotient x s X
unfolding div of_bits
quotient nan s X v h = absurd v
quotient (inf t) s X v h = absurd v
quotient (fin t m e) s X v h =
    let U = 2 ^ 1074 in
    let n : ℕ = 884279719003555 in
    let Q = S.grid binary64 (X * 2 ^ 49) (n * U) in
    let o = less U Q X (lit< tt) (grid_off (X * 2 ^ 49) (n * U) (lit< tt)) in
    let same : round binary64 (unlike t false) (m * up e * 2 ^ 49) (n * 1 * down e) ≡ round binary64 s (X * 2 ^ 49) (n * U) =
    ap (λ (z : Bool). round binary64 z (m * up e * 2 ^ 49) (n * 1 * down e)) (no_sign t ∙ v.0)
    ∙ round_same binary64 s (m * up e * 2 ^ 49) (n * 1 * down e) (X * 2 ^ 49) (n * U) (mul-pos (lit< tt) (down_pos e)) (lit< tt) (cross (m * up e) (down e) X U n v.1) in
    record {
      units = Q;
      value = subst (λ (z : Float). Val z s Q) (sym same) (round_value s (X * 2 ^ 49) (n * U) (lt_of_le_of_lt (small U Q X (lit≤ tt) h o.under) (lit< tt)));
      off = o;
    }
  where
    cross : (a b X U n : ℕ) → a * U ≡ X * b → a * 2 ^ 49 * (n * U) ≡ X * 2 ^ 49 * (n * 1 * b)
    cross a b X U n e =
        ap (λ (x : ℕ). a * 2 ^ 49 * x) (mul_comm n U) ∙ mul-mul-mul_comm a (2 ^ 49) U n ∙ ap (λ (x : ℕ). x * (2 ^ 49 * n)) e
        ∙ mul-mul-mul_comm X b (2 ^ 49) n ∙ ap (λ (x : ℕ). X * 2 ^ 49 * x) (mul_comm b n ∙ ap (λ (x : ℕ). x * b) (sym (mul-one n)))

    less : (U Q X : ℕ) → 0 < U → Off (2 ^ 53 * (Q * (884279719003555 * U))) (2 ^ 53 * (X * 2 ^ 49 * U)) (X * 2 ^ 49 * U + 2 ^ 52 * (884279719003555 * U))
        → Off (2 ^ 53 * (Q * 884279719003555)) (2 ^ 53 * (X * 2 ^ 49)) (X * 2 ^ 49 + 2 ^ 52 * 884279719003555)
    less U Q X p o =
        let n : ℕ = 884279719003555 in
        let e1 : 2 ^ 53 * (Q * (n * U)) ≡ 2 ^ 53 * (Q * n) * U = ap (λ (x : ℕ). 2 ^ 53 * x) (sym (mul_assoc Q n U)) ∙ sym (mul_assoc (2 ^ 53) (Q * n) U) in
        let e2 : 2 ^ 53 * (X * 2 ^ 49 * U) ≡ 2 ^ 53 * (X * 2 ^ 49) * U = sym (mul_assoc (2 ^ 53) (X * 2 ^ 49) U) in
        let e3 : X * 2 ^ 49 * U + 2 ^ 52 * (n * U) ≡ (X * 2 ^ 49 + 2 ^ 52 * n) * U = ap (λ (x : ℕ). X * 2 ^ 49 * U + x) (sym (mul_assoc (2 ^ 52) n U)) ∙ sym (add-mul (X * 2 ^ 49) (2 ^ 52 * n) U) in
        off_cancel U p (record { under = le_trans (le_of_eq (sym e1)) (le_trans o.under (le_of_eq (ap (λ (x : ℕ). x + (X * 2 ^ 49 * U + 2 ^ 52 * (n * U))) e2 ∙ ap (λ (x : ℕ). 2 ^ 53 * (X * 2 ^ 49) * U + x) e3))); over = le_trans (le_of_eq (sym e2)) (le_trans o.over (le_of_eq (ap (λ (x : ℕ). x + (X * 2 ^ 49 * U + 2 ^ 52 * (n * U))) e1 ∙ ap (λ (x : ℕ). 2 ^ 53 * (Q * n) * U + x) e3))) })

    small : (U Q X : ℕ) → 1000 ≤ U → X ≤ 2 ^ 20 * U → 2 ^ 53 * (Q * 884279719003555) ≤ 2 ^ 53 * (X * 2 ^ 49) + (X * 2 ^ 49 + 2 ^ 52 * 884279719003555) → Q ≤ 2 ^ 20 * U
    small U Q X u h o = in_reach Q U X u h (less_than Q X (million (Q * 884279719003555) (X * 2 ^ 49) 884279719003555 o))

-- ---- how far the angle lies from its nearest multiple: N units are FRAC_PI_2, a is X * 2 ^ 49 and b the quotient's units times 884279719003555
module _ (U N X Q i : ℕ) (un : U * 884279719003555 ≡ N * 2 ^ 49) (ratio : 1000 * N ≤ 1571 * U) (big : 2 ^ 60 ≤ U) (x4 : X ≤ 4 * U)
    (o : Off (2 ^ 53 * (Q * 884279719003555)) (2 ^ 53 * (X * 2 ^ 49)) (X * 2 ^ 49 + 2 ^ 52 * 884279719003555)) where
  pub few_turns : 2 * (i * U) ≤ 2 * Q + U → i ≤ 3
  few_turns h = at_most i (lt_of_not-le (λ (g : 4 ≤ i). not-le_of_lt (under_four Q U X (le_trans (lit≤ tt) big) x4 (less_than Q X (million (Q * 884279719003555) (X * 2 ^ 49) 884279719003555 o.under))) (le_trans (mul-le-mul (le_refl 2) (mul-le-mul_right U g)) h)))

  -- the quotient's bounds, in N
  pub above : 2 * Q ≤ 2 * (i * U) + U → i ≤ 3 → 128 * X ≤ 128 * (i * N) + 101 * U
  above h k =
      let a : 2 * Q * 884279719003555 ≤ (2 * (i * U) + U) * 884279719003555 = mul-le-mul_right 884279719003555 h in
      let e : (2 * (i * U) + U) * 884279719003555 ≡ (2 * (i * N) + N) * 2 ^ 49 = turned in
      let c : i * N ≤ 3 * N = mul-le-mul_right N k in
      last_above U N X (i * N) ratio (le_trans (lit≤ tt) big) c (cut_above X (i * N) N (Q * 884279719003555) (million_over (Q * 884279719003555) (X * 2 ^ 49) 884279719003555 o.over) (le_trans (le_of_eq (sym (mul_assoc 2 Q 884279719003555))) (le_trans a (le_of_eq e))))
    where
      turned : (2 * (i * U) + U) * 884279719003555 ≡ (2 * (i * N) + N) * 2 ^ 49
      turned =
          add-mul (2 * (i * U)) U 884279719003555
          ∙ ap (λ (x : ℕ). x + U * 884279719003555) (mul_assoc 2 (i * U) 884279719003555 ∙ ap (λ (x : ℕ). 2 * x) (mul_assoc i U 884279719003555 ∙ ap (λ (x : ℕ). i * x) un ∙ sym (mul_assoc i N (2 ^ 49))) ∙ sym (mul_assoc 2 (i * N) (2 ^ 49)))
          ∙ ap (λ (x : ℕ). 2 * (i * N) * 2 ^ 49 + x) un
          ∙ sym (add-mul (2 * (i * N)) N (2 ^ 49))

  pub below : 2 * (i * U) ≤ 2 * Q + U → 128 * (i * N) ≤ 128 * X + 101 * U
  below h =
      let a : 2 * (i * U) * 884279719003555 ≤ (2 * Q + U) * 884279719003555 = mul-le-mul_right 884279719003555 h in
      let e : 2 * (i * U) * 884279719003555 ≡ 2 * (i * N) * 2 ^ 49 =
      mul_assoc 2 (i * U) 884279719003555 ∙ ap (λ (x : ℕ). 2 * x) (mul_assoc i U 884279719003555 ∙ ap (λ (x : ℕ). i * x) un ∙ sym (mul_assoc i N (2 ^ 49))) ∙ sym (mul_assoc 2 (i * N) (2 ^ 49)) in
      let f : (2 * Q + U) * 884279719003555 ≡ 2 * (Q * 884279719003555) + N * 2 ^ 49 = add-mul (2 * Q) U 884279719003555 ∙ ap (λ (x : ℕ). x + U * 884279719003555) (mul_assoc 2 Q 884279719003555) ∙ ap (λ (x : ℕ). 2 * (Q * 884279719003555) + x) un in
      last_below U N X (i * N) ratio (le_trans (lit≤ tt) big) x4 (cut_below X (i * N) N (Q * 884279719003555) (million (Q * 884279719003555) (X * 2 ^ 49) 884279719003555 o.under) (le_trans (le_of_eq (sym e)) (le_trans a (le_of_eq f))))

-- ---- the difference
pub record Reached (r : Float) (s : Bool) (X C : ℕ) : Type 0 where
  pub sign : Bool
  pub units : ℕ
  pub value : Val r sign units
  pub small : 128 * units ≤ 101 * 2 ^ 1074
  pub same : Same (as_diff s C ⊞ as_diff sign units) (as_diff s X)

distance : (s t : Bool) (X C D : ℕ) → plus t D + (minus s X + minus (not s) C) ≡ plus s X + plus (not s) C + minus t D → D ≡ (X - C) + (C - X)
distance true true X C D h = omega arith
distance true false X C D h = omega arith
distance false true X C D h = omega arith
distance false false X C D h = omega arith

same_of : (s t : Bool) (X C D : ℕ) → plus t D + (minus s X + minus (not s) C) ≡ plus s X + plus (not s) C + minus t D → Same (as_diff s C ⊞ as_diff t D) (as_diff s X)
unfolding ◌⊞◌
same_of true true X C D h = omega arith
same_of true false X C D h = omega arith
same_of false true X C D h = omega arith
same_of false false X C D h = omega arith

-- a difference of at most 101 / 128, held exactly
pub reached : (x c : Float) (s u : Bool) (X C : ℕ) → plus u C ≡ plus (not s) C → minus u C ≡ minus (not s) C → Val x s X → Val c u C → X + C ≤ 2 ^ 22 * 2 ^ 1074 → 128 * X ≤ 128 * C + 101 * 2 ^ 1074 → 128 * C ≤ 128 * X + 101 * 2 ^ 1074
    → ((D : ℕ) → D ≡ (X - C) + (C - X) → 128 * D ≤ 101 * 2 ^ 1074 → Held53 D) → Reached (x ⊕ c) s X C
reached x c s u X C ep en v w room h k held =
    let t = total x c s u X C v w room in
    let D = t.apart in
    let f : plus t.sign D + (minus s X + minus (not s) C) ≡ plus s X + plus (not s) C + minus t.sign D =
    ap (λ (z : ℕ). plus t.sign D + (minus s X + z)) (sym en) ∙ t.exact ∙ ap (λ (z : ℕ). plus s X + z + minus t.sign D) ep in
    let e : D ≡ (X - C) + (C - X) = distance s t.sign X C D f in
    let d : 128 * D ≤ 101 * 2 ^ 1074 = near (2 ^ 1074) X C D h k e in
    let g : t.units ≡ D = t.rounded ∙ grid_held D (held D e d) (less (2 ^ 1074) D d) in
    record {
      sign = t.sign;
      units = D;
      value = subst (λ (z : ℕ). Val (x ⊕ c) t.sign z) g t.value;
      small = d;
      same = same_of s t.sign X C D f;
    }
  where
    near : (U X C D : ℕ) → 128 * X ≤ 128 * C + 101 * U → 128 * C ≤ 128 * X + 101 * U → D ≡ (X - C) + (C - X) → 128 * D ≤ 101 * U
    near U X C D h k e = omega arith

    less : (U D : ℕ) → 128 * D ≤ 101 * U → D ≤ 2 ^ 22 * U
    less U D h = omega arith

-- two multiples of 2 ^ -53
pub held_between : (a b X C D : ℕ) → X ≡ a * 2 ^ 1021 → C ≡ b * 2 ^ 1021 → D ≡ (X - C) + (C - X) → 128 * D ≤ 101 * 2 ^ 1074 → Held53 D
held_between a b X C D ex ec e h =
    let q = (a - b) + (b - a) in
    let f : D ≡ q * 2 ^ 1021 =
    e ∙ ap (λ (z : ℕ). (z - C) + (C - z)) ex ∙ ap (λ (z : ℕ). (a * 2 ^ 1021 - z) + (z - a * 2 ^ 1021)) ec
    ∙ ap (λ (z : ℕ). z + (b * 2 ^ 1021 - a * 2 ^ 1021)) (sym (sub_mul a b (2 ^ 1021))) ∙ ap (λ (z : ℕ). (a - b) * 2 ^ 1021 + z) (sym (sub_mul b a (2 ^ 1021))) ∙ sym (add-mul (a - b) (b - a) (2 ^ 1021)) in
    record { digits = q; power = 1021; few = lt_of_mul-lt-mul_right (2 ^ 1021) (lt_of_le_of_lt (le_of_eq (sym f)) (below_top (2 ^ 1021) D (lit< tt) h)); is = f }
  where
    below_top : (w D : ℕ) → 0 < w → 128 * D ≤ 101 * (2 ^ 53 * w) → D < 2 ^ 53 * w
    below_top w D p h = omega arith
