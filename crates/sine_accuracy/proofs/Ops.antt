-- The product and the sum of finite `f64`, in units of 2 ^ -1074, with what each is off by. Assumes nothing.
use mathlib.Core.Path.{◌≡◌, refl, sym, ap, ◌∙◌, subst}
use Prim.Native.Nat.{ℕ, ◌+◌, ◌-◌, ◌*◌, ◌^◌, ◌≤◌, ◌<◌}
use native.Mathlib.Nat.{le_trans, le_of_eq, lt_of_le_of_lt, mul-one, mul_comm, mul_assoc, mul_right_comm, mul-mul-mul_comm, add-mul, mul-sub, mul-pos, mul-le-mul_right, mul-lt-mul_of_pos_right, lt_of_mul-lt-mul_right, le_of_mul-le-mul_right}
use native.Mathlib.Omega.{arith}
use mathlib.Core.Bool.{Bool, true, false, not, ◌&&◌, beq, cond}
use lib.Dec.{T, ltb, ltb→lt, lt→ltb, nltb→le, lit≤, lit<}
use lib.Ieee.{Float, nan, inf, fin, binary64, up, down, unlike, round, sum, add, mul}
use lib.Ieee.Fits.{down_pos}
use lib.Ieee.Exact.{HasValue}
use lib.Ieee.Scale.{grid, round_same}
use Rattle.float.proofs.Units.{Off, grid_off, round_value}

-- x is finite, has the sign s, and is X units in size
abbrev pub Val : Float → Bool → ℕ → Type 0
Val x s X = HasValue x s X (2 ^ 1074)

-- a signed number of units as a difference
abbrev pub plus : Bool → ℕ → ℕ
plus s X = cond s 0 X

abbrev pub minus : Bool → ℕ → ℕ
minus s X = cond s X 0

-- p - n and q - m differ by at most d
pub record Near (p n q m d : ℕ) : Type 0 where
  pub under : p + m ≤ q + n + d
  pub over : q + n ≤ p + m + d

-- ---- a common factor
pub sub_mul : (a b k : ℕ) → (a - b) * k ≡ a * k - b * k
sub_mul a b k = mul_comm (a - b) k ∙ mul-sub k a b ∙ ap (λ (x : ℕ). x - k * b) (mul_comm k a) ∙ ap (λ (x : ℕ). a * k - x) (mul_comm k b)

pub off_cancel : {a b d : ℕ} (k : ℕ) → 0 < k → Off (a * k) (b * k) (d * k) → Off a b d
off_cancel {a} {b} {d} k p o = record {
  under = le_of_mul-le-mul_right (le_trans o.under (le_of_eq (sym (add-mul b d k)))) p;
  over = le_of_mul-le-mul_right (le_trans o.over (le_of_eq (sym (add-mul a d k)))) p;
}

pub off_scale : {a b d : ℕ} (k : ℕ) → Off a b d → Off (a * k) (b * k) (d * k)
off_scale {a} {b} {d} k o = record {
  under = le_trans (mul-le-mul_right k o.under) (le_of_eq (add-mul b d k));
  over = le_trans (mul-le-mul_right k o.over) (le_of_eq (add-mul a d k));
}

-- ---- the product
less_unit : (U G P : ℕ) → 0 < U → Off (2 ^ 53 * (G * (U * U))) (2 ^ 53 * (P * U)) (P * U + 2 ^ 52 * (U * U)) → Off (2 ^ 53 * (G * U)) (2 ^ 53 * P) (P + 2 ^ 52 * U)
less_unit U G P p o =
    let e1 : 2 ^ 53 * (G * (U * U)) ≡ 2 ^ 53 * (G * U) * U = ap (λ (x : ℕ). 2 ^ 53 * x) (sym (mul_assoc G U U)) ∙ sym (mul_assoc (2 ^ 53) (G * U) U) in
    let e2 : 2 ^ 53 * (P * U) ≡ 2 ^ 53 * P * U = sym (mul_assoc (2 ^ 53) P U) in
    let e3 : P * U + 2 ^ 52 * (U * U) ≡ (P + 2 ^ 52 * U) * U = ap (λ (x : ℕ). P * U + x) (sym (mul_assoc (2 ^ 52) U U)) ∙ sym (add-mul P (2 ^ 52 * U) U) in
    off_cancel U p (subst (λ (x : ℕ). Off (2 ^ 53 * (G * U) * U) (2 ^ 53 * P * U) x) e3 (subst (λ (x : ℕ). Off (2 ^ 53 * (G * U) * U) x (P * U + 2 ^ 52 * (U * U))) e2 (subst (λ (x : ℕ). Off x (2 ^ 53 * (P * U)) (P * U + 2 ^ 52 * (U * U))) e1 o)))

twice : (g p u : ℕ) → 2 ^ 53 * g ≤ 2 ^ 53 * p + (p + 2 ^ 52 * u) → g ≤ 2 * p + u
twice g p u h = omega arith

wide : (g uu p u : ℕ) → p ≤ 2 ^ 22 * uu → u ≤ uu → g ≤ 2 * p + u → g ≤ 2 ^ 24 * uu
wide g uu p u h k l = omega arith

product_small : (U G P : ℕ) → 0 < U → P ≤ 2 ^ 22 * (U * U) → Off (2 ^ 53 * (G * U)) (2 ^ 53 * P) (P + 2 ^ 52 * U) → G ≤ 2 ^ 24 * U
product_small U G P p h o =
    let u : U * 1 ≤ U * U = mul_le_mul_left' U p in
    let a = o.under in
    le_of_mul-le-mul_right {k = U} (le_trans (linear (G * U) (U * U) P U h (le_trans (le_of_eq (sym (mul-one U))) u) a) (le_of_eq (sym (mul_assoc (2 ^ 24) U U)))) p
  where
    mul_le_mul_left' : (U : ℕ) → 0 < U → U * 1 ≤ U * U
    mul_le_mul_left' U p = le_trans (le_of_eq (mul_comm U 1)) (mul-le-mul_right U p)

    linear : (gu uu p u : ℕ) → p ≤ 2 ^ 22 * uu → u ≤ uu → 2 ^ 53 * gu ≤ 2 ^ 53 * p + (p + 2 ^ 52 * u) → gu ≤ 2 ^ 24 * uu
    linear gu uu p u h k a = wide gu uu p u h k (twice gu p u a)

range : (G : ℕ) → G ≤ 2 ^ 24 * 2 ^ 1074 → G < 2 ^ 2098
range G h = lt_of_le_of_lt h (lit< tt)

pub record Product (x y : Float) (s t : Bool) (X Y : ℕ) : Type 0 where
  pub units : ℕ
  pub value : Val (mul binary64 x y) (unlike s t) units
  pub off : Off (2 ^ 53 * (units * 2 ^ 1074)) (2 ^ 53 * (X * Y)) (X * Y + 2 ^ 52 * 2 ^ 1074)

cross : (a b c d X Y U : ℕ) → a * U ≡ X * c → b * U ≡ Y * d → a * b * (U * U) ≡ X * Y * (c * d)
cross a b c d X Y U p q = mul-mul-mul_comm a b U U ∙ ap (λ (x : ℕ). x * (b * U)) p ∙ ap (λ (x : ℕ). X * c * x) q ∙ mul-mul-mul_comm X c Y d

pub product : (x y : Float) (s t : Bool) (X Y : ℕ) → Val x s X → Val y t Y → X * Y ≤ 2 ^ 22 * (2 ^ 1074 * 2 ^ 1074) → Product x y s t X Y
unfolding mul
product nan y s t X Y v w h = absurd v
product (inf b) y s t X Y v w h = absurd v
product (fin b m e) nan s t X Y v w h = absurd w
product (fin b m e) (inf d) s t X Y v w h = absurd w
product (fin b m e) (fin d n g) s t X Y v w h =
    let U = 2 ^ 1074 in
    let G = grid binary64 (X * Y) (U * U) in
    let o = less_unit U G (X * Y) (lit< tt) (grid_off (X * Y) (U * U) (lit< tt)) in
    let same : round binary64 (unlike b d) (m * up e * (n * up g)) (down e * down g) ≡ round binary64 (unlike s t) (X * Y) (U * U) =
    ap (λ (z : Bool). round binary64 (unlike z d) (m * up e * (n * up g)) (down e * down g)) v.0
    ∙ ap (λ (z : Bool). round binary64 (unlike s z) (m * up e * (n * up g)) (down e * down g)) w.0
    ∙ round_same binary64 (unlike s t) (m * up e * (n * up g)) (down e * down g) (X * Y) (U * U) (mul-pos (down_pos e) (down_pos g)) (lit< tt) (cross (m * up e) (n * up g) (down e) (down g) X Y U v.1 w.1) in
    record {
      units = G;
      value = subst (λ (z : Float). Val z (unlike s t) G) (sym same) (round_value (unlike s t) (X * Y) (U * U) (range G (product_small U G (X * Y) (lit< tt) h o)));
      off = o;
    }

-- ---- the sum
same_test : (p q : Bool) → (T p → T q) → (T q → T p) → p ≡ q
same_test true true f g = refl
same_test false false f g = refl
same_test true false f g = absurd (f tt)
same_test false true f g = absurd (g tt)

module _ (a b c X Y U : ℕ) (C : 0 < c) (P : 0 < U) (ea : a * U ≡ X * c) (eb : b * U ≡ Y * c) where
  forth : a < b → X < Y
  forth h = lt_of_mul-lt-mul_right c (subst (λ (x : ℕ). x < Y * c) ea (subst (λ (x : ℕ). a * U < x) eb (mul-lt-mul_of_pos_right h P)))

  backward : X < Y → a < b
  backward h = lt_of_mul-lt-mul_right U (subst (λ (x : ℕ). x < b * U) (sym ea) (subst (λ (x : ℕ). X * c < x) (sym eb) (mul-lt-mul_of_pos_right h C)))

  test : ltb a b ≡ ltb X Y
  test = same_test (ltb a b) (ltb X Y) (λ (t : T (ltb a b)). lt→ltb X Y (forth (ltb→lt a b t))) (λ (t : T (ltb X Y)). lt→ltb a b (backward (ltb→lt X Y t)))

  added : (s : Bool) → round binary64 s (a + b) c ≡ round binary64 s (X + Y) U
  added s = round_same binary64 s (a + b) c (X + Y) U C P (add-mul a b U ∙ ap (λ (x : ℕ). x + b * U) ea ∙ ap (λ (x : ℕ). X * c + x) eb ∙ sym (add-mul X Y c))

  taken : (s : Bool) → round binary64 s (a - b) c ≡ round binary64 s (X - Y) U
  taken s = round_same binary64 s (a - b) c (X - Y) U C P (sub_mul a b U ∙ ap (λ (x : ℕ). x - b * U) ea ∙ ap (λ (x : ℕ). X * c - x) eb ∙ sym (sub_mul X Y c))

sum_same : (s t : Bool) (a b c X Y U : ℕ) → 0 < c → 0 < U → a * U ≡ X * c → b * U ≡ Y * c → sum binary64 s a t b c ≡ sum binary64 s X t Y U
unfolding sum
sum_same s t a b c X Y U C P ea eb =
    let last : round binary64 (s && ltb b a) (a - b) c ≡ round binary64 (s && ltb Y X) (X - Y) U = ap (λ (v : Bool). round binary64 (s && v) (a - b) c) (test b a c Y X U C P eb ea) ∙ taken a b c X Y U C P ea eb (s && ltb Y X) in
    λ i. cond (beq s t) (added a b c X Y U C P ea eb s i) (cond (test a b c X Y U C P ea eb i) (taken b a c Y X U C P eb ea t i) (last i))

pub record Sum (z : Float) (s t : Bool) (X Y : ℕ) : Type 0 where
  pub sign : Bool
  pub units : ℕ
  pub value : Val z sign units
  pub near : Near (2 ^ 53 * plus sign units) (2 ^ 53 * minus sign units) (2 ^ 53 * (plus s X + plus t Y)) (2 ^ 53 * (minus s X + minus t Y)) (X + Y + 2 ^ 52)
  -- the exact sum is `apart` units, and rounds to the result's
  pub apart : ℕ
  pub rounded : units ≡ grid binary64 apart (2 ^ 1074)
  pub exact : plus sign apart + (minus s X + minus t Y) ≡ plus s X + plus t Y + minus sign apart

grid_whole : (D : ℕ) → Off (2 ^ 53 * grid binary64 D (2 ^ 1074)) (2 ^ 53 * D) (D + 2 ^ 52)
grid_whole D = go (2 ^ 1074) (grid binary64 D (2 ^ 1074)) (lit< tt) (grid_off D (2 ^ 1074) (lit< tt))
  where
    go : (U G : ℕ) → 0 < U → Off (2 ^ 53 * (G * U)) (2 ^ 53 * (D * U)) (D * U + 2 ^ 52 * U) → Off (2 ^ 53 * G) (2 ^ 53 * D) (D + 2 ^ 52)
    go U G p o =
        off_cancel U p
        (subst (λ (x : ℕ). Off (2 ^ 53 * G * U) (2 ^ 53 * D * U) x) (sym (add-mul D (2 ^ 52) U))
        (subst (λ (x : ℕ). Off (2 ^ 53 * G * U) x (D * U + 2 ^ 52 * U)) (sym (mul_assoc (2 ^ 53) D U))
        (subst (λ (x : ℕ). Off x (2 ^ 53 * (D * U)) (D * U + 2 ^ 52 * U)) (sym (mul_assoc (2 ^ 53) G U)) o)))

pub whole_range : (D : ℕ) → D ≤ 2 ^ 22 * 2 ^ 1074 → grid binary64 D (2 ^ 1074) < 2 ^ 2098
whole_range D h = range (grid binary64 D (2 ^ 1074)) (go (2 ^ 1074) (grid binary64 D (2 ^ 1074)) (lit≤ tt) h (grid_whole D).under)
  where
    go : (U G : ℕ) → 1 ≤ U → D ≤ 2 ^ 22 * U → 2 ^ 53 * G ≤ 2 ^ 53 * D + (D + 2 ^ 52) → G ≤ 2 ^ 24 * U
    go U G u h a = wide G U D 1 h u (twice G D 1 a)

whole_value : (s : Bool) (D : ℕ) → D ≤ 2 ^ 22 * 2 ^ 1074 → Val (round binary64 s D (2 ^ 1074)) s (grid binary64 D (2 ^ 1074))
whole_value s D h = round_value s D (2 ^ 1074) (whole_range D h)

less_range : (X Y U : ℕ) → X + Y ≤ 2 ^ 22 * U → X - Y ≤ 2 ^ 22 * U
less_range X Y U h = omega arith

more_range : (X Y U : ℕ) → X + Y ≤ 2 ^ 22 * U → Y - X ≤ 2 ^ 22 * U
more_range X Y U h = omega arith

sum_units : (s t : Bool) (X Y : ℕ) → X + Y ≤ 2 ^ 22 * 2 ^ 1074 → Sum (sum binary64 s X t Y (2 ^ 1074)) s t X Y
unfolding sum
sum_units false false X Y h = record { sign = false; units = grid binary64 (X + Y) (2 ^ 1074); value = whole_value false (X + Y) h; apart = X + Y; rounded = refl; exact = same; near = go (grid binary64 (X + Y) (2 ^ 1074)) (grid_whole (X + Y)) }
  where
    same : X + Y + (0 + 0) ≡ X + Y + 0
    same = refl

    go : (G : ℕ) → Off (2 ^ 53 * G) (2 ^ 53 * (X + Y)) (X + Y + 2 ^ 52) → Near (2 ^ 53 * G) (2 ^ 53 * 0) (2 ^ 53 * (X + Y)) (2 ^ 53 * (0 + 0)) (X + Y + 2 ^ 52)
    go G o = let a = o.under in let b = o.over in record { under = omega arith; over = omega arith }
sum_units true true X Y h = record { sign = true; units = grid binary64 (X + Y) (2 ^ 1074); value = whole_value true (X + Y) h; apart = X + Y; rounded = refl; exact = same; near = go (grid binary64 (X + Y) (2 ^ 1074)) (grid_whole (X + Y)) }
  where
    same : 0 + (X + Y) ≡ 0 + 0 + (X + Y)
    same = refl

    go : (G : ℕ) → Off (2 ^ 53 * G) (2 ^ 53 * (X + Y)) (X + Y + 2 ^ 52) → Near (2 ^ 53 * 0) (2 ^ 53 * G) (2 ^ 53 * (0 + 0)) (2 ^ 53 * (X + Y)) (X + Y + 2 ^ 52)
    go G o = let a = o.under in let b = o.over in record { under = omega arith; over = omega arith }
sum_units false true X Y h = go (ltb X Y) (ltb→lt X Y) (nltb→le X Y)
  where
    same : X < Y → 0 + (0 + Y) ≡ X + 0 + (Y - X)
    same l = omega arith

    same_1 : Y ≤ X → X - Y + (0 + Y) ≡ X + 0 + 0
    same_1 l = omega arith

    below : (G : ℕ) → X < Y → Off (2 ^ 53 * G) (2 ^ 53 * (Y - X)) (Y - X + 2 ^ 52) → Near (2 ^ 53 * 0) (2 ^ 53 * G) (2 ^ 53 * (X + 0)) (2 ^ 53 * (0 + Y)) (X + Y + 2 ^ 52)
    below G l o = let a = o.under in let b = o.over in record { under = omega arith; over = omega arith }

    above : (G : ℕ) → Y ≤ X → Off (2 ^ 53 * G) (2 ^ 53 * (X - Y)) (X - Y + 2 ^ 52) → Near (2 ^ 53 * G) (2 ^ 53 * 0) (2 ^ 53 * (X + 0)) (2 ^ 53 * (0 + Y)) (X + Y + 2 ^ 52)
    above G l o = let a = o.under in let b = o.over in record { under = omega arith; over = omega arith }

    go : (b : Bool) → (T b → X < Y) → (T (not b) → Y ≤ X) → Sum (cond b (round binary64 true (Y - X) (2 ^ 1074)) (round binary64 false (X - Y) (2 ^ 1074))) false true X Y
    go true f g = record { sign = true; units = grid binary64 (Y - X) (2 ^ 1074); value = whole_value true (Y - X) (more_range X Y (2 ^ 1074) h); apart = Y - X; rounded = refl; exact = same (f tt); near = below (grid binary64 (Y - X) (2 ^ 1074)) (f tt) (grid_whole (Y - X)) }
    go false f g = record { sign = false; units = grid binary64 (X - Y) (2 ^ 1074); value = whole_value false (X - Y) (less_range X Y (2 ^ 1074) h); apart = X - Y; rounded = refl; exact = same_1 (g tt); near = above (grid binary64 (X - Y) (2 ^ 1074)) (g tt) (grid_whole (X - Y)) }
sum_units true false X Y h = go (ltb X Y) (ltb→lt X Y) (nltb→le X Y) (ltb Y X) (nltb→le Y X)
  where
    same : X < Y → Y - X + (X + 0) ≡ 0 + Y + 0
    same l = omega arith

    same_1 : Y ≤ X → 0 + (X + 0) ≡ 0 + Y + (X - Y)
    same_1 l = omega arith

    same_2 : Y ≤ X → X ≤ Y → X - Y + (X + 0) ≡ 0 + Y + 0
    same_2 l m = omega arith

    below : (G : ℕ) → X < Y → Off (2 ^ 53 * G) (2 ^ 53 * (Y - X)) (Y - X + 2 ^ 52) → Near (2 ^ 53 * G) (2 ^ 53 * 0) (2 ^ 53 * (0 + Y)) (2 ^ 53 * (X + 0)) (X + Y + 2 ^ 52)
    below G l o = let a = o.under in let b = o.over in record { under = omega arith; over = omega arith }

    above : (G : ℕ) → Y ≤ X → Off (2 ^ 53 * G) (2 ^ 53 * (X - Y)) (X - Y + 2 ^ 52) → Near (2 ^ 53 * 0) (2 ^ 53 * G) (2 ^ 53 * (0 + Y)) (2 ^ 53 * (X + 0)) (X + Y + 2 ^ 52)
    above G l o = let a = o.under in let b = o.over in record { under = omega arith; over = omega arith }

    level : (G : ℕ) → Y ≤ X → X ≤ Y → Off (2 ^ 53 * G) (2 ^ 53 * (X - Y)) (X - Y + 2 ^ 52) → Near (2 ^ 53 * G) (2 ^ 53 * 0) (2 ^ 53 * (0 + Y)) (2 ^ 53 * (X + 0)) (X + Y + 2 ^ 52)
    level G l m o = let a = o.under in let b = o.over in record { under = omega arith; over = omega arith }

    go : (b : Bool) → (T b → X < Y) → (T (not b) → Y ≤ X) → (d : Bool) → (T (not d) → X ≤ Y) → Sum (cond b (round binary64 false (Y - X) (2 ^ 1074)) (round binary64 d (X - Y) (2 ^ 1074))) true false X Y
    go true f g d k = record { sign = false; units = grid binary64 (Y - X) (2 ^ 1074); value = whole_value false (Y - X) (more_range X Y (2 ^ 1074) h); apart = Y - X; rounded = refl; exact = same (f tt); near = below (grid binary64 (Y - X) (2 ^ 1074)) (f tt) (grid_whole (Y - X)) }
    go false f g true k = record { sign = true; units = grid binary64 (X - Y) (2 ^ 1074); value = whole_value true (X - Y) (less_range X Y (2 ^ 1074) h); apart = X - Y; rounded = refl; exact = same_1 (g tt); near = above (grid binary64 (X - Y) (2 ^ 1074)) (g tt) (grid_whole (X - Y)) }
    go false f g false k = record { sign = false; units = grid binary64 (X - Y) (2 ^ 1074); value = whole_value false (X - Y) (less_range X Y (2 ^ 1074) h); apart = X - Y; rounded = refl; exact = same_2 (g tt) (k tt); near = level (grid binary64 (X - Y) (2 ^ 1074)) (g tt) (k tt) (grid_whole (X - Y)) }

pub total : (x y : Float) (s t : Bool) (X Y : ℕ) → Val x s X → Val y t Y → X + Y ≤ 2 ^ 22 * 2 ^ 1074 → Sum (add binary64 x y) s t X Y
unfolding add
total nan y s t X Y v w h = absurd v
total (inf b) y s t X Y v w h = absurd v
total (fin b m e) nan s t X Y v w h = absurd w
total (fin b m e) (inf d) s t X Y v w h = absurd w
total (fin b m e) (fin d n g) s t X Y v w h =
    let U = 2 ^ 1074 in
    let same : sum binary64 b (m * up e * down g) d (n * up g * down e) (down e * down g) ≡ sum binary64 s X t Y U =
    ap (λ (z : Bool). sum binary64 z (m * up e * down g) d (n * up g * down e) (down e * down g)) v.0
    ∙ ap (λ (z : Bool). sum binary64 s (m * up e * down g) z (n * up g * down e) (down e * down g)) w.0
    ∙ sum_same s t (m * up e * down g) (n * up g * down e) (down e * down g) X Y U (mul-pos (down_pos e) (down_pos g)) (lit< tt)
    (mul_right_comm (m * up e) (down g) U ∙ ap (λ (x : ℕ). x * down g) v.1 ∙ mul_assoc X (down e) (down g))
    (mul_right_comm (n * up g) (down e) U ∙ ap (λ (x : ℕ). x * down e) w.1 ∙ mul_right_comm Y (down g) (down e) ∙ mul_assoc Y (down e) (down g)) in
    subst (λ (z : Float). Sum z s t X Y) (sym same) (sum_units s t X Y h)
