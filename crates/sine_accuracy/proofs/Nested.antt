-- The nested sum of floats against the exact one, by induction on the number of coefficients: off by at most 30 * 2 ^ -53. Assumes nothing.
use mathlib.Core.Path.{◌≡◌, refl, sym, ap, ◌∙◌, subst}
use Prim.Native.Nat.{ℕ, zero, suc, ◌+◌, ◌*◌, ◌^◌, ◌≤◌}
use native.Mathlib.Nat.{le_trans, le_of_eq, zero-mul, mul_comm, mul_assoc, mul_right_comm, mul-mul-mul_comm, add-mul, mul-le-mul, mul-le-mul_right}
use native.Mathlib.Omega.{arith}
use mathlib.Core.Bool.{Bool, true, false}
use lib.Dec.{lit≤}
use lib.Ieee.{Float, unlike}
use Rattle.float.specs.Num.{◌⊕◌, ◌⊗◌}
use Rattle.float.specs.Sine.{nested}
use Rattle.float.proofs.Units.{Off}
use Rattle.sine_accuracy.proofs.Ops.{Val, plus, minus, Near, product, total}
use Rattle.sine_accuracy.proofs.Horner.{near_to, near_scale, step, h_small, exact_small, result_small}

-- x is within 2 ^ -53 of (p - n) / F, which is at most 1 in size
pub record Coef (F : ℕ) (x : Float) (p n : ℕ) : Type 0 where
  pub sign : Bool
  pub units : ℕ
  pub value : Val x sign units
  pub small : units ≤ 2 ^ 1074
  pub few : p + n ≤ F
  pub near : Near (2 ^ 53 * (plus sign units * F)) (2 ^ 53 * (minus sign units * F)) (2 ^ 53 * (p * 2 ^ 1074)) (2 ^ 53 * (n * 2 ^ 1074)) (F * 2 ^ 1074)

-- ---- the exact sum of a j + (A / B) * (a (j + 1) + ..), over F * weight B n, where B = U * U
abbrev pub weight : ℕ → ℕ → ℕ
weight B zero = B
weight B (suc n) = weight B n * B

abbrev pub scale : ℕ → ℕ → ℕ → ℕ
scale F B zero = F * B
scale F B (suc n) = scale F B n * B

abbrev pub exact : (ℕ → ℕ) → ℕ → ℕ → ℕ → ℕ → ℕ
exact a A B zero j = a j * weight B zero
exact a A B (suc n) j = a j * weight B (suc n) + A * exact a A B n (suc j)

pub scale_is : (F B n : ℕ) → scale F B n ≡ F * weight B n
scale_is F B zero = refl
scale_is F B (suc n) = ap (λ (x : ℕ). x * B) (scale_is F B n) ∙ mul_assoc F (weight B n) B

-- a coefficient at the scale of its sum
raised : (F x p U w : ℕ) (e : ℕ) → e ≡ F * w → 2 ^ 53 * (x * F) * w ≡ 2 ^ 53 * (x * e)
raised F x p U w e h = mul_assoc (2 ^ 53) (x * F) w ∙ ap (λ (y : ℕ). 2 ^ 53 * y) (mul_assoc x F w ∙ ap (λ (y : ℕ). x * y) (sym h))

lifted : (p U w : ℕ) → 2 ^ 53 * (p * U) * w ≡ 2 ^ 53 * (p * w * U)
lifted p U w = mul_assoc (2 ^ 53) (p * U) w ∙ ap (λ (y : ℕ). 2 ^ 53 * y) (mul_right_comm p U w)

at_scale : (U F w e cp cn p n : ℕ) → e ≡ F * w → Near (2 ^ 53 * (cp * F)) (2 ^ 53 * (cn * F)) (2 ^ 53 * (p * U)) (2 ^ 53 * (n * U)) (F * U)
    → Near (2 ^ 53 * (cp * e)) (2 ^ 53 * (cn * e)) (2 ^ 53 * (p * w * U)) (2 ^ 53 * (n * w * U)) (e * U)
at_scale U F w e cp cn p n h o =
    near_to (near_scale w o) (raised F cp p U w e h) (raised F cn p U w e h) (lifted p U w) (lifted n U w)
    (le_of_eq (mul_right_comm F U w ∙ ap (λ (y : ℕ). y * U) (sym h)))

few_scale : (F w e p n : ℕ) → e ≡ F * w → p + n ≤ F → p * w + n * w ≤ e
few_scale F w e p n h k = le_trans (le_of_eq (sym (add-mul p n w))) (le_trans (mul-le-mul_right w k) (le_of_eq (sym h)))

-- the sign of a product with a number that has none
pub signed : (s : Bool) (U H Z G d : ℕ) → Off (2 ^ 53 * (H * U)) (2 ^ 53 * (Z * G)) d
    → Near (2 ^ 53 * (plus s H * U)) (2 ^ 53 * (minus s H * U)) (2 ^ 53 * (Z * plus s G)) (2 ^ 53 * (Z * minus s G)) d
signed false U H Z G d o = go (H * U) (0 * U) (Z * G) (Z * 0) (zero-mul U) (mul_comm Z 0 ∙ zero-mul Z) o
  where
    go : (h u z y : ℕ) → u ≡ 0 → y ≡ 0 → Off (2 ^ 53 * h) (2 ^ 53 * z) d → Near (2 ^ 53 * h) (2 ^ 53 * u) (2 ^ 53 * z) (2 ^ 53 * y) d
    go h u z y e f o = let a = o.under in let b = o.over in record { under = omega arith; over = omega arith }
signed true U H Z G d o = go (H * U) (0 * U) (Z * G) (Z * 0) (zero-mul U) (mul_comm Z 0 ∙ zero-mul Z) o
  where
    go : (h u z y : ℕ) → u ≡ 0 → y ≡ 0 → Off (2 ^ 53 * h) (2 ^ 53 * z) d → Near (2 ^ 53 * u) (2 ^ 53 * h) (2 ^ 53 * y) (2 ^ 53 * z) d
    go h u z y e f o = let a = o.under in let b = o.over in record { under = omega arith; over = omega arith }

parts : (s : Bool) (X : ℕ) → plus s X + minus s X ≤ X
parts true X = omega arith
parts false X = omega arith

unlike_false : (s : Bool) → unlike false s ≡ s
unlike_false true = refl
unlike_false false = refl

-- what is known of a nested sum
pub record Got (F : ℕ) (x : Float) (hp hn S : ℕ) : Type 0 where
  pub sign : Bool
  pub units : ℕ
  pub value : Val x sign units
  pub small : units ≤ 4 * 2 ^ 1074
  pub near : Near (2 ^ 53 * (plus sign units * S)) (2 ^ 53 * (minus sign units * S)) (2 ^ 53 * (hp * 2 ^ 1074)) (2 ^ 53 * (hn * 2 ^ 1074)) (30 * (S * 2 ^ 1074))
  pub under : hp ≤ hn + 3 * S
  pub over : hn ≤ hp + 3 * S

room : (Z G U : ℕ) → 100 * Z ≤ 63 * U → G ≤ 4 * U → Z * G ≤ 2 ^ 22 * (U * U)
room Z G U h k =
    let a : 100 * Z * G ≤ 63 * U * (4 * U) = mul-le-mul h k in
    let e : 100 * Z * G ≡ 100 * (Z * G) = mul_assoc 100 Z G in
    let f : 63 * U * (4 * U) ≡ 63 * 4 * (U * U) = mul-mul-mul_comm 63 U 4 U in
    omega arith

module _ (F : ℕ) (c : ℕ → Float) (p n : ℕ → ℕ) (cs : (j : ℕ) → j ≤ 8 → Coef F (c j) (p j) (n j))
    (z : Float) (Z A : ℕ) (zv : Val z false Z) (zo : Off (2 ^ 53 * (Z * 2 ^ 1074)) (2 ^ 53 * A) (A + 2 ^ 52 * 2 ^ 1074)) (za : 8 * A ≤ 5 * (2 ^ 1074 * 2 ^ 1074)) (zs : 100 * Z ≤ 63 * 2 ^ 1074) where
  last : (j : ℕ) → j ≤ 8 → Got F (c j) (exact p A (2 ^ 1074 * 2 ^ 1074) zero j) (exact n A (2 ^ 1074 * 2 ^ 1074) zero j) (scale F (2 ^ 1074 * 2 ^ 1074) zero)
  last j h =
      let U = 2 ^ 1074 in
      let B = U * U in
      let k = cs j h in
      let f : p j * B + n j * B ≤ F * B = few_scale F B (F * B) (p j) (n j) refl k.few in
      record {
        sign = k.sign;
        units = k.units;
        value = k.value;
        small = le_trans k.small (lit≤ tt);
        near = near_to (at_scale U F B (F * B) (plus k.sign k.units) (minus k.sign k.units) (p j) (n j) refl k.near) refl refl refl refl (thirty (F * B * U));
        under = wide (p j * B) (n j * B) (F * B) f;
        over = narrow (p j * B) (n j * B) (F * B) f;
      }
    where
      thirty : (x : ℕ) → x ≤ 30 * x
      thirty x = omega arith

      wide : (a b e : ℕ) → a + b ≤ e → a ≤ b + 3 * e
      wide a b e h = omega arith

      narrow : (a b e : ℕ) → a + b ≤ e → b ≤ a + 3 * e
      narrow a b e h = omega arith

  pub one_more : (m j : ℕ) (g : Float) → j ≤ 8
      → Got F g (exact p A (2 ^ 1074 * 2 ^ 1074) m (suc j)) (exact n A (2 ^ 1074 * 2 ^ 1074) m (suc j)) (scale F (2 ^ 1074 * 2 ^ 1074) m)
      → Got F (c j ⊕ z ⊗ g) (exact p A (2 ^ 1074 * 2 ^ 1074) (suc m) j) (exact n A (2 ^ 1074 * 2 ^ 1074) (suc m) j) (scale F (2 ^ 1074 * 2 ^ 1074) (suc m))
  one_more m j g h got =
      let U = 2 ^ 1074 in
      let B = U * U in
      let S = scale F B m in
      let k = cs j h in
      let G = got.units in
      let s = got.sign in
      let pr = product z g false s Z G zv got.value (room Z G U zs got.small) in
      let H = pr.units in
      let hv : Val (z ⊗ g) s H = subst (λ (b : Bool). Val (z ⊗ g) b H) (unlike_false s) pr.value in
      let hs : 100 * H ≤ 253 * U = h_small U S Z A (lit≤ tt) zo za G H got.small pr.off in
      let t = total (c j) (z ⊗ g) k.sign s k.units H k.value hv (roomy k.units H U k.small hs) in
      let cp = plus k.sign k.units in
      let cn = minus k.sign k.units in
      let e : S * B ≡ F * weight B (suc m) = scale_is F B (suc m) in
      let f : p j * weight B (suc m) + n j * weight B (suc m) ≤ S * B = few_scale F (weight B (suc m)) (S * B) (p j) (n j) e k.few in
      let hp = exact p A B m (suc j) in
      let hn = exact n A B m (suc j) in
      record {
        sign = t.sign;
        units = t.units;
        value = t.value;
        small = result_small U S Z A (lit≤ tt) zo za t.sign t.units cp cn (plus s H) (minus s H) k.units G H got.small k.small (parts k.sign k.units) (parts s H) pr.off t.near;
        near = step U S Z A (lit≤ tt) zo za (plus s G) (minus s G) hp hn cp cn (p j * weight B (suc m)) (n j * weight B (suc m)) (plus s H) (minus s H) (plus t.sign t.units) (minus t.sign t.units) k.units G H
            got.small k.small got.near got.under got.over pr.off (signed s U H Z G (Z * G + 2 ^ 52 * U) pr.off) t.near (at_scale U F (weight B (suc m)) (S * B) cp cn (p j) (n j) e k.near);
        under = exact_small U S Z A (lit≤ tt) zo za F (p j * weight B (suc m)) (n j * weight B (suc m)) hp hn f got.under;
        over = exact_small U S Z A (lit≤ tt) zo za F (n j * weight B (suc m)) (p j * weight B (suc m)) hn hp (turned (p j * weight B (suc m)) (n j * weight B (suc m)) (S * B) f) got.over;
      }
    where
      roomy : (C H U : ℕ) → C ≤ U → 100 * H ≤ 253 * U → C + H ≤ 2 ^ 22 * U
      roomy C H U h k = omega arith

      turned : (a b e : ℕ) → a + b ≤ e → b + a ≤ e
      turned a b e h = omega arith

  pub nested_got : (m j : ℕ) → m + j ≤ 8 → Got F (nested c m j z) (exact p A (2 ^ 1074 * 2 ^ 1074) m j) (exact n A (2 ^ 1074 * 2 ^ 1074) m j) (scale F (2 ^ 1074 * 2 ^ 1074) m)
  unfolding nested
  nested_got zero j h = last j (less zero j h)
    where
      less : (m j : ℕ) → m + j ≤ 8 → j ≤ 8
      less m j h = omega arith
  nested_got (suc m) j h = one_more m j (nested c m (suc j) z) (less m j h) (nested_got m (suc j) (next m j h))
    where
      less : (m j : ℕ) → suc m + j ≤ 8 → j ≤ 8
      less m j h = omega arith

      next : (m j : ℕ) → suc m + j ≤ 8 → m + suc j ≤ 8
      next m j h = omega arith
