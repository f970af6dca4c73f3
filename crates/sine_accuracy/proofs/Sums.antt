-- The float sums against the exact ones at the same argument, for arguments of size at most 101 / 128: off by at most 30 * 2 ^ -53. Assumes nothing.
use mathlib.Core.Path.{◌≡◌, refl, sym, ap, ◌∙◌, subst}
use Prim.Native.Nat.{ℕ, zero, suc, ◌+◌, ◌*◌, ◌%◌, ◌^◌, ◌≤◌, ◌<◌}
use native.Mathlib.Nat.{le_trans, le_of_eq, le_refl, zero-mul, mul-zero, add-zero, zero-add, mul_comm, mul_assoc, mul_right_comm, mul-mul-mul_comm, add-mul, mul-le-mul, mul-le-mul_right, le_of_mul-le-mul_right}
use native.Mathlib.Omega.{arith}
use mathlib.Core.Bool.{Bool, true, false}
use lib.Dec.{eqb, lit≤}
use lib.Ieee.{Float, unlike}
use Rattle.float.specs.Num.{◌⊗◌}
use Rattle.float.specs.Sine.{nested, term, fact, sin_sum, cos_sum}
use Rattle.float.proofs.Units.{Off}
use Rattle.sine_accuracy.proofs.Ops.{Val, plus, minus, Near, Product, product}
use Rattle.sine_accuracy.proofs.Horner.{near_to, near_scale, near_trans, z_small}
use Rattle.sine_accuracy.proofs.Nested.{weight, scale, exact, signed, nested_got}
use Rattle.sine_accuracy.proofs.Poly.{Diff, ◌⊞◌, ◌⊠◌, ev, spread, ev_spread, both, nil-⊞}
use Rattle.sine_accuracy.proofs.Series.{share, coefficient, either, signed_by, series, sin_poly, cos_poly}
use Rattle.sine_accuracy.proofs.ByIndex.{sin_coef, cos_coef}

-- ---- the exact nested sum is the polynomial
sign_scale : (j c a w E : ℕ) → c ≡ a * w * E → signed_by j c ≡ record { p = (signed_by j a).p * w * E; n = (signed_by j a).n * w * E }
sign_scale j c a w E h = go (eqb (j % 2) 0)
  where
    none : 0 ≡ 0 * w * E
    none = sym (ap (λ (x : ℕ). x * E) (zero-mul w) ∙ zero-mul E)

    go : (b : Bool) → either b c ≡ record { p = (either b a).p * w * E; n = (either b a).n * w * E }
    go true = both h none
    go false = both none h

carried : (x A h g E : ℕ) → x * E + (A * (h * E) + 0 * g) ≡ (x + A * h) * E
carried x A h g E =
    let e1 : 0 * g ≡ 0 = zero-mul g in
    let e2 : A * (h * E) ≡ A * h * E = sym (mul_assoc A h E) in
    let e3 : (x + A * h) * E ≡ x * E + A * h * E = add-mul x (A * h) E in
    omega arith

linked : (o E A : ℕ) → ((i m : ℕ) → m + i ≡ 8 → coefficient (2 * i + o) ≡ share (2 * i + o) * weight (2 ^ 1074 * 2 ^ 1074) m * E)
    → (m j : ℕ) → m + j ≡ 8 → ev (series o (suc m) j) (record { p = A; n = 0 })
    ≡ record { p = exact (λ i. (signed_by i (share (2 * i + o))).p) A (2 ^ 1074 * 2 ^ 1074) m j * E; n = exact (λ i. (signed_by i (share (2 * i + o))).n) A (2 ^ 1074 * 2 ^ 1074) m j * E }
unfolding ev series ◌⊞◌ ◌⊠◌
linked o E A co zero j h =
    let e = sign_scale j (coefficient (2 * j + o)) (share (2 * j + o)) (2 ^ 1074 * 2 ^ 1074) E (co j zero h) in
    both (flat (signed_by j (coefficient (2 * j + o))).p A ∙ ap (λ (d : Diff). d.p) e) (flat (signed_by j (coefficient (2 * j + o))).n A ∙ ap (λ (d : Diff). d.n) e)
  where
    flat : (x A : ℕ) → x + (A * 0 + 0) ≡ x
    flat x A = let f : A * 0 ≡ 0 = mul-zero A in omega arith
linked o E A co (suc m) j h =
    let w = weight (2 ^ 1074 * 2 ^ 1074) (suc m) in
    let e = sign_scale j (coefficient (2 * j + o)) (share (2 * j + o)) w E (co j (suc m) h) in
    let ih = linked o E A co m (suc j) (next m j h) in
    let hp = exact (λ i. (signed_by i (share (2 * i + o))).p) A (2 ^ 1074 * 2 ^ 1074) m (suc j) in
    let hn = exact (λ i. (signed_by i (share (2 * i + o))).n) A (2 ^ 1074 * 2 ^ 1074) m (suc j) in
    let a = signed_by j (share (2 * j + o)) in
    ap (λ (d : Diff). d ⊞ record { p = A; n = 0 } ⊠ ev (series o (suc m) (suc j)) (record { p = A; n = 0 })) e
    ∙ ap (λ (d : Diff). record { p = a.p * w * E; n = a.n * w * E } ⊞ record { p = A; n = 0 } ⊠ d) ih
    ∙ both (carried (a.p * w) A hp (hn * E) E) (carried (a.n * w) A hn (hp * E) E)
  where
    next : (m j : ℕ) → suc m + j ≡ 8 → m + suc j ≡ 8
    next m j h = omega arith

left_0 : (m : ℕ) → m + 0 ≡ 8 → m ≡ 8
left_0 m h = omega arith

left_1 : (m : ℕ) → m + 1 ≡ 8 → m ≡ 7
left_1 m h = omega arith

left_2 : (m : ℕ) → m + 2 ≡ 8 → m ≡ 6
left_2 m h = omega arith

left_3 : (m : ℕ) → m + 3 ≡ 8 → m ≡ 5
left_3 m h = omega arith

left_4 : (m : ℕ) → m + 4 ≡ 8 → m ≡ 4
left_4 m h = omega arith

left_5 : (m : ℕ) → m + 5 ≡ 8 → m ≡ 3
left_5 m h = omega arith

left_6 : (m : ℕ) → m + 6 ≡ 8 → m ≡ 2
left_6 m h = omega arith

left_7 : (m : ℕ) → m + 7 ≡ 8 → m ≡ 1
left_7 m h = omega arith

left_8 : (m : ℕ) → m + 8 ≡ 8 → m ≡ 0
left_8 m h = omega arith

far : (i m : ℕ) → m + suc (suc (suc (suc (suc (suc (suc (suc (suc i)))))))) ≡ 8 → ⊥
far i m h = omega arith

sin_co : (i m : ℕ) → m + i ≡ 8 → coefficient (2 * i + 1) ≡ share (2 * i + 1) * weight (2 ^ 1074 * 2 ^ 1074) m * (2 ^ 1074) ^ 22
unfolding coefficient share fact
sin_co zero m h = subst (λ (k : ℕ). coefficient 1 ≡ share 1 * weight (2 ^ 1074 * 2 ^ 1074) k * (2 ^ 1074) ^ 22) (sym (left_0 m h)) refl
sin_co (suc zero) m h = subst (λ (k : ℕ). coefficient 3 ≡ share 3 * weight (2 ^ 1074 * 2 ^ 1074) k * (2 ^ 1074) ^ 22) (sym (left_1 m h)) refl
sin_co (suc (suc zero)) m h = subst (λ (k : ℕ). coefficient 5 ≡ share 5 * weight (2 ^ 1074 * 2 ^ 1074) k * (2 ^ 1074) ^ 22) (sym (left_2 m h)) refl
sin_co (suc (suc (suc zero))) m h = subst (λ (k : ℕ). coefficient 7 ≡ share 7 * weight (2 ^ 1074 * 2 ^ 1074) k * (2 ^ 1074) ^ 22) (sym (left_3 m h)) refl
sin_co (suc (suc (suc (suc zero)))) m h = subst (λ (k : ℕ). coefficient 9 ≡ share 9 * weight (2 ^ 1074 * 2 ^ 1074) k * (2 ^ 1074) ^ 22) (sym (left_4 m h)) refl
sin_co (suc (suc (suc (suc (suc zero))))) m h = subst (λ (k : ℕ). coefficient 11 ≡ share 11 * weight (2 ^ 1074 * 2 ^ 1074) k * (2 ^ 1074) ^ 22) (sym (left_5 m h)) refl
sin_co (suc (suc (suc (suc (suc (suc zero)))))) m h = subst (λ (k : ℕ). coefficient 13 ≡ share 13 * weight (2 ^ 1074 * 2 ^ 1074) k * (2 ^ 1074) ^ 22) (sym (left_6 m h)) refl
sin_co (suc (suc (suc (suc (suc (suc (suc zero))))))) m h = subst (λ (k : ℕ). coefficient 15 ≡ share 15 * weight (2 ^ 1074 * 2 ^ 1074) k * (2 ^ 1074) ^ 22) (sym (left_7 m h)) refl
sin_co (suc (suc (suc (suc (suc (suc (suc (suc zero)))))))) m h = subst (λ (k : ℕ). coefficient 17 ≡ share 17 * weight (2 ^ 1074 * 2 ^ 1074) k * (2 ^ 1074) ^ 22) (sym (left_8 m h)) refl
sin_co (suc (suc (suc (suc (suc (suc (suc (suc (suc i))))))))) m h = absurd (far i m h)

cos_co : (i m : ℕ) → m + i ≡ 8 → coefficient (2 * i + 0) ≡ share (2 * i + 0) * weight (2 ^ 1074 * 2 ^ 1074) m * (2 ^ 1074) ^ 23
unfolding coefficient share fact
cos_co zero m h = subst (λ (k : ℕ). coefficient 0 ≡ share 0 * weight (2 ^ 1074 * 2 ^ 1074) k * (2 ^ 1074) ^ 23) (sym (left_0 m h)) refl
cos_co (suc zero) m h = subst (λ (k : ℕ). coefficient 2 ≡ share 2 * weight (2 ^ 1074 * 2 ^ 1074) k * (2 ^ 1074) ^ 23) (sym (left_1 m h)) refl
cos_co (suc (suc zero)) m h = subst (λ (k : ℕ). coefficient 4 ≡ share 4 * weight (2 ^ 1074 * 2 ^ 1074) k * (2 ^ 1074) ^ 23) (sym (left_2 m h)) refl
cos_co (suc (suc (suc zero))) m h = subst (λ (k : ℕ). coefficient 6 ≡ share 6 * weight (2 ^ 1074 * 2 ^ 1074) k * (2 ^ 1074) ^ 23) (sym (left_3 m h)) refl
cos_co (suc (suc (suc (suc zero)))) m h = subst (λ (k : ℕ). coefficient 8 ≡ share 8 * weight (2 ^ 1074 * 2 ^ 1074) k * (2 ^ 1074) ^ 23) (sym (left_4 m h)) refl
cos_co (suc (suc (suc (suc (suc zero))))) m h = subst (λ (k : ℕ). coefficient 10 ≡ share 10 * weight (2 ^ 1074 * 2 ^ 1074) k * (2 ^ 1074) ^ 23) (sym (left_5 m h)) refl
cos_co (suc (suc (suc (suc (suc (suc zero)))))) m h = subst (λ (k : ℕ). coefficient 12 ≡ share 12 * weight (2 ^ 1074 * 2 ^ 1074) k * (2 ^ 1074) ^ 23) (sym (left_6 m h)) refl
cos_co (suc (suc (suc (suc (suc (suc (suc zero))))))) m h = subst (λ (k : ℕ). coefficient 14 ≡ share 14 * weight (2 ^ 1074 * 2 ^ 1074) k * (2 ^ 1074) ^ 23) (sym (left_7 m h)) refl
cos_co (suc (suc (suc (suc (suc (suc (suc (suc zero)))))))) m h = subst (λ (k : ℕ). coefficient 16 ≡ share 16 * weight (2 ^ 1074 * 2 ^ 1074) k * (2 ^ 1074) ^ 23) (sym (left_8 m h)) refl
cos_co (suc (suc (suc (suc (suc (suc (suc (suc (suc i))))))))) m h = absurd (far i m h)

-- ---- the argument as a difference, and its square
abbrev pub as_diff : Bool → ℕ → Diff
as_diff s R = record { p = plus s R; n = minus s R }

pub squared : (s : Bool) (R : ℕ) → as_diff s R ⊠ as_diff s R ≡ record { p = R * R; n = 0 }
unfolding ◌⊠◌
squared false R = both (add-zero (R * R)) (simp (mul-zero, zero-mul))
squared true R = both (zero-add (R * R)) (simp (mul-zero, zero-mul))

sin_value : (s : Bool) (R : ℕ) → ev (sin_poly 9) (as_diff s R)
    ≡ as_diff s R ⊠ record { p = exact (λ i. (signed_by i (share (2 * i + 1))).p) (R * R) (2 ^ 1074 * 2 ^ 1074) 8 0 * (2 ^ 1074) ^ 22; n = exact (λ i. (signed_by i (share (2 * i + 1))).n) (R * R) (2 ^ 1074 * 2 ^ 1074) 8 0 * (2 ^ 1074) ^ 22 }
unfolding sin_poly ev
sin_value s R =
    nil-⊞ (as_diff s R ⊠ ev (spread (series 1 9 0)) (as_diff s R))
    ∙ ap (λ (d : Diff). as_diff s R ⊠ d) (ev_spread (series 1 9 0) (as_diff s R) ∙ ap (λ (d : Diff). ev (series 1 9 0) d) (squared s R) ∙ linked 1 ((2 ^ 1074) ^ 22) (R * R) sin_co 8 0 refl)

cos_value : (s : Bool) (R : ℕ) → ev (cos_poly 9) (as_diff s R)
    ≡ record { p = exact (λ i. (signed_by i (share (2 * i + 0))).p) (R * R) (2 ^ 1074 * 2 ^ 1074) 8 0 * (2 ^ 1074) ^ 23; n = exact (λ i. (signed_by i (share (2 * i + 0))).n) (R * R) (2 ^ 1074 * 2 ^ 1074) 8 0 * (2 ^ 1074) ^ 23 }
unfolding cos_poly
cos_value s R = ev_spread (series 0 9 0) (as_diff s R) ∙ ap (λ (d : Diff). ev (series 0 9 0) d) (squared s R) ∙ linked 0 ((2 ^ 1074) ^ 23) (R * R) cos_co 8 0 refl

-- ---- what a float sum is off by, at the scale 41 ! * U ^ 41, of which `most` is all but a factor U
unfoldable pub most : ℕ
unfolding fact
most = fact 41 * (2 ^ 1074) ^ 40

pub record SumNear (y : Float) (q : Diff) : Type 0 where
  pub sign : Bool
  pub units : ℕ
  pub value : Val y sign units
  pub near : Near (2 ^ 53 * (plus sign units * most)) (2 ^ 53 * (minus sign units * most)) (2 ^ 53 * q.p) (2 ^ 53 * q.n) (30 * (most * 2 ^ 1074))

near_cancel : {p n q m d : ℕ} (k : ℕ) → 0 < k → Near (p * k) (n * k) (q * k) (m * k) (d * k) → Near p n q m d
near_cancel {p} {n} {q} {m} {d} k h o = record {
  under = le_of_mul-le-mul_right {k = k} (le_trans (le_of_eq (add-mul p m k)) (le_trans o.under (le_of_eq (sym (add-mul (q + n) d k ∙ ap (λ (x : ℕ). x + d * k) (add-mul q n k)))))) h;
  over = le_of_mul-le-mul_right {k = k} (le_trans (le_of_eq (add-mul q n k)) (le_trans o.over (le_of_eq (sym (add-mul (p + m) d k ∙ ap (λ (x : ℕ). x + d * k) (add-mul p m k)))))) h;
}

near_swap : {p n q m d : ℕ} → Near p n q m d → Near n p m q d
near_swap o = let a = o.under in let b = o.over in record { under = omega arith; over = omega arith }

-- the square of the argument
square_small : (R U : ℕ) → 128 * R ≤ 101 * U → 8 * (R * R) ≤ 5 * (U * U)
square_small R U h =
    let a : 128 * R * (128 * R) ≤ 101 * U * (101 * U) = mul-le-mul h h in
    let e : 128 * R * (128 * R) ≡ 128 * 128 * (R * R) = mul-mul-mul_comm 128 R 128 R in
    let f : 101 * U * (101 * U) ≡ 101 * 101 * (U * U) = mul-mul-mul_comm 101 U 101 U in
    omega arith

within_range : (a u : ℕ) → 8 * a ≤ 5 * u → a ≤ 2 ^ 22 * u
within_range a u h = omega arith

same_sign : (s : Bool) → unlike s s ≡ false
same_sign true = refl
same_sign false = refl

-- the product with the argument, which is R units
module _ (U S R : ℕ) (big : 2 ^ 60 ≤ U) (h : 128 * R ≤ 101 * U) where
  rg_small : (G : ℕ) → G ≤ 4 * U → 128 * (R * G) ≤ 404 * (U * U)
  rg_small G k =
      let a : 128 * R * G ≤ 101 * U * (4 * U) = mul-le-mul h k in
      let e : 128 * R * G ≡ 128 * (R * G) = mul_assoc 128 R G in
      let f : 101 * U * (4 * U) ≡ 101 * 4 * (U * U) = mul-mul-mul_comm 101 U 4 U in
      go (128 * R * G) (128 * (R * G)) (101 * U * (4 * U)) (U * U) a e f
    where
      go : (a b c u : ℕ) → a ≤ c → a ≡ b → c ≡ 404 * u → b ≤ 404 * u
      go a b c u h e f = omega arith

  times_off : (G : ℕ) → G ≤ 4 * U → (R * G + 2 ^ 52 * U) * S + 30 * (S * U) * R ≤ 30 * (S * U) * U
  times_off G k =
      let a : (R * G + 2 ^ 52 * U) * S ≤ 4 * (U * U) * S = mul-le-mul_right S (linear (R * G) U (U * U) (rg_small G k) (mul-le-mul_right U big)) in
      let b : 4 * (U * U) * S ≡ 4 * (S * U * U) = mul_assoc 4 (U * U) S ∙ ap (λ (x : ℕ). 4 * x) (mul_comm (U * U) S ∙ sym (mul_assoc S U U)) in
      let c : 128 * R * (S * U) ≤ 101 * U * (S * U) = mul-le-mul_right (S * U) h in
      let d : 128 * R * (S * U) ≡ 128 * (S * U * R) = mul_assoc 128 R (S * U) ∙ ap (λ (x : ℕ). 128 * x) (mul_comm R (S * U)) in
      let e : 101 * U * (S * U) ≡ 101 * (S * U * U) = mul_assoc 101 U (S * U) ∙ ap (λ (x : ℕ). 101 * x) (mul_comm U (S * U)) in
      let f : 30 * (S * U) * R ≡ 30 * (S * U * R) = mul_assoc 30 (S * U) R in
      let g : 30 * (S * U) * U ≡ 30 * (S * U * U) = mul_assoc 30 (S * U) U in
      sumup ((R * G + 2 ^ 52 * U) * S) (4 * (U * U) * S) (S * U * U) (128 * R * (S * U)) (S * U * R) (101 * U * (S * U)) (30 * (S * U) * R) (30 * (S * U) * U) a b c d e f g
    where
      linear : (g u uu : ℕ) → 128 * g ≤ 404 * uu → 2 ^ 60 * u ≤ uu → g + 2 ^ 52 * u ≤ 4 * uu
      linear g u uu h k = omega arith

      sumup : (x y t v w z m o : ℕ) → x ≤ y → y ≡ 4 * t → v ≤ z → v ≡ 128 * w → z ≡ 101 * t → m ≡ 30 * w → o ≡ 30 * t → x + m ≤ o
      sumup x y t v w z m o h1 h2 h3 h4 h5 h6 h7 = omega arith

  times_near : (t : Bool) (G Y hp hn : ℕ) → G ≤ 4 * U → Off (2 ^ 53 * (Y * U)) (2 ^ 53 * (R * G)) (R * G + 2 ^ 52 * U)
      → Near (2 ^ 53 * (plus t G * S)) (2 ^ 53 * (minus t G * S)) (2 ^ 53 * (hp * U)) (2 ^ 53 * (hn * U)) (30 * (S * U))
      → Near (2 ^ 53 * (plus t Y * S)) (2 ^ 53 * (minus t Y * S)) (2 ^ 53 * (R * hp)) (2 ^ 53 * (R * hn)) (30 * (S * U))
  times_near t G Y hp hn k o g =
      near_cancel U (less big)
      (near_to
      (near_trans
      (near_to (near_scale S (signed t U Y R G (R * G + 2 ^ 52 * U) o)) (one (plus t Y)) (one (minus t Y)) (two (plus t G)) (two (minus t G)) (le_refl ((R * G + 2 ^ 52 * U) * S)))
      (near_to (near_scale R g) refl refl (three hp) (three hn) (le_refl (30 * (S * U) * R))))
      refl refl refl refl (times_off G k))
    where
      less : 2 ^ 60 ≤ U → 0 < U
      less h = omega arith

      one : (y : ℕ) → 2 ^ 53 * (y * U) * S ≡ 2 ^ 53 * (y * S) * U
      one y = mul_assoc (2 ^ 53) (y * U) S ∙ ap (λ (x : ℕ). 2 ^ 53 * x) (mul_right_comm y U S) ∙ sym (mul_assoc (2 ^ 53) (y * S) U)

      two : (g : ℕ) → 2 ^ 53 * (R * g) * S ≡ 2 ^ 53 * (g * S) * R
      two g = mul_assoc (2 ^ 53) (R * g) S ∙ ap (λ (x : ℕ). 2 ^ 53 * x) (ap (λ (x : ℕ). x * S) (mul_comm R g) ∙ mul_right_comm g R S) ∙ sym (mul_assoc (2 ^ 53) (g * S) R)

      three : (h : ℕ) → 2 ^ 53 * (h * U) * R ≡ 2 ^ 53 * (R * h) * U
      three h = mul_assoc (2 ^ 53) (h * U) R ∙ ap (λ (x : ℕ). 2 ^ 53 * x) (mul_comm (h * U) R ∙ sym (mul_assoc R h U)) ∙ sym (mul_assoc (2 ^ 53) (R * h) U)

-- with the argument's sign
with_sign : (s t : Bool) (R S Y d : ℕ) (h : Diff) → Near (2 ^ 53 * (plus t Y * S)) (2 ^ 53 * (minus t Y * S)) (2 ^ 53 * (R * h.p)) (2 ^ 53 * (R * h.n)) d
    → Near (2 ^ 53 * (plus (unlike s t) Y * S)) (2 ^ 53 * (minus (unlike s t) Y * S)) (2 ^ 53 * (as_diff s R ⊠ h).p) (2 ^ 53 * (as_diff s R ⊠ h).n) d
unfolding ◌⊠◌
with_sign false true R S Y d h o = near_to o refl refl (ap (λ (x : ℕ). 2 ^ 53 * x) (tail (R * h.p) h.n)) (ap (λ (x : ℕ). 2 ^ 53 * x) (tail (R * h.n) h.p)) (le_refl d)
  where
    tail : (x y : ℕ) → x ≡ x + 0 * y
    tail x y = let e = zero-mul y in omega arith
with_sign false false R S Y d h o = near_to o refl refl (ap (λ (x : ℕ). 2 ^ 53 * x) (tail (R * h.p) h.n)) (ap (λ (x : ℕ). 2 ^ 53 * x) (tail (R * h.n) h.p)) (le_refl d)
  where
    tail : (x y : ℕ) → x ≡ x + 0 * y
    tail x y = let e = zero-mul y in omega arith
with_sign true true R S Y d h o = near_to (near_swap o) refl refl (ap (λ (x : ℕ). 2 ^ 53 * x) (head (R * h.n) h.p)) (ap (λ (x : ℕ). 2 ^ 53 * x) (head (R * h.p) h.n)) (le_refl d)
  where
    head : (x y : ℕ) → x ≡ 0 * y + x
    head x y = let e = zero-mul y in omega arith
with_sign true false R S Y d h o = near_to (near_swap o) refl refl (ap (λ (x : ℕ). 2 ^ 53 * x) (head (R * h.n) h.p)) (ap (λ (x : ℕ). 2 ^ 53 * x) (head (R * h.p) h.n)) (le_refl d)
  where
    head : (x y : ℕ) → x ≡ 0 * y + x
    head x y = let e = zero-mul y in omega arith

-- to the whole scale: S * E = most
whole_scale : (S E W U : ℕ) → S * E ≡ W → (x : ℕ) → 2 ^ 53 * (x * S) * E ≡ 2 ^ 53 * (x * W)
whole_scale S E W U e x = mul_assoc (2 ^ 53) (x * S) E ∙ ap (λ (y : ℕ). 2 ^ 53 * y) (mul_assoc x S E ∙ ap (λ (y : ℕ). x * y) e)

error_scale : (S E W U : ℕ) → S * E ≡ W → 30 * (S * U) * E ≡ 30 * (W * U)
error_scale S E W U e = mul_assoc 30 (S * U) E ∙ ap (λ (y : ℕ). 30 * y) (mul_right_comm S U E ∙ ap (λ (y : ℕ). y * U) e)

all_but : scale (fact 41) (2 ^ 1074 * 2 ^ 1074) 8 * (2 ^ 1074) ^ 22 ≡ most
unfolding most fact
all_but = refl

times_power : (s : Bool) (R E : ℕ) (h : Diff) → (as_diff s R ⊠ h).p * E ≡ (as_diff s R ⊠ record { p = h.p * E; n = h.n * E }).p
unfolding ◌⊠◌
times_power s R E h = add-mul (plus s R * h.p) (minus s R * h.n) E ∙ ap (λ (x : ℕ). x + minus s R * h.n * E) (mul_assoc (plus s R) h.p E) ∙ ap (λ (x : ℕ). plus s R * (h.p * E) + x) (mul_assoc (minus s R) h.n E)

times_power_n : (s : Bool) (R E : ℕ) (h : Diff) → (as_diff s R ⊠ h).n * E ≡ (as_diff s R ⊠ record { p = h.p * E; n = h.n * E }).n
unfolding ◌⊠◌
times_power_n s R E h = add-mul (plus s R * h.n) (minus s R * h.p) E ∙ ap (λ (x : ℕ). x + minus s R * h.p * E) (mul_assoc (plus s R) h.n E) ∙ ap (λ (x : ℕ). plus s R * (h.n * E) + x) (mul_assoc (minus s R) h.p E)

-- ---- the two sums
module _ (r : Float) (s : Bool) (R : ℕ) (v : Val r s R) (h : 128 * R ≤ 101 * 2 ^ 1074) where
  za : 8 * (R * R) ≤ 5 * (2 ^ 1074 * 2 ^ 1074)
  za = square_small R (2 ^ 1074) h

  zp : Product r r s s R R
  zp = product r r s s R R v v (within_range (R * R) (2 ^ 1074 * 2 ^ 1074) za)

  zv : Val (r ⊗ r) false zp.units
  zv = subst (λ (b : Bool). Val (r ⊗ r) b zp.units) (same_sign s) zp.value

  zs : 100 * zp.units ≤ 63 * 2 ^ 1074
  zs = z_small (2 ^ 1074) 0 zp.units (R * R) (lit≤ tt) zp.off za

  pub cos_near : SumNear (cos_sum r) (ev (cos_poly 9) (as_diff s R))
  unfolding cos_sum
  cos_near =
      let U = 2 ^ 1074 in
      let S = scale (fact 41) (U * U) 8 in
      let g = nested_got (fact 41) (λ j. term j (2 * j)) (λ i. (signed_by i (share (2 * i + 0))).p) (λ i. (signed_by i (share (2 * i + 0))).n) cos_coef (r ⊗ r) zp.units (R * R) zv zp.off za zs 8 0 (lit≤ tt) in
      let hp = exact (λ i. (signed_by i (share (2 * i + 0))).p) (R * R) (U * U) 8 0 in
      let hn = exact (λ i. (signed_by i (share (2 * i + 0))).n) (R * R) (U * U) 8 0 in
      record {
        sign = g.sign;
        units = g.units;
        value = g.value;
        near = near_to (near_scale (U ^ 22) g.near) (whole_scale S (U ^ 22) most U all_but (plus g.sign g.units)) (whole_scale S (U ^ 22) most U all_but (minus g.sign g.units))
            (power hp ∙ ap (λ (d : Diff). 2 ^ 53 * d.p) (sym (cos_value s R))) (power hn ∙ ap (λ (d : Diff). 2 ^ 53 * d.n) (sym (cos_value s R))) (le_of_eq (error_scale S (U ^ 22) most U all_but));
      }
    where
      power : (x : ℕ) → 2 ^ 53 * (x * 2 ^ 1074) * (2 ^ 1074) ^ 22 ≡ 2 ^ 53 * (x * (2 ^ 1074) ^ 23)
      power x = mul_assoc (2 ^ 53) (x * 2 ^ 1074) ((2 ^ 1074) ^ 22) ∙ ap (λ (y : ℕ). 2 ^ 53 * y) (mul_assoc x (2 ^ 1074) ((2 ^ 1074) ^ 22))

  pub sin_near : SumNear (sin_sum r) (ev (sin_poly 9) (as_diff s R))
  unfolding sin_sum
  sin_near =
      let U = 2 ^ 1074 in
      let S = scale (fact 41) (U * U) 8 in
      let n = nested (λ j. term j (2 * j + 1)) 8 0 (r ⊗ r) in
      let g = nested_got (fact 41) (λ j. term j (2 * j + 1)) (λ i. (signed_by i (share (2 * i + 1))).p) (λ i. (signed_by i (share (2 * i + 1))).n) sin_coef (r ⊗ r) zp.units (R * R) zv zp.off za zs 8 0 (lit≤ tt) in
      let t = g.sign in
      let G = g.units in
      let y = product r n s t R G v g.value (room R G U h g.small) in
      let hp = exact (λ i. (signed_by i (share (2 * i + 1))).p) (R * R) (U * U) 8 0 in
      let hn = exact (λ i. (signed_by i (share (2 * i + 1))).n) (R * R) (U * U) 8 0 in
      let k = with_sign s t R S y.units (30 * (S * U)) (record { p = hp; n = hn }) (times_near U S R (lit≤ tt) h t G y.units hp hn g.small y.off g.near) in
      record {
        sign = unlike s t;
        units = y.units;
        value = y.value;
        near = near_to (near_scale (U ^ 22) k) (whole_scale S (U ^ 22) most U all_but (plus (unlike s t) y.units)) (whole_scale S (U ^ 22) most U all_but (minus (unlike s t) y.units))
            (mul_assoc (2 ^ 53) (as_diff s R ⊠ record { p = hp; n = hn }).p (U ^ 22) ∙ ap (λ (x : ℕ). 2 ^ 53 * x) (times_power s R (U ^ 22) (record { p = hp; n = hn })) ∙ ap (λ (d : Diff). 2 ^ 53 * d.p) (sym (sin_value s R)))
            (mul_assoc (2 ^ 53) (as_diff s R ⊠ record { p = hp; n = hn }).n (U ^ 22) ∙ ap (λ (x : ℕ). 2 ^ 53 * x) (times_power_n s R (U ^ 22) (record { p = hp; n = hn })) ∙ ap (λ (d : Diff). 2 ^ 53 * d.n) (sym (sin_value s R)))
            (le_of_eq (error_scale S (U ^ 22) most U all_but));
      }
    where
      room : (R G U : ℕ) → 128 * R ≤ 101 * U → G ≤ 4 * U → R * G ≤ 2 ^ 22 * (U * U)
      room R G U h k =
          let a : 128 * R * G ≤ 101 * U * (4 * U) = mul-le-mul h k in
          let e : 128 * R * G ≡ 128 * (R * G) = mul_assoc 128 R G in
          let f : 101 * U * (4 * U) ≡ 101 * 4 * (U * U) = mul-mul-mul_comm 101 U 4 U in
          omega arith
