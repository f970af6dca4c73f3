-- The sine and the cosine are within 2 ^ -45 of the exact sums, term by term as `specs/Accuracy.antt` writes them. Assumes nothing.
use mathlib.Core.Path.{◌≡◌, refl, sym, ap, ◌∙◌, subst}
use Prim.Native.Nat.{ℕ, zero, suc, ◌+◌, ◌*◌, ◌%◌, ◌^◌, ◌≤◌}
use native.Mathlib.Nat.{zero-mul, one-mul, mul-one, add-zero, mul_comm, mul_assoc, add-mul, pow-suc, pow-zero}
use native.Mathlib.Omega.{arith}
use mathlib.Core.Bool.{Bool, true, false, not, beq, cond, true≢false}
use lib.Dec.{T, eqb}
use lib.Pow.{pow-add}
use lib.IntN.{ℤ}
use lib.Ieee.{Float, nan, inf, fin, binary64, up, down, fits}
use Rattle.float.specs.Sine.{fact, sin, cos}
use Rattle.sine_accuracy.specs.Accuracy.{bound, terms, whole, units_over, term_over, part, Close, SinesGood, CosinesGood}
use Rattle.scalar.proofs.Own.{fitting, grid}
use Rattle.sine_accuracy.proofs.Ops.{Val, plus, minus, Near}
use Rattle.sine_accuracy.proofs.Poly.{Diff, both, ◌⊞◌, ◌⊠◌, ev, spread, ev_spread, nil-⊞}
use Rattle.sine_accuracy.proofs.Series.{share, coefficient, either, signed_by, series, sin_poly, cos_poly}
use Rattle.sine_accuracy.proofs.Sums.{as_diff, most, squared}
use Rattle.sine_accuracy.proofs.Shift.{InBound}
use Rattle.sine_accuracy.proofs.Accuracy.{accurate}

-- ---- the nested form is the sum of the terms
signs_p : (b : Bool) (c w : ℕ) → (either b c).p * w ≡ cond (beq true b) (c * w) 0
signs_p true c w = refl
signs_p false c w = zero-mul w

signs_n : (b : Bool) (c w : ℕ) → (either b c).n * w ≡ cond (beq false b) (c * w) 0
signs_n true c w = zero-mul w
signs_n false c w = refl

raise : (X j o : ℕ) → X * X * X ^ (2 * j + o) ≡ X ^ (2 * suc j + o)
raise X j o = ap (λ (y : ℕ). y * X ^ (2 * j + o)) (two X) ∙ sym (pow-add X 2 (2 * j + o)) ∙ ap (λ (y : ℕ). X ^ y) (index j o)
  where
    index : (j o : ℕ) → 2 + (2 * j + o) ≡ 2 * suc j + o
    index j o = omega arith

    first : (X : ℕ) → X ^ 1 ≡ X
    first X = pow-suc X 0 ∙ ap (λ (y : ℕ). y * X) (pow-zero X) ∙ one-mul X

    two : (X : ℕ) → X * X ≡ X ^ 2
    two X = sym (pow-suc X 1 ∙ ap (λ (y : ℕ). y * X) (first X))

step : (c A h w y g : ℕ) → A * w ≡ y → (c + (A * h + 0 * g)) * w ≡ c * w + h * y
step c A h w y g e =
    let a : 0 * g ≡ 0 = zero-mul g in
    ap (λ (z : ℕ). (c + (A * h + z)) * w) a ∙ ap (λ (z : ℕ). (c + z) * w) (add-zero (A * h)) ∙ add-mul c (A * h) w ∙ ap (λ (z : ℕ). c * w + z) (ap (λ (z : ℕ). z * w) (mul_comm A h) ∙ mul_assoc h A w ∙ ap (λ (z : ℕ). h * z) e)

sums_p : (o m j X : ℕ) → (ev (series o m j) (record { p = X * X; n = 0 })).p * X ^ (2 * j + o) ≡ part true o m j X
unfolding ev series part term_over coefficient share ◌⊞◌ ◌⊠◌
sums_p o zero j X = zero-mul (X ^ (2 * j + o))
sums_p o (suc m) j X =
    let d = ev (series o m (suc j)) (record { p = X * X; n = 0 }) in
    step (signed_by j (coefficient (2 * j + o))).p (X * X) d.p (X ^ (2 * j + o)) (X ^ (2 * suc j + o)) d.n (raise X j o)
    ∙ ap (λ (z : ℕ). z + d.p * X ^ (2 * suc j + o)) (signs_p (eqb (j % 2) 0) (coefficient (2 * j + o)) (X ^ (2 * j + o)))
    ∙ ap (λ (z : ℕ). cond (beq true (eqb (j % 2) 0)) (coefficient (2 * j + o) * X ^ (2 * j + o)) 0 + z) (sums_p o m (suc j) X)

sums_n : (o m j X : ℕ) → (ev (series o m j) (record { p = X * X; n = 0 })).n * X ^ (2 * j + o) ≡ part false o m j X
unfolding ev series part term_over coefficient share ◌⊞◌ ◌⊠◌
sums_n o zero j X = zero-mul (X ^ (2 * j + o))
sums_n o (suc m) j X =
    let d = ev (series o m (suc j)) (record { p = X * X; n = 0 }) in
    step (signed_by j (coefficient (2 * j + o))).n (X * X) d.n (X ^ (2 * j + o)) (X ^ (2 * suc j + o)) d.p (raise X j o)
    ∙ ap (λ (z : ℕ). z + d.n * X ^ (2 * suc j + o)) (signs_n (eqb (j % 2) 0) (coefficient (2 * j + o)) (X ^ (2 * j + o)))
    ∙ ap (λ (z : ℕ). cond (beq false (eqb (j % 2) 0)) (coefficient (2 * j + o) * X ^ (2 * j + o)) 0 + z) (sums_n o m (suc j) X)

-- ---- with the argument's sign
flat : (a b : ℕ) → a + 0 * b ≡ a
flat a b = let e = zero-mul b in omega arith

front : (a b : ℕ) → 0 * b + a ≡ a
front a b = let e = zero-mul b in omega arith

power_one : (X a : ℕ) → X * a ≡ a * X ^ (2 * 0 + 1)
power_one X a = mul_comm X a ∙ ap (λ (y : ℕ). a * y) (sym (pow-suc X 0 ∙ ap (λ (y : ℕ). y * X) (pow-zero X) ∙ one-mul X))

power_none : (X a : ℕ) → a ≡ a * X ^ (2 * 0 + 0)
power_none X a = sym (ap (λ (y : ℕ). a * y) (pow-zero X) ∙ mul-one a)

abbrev sin_inner : ℕ → Diff
sin_inner X = ev (series 1 terms 0) (record { p = X * X; n = 0 })

sin_opened : (s : Bool) (X : ℕ) → ev (sin_poly terms) (as_diff s X) ≡ as_diff s X ⊠ sin_inner X
unfolding sin_poly ev
sin_opened s X = nil-⊞ (as_diff s X ⊠ ev (spread (series 1 terms 0)) (as_diff s X)) ∙ ap (λ (y : Diff). as_diff s X ⊠ y) (ev_spread (series 1 terms 0) (as_diff s X) ∙ ap (λ (y : Diff). ev (series 1 terms 0) y) (squared s X))

sin_signed : (s : Bool) (X : ℕ) → as_diff s X ⊠ sin_inner X ≡ record { p = part (not s) 1 terms 0 X; n = part s 1 terms 0 X }
unfolding ◌⊠◌
sin_signed false X = both (flat (X * (sin_inner X).p) (sin_inner X).n ∙ power_one X (sin_inner X).p ∙ sums_p 1 terms 0 X) (flat (X * (sin_inner X).n) (sin_inner X).p ∙ power_one X (sin_inner X).n ∙ sums_n 1 terms 0 X)
sin_signed true X = both (front (X * (sin_inner X).n) (sin_inner X).p ∙ power_one X (sin_inner X).n ∙ sums_n 1 terms 0 X) (front (X * (sin_inner X).p) (sin_inner X).n ∙ power_one X (sin_inner X).p ∙ sums_p 1 terms 0 X)

sin_terms : (s : Bool) (X : ℕ) → ev (sin_poly terms) (as_diff s X) ≡ record { p = part (not s) 1 terms 0 X; n = part s 1 terms 0 X }
sin_terms s X = sin_opened s X ∙ sin_signed s X

cos_terms : (s : Bool) (X : ℕ) → ev (cos_poly terms) (as_diff s X) ≡ record { p = part true 0 terms 0 X; n = part false 0 terms 0 X }
unfolding cos_poly
cos_terms s X =
    ev_spread (series 0 terms 0) (as_diff s X) ∙ ap (λ (y : Diff). ev (series 0 terms 0) y) (squared s X)
    ∙ both (power_none X (ev (series 0 terms 0) (record { p = X * X; n = 0 })).p ∙ sums_p 0 terms 0 X) (power_none X (ev (series 0 terms 0) (record { p = X * X; n = 0 })).n ∙ sums_n 0 terms 0 X)

-- ---- the theorem
whole_is : most * 2 ^ 1074 ≡ whole
unfolding most fact
whole_is = refl

most_is : most ≡ fact 41 * (2 ^ 1074) ^ 40
unfolding most
most_is = refl

gathered : (a b p n w : ℕ) → Near (bound * a) (bound * b) (bound * p) (bound * n) w → (bound * (a + n) ≤ bound * (p + b) + w) × (bound * (p + b) ≤ bound * (a + n) + w)
gathered a b p n w o = let x = o.under in let y = o.over in (omega arith, omega arith)

close_to : (y : Float) (q : Diff) (p n : ℕ) → q ≡ record { p = p; n = n } → InBound y q → Close y p n
close_to y q p n e k =
    let o = subst (λ (d : Diff). Near (bound * (plus k.sign k.units * most)) (bound * (minus k.sign k.units * most)) (bound * d.p) (bound * d.n) (most * 2 ^ 1074)) e k.near in
    let f = subst (λ (w : ℕ). Near (bound * (plus k.sign k.units * w)) (bound * (minus k.sign k.units * w)) (bound * p) (bound * n) (most * 2 ^ 1074)) most_is o in
    let g = subst (λ (w : ℕ). Near (bound * units_over (plus k.sign k.units)) (bound * units_over (minus k.sign k.units)) (bound * p) (bound * n) w) whole_is f in
    let i = gathered (units_over (plus k.sign k.units)) (units_over (minus k.sign k.units)) p n whole g in
    record { negative = k.sign; units = k.units; value = k.value; above = i.0; below = i.1 }

pub sin_close : (x : Float) (s : Bool) (X : ℕ) → T (fits binary64 x) → Val x s X → X ≤ 4 * 2 ^ 1074 → Close (sin x) (part (not s) 1 terms 0 X) (part s 1 terms 0 X)
sin_close x s X t v h = close_to (sin x) (ev (sin_poly terms) (as_diff s X)) (part (not s) 1 terms 0 X) (part s 1 terms 0 X) (sin_terms s X) (accurate x s X t v h).sine

pub cos_close : (x : Float) (s : Bool) (X : ℕ) → T (fits binary64 x) → Val x s X → X ≤ 4 * 2 ^ 1074 → Close (cos x) (part true 0 terms 0 X) (part false 0 terms 0 X)
cos_close x s X t v h = close_to (cos x) (ev (cos_poly terms) (as_diff s X)) (part true 0 terms 0 X) (part false 0 terms 0 X) (cos_terms s X) (accurate x s X t v h).cosine

-- every finite f64 is a whole number of units
in_units : (s : Bool) (m : ℕ) (e : ℤ) → T (fits binary64 (fin s m e)) → (X : ℕ) × Val (fin s m e) s X
in_units s m e t =
    let g = grid e (fitting s m e t).fine in
    (m * 2 ^ g.0, (refl, mul_assoc m (up e) (2 ^ 1074) ∙ ap (λ (x : ℕ). m * x) g.1 ∙ sym (mul_assoc m (2 ^ g.0) (down e))))

pub sin_good : SinesGood
sin_good nan t h = absurd (true≢false (sym h))
sin_good (inf s) t h = absurd (true≢false (sym h))
sin_good (fin s m e) t h = let i = in_units s m e t in record { negative = s; units = i.0; value = i.1; close = sin_close (fin s m e) s i.0 t i.1 }

pub cos_good : CosinesGood
cos_good nan t h = absurd (true≢false (sym h))
cos_good (inf s) t h = absurd (true≢false (sym h))
cos_good (fin s m e) t h = let i = in_units s m e t in record { negative = s; units = i.0; value = i.1; close = cos_close (fin s m e) s i.0 t i.1 }
