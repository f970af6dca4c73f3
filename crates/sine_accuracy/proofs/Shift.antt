-- The exact sums of degree 41 and 40 at an angle, against those of degree 17 and 16 at the angle less a multiple of FRAC_PI_2. Assumes nothing.
use mathlib.Core.Path.{◌≡◌, sym, ap, ◌∙◌, subst}
use mathlib.Core.List.{List}
use Prim.Native.Nat.{ℕ, ◌+◌, ◌*◌, ◌^◌, ◌≤◌}
use native.Mathlib.Omega.{arith}
use mathlib.Core.Bool.{Bool, true, false, not}
use lib.Dec.{lit≤}
use lib.Ieee.{Float, nan, inf, fin, neg}
use Rattle.float.specs.Sine.{fact}
use Rattle.sine_accuracy.specs.Accuracy.{bound, terms}
use Rattle.float.proofs.Units.{Off}
use Rattle.sine_accuracy.proofs.Ops.{Val, plus, minus, Near}
use Rattle.sine_accuracy.proofs.Horner.{near_trans}
use Rattle.sine_accuracy.proofs.Poly.{Diff, nil, opposite, ◌⊞◌, ◌⊠◌, ev, plus_poly, times_poly, shift, minus_poly, spread, sizes, ev_nat, ev_plus, ev_minus, ev_shift, ev_size, ev_nat_mono, Same, ev_same}
use Rattle.sine_accuracy.proofs.Series.{share, coefficient, series, sin_poly, cos_poly}
use Rattle.sine_accuracy.proofs.Sums.{as_diff, most, SumNear}

-- 101 / 128 in units
abbrev pub reach : ℕ
reach = 101 * 2 ^ 1067

-- the shifted sum q less the sum l, by the sizes of their coefficients
unfoldable pub gap : Diff → List Diff → List Diff → ℕ
unfolding ev_nat sizes plus_poly shift minus_poly
gap c q l = ev_nat (sizes (plus_poly (shift c q) (minus_poly l))) reach

pub shifted : (c : Diff) (q l : List Diff) (r : Diff) (R M : ℕ) → Off r.p r.n R → R ≤ reach → 2 ^ 53 * gap c q l ≤ M
    → Near (2 ^ 53 * (ev l r).p) (2 ^ 53 * (ev l r).n) (2 ^ 53 * (ev q (c ⊞ r)).p) (2 ^ 53 * (ev q (c ⊞ r)).n) M
unfolding gap ◌⊞◌
shifted c q l r R M o h k =
    let d = plus_poly (shift c q) (minus_poly l) in
    let e : ev d r ≡ ev q (c ⊞ r) ⊞ opposite (ev l r) =
    ev_plus (shift c q) (minus_poly l) r ∙ ap (λ (x : Diff). x ⊞ ev (minus_poly l) r) (ev_shift c q r) ∙ ap (λ (x : Diff). ev q (c ⊞ r) ⊞ x) (ev_minus l r) in
    let b : ev_nat (sizes d) R ≤ ev_nat (sizes d) reach = ev_nat_mono (sizes d) R reach h in
    let f = subst (λ (x : Diff). Off x.p x.n (ev_nat (sizes d) R)) e (ev_size d r R o) in
    go (ev q (c ⊞ r)).p (ev q (c ⊞ r)).n (ev l r).p (ev l r).n (ev_nat (sizes d) R) (ev_nat (sizes d) reach) M f b k
  where
    go : (p n u t a b M : ℕ) → Off (p + t) (n + u) a → a ≤ b → 2 ^ 53 * b ≤ M → Near (2 ^ 53 * u) (2 ^ 53 * t) (2 ^ 53 * p) (2 ^ 53 * n) M
    go p n u t a b M o h k = let x = o.under in let y = o.over in record { under = omega arith; over = omega arith }

pub size_of : (t : Bool) (R : ℕ) → Off (plus t R) (minus t R) R
size_of true R = record { under = omega arith; over = omega arith }
size_of false R = record { under = omega arith; over = omega arith }

-- ---- the negative of a sum
pub negated : (y : Float) (s : Bool) (Y : ℕ) → Val y s Y → Val (neg y) (not s) Y
unfolding neg
negated nan s Y v = absurd v
negated (inf t) s Y v = absurd v
negated (fin t m e) s Y v = (ap not v.0, v.1)

pub neg_near : (y : Float) (l : List Diff) (r : Diff) → SumNear y (ev l r) → SumNear (neg y) (ev (minus_poly l) r)
neg_near y l r k = record {
  sign = not k.sign;
  units = k.units;
  value = negated y k.sign k.units k.value;
  near = subst (λ (d : Diff). Near (2 ^ 53 * (plus (not k.sign) k.units * most)) (2 ^ 53 * (minus (not k.sign) k.units * most)) (2 ^ 53 * d.p) (2 ^ 53 * d.n) (30 * (most * 2 ^ 1074))) (sym (ev_minus l r)) (go k.sign k.near);
}
  where
    flip : {p n q m d : ℕ} → Near p n q m d → Near n p m q d
    flip o = let a = o.under in let b = o.over in record { under = omega arith; over = omega arith }

    go : (s : Bool) → Near (2 ^ 53 * (plus s k.units * most)) (2 ^ 53 * (minus s k.units * most)) (2 ^ 53 * (ev l r).p) (2 ^ 53 * (ev l r).n) (30 * (most * 2 ^ 1074))
        → Near (2 ^ 53 * (plus (not s) k.units * most)) (2 ^ 53 * (minus (not s) k.units * most)) (2 ^ 53 * (ev l r).n) (2 ^ 53 * (ev l r).p) (30 * (most * 2 ^ 1074))
    go true o = flip o
    go false o = flip o

-- ---- the whole: y is within 1 / bound of q / (most * U)
pub record InBound (y : Float) (q : Diff) : Type 0 where
  pub sign : Bool
  pub units : ℕ
  pub value : Val y sign units
  pub near : Near (bound * (plus sign units * most)) (bound * (minus sign units * most)) (bound * q.p) (bound * q.n) (most * 2 ^ 1074)

pub finish : (y : Float) (s t : Bool) (X R : ℕ) (c : Diff) (q l : List Diff) → 128 * R ≤ 101 * 2 ^ 1074 → Same (c ⊞ as_diff t R) (as_diff s X) → 2 ^ 53 * gap c q l ≤ 4 * (most * 2 ^ 1074)
    → SumNear y (ev l (as_diff t R)) → InBound y (ev q (as_diff s X))
finish y s t X R c q l h e g k = record {
  sign = k.sign;
  units = k.units;
  value = k.value;
  near = go (plus k.sign k.units * most) (minus k.sign k.units * most) (ev q (c ⊞ as_diff t R)).p (ev q (c ⊞ as_diff t R)).n (ev q (as_diff s X)).p (ev q (as_diff s X)).n (most * 2 ^ 1074)
      (ev_same q (c ⊞ as_diff t R) (as_diff s X) e)
      (near_trans k.near (shifted c q l (as_diff t R) R (4 * (most * 2 ^ 1074)) (size_of t R) (small R h) g));
}
  where
    small : (R : ℕ) → 128 * R ≤ 101 * 2 ^ 1074 → R ≤ reach
    small R h = cut R (2 ^ 1067) h
      where
        cut : (R w : ℕ) → 128 * R ≤ 101 * (128 * w) → R ≤ 101 * w
        cut R w h = omega arith

    go : (a b p n u t M : ℕ) → p + t ≡ u + n → Near (2 ^ 53 * a) (2 ^ 53 * b) (2 ^ 53 * p) (2 ^ 53 * n) (30 * M + 4 * M) → Near (bound * a) (bound * b) (bound * u) (bound * t) M
    go a b p n u t M e o = let x = o.under in let y = o.over in record { under = omega arith; over = omega arith }

-- ---- the gaps, computed
pub sin_down_3 : 2 ^ 53 * gap (record { p = 0; n = 2652839157010665 * 2 ^ 1025 }) (sin_poly terms) (cos_poly 9) ≤ 4 * (most * 2 ^ 1074)
unfolding gap ev_nat sizes plus_poly shift times_poly minus_poly sin_poly cos_poly spread series coefficient share fact most ◌⊞◌ ◌⊠◌
sin_down_3 = lit≤ tt

pub sin_down_2 : 2 ^ 53 * gap (record { p = 0; n = 884279719003555 * 2 ^ 1026 }) (sin_poly terms) (minus_poly (sin_poly 9)) ≤ 4 * (most * 2 ^ 1074)
unfolding gap ev_nat sizes plus_poly shift times_poly minus_poly sin_poly cos_poly spread series coefficient share fact most ◌⊞◌ ◌⊠◌
sin_down_2 = lit≤ tt

pub sin_down_1 : 2 ^ 53 * gap (record { p = 0; n = 884279719003555 * 2 ^ 1025 }) (sin_poly terms) (minus_poly (cos_poly 9)) ≤ 4 * (most * 2 ^ 1074)
unfolding gap ev_nat sizes plus_poly shift times_poly minus_poly sin_poly cos_poly spread series coefficient share fact most ◌⊞◌ ◌⊠◌
sin_down_1 = lit≤ tt

pub sin_up_0 : 2 ^ 53 * gap nil (sin_poly terms) (sin_poly 9) ≤ 4 * (most * 2 ^ 1074)
unfolding gap ev_nat sizes plus_poly shift times_poly minus_poly sin_poly cos_poly spread series coefficient share fact most ◌⊞◌ ◌⊠◌
sin_up_0 = lit≤ tt

pub sin_up_1 : 2 ^ 53 * gap (record { p = 884279719003555 * 2 ^ 1025; n = 0 }) (sin_poly terms) (cos_poly 9) ≤ 4 * (most * 2 ^ 1074)
unfolding gap ev_nat sizes plus_poly shift times_poly minus_poly sin_poly cos_poly spread series coefficient share fact most ◌⊞◌ ◌⊠◌
sin_up_1 = lit≤ tt

pub sin_up_2 : 2 ^ 53 * gap (record { p = 884279719003555 * 2 ^ 1026; n = 0 }) (sin_poly terms) (minus_poly (sin_poly 9)) ≤ 4 * (most * 2 ^ 1074)
unfolding gap ev_nat sizes plus_poly shift times_poly minus_poly sin_poly cos_poly spread series coefficient share fact most ◌⊞◌ ◌⊠◌
sin_up_2 = lit≤ tt

pub sin_up_3 : 2 ^ 53 * gap (record { p = 2652839157010665 * 2 ^ 1025; n = 0 }) (sin_poly terms) (minus_poly (cos_poly 9)) ≤ 4 * (most * 2 ^ 1074)
unfolding gap ev_nat sizes plus_poly shift times_poly minus_poly sin_poly cos_poly spread series coefficient share fact most ◌⊞◌ ◌⊠◌
sin_up_3 = lit≤ tt

pub cos_down_3 : 2 ^ 53 * gap (record { p = 0; n = 2652839157010665 * 2 ^ 1025 }) (cos_poly terms) (minus_poly (sin_poly 9)) ≤ 4 * (most * 2 ^ 1074)
unfolding gap ev_nat sizes plus_poly shift times_poly minus_poly sin_poly cos_poly spread series coefficient share fact most ◌⊞◌ ◌⊠◌
cos_down_3 = lit≤ tt

pub cos_down_2 : 2 ^ 53 * gap (record { p = 0; n = 884279719003555 * 2 ^ 1026 }) (cos_poly terms) (minus_poly (cos_poly 9)) ≤ 4 * (most * 2 ^ 1074)
unfolding gap ev_nat sizes plus_poly shift times_poly minus_poly sin_poly cos_poly spread series coefficient share fact most ◌⊞◌ ◌⊠◌
cos_down_2 = lit≤ tt

pub cos_down_1 : 2 ^ 53 * gap (record { p = 0; n = 884279719003555 * 2 ^ 1025 }) (cos_poly terms) (sin_poly 9) ≤ 4 * (most * 2 ^ 1074)
unfolding gap ev_nat sizes plus_poly shift times_poly minus_poly sin_poly cos_poly spread series coefficient share fact most ◌⊞◌ ◌⊠◌
cos_down_1 = lit≤ tt

pub cos_up_0 : 2 ^ 53 * gap nil (cos_poly terms) (cos_poly 9) ≤ 4 * (most * 2 ^ 1074)
unfolding gap ev_nat sizes plus_poly shift times_poly minus_poly sin_poly cos_poly spread series coefficient share fact most ◌⊞◌ ◌⊠◌
cos_up_0 = lit≤ tt

pub cos_up_1 : 2 ^ 53 * gap (record { p = 884279719003555 * 2 ^ 1025; n = 0 }) (cos_poly terms) (minus_poly (sin_poly 9)) ≤ 4 * (most * 2 ^ 1074)
unfolding gap ev_nat sizes plus_poly shift times_poly minus_poly sin_poly cos_poly spread series coefficient share fact most ◌⊞◌ ◌⊠◌
cos_up_1 = lit≤ tt

pub cos_up_2 : 2 ^ 53 * gap (record { p = 884279719003555 * 2 ^ 1026; n = 0 }) (cos_poly terms) (minus_poly (cos_poly 9)) ≤ 4 * (most * 2 ^ 1074)
unfolding gap ev_nat sizes plus_poly shift times_poly minus_poly sin_poly cos_poly spread series coefficient share fact most ◌⊞◌ ◌⊠◌
cos_up_2 = lit≤ tt

pub cos_up_3 : 2 ^ 53 * gap (record { p = 2652839157010665 * 2 ^ 1025; n = 0 }) (cos_poly terms) (sin_poly 9) ≤ 4 * (most * 2 ^ 1074)
unfolding gap ev_nat sizes plus_poly shift times_poly minus_poly sin_poly cos_poly spread series coefficient share fact most ◌⊞◌ ◌⊠◌
cos_up_3 = lit≤ tt
