-- An axis and its negation have exactly negated normalised parts: rounding to nearest does not depend on the sign.
use Prim.Native.Nat.{ℕ, zero, suc, ◌+◌, ◌*◌, ◌^◌}
use mathlib.Core.Path.{◌≡◌, refl}
use mathlib.Core.Bool.{Bool, true, false, cond, not}
use lib.Dec.{eqb, ltb}
use lib.Ieee.{Float, nan, inf, fin, Format, binary64, prec, low, emax, up, down, unlike, odd, units, round, neg, mul, div}
use Rattle.float.specs.Num.{◌⊗◌, ◌⊘◌}
use Rattle.linear.specs.Vector.{norm, normalize, negᵛ}
use Rattle.linear.specs.declared.vector.Vector3.{Vector3}

unlike_left : (s t : Bool) → unlike (not s) t ≡ not (unlike s t)
unlike_left true true = refl
unlike_left true false = refl
unlike_left false true = refl
unlike_left false false = refl

unlike_both : (s : Bool) → unlike (not s) (not s) ≡ unlike s s
unlike_both true = refl
unlike_both false = refl

cond_negated : (b : Bool) (x y : Float) {x' y' : Float} → x' ≡ neg x → y' ≡ neg y → cond b x' y' ≡ neg (cond b x y)
cond_negated true x y e e' = e
cond_negated false x y e e' = e'

odd_negated : (d : ℕ) (s : Bool) (q k l : ℕ) → odd d (not s) q k l ≡ neg (odd d s q k l)
unfolding odd neg
odd_negated d s zero k l = refl
odd_negated d s (suc q) k l = refl

units_negated : (f : Format) (s : Bool) (q k : ℕ) → units f (not s) q k ≡ neg (units f s q k)
unfolding units neg
units_negated f s q k = cond_negated (ltb (q * 2 ^ k) (2 ^ (low f + suc (emax f)))) (odd (suc (prec f)) s q k (low f)) (inf s) (odd_negated (suc (prec f)) s q k (low f)) refl

round_negated : (f : Format) (s : Bool) (num den : ℕ) → round f (not s) num den ≡ neg (round f s num den)
unfolding round
round_negated f s num den = units_negated f s _ _

square_negated : (x : Float) → neg x ⊗ neg x ≡ x ⊗ x
unfolding mul neg
square_negated nan = refl
square_negated (inf s) = cc (unlike_both s)
square_negated (fin s m e) = cc (unlike_both s)

over_negated : (x y : Float) → neg x ⊘ y ≡ neg (x ⊘ y)
unfolding div neg
over_negated nan y = refl
over_negated (inf s) nan = refl
over_negated (inf s) (inf t) = refl
over_negated (inf s) (fin t n d) = cc (unlike_left s t)
over_negated (fin s m e) nan = refl
over_negated (fin s m e) (inf t) = cc (unlike_left s t)
over_negated (fin s m e) (fin t n d) =
    rw (unlike_left s t)
    (cond_negated (eqb n 0) (cond (eqb m 0) nan (inf (unlike s t))) (round binary64 (unlike s t) (m * up e * down d) (n * up d * down e))
    (cond_negated (eqb m 0) nan (inf (unlike s t)) refl refl)
    (round_negated binary64 (unlike s t) (m * up e * down d) (n * up d * down e)))

norm_negated : (k : Vector3) → norm (negᵛ k) ≡ norm k
unfolding norm
norm_negated k = cc (square_negated k.x, square_negated k.y, square_negated k.z)

pub normalize_negated : (k : Vector3) → normalize (negᵛ k) ≡ negᵛ (normalize k)
unfolding normalize
normalize_negated k =
    cc (norm_negated k, over_negated k.x (norm k), over_negated k.y (norm k), over_negated k.z (norm k))
