-- The exponent's field is all ones exactly if the word without its sign is at least that of an infinity.
use Prim.Native.Nat.{ℕ, zero, suc, ◌+◌, ◌/◌, ◌%◌}
use mathlib.Core.Path.{◌≡◌, refl, sym, ap, ◌∙◌}
use mathlib.Core.Bool.{Bool, true, false, cond, not}
use native.Mathlib.Omega.{arith}
use borrow.Author.Tests.{ltb-true, ltb-false, eq-eqb, ne_eqb}
use lib.Dec.{leb, ltb, eqb}
use lib.Ieee.{Float, nan, inf, binary64, prec, low, hid, top, odd, of_fields, of_bits}
use Rattle.float.specs.Number.{is_finite}
use Rattle.arms.proofs.finite_word.Goals as goal

odd-finite : (d : ℕ) (s : Bool) (q k l : ℕ) → is_finite (odd d s q k l) ≡ true
unfolding odd
odd-finite d s zero k l = refl
odd-finite d s (suc q) k l = refl

tests : (a b s : Bool) (v : Float) → is_finite v ≡ true → is_finite (cond a (cond b (inf s) nan) v) ≡ not a
tests true true s v h = refl
tests true false s v h = refl
tests false b s v h = h

fields : (s : Bool) (x t : ℕ) → is_finite (of_fields binary64 s x t) ≡ not (eqb x 2047)
unfolding of_fields
fields s zero t = odd-finite (prec binary64) s t 0 (low binary64) ∙ sym (ap not (ne_eqb 0 2047 (λ e. omega arith)))
fields s (suc x) t = tests (eqb (suc x) 2047) (eqb t 0) s _ (odd-finite (prec binary64) s (hid binary64 + t) x (low binary64))

below : (w : ℕ) → ltb (w % 9223372036854775808) 9218868437227405312 ≡ not (eqb (w % 9223372036854775808 / 4503599627370496) 2047)
below w = go (ltb (w % 9223372036854775808) 9218868437227405312) refl
  where
    go : (t : Bool) → ltb (w % 9223372036854775808) 9218868437227405312 ≡ t → t ≡ not (eqb (w % 9223372036854775808 / 4503599627370496) 2047)
    go true e =
        let l = ltb-true (w % 9223372036854775808) 9218868437227405312 e in
        sym (ap not (ne_eqb (w % 9223372036854775808 / 4503599627370496) 2047 (λ f. omega arith)))
    go false e =
        let l = ltb-false (w % 9223372036854775808) 9218868437227405312 e in
        sym (ap not (eq-eqb (w % 9223372036854775808 / 4503599627370496) 2047 (omega arith)))

finite : (w : ℕ) → ltb (w % 9223372036854775808) 9218868437227405312 ≡ is_finite (of_bits binary64 w)
unfolding of_bits
finite w = below w ∙ sym (fields (leb (top binary64) w) (w % top binary64 / hid binary64) (w % hid binary64))

pub returns : goal.returns
returns c = finite c.args.word
