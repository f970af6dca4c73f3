-- One turn of the filter, and its end.
use Prim.Native.Nat.{ℕ, ◌+◌, ◌<◌, ◌≤◌}
use mathlib.Core.Path.{◌≡◌, sym, ap, ◌∙◌}
use mathlib.Core.Bool.{true, false}
use mathlib.Core.List.{List, [], ◌∷◌, ◌++◌, append_assoc, append-nil}
use native.Mathlib.Numerals.{add-one}
use native.Mathlib.Omega.{arith}
use lib.Ieee.{Float, nan, lt}
use lib.ListN.{length, get_or, drop, drop_of_length-le}
use lib.Seq.{drop-cons}
use Rattle.float.specs.Number.{abs}
use Rattle.complex.specs.declared.Complex.{Complex}
use Rattle.polynomial.specs.Roots.{real_parts}

-- what a slice of complex numbers holds past its end
abbrev pub unread : Complex
unread = record { re = nan; im = nan }

-- i roots of the list l are passed, and s is what was kept of them
pub record Kept (epsilon : Float) (l : List Complex) (s : List Float) (i : ℕ) : Type 0 where
  pub fewer : length s ≤ i
  pub so_far : s ++ real_parts epsilon (drop i l) ≡ real_parts epsilon l

module _ (epsilon : Float) (z : Complex) (l : List Complex) where
  in_front : lt (abs z.im) epsilon ≡ true → real_parts epsilon (z ∷ l) ≡ z.re ∷ real_parts epsilon l
  unfolding real_parts
  in_front t = rw t

  left_out : lt (abs z.im) epsilon ≡ false → real_parts epsilon (z ∷ l) ≡ real_parts epsilon l
  unfolding real_parts
  left_out t = rw t

none : (epsilon : Float) → real_parts epsilon [] ≡ []
unfolding real_parts
none epsilon = cc

longer : (s : List Float) (x : Float) → length (s ++ (x ∷ [])) ≡ length s + 1
longer [] x = cc
longer (y ∷ s) x = let e = longer s x in omega arith

module _ (epsilon : Float) (l : List Complex) (s : List Float) (i : ℕ) (inv : Kept epsilon l s i) where
  module _ {x : Float} (more : i < length l) (e-x : x ≡ abs (get_or l i unread).im) where
    next : drop i l ≡ get_or l i unread ∷ drop (i + 1) l
    next = rw (add-one i) (drop-cons l i unread more)

    pub kept : {s' : List Float} → lt x epsilon ≡ true → s' ≡ s ++ ((get_or l i unread).re ∷ []) → Kept epsilon l s' (i + 1)
    kept t e-s =
        let z = get_or l i unread in
        let rest = real_parts epsilon (drop (i + 1) l) in
        let real = rw e-x at t in
        let found : real_parts epsilon (drop i l) ≡ z.re ∷ rest =
        ap (real_parts epsilon) next ∙ in_front epsilon z (drop (i + 1) l) real in
        rw e-s
        (record {
          fewer = omega (arith, longer s z.re, inv.fewer);
          so_far = append_assoc s (z.re ∷ []) rest ∙ ap (λ (f : List Float). s ++ f) (sym found) ∙ inv.so_far;
        })

    pub passed : {s' : List Float} → lt x epsilon ≡ false → s' ≡ s → Kept epsilon l s' (i + 1)
    passed t e-s =
        let other = rw e-x at t in
        let found = ap (real_parts epsilon) next ∙ left_out epsilon (get_or l i unread) (drop (i + 1) l) other in
        rw e-s
        (record {
          fewer = omega (arith, inv.fewer);
          so_far = ap (λ (f : List Float). s ++ f) (sym found) ∙ inv.so_far;
        })

  -- every root is passed
  pub whole : length l ≤ i → s ≡ real_parts epsilon l
  whole h =
      let over : drop i l ≡ [] = drop_of_length-le l h in
      sym (ap (λ (m : List Complex). s ++ real_parts epsilon m) over ∙ ap (λ (f : List Float). s ++ f) (none epsilon) ∙ append-nil s)
      ∙ inv.so_far
