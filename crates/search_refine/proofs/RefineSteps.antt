-- One step of refine_bracket, by what the code's tests and calls gave. Assumes nothing.
use Rattle.std.proofs.Common.{◌≡◌, ◌∙◌, sym, ap, ℕ, ◌+◌, ◌-◌, ◌<◌, Bool, true, false, [], ◌∷◌}
use mathlib.Core.Bool.{beq}
use lib.Ieee.{Float}
use Rattle.float.specs.Number.{is_finite}
use Rattle.search_definition.specs.Found.{run, again, leave}
use Rattle.search_definition.specs.Refine.{negative, Bracket, next, near, narrowed, if_near, if_value, if_next, refine_step, reached}
use Rattle.search_refine.specs.Counted.{Counted, with_count, counted}
use Rattle.search_refine.proofs.Count.{step_leaves, step_quits, step_goes}

-- p is the guess, as a call gave it
module _ (f : Float → Float) (s : Bracket) {p : Float} (ep : p ≡ next s) where
  pub no_next : is_finite p ≡ false → refine_step f s ≡ leave [] s.x
  unfolding refine_step if_next
  no_next g = cc

  -- y is the value there
  module _ {y : Float} (e : y ≡ f p) (g : is_finite p ≡ true) where
    pub no_value : is_finite y ≡ false → refine_step f s ≡ leave (p ∷ []) s.x
    unfolding refine_step if_next if_value
    no_value v = cc

    pub is_near : is_finite y ≡ true → near s y ≡ true → refine_step f s ≡ leave (p ∷ []) p
    unfolding refine_step if_next if_value if_near
    is_near v n = cc

    pub goes_on : is_finite y ≡ true → near s y ≡ false → refine_step f s ≡ again (p ∷ []) (narrowed (beq (negative y) (negative s.fa)) p y s)
    unfolding refine_step if_next if_value if_near
    goes_on v n = cc

-- The loop: n evaluations are made, and as many steps. A test `!is_finite(p)` gives `is_finite p` by what the call ensures of its result r.
module _ (f : Float → Float) (s : Bracket) (n : ℕ) {w : Counted Float} (inv : counted n (run (refine_step f) reached (60 - n) s) ≡ w) (h : n < 60) {p : Float} {r : Bool} (ep : p ≡ next s) (er : r ≡ is_finite p) where
  pub leaves_at_next : r ≡ false → with_count s.x n ≡ w
  leaves_at_next g = step_quits (refine_step f) reached 60 s n n w inv h s.x (no_next f s ep (sym er ∙ g))

  module _ {y : Float} {q : Bool} (ey : y ≡ f p) (eq : q ≡ is_finite y) (g : r ≡ true) where
    pub leaves_at_value : q ≡ false → with_count s.x (n + 1) ≡ w
    leaves_at_value v = step_leaves (refine_step f) reached 60 s n n w inv h (p ∷ []) s.x (no_value f s ep ey (sym er ∙ g) (sym eq ∙ v))

    pub leaves_near : q ≡ true → near s y ≡ true → with_count p (n + 1) ≡ w
    leaves_near v t = step_leaves (refine_step f) reached 60 s n n w inv h (p ∷ []) p (is_near f s ep ey (sym er ∙ g) (sym eq ∙ v) t)

    pub goes_narrowed : {u : Bracket} → q ≡ true → near s y ≡ false → u ≡ narrowed (beq (negative y) (negative s.fa)) p y s → counted (n + 1) (run (refine_step f) reached (60 - (n + 1)) u) ≡ w
    goes_narrowed v t e =
        ap (λ (b : Bracket). counted (n + 1) (run (refine_step f) reached (60 - (n + 1)) b)) e
        ∙ step_goes (refine_step f) reached 60 s n n w inv h (p ∷ []) _ (goes_on f s ep ey (sym er ∙ g) (sym eq ∙ v) t)
