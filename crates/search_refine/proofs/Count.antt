-- Loops of steps, as the code runs them: a count goes up by the angles that each step asks. Assumes nothing.
use mathlib.Core.Path.{◌≡◌, sym, ◌∙◌, ap}
use mathlib.Core.List.{List, [], ◌++◌}
use Prim.Native.Nat.{ℕ, suc, ◌+◌, ◌-◌, ◌≤◌, ◌<◌}
use native.Mathlib.Nat.{add-zero, zero-add}
use native.Mathlib.Omega.{arith}
use lib.ListN.{length, length-append}
use lib.Ieee.{Float}
use Rattle.search_definition.specs.Found.{Asked, asking, Step, again, leave, run}
use Rattle.search_definition.proofs.Steps.{taken, run_suc, run_zero}
use Rattle.search_refine.specs.Counted.{Counted, with_count, total, counted}

pub counted_asking : {R : Type 0} (n : ℕ) (l : List Float) (a : Asked R) → counted n (asking l a) ≡ counted (n + length l) a
counted_asking n l a = λ i. record { value = a.value; evals = sum i }
  where
    sum : n + length (l ++ a.asked) ≡ n + length l + length a.asked
    sum = omega (arith, length-append l a.asked)

pub counted_total : {R : Type 0} (a : Asked R) → counted 0 a ≡ total a
counted_total a = λ i. record { value = a.value; evals = zero-add (length a.asked) i }

-- k is how many steps are left, of T in all
module _ {S R : Type 0} (step : S → Step S R) (stop : S → R) (T : ℕ) (s : S) (n k : ℕ) (w : Counted R) (inv : counted n (run step stop (T - k) s) ≡ w) where
  module _ (h : k < T) where
    one_step : counted n (taken (run step stop (T - (k + 1))) (step s)) ≡ w
    one_step =
        let m : T - k ≡ suc (T - (k + 1)) = omega arith in
        ap (counted n) (sym (run_suc step stop (T - (k + 1)) s) ∙ ap (λ (z : ℕ). run step stop z s) (sym m)) ∙ inv

    pub step_leaves : (l : List Float) (r : R) → step s ≡ leave l r → with_count r (n + length l) ≡ w
    step_leaves l r e = sym (ap (λ (t : Step S R). counted n (taken (run step stop (T - (k + 1))) t)) e) ∙ one_step

    -- a step that leaves before it asks
    pub step_quits : (r : R) → step s ≡ leave [] r → with_count r n ≡ w
    step_quits r e = (λ i. record { value = r; evals = sym (add-zero n) i }) ∙ step_leaves [] r e

    pub step_goes : (l : List Float) (t : S) → step s ≡ again l t → counted (n + length l) (run step stop (T - (k + 1)) t) ≡ w
    step_goes l t e =
        sym (counted_asking n l (run step stop (T - (k + 1)) t))
        ∙ sym (ap (λ (t : Step S R). counted n (taken (run step stop (T - (k + 1))) t)) e)
        ∙ one_step

  pub steps_end : T ≤ k → with_count (stop s) n ≡ w
  steps_end h =
      let m : T - k ≡ 0 = omega arith in
      (λ i. record { value = stop s; evals = sym (add-zero n) i })
      ∙ ap (counted n) (sym (run_zero step stop s) ∙ ap (λ (z : ℕ). run step stop z s) (sym m))
      ∙ inv
