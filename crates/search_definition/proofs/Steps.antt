-- Loops of steps that can be left early: how often they ask, what they keep, and how one step goes. Assumes nothing.
use mathlib.Core.Path.{◌≡◌, refl}
use Prim.Native.Nat.{ℕ, zero, suc, ◌≤◌}
use native.Mathlib.Omega.{arith}
use lib.ListN.{length, length-append}
use Rattle.search_definition.specs.Found.{Asked, done, asking, Step, again, leave, run}

module _ {S R : Type 0} where
  -- a step that asks at most once
  abbrev pub OnceAsked : Step S R → Type 0
  OnceAsked (again l s) = length l ≤ 1
  OnceAsked (leave l r) = length l ≤ 1

  -- a step that keeps I of the state, and leaves with J of the result
  abbrev pub Keeping : (S → Type 0) → (R → Type 0) → Step S R → Type 0
  Keeping I J (again l s) = I s
  Keeping I J (leave l r) = J r

  -- what is left to do after one step
  abbrev pub taken : (S → Asked R) → Step S R → Asked R
  taken go (again l s) = asking l (go s)
  taken go (leave l r) = record { value = r; asked = l }

module _ {S R : Type 0} (step : S → Step S R) (stop : S → R) where
  pub run_suc : (k : ℕ) (s : S) → run step stop (suc k) s ≡ taken (run step stop k) (step s)
  unfolding run
  run_suc k s = go (step s)
    where
      go : (t : Step S R) → ◌≡◌ {A = Asked R} (elim t [ again l u ↦ asking l (run step stop k u) | leave l r ↦ record { value = r; asked = l } ]) (taken (run step stop k) t)
      go (again l u) = refl
      go (leave l r) = refl

  pub run_zero : (s : S) → run step stop 0 s ≡ done (stop s)
  unfolding run
  run_zero s = refl

  -- k steps ask at most k times
  pub run_asks : ((s : S) → OnceAsked (step s)) → (k : ℕ) (s : S) → length (run step stop k s).asked ≤ k
  unfolding run
  run_asks once zero s = omega arith
  run_asks once (suc k) s = rw (run_suc k s) (go (step s) (once s) (run_asks once k))
    where
      go : (t : Step S R) → OnceAsked t → ((u : S) → length (run step stop k u).asked ≤ k) → length (taken (run step stop k) t).asked ≤ suc k
      go (again l u) h ih = omega (arith, length-append l (run step stop k u).asked, ih u)
      go (leave l r) h ih = omega arith

  pub run_keeps : (I : S → Type 0) (J : R → Type 0) → ((s : S) → I s → Keeping I J (step s)) → ((s : S) → I s → J (stop s)) → (k : ℕ) (s : S) → I s → J (run step stop k s).value
  run_keeps I J kept end zero s h = rw (run_zero s) (end s h)
  run_keeps I J kept end (suc k) s h = rw (run_suc k s) (go (step s) (kept s h) (run_keeps I J kept end k))
    where
      go : (t : Step S R) → Keeping I J t → ((u : S) → I u → J (run step stop k u).value) → J (taken (run step stop k) t).value
      go (again l u) c ih = ih u c
      go (leave l r) c ih = c
