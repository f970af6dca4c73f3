-- The steps of minimise_dip, by what the code's calls ensure. Assumes nothing.
use mathlib.Core.Path.{◌≡◌, sym, ◌∙◌, ap}
use mathlib.Core.Bool.{Bool, true, false}
use mathlib.Core.List.{[], ◌∷◌}
use Prim.Native.Nat.{ℕ, ◌+◌, ◌-◌, ◌≤◌, ◌<◌}
use lib.Ieee.{Float, lt}
use Rattle.float.specs.Num.{nought}
use Rattle.search_definition.specs.Found.{asking, run}
use Rattle.search_definition.specs.Dip.{Valley, left_of, right_of, best, if_below, probe, moved, dip_step, opened, itself, lowest_from, lowest}
use Rattle.search_refine.specs.Counted.{Counted, with_count, total, counted}
use Rattle.search_refine.proofs.Count.{counted_asking, counted_total, step_leaves, step_goes, steps_end}

-- one step: u is the valley after it
module _ (f : Float → Float) (sign : Float) (v w u : Valley) (e : w ≡ moved f sign (lt v.g1 v.g2) v) (d : u ≡ best w) where
  step_is : (b : Bool) → lt u.best_g nought ≡ b → dip_step f sign v ≡ if_below b (probe (lt v.g1 v.g2) v) u
  unfolding dip_step
  step_is b t =
      let z : u ≡ best (moved f sign (lt v.g1 v.g2) v) = d ∙ ap best e in
      sym (ap (λ (t : Valley). if_below (lt t.best_g nought) (probe (lt v.g1 v.g2) v) t) z)
      ∙ ap (λ (t : Bool). if_below t (probe (lt v.g1 v.g2) v) u) t

-- the loop: k steps are made, n evaluations counted
module _ (f : Float → Float) (sign a b : Float) where
  abbrev pub Going : Valley → ℕ → ℕ → Type 0
  Going v n k = counted n (run (dip_step f sign) itself (16 - k) v) ≡ total (lowest f sign a b)

  pub lowest_starts : {v : Valley} {n : ℕ} → with_count v n ≡ with_count (opened f sign a b) 2 → Going v n 0
  unfolding lowest lowest_from
  lowest_starts e =
      let s = run (dip_step f sign) itself 16 in
      ap (λ (c : Counted Valley). counted c.evals (s c.value)) e
      ∙ sym (counted_asking 0 (left_of a b ∷ right_of a b ∷ []) (s (opened f sign a b)))
      ∙ counted_total (asking (left_of a b ∷ right_of a b ∷ []) (s (opened f sign a b)))

  module _ (v : Valley) (n k : ℕ) (inv : Going v n k) {w u : Valley} {m l : ℕ} (e : with_count w m ≡ with_count (moved f sign (lt v.g1 v.g2) v) (n + 1)) (d : with_count u l ≡ with_count (best w) m) where
    stepped : (t : Bool) → lt u.best_g nought ≡ t → dip_step f sign v ≡ if_below t (probe (lt v.g1 v.g2) v) u
    stepped = step_is f sign v w u (ap (λ (c : Counted Valley). c.value) e) (ap (λ (c : Counted Valley). c.value) d)

    pub one_more : l ≡ n + 1
    one_more = ap (λ (c : Counted Valley). c.evals) d ∙ ap (λ (c : Counted Valley). c.evals) e

    pub lowest_leaves : k < 16 → lt u.best_g nought ≡ true → with_count u l ≡ total (lowest f sign a b)
    unfolding if_below
    lowest_leaves h t = rw one_more (step_leaves (dip_step f sign) itself 16 v n k _ inv h (probe (lt v.g1 v.g2) v ∷ []) u (stepped true t))

    pub lowest_goes : k < 16 → lt u.best_g nought ≡ false → Going u l (k + 1)
    unfolding if_below
    lowest_goes h t = rw one_more (step_goes (dip_step f sign) itself 16 v n k _ inv h (probe (lt v.g1 v.g2) v ∷ []) u (stepped false t))

  pub lowest_ends : (v : Valley) (n k : ℕ) → Going v n k → 16 ≤ k → with_count v n ≡ total (lowest f sign a b)
  lowest_ends v n k inv h = steps_end (dip_step f sign) itself 16 v n k _ inv h
