-- The machine, stepped with any error, asks the definition's angles, ends after so many steps and not before, and has the definition's pairs. Assumes nothing.
use mathlib.Core.Path.{◌≡◌, refl, sym, ◌∙◌, ap, ap₂}
use mathlib.Core.Bool.{Bool, true, false}
use mathlib.Core.List.{List, [], ◌∷◌}
use Prim.Native.Nat.{ℕ, zero, suc, ◌<◌}
use native.Mathlib.Omega.{arith}
use lib.ListN.{length}
use lib.Ieee.{Float}
use Rattle.search_definition.specs.Found.{Entry, Out}
use Rattle.search_definition.specs.Search.{search_1d_bracketed}
use Rattle.search_definition.proofs.Bounds.{search_held}
use Rattle.search_steps.specs.Steps.{State, busy, start, angle_of}
use Rattle.search_steps.specs.Run.{step, steps, asked_in, Runs}
use Rattle.search_steps.proofs.StepsOut.{state_out, state_once, state_ended, start_out}

some_none : {x : Float} {l : List Float} → x ∷ l ≡ [] → ⊥
some_none e = let h = ap length e in omega arith

abbrev rest_of : List Float → List Float
rest_of [] = []
rest_of (x ∷ l) = l

abbrev first_of : Float → List Float → Float
first_of d [] = d
first_of d (x ∷ l) = x

module _ (err : ℕ → Float → Float) (n : ℕ) where
  -- from a state in which l is still asked and f is all that is found
  record Walk (l : List Float) (f : List Entry) (s : State) : Type 0 where
    angles : asked_in err n (length l) s ≡ l
    goes_on : (k : ℕ) → k < length l → busy (steps err n k s) ≡ true
    ends : busy (steps err n (length l) s) ≡ false
    pairs : (steps err n (length l) s).found ≡ f

  walk : (l : List Float) (s : State) → (state_out err n s).asked ≡ l → Walk l (state_out err n s).found s
  unfolding steps asked_in
  walk [] s e = go (busy s) refl
    where
      go : (b : Bool) → busy s ≡ b → Walk [] (state_out err n s).found s
      go true b = absurd (some_none (sym (ap (λ (o : Out). o.asked) (state_once err n s b)) ∙ e))
      go false b = record { angles = refl; goes_on = λ k h. absurd (omega arith); ends = b; pairs = sym (ap (λ (o : Out). o.found) (state_ended err n s b)) }
  walk (x ∷ l) s e = go (busy s) refl (walk l (step err n s))
    where
      go : (b : Bool) → busy s ≡ b → ((state_out err n (step err n s)).asked ≡ l → Walk l (state_out err n (step err n s)).found (step err n s)) → Walk (x ∷ l) (state_out err n s).found s
      go false b ih = absurd (some_none (sym e ∙ ap (λ (o : Out). o.asked) (state_ended err n s b)))
      go true b ih =
          let h = state_once err n s b in
          let c : angle_of n s ∷ (state_out err n (step err n s)).asked ≡ x ∷ l = sym (ap (λ (o : Out). o.asked) h) ∙ e in
          let w = ih (ap rest_of c) in
          record {
            angles = ap₂ (λ (y : Float) (m : List Float). y ∷ m) (ap (first_of x) c) w.angles;
            goes_on = elim [ zero ↦ λ k. b | suc j ↦ λ k. w.goes_on j (omega arith) ];
            ends = w.ends;
            pairs = w.pairs ∙ sym (ap (λ (o : Out). o.found) h);
          }

  pub search_runs : Runs err n
  search_runs =
      let o = search_1d_bracketed err n in
      let s = start_out err n in
      let w : Walk o.asked (state_out err n (start n)).found (start n) = walk o.asked (start n) (ap (λ (z : Out). z.asked) s) in
      record { angles = w.angles; goes_on = w.goes_on; ends = w.ends; pairs = w.pairs ∙ ap (λ (z : Out). z.found) s; within = (search_held err n).cost }
