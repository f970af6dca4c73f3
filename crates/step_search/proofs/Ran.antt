-- Where the code is after k steps from the start. Assumes nothing.
use Rattle.std.proofs.Common.{◌≡◌, refl, sym, ◌∙◌, ap, subst, not, List, [], ◌∷◌, ◌++◌, map, ℕ, zero, suc, ◌+◌, ◌*◌, ◌<◌, ◌≤◌, arith, append_assoc, length, Float}
use Rattle.std.proofs.lemmas.Bool.{not-true, not-false}
use Rattle.std.proofs.lemmas.List.{append-nil}
use Rattle.search_definition.specs.Found.{Entry, component}
use Rattle.search_definition.specs.Search.{search_1d_bracketed}
use Rattle.search_definition.proofs.Bounds.{search_held}
use Rattle.search_steps.specs.Steps.{State, busy_in, busy, start}
use Rattle.search_steps.specs.Kept.{PhaseKept, Kept}
use Rattle.search_steps.specs.Run.{step, steps, evaluations}
use Rattle.search_steps.proofs.Run.{search_runs}
use Rattle.search_steps.proofs.Kept.{start_kept, next_kept}
use Rattle.step_refine.specs.Point as DeclaredPoint
use Rattle.step_pairs.specs.declared.Found.{Found}
use Rattle.step_pairs.specs.Landed.{pair_of, putting}
use Rattle.step_pairs.proofs.LandedLaws.{put_there}
use Rattle.search_pairs.specs.declared.row.Sample as DeclaredSample
use Rattle.step_search.specs.Holds.{Memory, phase_of, is_over, Holds}
use Rattle.step_search.specs.Ran.{After, Ran}
use Rattle.step_search.specs.declared.SearchPhase as Declared
use Rattle.step_search.specs.declared.SearchPhase.TheVariants.{Sampling, Searching, Ended}

busy_is : (n : ℕ) (s : List DeclaredSample.Sample) (r : List DeclaredPoint.Point) (p : Declared.SearchPhase) → busy_in (phase_of n s r p) ≡ not (is_over p)
unfolding busy_in
busy_is n s r Sampling = refl
busy_is n s r (Searching p) = refl
busy_is n s r Ended = refl

-- where there is room for every pair, the list holds them all, one behind the other
put_all : (room : ℕ) (h : List Found) (l : List Entry) → length h + length l ≤ room → putting room h l ≡ h ++ map pair_of l
unfolding putting
put_all room h [] a = sym (append-nil h)
put_all room h (e ∷ l) a =
    let k : length h < room = omega arith in
    let p = pair_of e in
    sym (ap (λ (z : List Found). putting room z l) (put_there room h e.q1 (component e.origin) k e.origin refl))
    ∙ put_all room (h ++ (p ∷ [])) l (omega (arith, longer h p))
    ∙ append_assoc h (p ∷ []) (map pair_of l)
  where
    longer : (h : List Found) (p : Found) → length (h ++ (p ∷ [])) ≡ suc (length h)
    longer [] p = refl
    longer (x ∷ h) p = ap suc (longer h p)

module _ (err : ℕ → Float → Float) (n : ℕ) where
  -- one step more
  pub steps_suc : (k : ℕ) (s : State) → steps err n (suc k) s ≡ step err n (steps err n k s)
  unfolding steps
  steps_suc zero s = refl
  steps_suc (suc k) s = steps_suc k (step err n s)

  steps_keep : (k : ℕ) (s : State) → Kept n s → Kept n (steps err n k s)
  unfolding steps step
  steps_keep zero s h = h
  steps_keep (suc k) s h = steps_keep k (step err n s) (next_kept n s _ h)

  module _ (room k : ℕ) (f : Declared.SearchPhase) (m : Memory) where
    -- a step from where the code is
    pub after_step : (g : Declared.SearchPhase) (w : Memory) → Holds n room (step err n (steps err n k (start n))) g w → After err n room (suc k) g w
    after_step g w h = subst (λ (s : State). Holds n room s g w) (sym (steps_suc k (start n))) h

    module _ (h : After err n room k f m) where
      phase_is : busy (steps err n k (start n)) ≡ not (is_over f)
      unfolding busy
      phase_is = ap busy_in (sym h.phase) ∙ busy_is n m.samples m.row f

      list_is : k ≡ evaluations err n → 44 * n ≤ room → m.found ≡ map pair_of (search_1d_bracketed err n).found
      list_is e a =
          h.pairs
          ∙ ap (putting room []) (ap (λ (j : ℕ). (steps err n j (start n)).found) e ∙ (search_runs err n).pairs)
          ∙ put_all room [] (search_1d_bracketed err n).found (omega (arith, (search_held err n).pairs))

      pub after_ran : Ran err n room k f m
      after_ran =
          record {
            kept = subst (PhaseKept n) (sym h.phase) (steps_keep k (start n) (start_kept n));
            goes_on = λ l. not-true (is_over f) (sym phase_is ∙ (search_runs err n).goes_on k l);
            ends = λ e. not-false (is_over f) (sym phase_is ∙ ap (λ (j : ℕ). busy (steps err n j (start n))) e ∙ (search_runs err n).ends);
            listed = list_is;
          }
