-- The whole search in steps: what is left in a state, and one step of it. Assumes nothing.
use mathlib.Core.Path.{◌≡◌, refl, sym, ◌∙◌, ap, ap₂}
use mathlib.Core.Bool.{true, false, true≢false}
use mathlib.Core.List.{List, [], ◌∷◌, ◌++◌, map, append_assoc, append-nil}
use Prim.Native.Nat.{ℕ, zero, suc, ◌+◌, ◌≤◌, ◌<◌}
use native.Mathlib.Nat.{zero-add, add-zero}
use native.Mathlib.Omega.{arith}
use lib.ListN.{get_or}
use lib.Ieee.{Float, nan}
use Rattle.search_definition.specs.Found.{Entry, Out, nothing, asks, ◌then◌}
use Rattle.search_definition.specs.Search.{of_component, angle, angles, sample, search_1d_bracketed}
use Rattle.search_definition.proofs.Bounds.{then_assoc, then_nothing}
use Rattle.search_steps.specs.Way.{Way, pause, over}
use Rattle.search_steps.specs.ComponentSteps.{component_way, component_angle}
use Rattle.search_steps.specs.Steps.{Samples, no_samples, more, row_of, taken_at, Phase, sampling, searching, ended, State, busy_in, busy, arrive, components_way, start, angle_in, angle_of, next_in, next}
use Rattle.search_steps.specs.Run.{step}
use Rattle.search_steps.proofs.Ways.{emits, ask, way_out, chain_out, chain_once}
use Rattle.search_steps.proofs.ComponentOut.{component_out, component_way_out, component_once}
use Rattle.search_edge.proofs.Rows.{both, component_same}

module _ (err : ℕ → Float → Float) (n : ℕ) where
  abbrev values : Float → ℕ → Float
  values x i = err i x

  -- the samples, after c more from k on
  filled : Samples → ℕ → ℕ → Samples
  filled S zero k = S
  filled S (suc c) k = filled (more S (angle n k) (values (angle n k))) c (suc k)

  -- c components from i on, over the samples taken
  components_out : Samples → ℕ → ℕ → Out
  components_out S zero i = nothing
  components_out S (suc c) i = of_component (err i) i (taken_at S i) n then components_out S c (suc i)

  -- what is left in a phase
  phase_out : Samples → Phase → Out
  phase_out S (sampling c k) = asks (angles n (suc c) k) then components_out (filled S (suc c) k) 4 0
  phase_out S (searching c i z) = component_out (err i) i (taken_at S i) n z then components_out S c (suc i)
  phase_out S ended = nothing

  -- what a state has and is still to give
  pub state_out : State → Out
  state_out s = emits s.found then phase_out s.samples s.phase

  components_way_out : (S : Samples) (c i : ℕ) → way_out (phase_out S) (components_way n S c i) ≡ components_out S c i
  unfolding components_way components_out way_out phase_out
  components_way_out S zero i = refl
  components_way_out S (suc c) i =
      chain_out (component_out (err i) i (taken_at S i) n) (phase_out S) (searching c i) (components_out S c (suc i)) (λ z. refl) (components_way n S c (suc i)) (components_way_out S c (suc i)) (component_way i (taken_at S i) n)
      ∙ ap (λ (z : Out). z then components_out S c (suc i)) (component_way_out (err i) i (taken_at S i) n)

  arrive_out : (S : Samples) (l : List Entry) (w : Way Phase) → state_out (arrive S l w) ≡ emits l then way_out (phase_out S) w
  unfolding state_out arrive way_out phase_out
  arrive_out S l (pause e p) = sym (then_assoc (emits l) (emits e) (phase_out S p))
  arrive_out S l (over e) = then_nothing (emits (l ++ e))

  phase_once : (S : Samples) (l : List Entry) (p : Phase) → busy_in p ≡ true → emits l then phase_out S p ≡ ask (angle_in n S p) (state_out (next_in n S l p (values (angle_in n S p))))
  unfolding phase_out angle_in next_in busy_in state_out filled angles
  phase_once S l (sampling zero k) b =
      let T = more S (angle n k) (values (angle n k)) in
      ap (λ (z : Out). ask (angle n k) (emits l then z)) (sym (components_way_out T 4 0)) ∙ ap (ask (angle n k)) (sym (arrive_out T l (components_way n T 4 0)))
  phase_once S l (sampling (suc c) k) b = refl
  phase_once S l (searching c i z) b =
      let x = component_angle i (taken_at S i) n z in
      ap (λ (o : Out). emits l then o) (chain_once (component_out (err i) i (taken_at S i) n) (phase_out S) (searching c i) (components_out S c (suc i)) (λ y. refl) (components_way n S c (suc i)) (components_way_out S c (suc i)) z _ _ (component_once (err i) i (taken_at S i) n z))
      ∙ ap (ask x) (sym (arrive_out S l _))
  phase_once S l ended b = absurd (true≢false (sym b))

  -- one step, one evaluation
  pub state_once : (s : State) → busy s ≡ true → state_out s ≡ ask (angle_of n s) (state_out (step err n s))
  unfolding state_out busy angle_of step next
  state_once s b = phase_once s.samples s.found s.phase b

  phase_ended : (S : Samples) (p : Phase) → busy_in p ≡ false → phase_out S p ≡ nothing
  unfolding phase_out busy_in
  phase_ended S (sampling c k) b = absurd (true≢false b)
  phase_ended S (searching c i z) b = absurd (true≢false b)
  phase_ended S ended b = refl

  -- at the end nothing is left
  pub state_ended : (s : State) → busy s ≡ false → state_out s ≡ emits s.found
  unfolding state_out busy
  state_ended s b = ap (λ (o : Out). emits s.found then o) (phase_ended s.samples s.phase b) ∙ then_nothing (emits s.found)

  -- ---- the samples taken are the definition's

  more_row : (S : Samples) (x : Float) (v : ℕ → Float) (i : ℕ) → i < 4 → row_of (more S x v) i ≡ row_of S i ++ (v i ∷ [])
  unfolding row_of more
  more_row S x v zero h = refl
  more_row S x v (suc zero) h = refl
  more_row S x v (suc (suc zero)) h = refl
  more_row S x v (suc (suc (suc zero))) h = refl
  more_row S x v (suc (suc (suc (suc i)))) h = absurd (omega arith)

  filled_xs : (S : Samples) (c k : ℕ) → (filled S c k).xs ≡ S.xs ++ angles n c k
  unfolding filled angles more
  filled_xs S zero k = sym (append-nil S.xs)
  filled_xs S (suc c) k = filled_xs (more S (angle n k) (values (angle n k))) c (suc k) ∙ append_assoc S.xs (angle n k ∷ []) (angles n c (suc k))

  filled_row : (S : Samples) (i c k : ℕ) → i < 4 → row_of (filled S c k) i ≡ row_of S i ++ map (err i) (angles n c k)
  unfolding filled angles
  filled_row S i zero k h = sym (append-nil (row_of S i))
  filled_row S i (suc c) k h =
      let x = angle n k in
      filled_row (more S x (values x)) i c (suc k) h
      ∙ ap (λ (l : List Float). l ++ map (err i) (angles n c (suc k))) (more_row S x (values x) i h)
      ∙ append_assoc (row_of S i) (err i x ∷ []) (map (err i) (angles n c (suc k)))

  angle_there : (c k j : ℕ) → j < c → get_or (angles n c k) j nan ≡ angle n (k + j)
  unfolding angles
  angle_there zero k j h = absurd (omega arith)
  angle_there (suc c) k zero h = ap (angle n) (sym (add-zero k))
  angle_there (suc c) k (suc j) h =
      let e : suc k + j ≡ k + suc j = omega arith in
      angle_there c (suc k) j (omega arith) ∙ ap (angle n) e

  value_there : (i c k j : ℕ) → j < c → get_or (map (err i) (angles n c k)) j nan ≡ err i (angle n (k + j))
  unfolding angles
  value_there i zero k j h = absurd (omega arith)
  value_there i (suc c) k zero h = ap (λ (z : ℕ). err i (angle n z)) (sym (add-zero k))
  value_there i (suc c) k (suc j) h =
      let e : suc k + j ≡ k + suc j = omega arith in
      value_there i c (suc k) j (omega arith) ∙ ap (λ (z : ℕ). err i (angle n z)) e

  none_row : (i : ℕ) → row_of no_samples i ≡ []
  unfolding row_of
  none_row zero = refl
  none_row (suc zero) = refl
  none_row (suc (suc zero)) = refl
  none_row (suc (suc (suc i))) = refl

  full : Samples
  full = filled no_samples (suc n) 0

  full_at : (i k : ℕ) → i < 4 → k ≤ n → taken_at full i k ≡ sample err n i k
  unfolding taken_at sample full
  full_at i k h l = ap₂ (λ (a b : Float). record { x = a; y = b }) there value
    where
      there : get_or full.xs k nan ≡ angle n k
      there = ap (λ (z : List Float). get_or z k nan) (filled_xs no_samples (suc n) 0) ∙ angle_there (suc n) 0 k (omega arith) ∙ ap (angle n) (zero-add k)

      value : get_or (row_of full i) k nan ≡ err i (angle n k)
      value =
          ap (λ (z : List Float). get_or z k nan) (filled_row no_samples i (suc n) 0 h ∙ ap (λ (z : List Float). z ++ map (err i) (angles n (suc n) 0)) (none_row i))
          ∙ value_there i (suc n) 0 k (omega arith)
          ∙ ap (λ (z : ℕ). err i (angle n z)) (zero-add k)

  same : (i : ℕ) → i < 4 → of_component (err i) i (taken_at full i) n ≡ of_component (err i) i (sample err n i) n
  same i h = component_same (err i) i (taken_at full i) (sample err n i) n (λ k l. full_at i k h l)

  -- at the start all is left
  pub start_out : state_out (start n) ≡ search_1d_bracketed err n
  unfolding state_out start search_1d_bracketed phase_out components_out full
  start_out =
      both {a = asks (angles n (suc n) 0)} refl
      (both (same 0 (omega arith)) (both (same 1 (omega arith)) (both (same 2 (omega arith)) (then_nothing _ ∙ same 3 (omega arith)))))
