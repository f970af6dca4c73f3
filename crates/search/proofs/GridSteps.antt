-- The steps of the walk over a component's runs and edges, and of the whole search. Assumes nothing.
use mathlib.Core.Path.{◌≡◌, refl, sym, ◌∙◌, ap, ap₂}
use mathlib.Core.Bool.{Bool, true, false}
use mathlib.Core.List.{List}
use Prim.Native.Nat.{ℕ, zero, suc, ◌+◌, ◌-◌, ◌*◌, ◌≤◌, ◌<◌}
use native.Mathlib.Omega.{arith}
use native.Mathlib.Numerals.{add-one}
use lib.ListN.{length, length-append, get_or, set}
use lib.Seq.{get_or-set_same, get_or-set_other}
use native.Mathlib.Decide.{ℕ_discrete}
use lib.Ieee.{Float, nan}
use Rattle.float.specs.Number.{is_finite}
use Rattle.search_definition.specs.Found.{grid, Out, nothing, asks, ◌then◌}
use Rattle.search_definition.specs.Dip.{Point}
use Rattle.search_definition.specs.Scan.{scan_samples}
use Rattle.search_definition.specs.Search.{edge_at, edges, runs, of_component, angle, delta, angles, sample, search_1d_bracketed}
use Rattle.search_definition.proofs.Bounds.{of_component_held, angles_length}
use Rattle.search.specs.State.{State, held, emptied, afterwards, point, sampled, column}
use Rattle.search_error.specs.Fixed.{error_of, error_at}
use Rattle.search_error.specs.declared.Fixed.{Fixed}
use Rattle.search_pairs.specs.declared.row.Sample.{Sample}
use Rattle.search.specs.Searched.{spaced, Gridded, of_components}
use Rattle.search_pairs.proofs.States.{after_nothing, after_two, after_asks}
use Rattle.search_edge.proofs.Rows.{both, component_same}

-- ---- the runs: k of n + 1 samples are passed, the last of which, from s on, are a run
module _ (f : Float → Float) (i : ℕ) (P : ℕ → Point) (n : ℕ) where
  abbrev pub runs_from : ℕ → ℕ → Out
  runs_from s k = runs f i P (n + 1 - k) s (k - s)

  pick : ℕ → ℕ → ℕ → Bool → Out
  pick r s m = elim [ true ↦ runs f i P r s (suc m) | false ↦ scan_samples f (grid i) P s m then runs f i P r (suc (s + m)) 0 ]

  module _ (s k : ℕ) (l : s ≤ k) (h : k ≤ n) where
    run_on : (b : Bool) → is_finite (P k).y ≡ b → runs_from s k ≡ pick (n + 1 - (k + 1)) s (k - s) b
    unfolding runs pick
    run_on b e =
        let left : n + 1 - k ≡ suc (n + 1 - (k + 1)) = omega arith in
        let at : s + (k - s) ≡ k = omega arith in
        ap (λ (z : ℕ). runs f i P z s (k - s)) left ∙ ap (pick (n + 1 - (k + 1)) s (k - s)) (ap (λ (z : ℕ). is_finite (P z).y) at ∙ e)

    pub run_grows : is_finite (P k).y ≡ true → runs_from s k ≡ runs_from s (k + 1)
    unfolding pick
    run_grows e =
        let next : suc (k - s) ≡ k + 1 - s = omega arith in
        run_on true e ∙ ap (λ (z : ℕ). runs f i P (n + 1 - (k + 1)) s z) next

    pub run_ends : is_finite (P k).y ≡ false → runs_from s k ≡ scan_samples f (grid i) P s (k - s) then runs_from (k + 1) (k + 1)
    unfolding pick
    run_ends e =
        let next : suc (s + (k - s)) ≡ k + 1 = omega arith in
        let none : 0 ≡ k + 1 - (k + 1) = omega arith in
        run_on false e ∙ ap₂ (λ (z m : ℕ). scan_samples f (grid i) P s (k - s) then runs f i P (n + 1 - (k + 1)) z m) next none

  pub run_last : (s k : ℕ) → k ≡ n + 1 → runs_from s k ≡ scan_samples f (grid i) P s (n + 1 - s)
  unfolding runs
  run_last s k e =
      let none : n + 1 - k ≡ 0 = omega arith in
      ap (λ (z : ℕ). runs f i P z s (k - s)) none ∙ ap (λ (z : ℕ). scan_samples f (grid i) P s (z - s)) e

-- the place and the count stay small, by the bounds of the definition
module _ (f : Float → Float) (i : ℕ) (P : ℕ → Point) (n : ℕ) (S g : State) (rest : Out) where
  pub few_runs : afterwards g rest ≡ afterwards S (runs f i P (n + 1) 0 0) → (g.pairs ≤ S.pairs + 11 * n) × (g.evals ≤ S.evals + 782 * n)
  unfolding afterwards of_component
  few_runs inv =
      let h = of_component_held f i P n in
      let e : afterwards g rest ≡ afterwards S (runs f i P (suc n) 0 0) = rw (add-one n) at inv in
      let a = runs f i P (suc n) 0 0 in
      let b = edges f i P n 0 in
      (omega (arith, ap (λ (z : State). z.pairs) e, h.pairs, length-append a.found b.found), omega (arith, ap (λ (z : State). z.evals) e, h.cost, length-append a.asked b.asked))

  pub few_edges : afterwards g rest ≡ afterwards S (edges f i P n 0) → (g.pairs ≤ S.pairs + 11 * n) × (g.evals ≤ S.evals + 782 * n)
  unfolding afterwards of_component
  few_edges e =
      let h = of_component_held f i P n in
      let a = runs f i P (suc n) 0 0 in
      let b = edges f i P n 0 in
      (omega (arith, ap (λ (z : State). z.pairs) e, h.pairs, length-append a.found b.found), omega (arith, ap (λ (z : State). z.evals) e, h.cost, length-append a.asked b.asked))

-- ---- the edges
module _ (f : Float → Float) (i : ℕ) (P : ℕ → Point) (n k : ℕ) (s : State) {u : State} (inv : afterwards s (edges f i P (n - k) k) ≡ u) where
  pub edges_step : {t : State} → k < n → t ≡ afterwards s (edge_at f i P k) → afterwards t (edges f i P (n - (k + 1)) (k + 1)) ≡ u
  unfolding edges
  edges_step {t} h w =
      let m : n - k ≡ suc (n - (k + 1)) = omega arith in
      ap (λ (j : ℕ). afterwards t (edges f i P (n - (k + 1)) j)) (add-one k)
      ∙ after_two s (edge_at f i P k) (edges f i P (n - (k + 1)) (suc k)) w refl
      ∙ sym (ap (λ (j : ℕ). afterwards s (edges f i P j k)) m)
      ∙ inv

  pub edges_end : n ≤ k → s ≡ u
  unfolding edges
  edges_end h =
      let m : n - k ≡ 0 = omega arith in
      sym (after_nothing s) ∙ sym (ap (λ (j : ℕ). afterwards s (edges f i P j k)) m) ∙ inv

-- ---- a component
module _ (f : Float → Float) (i : ℕ) (P : ℕ → Point) (n : ℕ) (s : State) {t u : State} where
  pub component_done : t ≡ afterwards s (runs f i P (n + 1) 0 0) → u ≡ afterwards t (edges f i P n 0) → u ≡ afterwards s (of_component f i P n)
  unfolding of_component
  component_done a b =
      after_two s (runs f i P (n + 1) 0 0) (edges f i P n 0) a b
      ∙ ap (λ (j : ℕ). afterwards s (runs f i P j 0 0 then edges f i P n 0)) (add-one n)

pub few_more : (f : Float → Float) (i : ℕ) (P : ℕ → Point) (n : ℕ) (s t : State) → t ≡ afterwards s (of_component f i P n) → (t.pairs ≤ s.pairs + 11 * n) × (t.evals ≤ s.evals + 782 * n)
unfolding afterwards
few_more f i P n s t e =
    let h = of_component_held f i P n in
    (omega (arith, ap (λ (z : State). z.pairs) e, h.pairs), omega (arith, ap (λ (z : State). z.evals) e, h.cost))

-- ---- the four components, over the rows P
module _ (err : ℕ → Float → Float) (n : ℕ) (P : ℕ → ℕ → Point) where
  abbrev pub component_at : ℕ → Out
  component_at i = of_component (err i) i (P i) n

  -- those from i on
  abbrev pub components_from : ℕ → Out
  components_from zero = of_components err n P
  components_from (suc zero) = component_at 1 then component_at 2 then component_at 3
  components_from (suc (suc zero)) = component_at 2 then component_at 3
  components_from (suc (suc (suc zero))) = component_at 3
  components_from (suc (suc (suc (suc i)))) = nothing

  pub component_next : (i : ℕ) (s : State) {t u : State} → i < 4 → afterwards s (components_from i) ≡ u → t ≡ afterwards s (component_at i) → afterwards t (components_from (i + 1)) ≡ u
  component_next zero s h inv w = after_two s (component_at 0) (component_at 1 then component_at 2 then component_at 3) w refl ∙ inv
  component_next (suc zero) s h inv w = after_two s (component_at 1) (component_at 2 then component_at 3) w refl ∙ inv
  component_next (suc (suc zero)) s h inv w = after_two s (component_at 2) (component_at 3) w refl ∙ inv
  component_next (suc (suc (suc zero))) s {t} h inv w = after_nothing t ∙ w ∙ inv
  component_next (suc (suc (suc (suc i)))) s h inv w = absurd (omega arith)

  pub components_end : (i : ℕ) (s : State) {u : State} → 4 ≤ i → afterwards s (components_from i) ≡ u → s ≡ u
  components_end zero s h inv = absurd (omega arith)
  components_end (suc zero) s h inv = absurd (omega arith)
  components_end (suc (suc zero)) s h inv = absurd (omega arith)
  components_end (suc (suc (suc zero))) s h inv = absurd (omega arith)
  components_end (suc (suc (suc (suc i)))) s h inv = sym (after_nothing s) ∙ inv

-- ---- the whole: err is the error, and the list holds its samples
module _ (err : ℕ → Float → Float) (n : ℕ) (l : List Sample) (g : Gridded err n (n + 1) l) where
  same : (i : ℕ) → of_component (err i) i (column l i) n ≡ of_component (err i) i (sample err n i) n
  same i = component_same (err i) i (column l i) (sample err n i) n (λ k h. g.each i k (omega arith))

  -- m is the count after the grid's samples
  pub search_done : (s : State) {t : State} {m : ℕ} → m ≡ n + 1 → t ≡ afterwards (held s.angles s.components 0 m s.lists) (of_components err n (column l)) → t ≡ afterwards (emptied s) (search_1d_bracketed err n)
  unfolding search_1d_bracketed
  search_done s {t} {m} em e =
      let count : m ≡ 0 + length (angles n (suc n) 0) = omega (arith, em, angles_length n (suc n) 0) in
      let start : held s.angles s.components 0 m s.lists ≡ afterwards (emptied s) (asks (angles n (suc n) 0)) = ap (λ (k : ℕ). held s.angles s.components 0 k s.lists) count ∙ after_asks (emptied s) (angles n (suc n) 0) in
      let all : of_components err n (column l) ≡ of_components err n (sample err n) = both (same 0) (both (same 1) (both (same 2) (same 3))) in
      after_two (emptied s) (asks (angles n (suc n) 0)) _ start (e ∙ ap (afterwards (held s.angles s.components 0 m s.lists)) all)

-- one more sample of the grid, v
pub gridded_next : (err : ℕ → Float → Float) (n : ℕ) (l : List Sample) (k : ℕ) (v : Sample) → ((i : ℕ) → sampled i v ≡ sample err n i k) → k < length l → Gridded err n k l → Gridded err n (k + 1) (set l k v)
gridded_next err n l k v e h inv = record { each = λ i j b. go i j b (ℕ_discrete j k) }
  where
    go : (i j : ℕ) → j < k + 1 → Dec (j ≡ k) → column (set l k v) i j ≡ sample err n i j
    go i j b (yes d) = ap (column (set l k v) i) d ∙ ap (sampled i) (get_or-set_same l k v _ h) ∙ e i ∙ ap (sample err n i) (sym d)
    go i j b (no n') = ap (sampled i) (get_or-set_other l k j v _ n') ∙ inv.each i j (omega arith)

-- the sample of component i, as the code takes it
pub sample_is : (g : Fixed) (n k : ℕ) {x : Float} {e : List Float} → x ≡ spaced n k → e ≡ error_of g x → (i : ℕ) → point x (get_or e i nan) ≡ sample (error_at g) n i k
unfolding sample angle delta error_at
sample_is g n k ex ee i = cc
