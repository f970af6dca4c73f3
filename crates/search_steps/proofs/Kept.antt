-- The numbers of a state stay within their bounds, step by step. Assumes nothing.
use mathlib.Core.Path.{◌≡◌, refl}
use mathlib.Core.Bool.{Bool, true, false, beq}
use mathlib.Core.List.{List, [], ◌∷◌, ◌++◌}
use Prim.Native.Nat.{ℕ, zero, suc, ◌+◌, ◌-◌, ◌≤◌, ◌<◌}
use native.Mathlib.Omega.{arith}
use lib.ListN.{length, length-append, length-reverse}
use lib.Ieee.{Float, lt}
use Rattle.float.specs.Number.{is_finite}
use Rattle.search_definition.specs.Found.{Entry, Place, Origin, grid, edge, crossing}
use Rattle.search_definition.specs.Dip.{Point}
use Rattle.search_definition.specs.Scan.{crosses, dips, falls_to, falls_back}
use Rattle.search_definition.specs.Search.{Gap, mid, if_inside, keep, reversed_if, row_at}
use Rattle.search_steps.specs.Way.{Way, pause, over, chain}
use Rattle.search_steps.specs.RefineSteps.{refine_next, refine_start}
use Rattle.search_steps.specs.DipSteps.{dip_way, dip_next}
use Rattle.search_steps.specs.ScanSteps.{Scan, at_crossing, at_inner, at_last, at_first, of_inner, of_last, of_first, if_first, first_way, if_last, last_way, if_inner, inner_way, if_crosses_way, items_way, scan_next, last_pair, scan_way}
use Rattle.search_steps.specs.EdgeSteps.{Edge, halving, taking, in_row, sub_angle, row_way, take_way, halve_way, edge_next, edge_way}
use Rattle.search_steps.specs.ComponentSteps.{Component, in_run, in_edge, gap_at, if_alike_way, edges_way, runs_way, component_way, component_next}
use Rattle.search_steps.specs.Steps.{Samples, taken_at, Phase, sampling, searching, ended, State, arrive, components_way, start, next_in, next}
use Rattle.search_steps.specs.Kept.{Each, ScanKept, EdgeKept, ComponentKept, ComponentSmall, PhaseKept, Kept}
use Rattle.search_steps.proofs.Small.{added, chained, free, each_both, component_way_small, component_next_small}

-- ---- a row
module _ (o : Place → Origin) (P : ℕ → Point) (s t : ℕ) where
  abbrev In : Scan → Type 0
  In = ScanKept s t

  first_kept : Each In (first_way o P s t)
  unfolding first_way if_first
  first_kept = go (falls_back (P s) (P (suc s)))
    where
      go : (b : Bool) → Each In (if_first o P s t b)
      go true = free In at_first (over []) tt (λ d. tt) (dip_way (of_first o s) (P s) (P (suc s)))
      go false = tt

  last_kept : Each In (last_way o P s t)
  unfolding last_way if_last
  last_kept = go (falls_to (P t) (P (suc t)))
    where
      go : (b : Bool) → Each In (if_last o P s t b)
      go true = free In at_last (first_way o P s t) first_kept (λ d. tt) (dip_way (of_last o t) (P t) (P (suc t)))
      go false = first_kept

  items_kept : (c l : ℕ) → s ≤ l → l + c ≡ suc t → Each In (items_way o P s t c l)
  unfolding items_way if_crosses_way inner_way if_inner
  items_kept zero l a e = last_kept
  items_kept (suc c) l a e = cross (crosses (P l) (P (suc l))) (items_kept c (suc l) (omega arith) (omega arith))
    where
      here : (s ≤ l) × (l + c ≡ t)
      here = (a, omega arith)

      dip : (b : Bool) (w : Way Scan) → Each In w → Each In (if_inner o P s t b c l w)
      dip true w h = free In (at_inner c l) w h (λ d. here) (dip_way (of_inner o l) (P l) (P (suc (suc l))))
      dip false w h = h

      inside : (k : ℕ) → k ≡ c → (w : Way Scan) → Each In w → Each In (inner_way o P s t k l w)
      inside zero e w h = h
      inside (suc k) e w h = rw e (dip (dips (P l) (P (suc l)) (P (suc (suc l)))) w h)

      cross : (b : Bool) → Each In (items_way o P s t c (suc l)) → Each In (if_crosses_way o P s t b c l (items_way o P s t c (suc l)))
      cross true h = free In (at_crossing c l) (items_way o P s t c (suc l)) h (λ d. here) (refine_start (o (crossing l)) (P l) (P (suc l)))
      cross false h = inside c refl (items_way o P s t c (suc l)) h

  pub scan_next_kept : (z : Scan) (y : Float) → In z → Each In (scan_next o P s t z y)
  unfolding scan_next
  scan_next_kept (at_crossing c l r) y h =
      free In (at_crossing c l) (items_way o P s t c (suc l)) (items_kept c (suc l) (omega arith) (omega arith)) (λ d. h) (refine_next (o (crossing l)) r y)
  scan_next_kept (at_inner c l d) y h =
      free In (at_inner c l) (items_way o P s t c (suc l)) (items_kept c (suc l) (omega arith) (omega arith)) (λ d. h) (dip_next (of_inner o l) (P l) (P (suc (suc l))) d y)
  scan_next_kept (at_last d) y h = free In at_last (first_way o P s t) first_kept (λ d. tt) (dip_next (of_last o t) (P t) (P (suc t)) d y)
  scan_next_kept (at_first d) y h = free In at_first (over []) tt (λ d. tt) (dip_next (of_first o s) (P s) (P (suc s)) d y)

scan_way_kept : (o : Place → Origin) (P : ℕ → Point) (s m : ℕ) → Each (ScanKept s (last_pair s m)) (scan_way o P s m)
unfolding scan_way last_pair
scan_way_kept o P s zero = tt
scan_way_kept o P s (suc zero) = tt
scan_way_kept o P s (suc (suc c)) = items_kept o P s (s + c) (suc c) s (omega arith) (omega arith)

-- ---- an edge
keep_length : (b : Bool) (p : Point) → length (keep b p []) ≤ 1
unfolding keep
keep_length true p = omega arith
keep_length false p = omega arith

reversed_length : (b : Bool) (l : List Point) → length (reversed_if b l) ≡ length l
unfolding reversed_if
reversed_length true l = length-reverse l
reversed_length false l = refl

module _ (o : Place → Origin) (p : Point) where
  row_kept : (l : List Point) → length l ≤ 9 → Each EdgeKept (row_way o p l)
  unfolding row_way
  row_kept l h =
      chained EdgeKept (in_row l) (over []) tt (ScanKept 0 (last_pair 0 (length l))) (λ z k. (h, k)) (scan_way o (row_at l) 0 (length l)) (scan_way_kept o (row_at l) 0 (length l))

  take_kept : (e : Point) (c j : ℕ) (l : List Point) → c + j ≡ 8 → length l < j → Each EdgeKept (take_way o p e c j l)
  unfolding take_way
  take_kept e zero j l a b =
      row_kept (reversed_if (lt p.x e.x) (e ∷ (l ++ (p ∷ [])))) (omega (arith, reversed_length (lt p.x e.x) (e ∷ (l ++ (p ∷ []))), length-append l (p ∷ [])))
  take_kept e (suc c) j l a b = (omega arith, b)

  halve_kept : (k : ℕ) (g : Gap) → k ≤ 16 → Each EdgeKept (halve_way o p k g)
  unfolding halve_way
  halve_kept zero g h = take_kept g.inside 7 1 [] refl (omega arith)
  halve_kept (suc k) g h = h

  edge_next_kept : (z : Edge) (y : Float) → EdgeKept z → Each EdgeKept (edge_next o p z y)
  unfolding edge_next
  edge_next_kept (halving k g) y h = halve_kept k (if_inside (is_finite y) (mid g) y g) (omega arith)
  edge_next_kept (taking e c j l) y h =
      let q : Point = record { x = sub_angle o p e j; y = y } in
      take_kept e c (suc j) (l ++ keep (is_finite y) q []) (omega (arith, h.0)) (omega (arith, h.1, keep_length (is_finite y) q, length-append l (keep (is_finite y) q [])))
  edge_next_kept (in_row l z) y h =
      chained EdgeKept (in_row l) (over []) tt (ScanKept 0 (last_pair 0 (length l))) (λ v k. (h.0, k)) (scan_next o (row_at l) 0 (last_pair 0 (length l)) z y) (scan_next_kept o (row_at l) 0 (last_pair 0 (length l)) z y h.1)

edge_way_kept : (o : Place → Origin) (g : Gap) → Each EdgeKept (edge_way o g)
unfolding edge_way
edge_way_kept o g = halve_kept o g.inside 16 g (omega arith)

-- ---- a component
module _ (i : ℕ) (P : ℕ → Point) (n : ℕ) where
  abbrev Of : Component → Type 0
  Of = ComponentKept n

  edges_kept : (r k : ℕ) → k + r ≡ n → Each Of (edges_way i P n r k)
  unfolding edges_way if_alike_way
  edges_kept zero k e = tt
  edges_kept (suc r) k e = go (beq (is_finite (P k).y) (is_finite (P (suc k)).y)) (edges_kept r (suc k) (omega arith))
    where
      here : k + r + 1 ≡ n
      here = omega arith

      go : (b : Bool) → Each Of (edges_way i P n r (suc k)) → Each Of (if_alike_way i P n b r k (edges_way i P n r (suc k)))
      go true h = h
      go false h = chained Of (in_edge r k) (edges_way i P n r (suc k)) h EdgeKept (λ z v. (here, v)) (edge_way (edge i k) (gap_at i P n k)) (edge_way_kept (edge i k) (gap_at i P n k))

  run_kept : (r s m : ℕ) → s + m ≤ n + 1 → r ≡ n - (s + m) → (w : Way Component) → Each Of w → Each Of (chain (in_run r s m) (scan_way (grid i) P s m) w)
  run_kept r s m a b w h =
      chained Of (in_run r s m) w h (ScanKept s (last_pair s m)) (λ z k. (a, b, k)) (scan_way (grid i) P s m) (scan_way_kept (grid i) P s m)

  runs_kept : (r s m : ℕ) → s + m + r ≡ n + 1 → Each Of (runs_way i P n r s m)
  unfolding runs_way
  runs_kept zero s m e = run_kept zero s m (omega arith) (omega arith) (edges_way i P n n 0) (edges_kept n 0 (omega arith))
  runs_kept (suc r) s m e = go (is_finite (P (s + m)).y) (runs_kept r s (suc m) (omega arith)) (runs_kept r (suc (s + m)) 0 (omega arith))
    where
      go : (b : Bool) → Each Of (runs_way i P n r s (suc m)) → Each Of (runs_way i P n r (suc (s + m)) 0)
          → Each Of (elim b as (λ (z : Bool). Way Component) [ true ↦ runs_way i P n r s (suc m) | false ↦ chain (in_run r s m) (scan_way (grid i) P s m) (runs_way i P n r (suc (s + m)) 0) ])
      go true h k = h
      go false h k = run_kept r s m (omega arith) (omega arith) (runs_way i P n r (suc (s + m)) 0) k

  -- behind a run: where the grid ended it, only a run of no samples
  behind_kept : (r s m : ℕ) → r ≡ n - (s + m) → Each Of (runs_way i P n r (suc (s + m)) 0)
  unfolding runs_way scan_way chain
  behind_kept zero s m b = added Of [] (edges_way i P n n 0) (edges_kept n 0 (omega arith))
  behind_kept (suc r) s m b = runs_kept (suc r) (suc (s + m)) 0 (omega arith)

  component_way_kept : Each Of (component_way i P n)
  unfolding component_way
  component_way_kept = runs_kept (suc n) 0 0 (omega arith)

  component_next_kept : (z : Component) (y : Float) → Of z → Each Of (component_next i P n z y)
  unfolding component_next
  component_next_kept (in_run r s m z) y h =
      chained Of (in_run r s m) (runs_way i P n r (suc (s + m)) 0) (behind_kept r s m h.1) (ScanKept s (last_pair s m)) (λ v k. (h.0, h.1, k)) (scan_next (grid i) P s (last_pair s m) z y) (scan_next_kept (grid i) P s (last_pair s m) z y h.2)
  component_next_kept (in_edge r k z) y h =
      chained Of (in_edge r k) (edges_way i P n r (suc k)) (edges_kept r (suc k) (omega (arith, h.0))) EdgeKept (λ v w. (h.0, w)) (edge_next (edge i k) (gap_at i P n k).inside z y) (edge_next_kept (edge i k) (gap_at i P n k).inside z y h.1)

-- ---- the whole
module _ (n : ℕ) where
  abbrev Fine : Component → Type 0
  Fine z = ComponentKept n z × ComponentSmall z

  components_kept : (S : Samples) (c i : ℕ) → c + i ≡ 4 → Each (PhaseKept n) (components_way n S c i)
  unfolding components_way
  components_kept S zero i e = tt
  components_kept S (suc c) i e =
      let w = component_way i (taken_at S i) n in
      chained (PhaseKept n) (searching c i) (components_way n S c (suc i)) (components_kept S c (suc i) (omega arith)) Fine (λ z k. (here, k.0, k.1)) w (each_both (ComponentKept n) ComponentSmall w (component_way_kept i (taken_at S i) n) (component_way_small i (taken_at S i) n))
    where
      here : c + i ≡ 3
      here = omega arith

  arrive_kept : (S : Samples) (l : List Entry) (w : Way Phase) → Each (PhaseKept n) w → Kept n (arrive S l w)
  unfolding arrive
  arrive_kept S l (pause e p) h = h
  arrive_kept S l (over e) h = tt

  phase_kept : (S : Samples) (l : List Entry) (p : Phase) (v : ℕ → Float) → PhaseKept n p → Kept n (next_in n S l p v)
  unfolding next_in
  phase_kept S l (sampling zero k) v h = arrive_kept _ l (components_way n _ 4 0) (components_kept _ 4 0 refl)
  phase_kept S l (sampling (suc c) k) v h = omega arith
  phase_kept S l (searching c i z) v h =
      let w = component_next i (taken_at S i) n z (v i) in
      arrive_kept S l _ (chained (PhaseKept n) (searching c i) (components_way n S c (suc i)) (components_kept S c (suc i) (omega (arith, h.0))) Fine (λ x k. (h.0, k.0, k.1)) w (each_both (ComponentKept n) ComponentSmall w (component_next_kept i (taken_at S i) n z (v i) h.1) (component_next_small i (taken_at S i) n z (v i) h.2)))
  phase_kept S l ended v h = tt

  pub start_kept : Kept n (start n)
  unfolding start
  start_kept = omega arith

  pub next_kept : (s : State) (v : ℕ → Float) → Kept n s → Kept n (next n s v)
  unfolding next
  next_kept s v h = phase_kept s.samples s.found s.phase v h
