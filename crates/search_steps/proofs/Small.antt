-- The numbers inside a refinement, a golden section and a bisection stay below the turns that each may take. Assumes nothing.
use mathlib.Core.Bool.{Bool, true, false, beq}
use mathlib.Core.List.{List, [], ◌∷◌, ◌++◌}
use Prim.Native.Nat.{ℕ, zero, suc, ◌+◌, ◌≤◌}
use native.Mathlib.Omega.{arith}
use lib.ListN.{length}
use lib.Ieee.{Float, lt}
use Rattle.float.specs.Num.{nought}
use Rattle.float.specs.Number.{is_finite}
use Rattle.search_definition.specs.Found.{Entry, Part, before, after, Place, Origin, grid, edge, crossing, Step, again, leave}
use Rattle.search_definition.specs.Refine.{Bracket, bracket, negative, near, narrowed, if_near, if_value}
use Rattle.search_definition.specs.Refine as Refine
use Rattle.search_definition.specs.Dip.{Valley, Point}
use Rattle.search_definition.specs.Scan.{crosses, dips, falls_to, falls_back}
use Rattle.search_definition.specs.Search.{Gap, mid, if_inside, keep, reversed_if, row_at}
use Rattle.search_steps.specs.Way.{Way, pause, over, adding, chain}
use Rattle.search_steps.specs.RefineSteps.{Refining, if_guess, refine_way, refine_turned, refine_next, refine_start}
use Rattle.search_steps.specs.DipSteps.{Dip, opening, opened_left, sinking, refining_before, refining_after, bottom, after_way, if_crossed_way, crossed_way, sink_way, sunk, turned_way, dip_way, dip_next}
use Rattle.search_steps.specs.ScanSteps.{Scan, at_crossing, at_inner, at_last, at_first, of_inner, of_last, of_first, if_first, first_way, if_last, last_way, if_inner, inner_way, if_crosses_way, items_way, scan_next, last_pair, scan_way}
use Rattle.search_steps.specs.EdgeSteps.{Edge, halving, taking, in_row, sub_angle, row_way, take_way, halve_way, edge_next, edge_way}
use Rattle.search_steps.specs.ComponentSteps.{Component, in_run, in_edge, gap_at, if_alike_way, edges_way, runs_way, component_way, component_next}
use Rattle.search_steps.specs.Kept.{Each, RefineSmall, DipSmall, ScanSmall, EdgeSmall, ComponentSmall}

-- ---- ways
pub added : {T : Type 0} (J : T → Type 0) (e : List Entry) (w : Way T) → Each J w → Each J (adding e w)
unfolding adding
added J e (pause d t) k = k
added J e (over d) k = tt

module _ {S T : Type 0} (J : T → Type 0) (up : S → T) (w : Way T) (h : Each J w) where
  -- the smaller part's own bounds, and the larger part's
  pub chained : (I : S → Type 0) → ((s : S) → I s → J (up s)) → (a : Way S) → Each I a → Each J (chain up a w)
  unfolding chain
  chained I rises (pause e s) k = rises s k
  chained I rises (over e) k = added J e w h

  -- a smaller part that has none
  pub free : ((s : S) → J (up s)) → (a : Way S) → Each J (chain up a w)
  unfolding chain
  free rises (pause e s) = rises s
  free rises (over e) = added J e w h

pub each_both : {S : Type 0} (I J : S → Type 0) (a : Way S) → Each I a → Each J a → Each (λ (s : S). I s × J s) a
each_both I J (pause e s) h k = (h, k)
each_both I J (over e) h k = tt

-- ---- a refinement
narrowed_side : (b : Bool) (p y : Float) (s : Bracket) → (narrowed b p y s).side ≤ 2
unfolding narrowed
narrowed_side true p y s = omega arith
narrowed_side false p y s = omega arith

module _ (o : Origin) where
  refine_way_small : (k : ℕ) (s : Bracket) → k ≤ 60 → s.side ≤ 2 → Each RefineSmall (refine_way o k s)
  unfolding refine_way if_guess
  refine_way_small zero s h a = tt
  refine_way_small (suc k) s h a = go (is_finite (Refine.next s))
    where
      go : (b : Bool) → Each RefineSmall (if_guess o b k s)
      go true = (omega arith, a)
      go false = tt

  refine_next_small : (r : Refining) (y : Float) → RefineSmall r → Each RefineSmall (refine_next o r y)
  unfolding refine_next refine_turned if_value if_near
  refine_next_small r y h = value (is_finite y)
    where
      near_by : (b : Bool) → Each RefineSmall (refine_turned o r.left (if_near b (Refine.next r.at) y r.at))
      near_by true = tt
      near_by false =
          refine_way_small r.left (narrowed (beq (negative y) (negative r.at.fa)) (Refine.next r.at) y r.at) (omega (arith, h.0)) (narrowed_side (beq (negative y) (negative r.at.fa)) (Refine.next r.at) y r.at)

      value : (b : Bool) → Each RefineSmall (refine_turned o r.left (if_value b (Refine.next r.at) y r.at))
      value true = near_by (near r.at y)
      value false = tt

  refine_start_small : (p q : Point) → Each RefineSmall (refine_start o p q)
  unfolding refine_start
  refine_start_small p q = refine_way_small 60 (bracket p.x q.x p.y q.y) (omega arith) (omega arith)

-- ---- a dip
module _ (o : Part → Origin) (p q : Point) where
  after_small : (m : Point) → Each DipSmall (after_way o p q m)
  unfolding after_way
  after_small m = chained DipSmall refining_after (over []) tt RefineSmall (λ r h. h) (refine_start (o after) m q) (refine_start_small (o after) m q)

  crossed_small : (v : Valley) → Each DipSmall (crossed_way o p q v)
  unfolding crossed_way if_crossed_way
  crossed_small v = go (lt v.best_g nought)
    where
      go : (b : Bool) → Each DipSmall (if_crossed_way o p q b v)
      go true =
          let m = bottom o p q v in
          chained DipSmall (refining_before m) (after_way o p q m) (after_small m) RefineSmall (λ r h. h) (refine_start (o before) p m) (refine_start_small (o before) p m)
      go false = tt

  sink_small : (k : ℕ) (v : Valley) → k ≤ 16 → Each DipSmall (sink_way o p q k v)
  unfolding sink_way
  sink_small zero v h = crossed_small v
  sink_small (suc k) v h = h

  sunk_small : (k : ℕ) (t : Step Valley Valley) → k ≤ 16 → Each DipSmall (sunk o p q k t)
  unfolding sunk
  sunk_small k (again l v) h = sink_small k v h
  sunk_small k (leave l v) h = crossed_small v

  dip_next_small : (d : Dip) (y : Float) → DipSmall d → Each DipSmall (dip_next o p q d y)
  unfolding dip_next turned_way
  dip_next_small opening y h = tt
  dip_next_small (opened_left g) y h = sink_small 16 _ (omega arith)
  dip_next_small (sinking k v) y h = sunk_small k _ (omega arith)
  dip_next_small (refining_before m r) y h =
      chained DipSmall (refining_before m) (after_way o p q m) (after_small m) RefineSmall (λ r h. h) (refine_next (o before) r y) (refine_next_small (o before) r y h)
  dip_next_small (refining_after r) y h =
      chained DipSmall refining_after (over []) tt RefineSmall (λ r h. h) (refine_next (o after) r y) (refine_next_small (o after) r y h)

-- ---- a row
module _ (o : Place → Origin) (P : ℕ → Point) (s t : ℕ) where
  opens : (up : Dip → Scan) → ((d : Dip) → DipSmall d → ScanSmall (up d)) → (w : Way Scan) → Each ScanSmall w → (e : Part → Origin) (p q : Point) → Each ScanSmall (chain up (dip_way e p q) w)
  unfolding dip_way
  opens up rises w h e p q = chained ScanSmall up w h DipSmall rises (dip_way e p q) tt

  first_small : Each ScanSmall (first_way o P s t)
  unfolding first_way if_first
  first_small = go (falls_back (P s) (P (suc s)))
    where
      go : (b : Bool) → Each ScanSmall (if_first o P s t b)
      go true = opens at_first (λ d h. h) (over []) tt (of_first o s) (P s) (P (suc s))
      go false = tt

  last_small : Each ScanSmall (last_way o P s t)
  unfolding last_way if_last
  last_small = go (falls_to (P t) (P (suc t)))
    where
      go : (b : Bool) → Each ScanSmall (if_last o P s t b)
      go true = opens at_last (λ d h. h) (first_way o P s t) first_small (of_last o t) (P t) (P (suc t))
      go false = first_small

  items_small : (c l : ℕ) → Each ScanSmall (items_way o P s t c l)
  unfolding items_way if_crosses_way inner_way if_inner
  items_small zero l = last_small
  items_small (suc c) l = cross (crosses (P l) (P (suc l))) (items_small c (suc l))
    where
      dip : (b : Bool) (k : ℕ) (w : Way Scan) → Each ScanSmall w → Each ScanSmall (if_inner o P s t b k l w)
      dip true k w h = opens (at_inner k l) (λ d h. h) w h (of_inner o l) (P l) (P (suc (suc l)))
      dip false k w h = h

      inside : (k : ℕ) (w : Way Scan) → Each ScanSmall w → Each ScanSmall (inner_way o P s t k l w)
      inside zero w h = h
      inside (suc k) w h = dip (dips (P l) (P (suc l)) (P (suc (suc l)))) (suc k) w h

      cross : (b : Bool) → Each ScanSmall (items_way o P s t c (suc l)) → Each ScanSmall (if_crosses_way o P s t b c l (items_way o P s t c (suc l)))
      cross true h = chained ScanSmall (at_crossing c l) (items_way o P s t c (suc l)) h RefineSmall (λ r h. h) (refine_start (o (crossing l)) (P l) (P (suc l))) (refine_start_small (o (crossing l)) (P l) (P (suc l)))
      cross false h = inside c (items_way o P s t c (suc l)) h

  scan_next_small : (z : Scan) (y : Float) → ScanSmall z → Each ScanSmall (scan_next o P s t z y)
  unfolding scan_next
  scan_next_small (at_crossing c l r) y h =
      chained ScanSmall (at_crossing c l) (items_way o P s t c (suc l)) (items_small c (suc l)) RefineSmall (λ r h. h) (refine_next (o (crossing l)) r y) (refine_next_small (o (crossing l)) r y h)
  scan_next_small (at_inner c l d) y h =
      chained ScanSmall (at_inner c l) (items_way o P s t c (suc l)) (items_small c (suc l)) DipSmall (λ d h. h) (dip_next (of_inner o l) (P l) (P (suc (suc l))) d y) (dip_next_small (of_inner o l) (P l) (P (suc (suc l))) d y h)
  scan_next_small (at_last d) y h =
      chained ScanSmall at_last (first_way o P s t) first_small DipSmall (λ d h. h) (dip_next (of_last o t) (P t) (P (suc t)) d y) (dip_next_small (of_last o t) (P t) (P (suc t)) d y h)
  scan_next_small (at_first d) y h =
      chained ScanSmall at_first (over []) tt DipSmall (λ d h. h) (dip_next (of_first o s) (P s) (P (suc s)) d y) (dip_next_small (of_first o s) (P s) (P (suc s)) d y h)

scan_way_small : (o : Place → Origin) (P : ℕ → Point) (s m : ℕ) → Each ScanSmall (scan_way o P s m)
unfolding scan_way
scan_way_small o P s zero = tt
scan_way_small o P s (suc zero) = tt
scan_way_small o P s (suc (suc c)) = items_small o P s (s + c) (suc c) s

-- ---- an edge
module _ (o : Place → Origin) (p : Point) where
  take_small : (e : Point) (c j : ℕ) (l : List Point) → Each EdgeSmall (take_way o p e c j l)
  unfolding take_way row_way
  take_small e zero j l =
      let w = reversed_if (lt p.x e.x) (e ∷ (l ++ (p ∷ []))) in
      chained EdgeSmall (in_row w) (over []) tt ScanSmall (λ z h. h) (scan_way o (row_at w) 0 (length w)) (scan_way_small o (row_at w) 0 (length w))
  take_small e (suc c) j l = tt

  halve_small : (k : ℕ) (g : Gap) → k ≤ 16 → Each EdgeSmall (halve_way o p k g)
  unfolding halve_way
  halve_small zero g h = take_small g.inside 7 1 []
  halve_small (suc k) g h = h

  edge_next_small : (z : Edge) (y : Float) → EdgeSmall z → Each EdgeSmall (edge_next o p z y)
  unfolding edge_next
  edge_next_small (halving k g) y h = halve_small k (if_inside (is_finite y) (mid g) y g) (omega arith)
  edge_next_small (taking e c j l) y h = take_small e c (suc j) (l ++ keep (is_finite y) (record { x = sub_angle o p e j; y = y }) [])
  edge_next_small (in_row l z) y h =
      chained EdgeSmall (in_row l) (over []) tt ScanSmall (λ z h. h) (scan_next o (row_at l) 0 (last_pair 0 (length l)) z y) (scan_next_small o (row_at l) 0 (last_pair 0 (length l)) z y h)

edge_way_small : (o : Place → Origin) (g : Gap) → Each EdgeSmall (edge_way o g)
unfolding edge_way
edge_way_small o g = halve_small o g.inside 16 g (omega arith)

-- ---- a component
module _ (i : ℕ) (P : ℕ → Point) (n : ℕ) where
  edges_small : (r k : ℕ) → Each ComponentSmall (edges_way i P n r k)
  unfolding edges_way if_alike_way
  edges_small zero k = tt
  edges_small (suc r) k = go (beq (is_finite (P k).y) (is_finite (P (suc k)).y)) (edges_small r (suc k))
    where
      go : (b : Bool) → Each ComponentSmall (edges_way i P n r (suc k)) → Each ComponentSmall (if_alike_way i P n b r k (edges_way i P n r (suc k)))
      go true h = h
      go false h = chained ComponentSmall (in_edge r k) (edges_way i P n r (suc k)) h EdgeSmall (λ z v. v) (edge_way (edge i k) (gap_at i P n k)) (edge_way_small (edge i k) (gap_at i P n k))

  run_small : (r s m : ℕ) (w : Way Component) → Each ComponentSmall w → Each ComponentSmall (chain (in_run r s m) (scan_way (grid i) P s m) w)
  run_small r s m w h = chained ComponentSmall (in_run r s m) w h ScanSmall (λ z k. k) (scan_way (grid i) P s m) (scan_way_small (grid i) P s m)

  runs_small : (r s m : ℕ) → Each ComponentSmall (runs_way i P n r s m)
  unfolding runs_way
  runs_small zero s m = run_small zero s m (edges_way i P n n 0) (edges_small n 0)
  runs_small (suc r) s m = go (is_finite (P (s + m)).y) (runs_small r s (suc m)) (runs_small r (suc (s + m)) 0)
    where
      go : (b : Bool) → Each ComponentSmall (runs_way i P n r s (suc m)) → Each ComponentSmall (runs_way i P n r (suc (s + m)) 0)
          → Each ComponentSmall (elim b as (λ (z : Bool). Way Component) [ true ↦ runs_way i P n r s (suc m) | false ↦ chain (in_run r s m) (scan_way (grid i) P s m) (runs_way i P n r (suc (s + m)) 0) ])
      go true h k = h
      go false h k = run_small r s m (runs_way i P n r (suc (s + m)) 0) k

  pub component_way_small : Each ComponentSmall (component_way i P n)
  unfolding component_way
  component_way_small = runs_small (suc n) 0 0

  pub component_next_small : (z : Component) (y : Float) → ComponentSmall z → Each ComponentSmall (component_next i P n z y)
  unfolding component_next
  component_next_small (in_run r s m z) y h =
      chained ComponentSmall (in_run r s m) (runs_way i P n r (suc (s + m)) 0) (runs_small r (suc (s + m)) 0) ScanSmall (λ v k. k) (scan_next (grid i) P s (last_pair s m) z y) (scan_next_small (grid i) P s (last_pair s m) z y h)
  component_next_small (in_edge r k z) y h =
      chained ComponentSmall (in_edge r k) (edges_way i P n r (suc k)) (edges_small r (suc k)) EdgeSmall (λ v w. w) (edge_next (edge i k) (gap_at i P n k).inside z y) (edge_next_small (edge i k) (gap_at i P n k).inside z y h)
