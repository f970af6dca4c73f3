-- The ways out of the steps of a component, by what the code's tests and calls gave. Assumes nothing.
use Rattle.std.proofs.Common.{◌≡◌, sym, ◌∙◌, ap, ap₂, subst, inl, inr, Bool, true, false, List, ℕ, suc, ◌+◌, ◌-◌, ◌<◌, ◌≤◌, add-one, arith, Float}
use Rattle.std.proofs.lemmas.Bool.{cases_lt}
use Rattle.std.specs.Prelude.{Option, Some, None}
use Rattle.std.specs.Bool.{beq}
use Rattle.float.specs.Number.{is_finite}
use Rattle.search_definition.specs.Found.{Place, Origin, grid, edge}
use Rattle.search_definition.specs.Dip.{Point}
use Rattle.search_definition.specs.Search.{Gap, if_first_inside}
use Rattle.search_steps.specs.Way.{Way, chain}
use Rattle.search_steps.specs.Kept.{ComponentKept}
use Rattle.search_steps.specs.ScanSteps.{Scan, scan_way}
use Rattle.search_steps.specs.EdgeSteps as EdgeSteps
use Rattle.search_steps.specs.EdgeSteps.{edge_way, halve_way}
use Rattle.search_steps.specs.ComponentSteps.{Component, in_run, in_edge, gap_at, if_alike_way, edges_way, runs_way, component_way, component_angle, component_next}
use Rattle.step_refine.specs.Point as DeclaredPoint
use Rattle.step_pairs.specs.declared.Found.{Found}
use Rattle.step_pairs.specs.Landed.{putting, Landed, landing, landed}
use Rattle.step_pairs.proofs.LandedLaws.{chain_of_nothing, chain_same}
use Rattle.step_component.specs.State.{component_of, Handy, Ran}
use Rattle.step_component.specs.declared.component.Component as Declared

-- ---- the gap beside a sample
pub gap_there : (P : ℕ → Point) (k i n : ℕ) {p q : Point} → p ≡ P k → q ≡ P (k + 1) → if_first_inside (is_finite p.y) p q ≡ gap_at i P n k
unfolding gap_at
gap_there P k i n ep eq = ap₂ (λ (a b : Point). if_first_inside (is_finite a.y) a b) ep (eq ∙ ap P (add-one k))

-- ---- the walk over a run: m of the c samples from l on
module _ (i : ℕ) (P : ℕ → Point) (n c l m : ℕ) where
  pick : ℕ → Bool → Way Component
  pick r = elim [ true ↦ runs_way i P n r l (suc m) | false ↦ chain (in_run r l m) (scan_way (grid i) P l m) (runs_way i P n r (suc (l + m)) 0) ]

  run_on : (b : Bool) → m < c → is_finite (P (l + m)).y ≡ b → runs_way i P n (c - m) l m ≡ pick (c - m - 1) b
  unfolding runs_way pick
  run_on b h e =
      let left : c - m ≡ suc (c - m - 1) = omega arith in
      ap (λ (z : ℕ). runs_way i P n z l m) left ∙ ap (pick (c - m - 1)) e

  pub run_grows : m < c → is_finite (P (l + m)).y ≡ true → runs_way i P n (c - (m + 1)) l (m + 1) ≡ runs_way i P n (c - m) l m
  unfolding pick
  run_grows h e =
      let next : c - (m + 1) ≡ c - m - 1 = omega arith in
      ap₂ (λ (r k : ℕ). runs_way i P n r l k) next (add-one m) ∙ sym (run_on true h e)

  pub run_ends : m < c → is_finite (P (l + m)).y ≡ false → chain (in_run (c - m - 1) l m) (scan_way (grid i) P l m) (runs_way i P n (c - m - 1) (suc (l + m)) 0) ≡ runs_way i P n (c - m) l m
  unfolding pick
  run_ends h e = sym (run_on false h e)

-- what the code's loop says from the sample l on, at the sample at = l + m
module _ (P : ℕ → Point) (c l : ℕ) where
  abbrev pub Walked : ℕ → Type 0
  Walked m = (i n : ℕ) → runs_way i P n (c - m) l m ≡ runs_way i P n c l 0

  pub run_begins : (m : ℕ) → m ≡ 0 → Walked m
  run_begins m z i n =
      let e : c - 0 ≡ c = omega arith in
      ap (λ (k : ℕ). runs_way i P n (c - k) l k) z ∙ ap (λ (k : ℕ). runs_way i P n k l 0) e

  module _ (m at : ℕ) {p : Point} {f : Bool} (inv : Walked m) (ea : l + m ≡ at) (h : m < c) (ep : p ≡ P at) (ef : f ≡ is_finite p.y) where
    tested : f ≡ is_finite (P (l + m)).y
    tested = ef ∙ ap (λ (z : Point). is_finite z.y) (ep ∙ sym (ap P ea))

    pub run_goes : (k : ℕ) → k ≡ m + 1 → f ≡ true → Walked k
    run_goes k e t i n = ap (λ (z : ℕ). runs_way i P n (c - z) l z) e ∙ run_grows i P n c l m h (sym tested ∙ t) ∙ inv i n

    pub run_stops : (k : ℕ) → k ≡ m → f ≡ false → Ran P c l k
    run_stops k e t = subst (Ran P c l) (sym e) (record { within = omega arith; ends = λ _. sym tested ∙ t; walks = inv })

  pub run_whole : (m k : ℕ) → Walked m → k ≡ m → m ≡ c → Ran P c l k
  run_whole m k inv d e = subst (Ran P c l) (sym d) (record { within = omega arith; ends = λ h. absurd (omega arith); walks = inv })

-- ---- the edges
-- an edge asks at once
edge_asks_first : (room : ℕ) (o : Place → Origin) (h : List Found) (up : EdgeSteps.Edge → Component) (w : Way Component) (z : Gap) (s : EdgeSteps.Edge) → landing h (Some s) ≡ landed room h (edge_way o z) → landing h (Some (up s)) ≡ landed room h (chain up (edge_way o z) w)
unfolding edge_way halve_way landed chain putting
edge_asks_first room o h up w z s e = ap (λ (l : Landed EdgeSteps.Edge). option_up l.now_at) e
  where
    option_up : Option EdgeSteps.Edge → Landed Component
    option_up (Some s) = landing h (Some (up s))
    option_up None = landing h None

module _ (i : ℕ) (P : ℕ → Point) (n l : ℕ) (some : l < n) {r : Bool} (e : r ≡ beq (is_finite (P l).y) (is_finite (P (suc l)).y)) where
  edges_are : (b : Bool) → r ≡ b → if_alike_way i P n b (n - suc l) l (edges_way i P n (n - suc l) (suc l)) ≡ edges_way i P n (n - l) l
  unfolding edges_way
  edges_are b d =
      let m : n - l ≡ suc (n - suc l) = omega arith in
      ap (λ (z : Bool). if_alike_way i P n z (n - suc l) l (edges_way i P n (n - suc l) (suc l))) (sym d ∙ e) ∙ sym (ap (λ (z : ℕ). edges_way i P n z l) m)

  pub edges_pass : r ≡ true → edges_way i P n (n - (l + 1)) (l + 1) ≡ edges_way i P n (n - l) l
  unfolding if_alike_way
  edges_pass d = ap (λ (z : ℕ). edges_way i P n (n - z) z) (add-one l) ∙ edges_are true d

  pub edges_stop : (room : ℕ) (h : List Found) {g : Gap} (s : EdgeSteps.Edge) → r ≡ false → g ≡ gap_at i P n l → landing h (Some s) ≡ landed room h (edge_way (edge i l) g) → landing h (Some (in_edge (n - suc l) l s)) ≡ landed room h (edges_way i P n (n - l) l)
  unfolding if_alike_way
  edges_stop room h s d eg eb =
      edge_asks_first room (edge i l) h (in_edge (n - suc l) l) (edges_way i P n (n - suc l) (suc l)) (gap_at i P n l) s (eb ∙ ap (λ (z : Gap). landed room h (edge_way (edge i l) z)) eg)
      ∙ ap (landed room h) (edges_are false d)

pub edges_end : (i : ℕ) (P : ℕ → Point) (n l room : ℕ) (h : List Found) → n ≤ l → landing h None ≡ landed room h (edges_way i P n (n - l) l)
unfolding edges_way landed putting
edges_end i P n l room h e =
    let z : n - l ≡ 0 = omega arith in
    sym (ap (λ (z : ℕ). landed room h (edges_way i P n z l)) z)

-- ---- the runs
-- beyond the grid there is no run
pub runs_past : (i : ℕ) (P : ℕ → Point) (n s room : ℕ) (h : List Found) → n < s → landed room h (edges_way i P n n 0) ≡ landed room h (runs_way i P n (suc n - s) s 0)
unfolding runs_way scan_way
runs_past i P n s room h l =
    let z : suc n - s ≡ 0 = omega arith in
    chain_of_nothing room (in_run 0 s 0) h (edges_way i P n n 0) ∙ sym (ap (λ (z : ℕ). landed room h (runs_way i P n z s 0)) z)

-- from the sample s on the first m are the run
module _ (i : ℕ) (P : ℕ → Point) (n s m : ℕ) (ran : Ran P (suc n - s) s m) (low : s ≤ n) where
  abbrev up : ℕ → Scan → Component
  up r = in_run r s m

  abbrev scanned : Way Scan
  scanned = scan_way (grid i) P s m

  abbrev rest : Way Component
  rest = runs_way i P n (suc n - (s + m + 1)) (s + m + 1) 0

  pub run_there : (room : ℕ) (h : List Found) → landed room h (chain (up (n - (s + m))) scanned rest) ≡ landed room h (runs_way i P n (suc n - s) s 0)
  unfolding runs_way
  run_there room h =
      elim (cases_lt m (suc n - s)) [
        | inl l ↦
            let a : n - (s + m) ≡ suc n - s - m - 1 = omega arith in
            let b : suc n - (s + m + 1) ≡ suc n - s - m - 1 = omega arith in
            ap₂ (λ (r k : ℕ). landed room h (chain (up r) scanned (runs_way i P n k (s + m + 1) 0))) a b
            ∙ ap (λ (k : ℕ). landed room h (chain (up (suc n - s - m - 1)) scanned (runs_way i P n (suc n - s - m - 1) k 0))) (add-one (s + m))
            ∙ ap (landed room h) (run_ends i P n (suc n - s) s m l (ran.ends l) ∙ ran.walks i n)
        | inr g ↦
            let a : n - (s + m) ≡ 0 = omega arith in
            let b : 0 ≡ suc n - s - m = omega arith in
            chain_same room (up (n - (s + m))) h scanned rest (edges_way i P n n 0) (λ k. sym (runs_past i P n (s + m + 1) room k (omega arith)))
            ∙ ap (λ (r : ℕ). landed room h (chain (up r) scanned (edges_way i P n n 0))) a
            ∙ ap (λ (k : ℕ). landed room h (runs_way i P n k s m)) b
            ∙ ap (landed room h) (ran.walks i n)
      ]

pub component_starts : (i : ℕ) (P : ℕ → Point) (n room : ℕ) (h : List Found) {k : Landed Component} → k ≡ landed room h (runs_way i P n (suc n - 0) 0 0) → k ≡ landed room h (component_way i P n)
unfolding component_way
component_starts i P n room h e =
    let z : suc n - 0 ≡ suc n = omega arith in
    e ∙ ap (λ (z : ℕ). landed room h (runs_way i P n z 0 0)) z

-- ---- a step, by the state that it starts from
module _ (i : ℕ) (P : ℕ → Point) (n : ℕ) (r : List DeclaredPoint.Point) (z w : Declared.Component) (e : z ≡ w) where
  pub angle_from : {a : Float} → a ≡ component_angle i P n (component_of n r w) → a ≡ component_angle i P n (component_of n r z)
  angle_from a = a ∙ sym (ap (λ (c : Declared.Component). component_angle i P n (component_of n r c)) e)

  pub step_from : (room : ℕ) (h : List Found) (y : Float) {k : Landed Component} → k ≡ landed room h (component_next i P n (component_of n r w) y) → k ≡ landed room h (component_next i P n (component_of n r z) y)
  step_from room h y a = a ∙ sym (ap (λ (c : Declared.Component). landed room h (component_next i P n (component_of n r c) y)) e)

  pub handy_at : Handy (component_of n r z) → Handy (component_of n r w)
  handy_at h = subst (λ (c : Declared.Component). Handy (component_of n r c)) e h

-- every state that the machine comes to is so (`start_kept` and `next_kept` of search_steps)
pub kept_handy : (n : ℕ) (z : Component) → ComponentKept n z → Handy z
kept_handy n (in_run r s m z) h = tt
kept_handy n (in_edge r k z) h = h.1
