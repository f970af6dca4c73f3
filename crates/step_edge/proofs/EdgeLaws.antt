-- The ways out of the steps of an edge, by what the code's tests and calls gave. Assumes nothing.
use Rattle.std.proofs.Common.{◌≡◌, ◌≢◌, refl, sym, ◌∙◌, ap, ap₂, subst, Bool, true, false, List, [], ◌∷◌, ◌++◌, map, ℕ, suc, ◌+◌, ◌-◌, ◌<◌, ◌≤◌, add-one, arith, length, reverse, Float}
use Rattle.std.proofs.lemmas.List.{length-map, map-append, reverse-append}
use Rattle.std.specs.Prelude.{Option, Some}
use Rattle.std.specs.Option.{option_map}
use Rattle.std.specs.Float.Ieee.{lt}
use Rattle.float.specs.Num.{◌⊕◌, ◌⊖◌, ◌⊗◌}
use Rattle.float.specs.Number.{is_finite}
use Rattle.search_definition.specs.Found.{Place, Origin}
use Rattle.search_definition.specs.Dip.{Point}
use Rattle.search_definition.specs.Search.{Gap, mid, if_inside, keep, reversed_if, share, row_at}
use Rattle.search_pairs.specs.Row.{points_of}
use Rattle.search_edge.proofs.EdgeSteps.{points_are}
use Rattle.search_steps.specs.ScanSteps.{Scan, last_pair, scan_angle, scan_next, scan_way}
use Rattle.search_steps.specs.EdgeSteps.{Edge, halving, taking, in_row, sub_angle, row_way, take_way, halve_way, edge_angle, edge_next, edge_way}
use Rattle.step_refine.specs.State.{point_of}
use Rattle.step_refine.specs.Point as DeclaredPoint
use Rattle.step_pairs.specs.declared.Found.{Found}
use Rattle.step_pairs.specs.Landed.{putting, Landed, landing, landed, came}
use Rattle.step_pairs.proofs.LandedLaws.{part_ends}
use Rattle.step_scan.specs.State.{scan_of}
use Rattle.step_scan.specs.declared.scan.Scan as DeclaredScan
use Rattle.step_edge.specs.State.{edge_of}
use Rattle.step_edge.specs.declared.edge.Edge as Declared
use Rattle.step_edge.specs.declared.edge.Edge.TheVariants.{InRow}

-- ---- lists
pub mapped_reverse : {A B : Type 0} (f : A → B) (l : List A) → map f (reverse l) ≡ reverse (map f l)
mapped_reverse f [] = refl
mapped_reverse f (x ∷ l) =
    ap (map f) (reverse-append (x ∷ []) l)
    ∙ map-append f (reverse l) (reverse (x ∷ []))
    ∙ ap (λ (k : List _). k ++ (f x ∷ [])) (mapped_reverse f l)
    ∙ sym (reverse-append (f x ∷ []) (map f l))

-- ---- the row closed: m is the row with the end before it and the grid's sample behind it
module _ (e p : DeclaredPoint.Point) (r : List DeclaredPoint.Point) where
  abbrev closed : List Point
  closed = point_of e ∷ (map point_of r ++ (point_of p ∷ []))

  pub closes : {m : List DeclaredPoint.Point} → m ≡ e ∷ (r ++ (p ∷ [])) → map point_of m ≡ closed
  closes d = ap (map point_of) d ∙ ap (λ (k : List Point). point_of e ∷ k) (map-append point_of r (p ∷ []))

  pub closes_straight : (m : List DeclaredPoint.Point) → lt p.x e.x ≡ false → map point_of m ≡ closed → map point_of m ≡ reversed_if (lt p.x e.x) closed
  unfolding reversed_if
  closes_straight m t d = d ∙ ap (λ (b : Bool). reversed_if b closed) (sym t)

  pub closes_reversed : (m : List DeclaredPoint.Point) {k : List DeclaredPoint.Point} → lt p.x e.x ≡ true → map point_of m ≡ closed → k ≡ reverse m → map point_of k ≡ reversed_if (lt p.x e.x) closed
  unfolding reversed_if
  closes_reversed m t d i =
      ap (map point_of) i ∙ mapped_reverse point_of m ∙ ap reverse d ∙ ap (λ (b : Bool). reversed_if b closed) (sym t)

-- ---- bisection
module _ (room : ℕ) (o : Place → Origin) (h : List Found) where
  module _ (p : Point) (g : Gap) (k : ℕ) where
    pub halves_none : {l : List Point} → k ≡ 0 → l ≡ [] → landing h (Some (taking g.inside 6 1 l)) ≡ landed room h (halve_way o p k g)
    unfolding halve_way take_way landed putting
    halves_none e d =
        ap (λ (z : List Point). landing h (Some (taking g.inside 6 1 z))) d ∙ sym (ap (λ (z : ℕ). landed room h (halve_way o p z g)) e)

    pub halves_on : k ≢ 0 → landing h (Some (halving (k - 1) g)) ≡ landed room h (halve_way o p k g)
    unfolding halve_way landed putting
    halves_on n = let e : k ≡ suc (k - 1) = omega arith in sym (ap (λ (z : ℕ). landed room h (halve_way o p z g)) e)

  pub edge_starts : (g : Gap) → landing h (Some (halving 15 g)) ≡ landed room h (edge_way o g)
  unfolding edge_way halve_way landed putting
  edge_starts g = refl

  -- ---- the next sample, or the row
  module _ (p e : Point) (j : ℕ) (l : List Point) where
    pub takes_none : {k : Landed Edge} → 8 ≤ j → k ≡ landed room h (row_way o p (reversed_if (lt p.x e.x) (e ∷ (l ++ (p ∷ []))))) → k ≡ landed room h (take_way o p e (8 - j) j l)
    unfolding take_way
    takes_none z r =
        let n : 8 - j ≡ 0 = omega arith in
        r ∙ sym (ap (λ (n : ℕ). landed room h (take_way o p e n j l)) n)

    pub takes_on : j < 8 → landing h (Some (taking e (7 - j) j l)) ≡ landed room h (take_way o p e (8 - j) j l)
    unfolding take_way landed putting
    takes_on n =
        let d : 8 - j ≡ suc (7 - j) = omega arith in
        sym (ap (λ (z : ℕ). landed room h (take_way o p e z j l)) d)

    -- the sample is kept or not
    module _ (y : Float) (b : j ≤ 7) (m : List Point) {k : Landed Edge} (a : k ≡ landed room h (take_way o p e (8 - (j + 1)) (j + 1) m)) where
      pub sample_goes : {x : Float} → x ≡ e.x ⊕ (p.x ⊖ e.x) ⊗ share j → m ≡ l ++ keep (is_finite y) (record { x = x; y = y }) [] → k ≡ landed room h (edge_next o p (taking e (7 - j) j l) y)
      unfolding edge_next sub_angle
      sample_goes ex d =
          let c : 8 - (j + 1) ≡ 7 - j = omega arith in
          a
          ∙ ap (λ (n : List Point). landed room h (take_way o p e (8 - (j + 1)) (j + 1) n)) (d ∙ ap (λ (z : Float). l ++ keep (is_finite y) (record { x = z; y = y }) []) ex)
          ∙ ap₂ (λ (i n : ℕ). landed room h (take_way o p e i n (l ++ keep (is_finite y) (record { x = sub_angle o p e j; y = y }) []))) c (add-one j)

-- ---- a step, by the state that it starts from
module _ (o : Place → Origin) (p : Point) (r : List DeclaredPoint.Point) (z w : Declared.Edge) (e : z ≡ w) where
  pub angle_from : {a : Float} → a ≡ edge_angle o p (edge_of r w) → a ≡ edge_angle o p (edge_of r z)
  angle_from a = a ∙ sym (ap (λ (c : Declared.Edge). edge_angle o p (edge_of r c)) e)

  pub step_from : (room : ℕ) (h : List Found) (y : Float) {k : Landed Edge} → k ≡ landed room h (edge_next o p (edge_of r w) y) → k ≡ landed room h (edge_next o p (edge_of r z) y)
  step_from room h y a = a ∙ sym (ap (λ (c : Declared.Edge). landed room h (edge_next o p (edge_of r c) y)) e)

-- ---- the scan of the row r: q is the slice that the code reads, and run all of it
module _ (r q : List DeclaredPoint.Point) (f c : ℕ) (eq : q ≡ r) (ef : f ≡ 0) (ec : c ≡ length r) where
  of_row : (C : List DeclaredPoint.Point → ℕ → ℕ → Type 0) → C q f c → C r 0 (length r)
  of_row C a =
      subst (λ (n : ℕ). C r 0 n) ec (subst (λ (n : ℕ). C r n c) ef (subst (λ (l : List DeclaredPoint.Point). C l f c) eq a))

  abbrev l : List Point
  l = map point_of r

  abbrev of_scan : DeclaredScan.Scan → Scan
  of_scan = scan_of (last_pair 0 (length r))

  length_is : length r ≡ length l
  length_is = sym (length-map r point_of)

  pub row_asks : (o : Place → Origin) (p : Point) (z : DeclaredScan.Scan) {a : Float} → a ≡ scan_angle o (points_of q) f (last_pair f c) (scan_of (last_pair f c) z) → a ≡ edge_angle o p (in_row l (of_scan z))
  unfolding edge_angle
  row_asks o p z {a} d =
      of_row (λ (q : List DeclaredPoint.Point) (f c : ℕ). a ≡ scan_angle o (points_of q) f (last_pair f c) (scan_of (last_pair f c) z)) d
      ∙ ap (λ (P : ℕ → Point). scan_angle o P 0 (last_pair 0 (length r)) (of_scan z)) (points_are r)
      ∙ ap (λ (n : ℕ). scan_angle o (row_at l) 0 (last_pair 0 n) (of_scan z)) length_is

  module _ (room : ℕ) (o : Place → Origin) (p : Point) (h k : List Found) (s : Option DeclaredScan.Scan) (t : Option Declared.Edge) (m : t ≡ option_map InRow s) where
    pub row_scans : came (scan_of (last_pair f c)) k s ≡ landed room h (scan_way o (points_of q) f c) → came (edge_of r) k t ≡ landed room h (row_way o p l)
    unfolding row_way
    row_scans d =
        part_ends room of_scan (edge_of r) InRow (in_row l) h k (scan_way o (row_at l) 0 (length l)) (λ _. refl) s t
        (of_row (λ (q : List DeclaredPoint.Point) (f c : ℕ). came (scan_of (last_pair f c)) k s ≡ landed room h (scan_way o (points_of q) f c)) d
        ∙ ap (λ (P : ℕ → Point). landed room h (scan_way o P 0 (length r))) (points_are r)
        ∙ ap (λ (n : ℕ). landed room h (scan_way o (row_at l) 0 n)) length_is)
        m

    pub row_steps : (z : DeclaredScan.Scan) (y : Float) → came (scan_of (last_pair f c)) k s ≡ landed room h (scan_next o (points_of q) f (last_pair f c) (scan_of (last_pair f c) z) y) → came (edge_of r) k t ≡ landed room h (edge_next o p (in_row l (of_scan z)) y)
    unfolding edge_next
    row_steps z y d =
        part_ends room of_scan (edge_of r) InRow (in_row l) h k (scan_next o (row_at l) 0 (last_pair 0 (length l)) (of_scan z) y) (λ _. refl) s t
        (of_row (λ (q : List DeclaredPoint.Point) (f c : ℕ). came (scan_of (last_pair f c)) k s ≡ landed room h (scan_next o (points_of q) f (last_pair f c) (scan_of (last_pair f c) z) y)) d
        ∙ ap (λ (P : ℕ → Point). landed room h (scan_next o P 0 (last_pair 0 (length r)) (of_scan z) y)) (points_are r)
        ∙ ap (λ (n : ℕ). landed room h (scan_next o (row_at l) 0 (last_pair 0 n) (of_scan z) y)) length_is)
        m

-- a halving's step
pub halving_steps : (room : ℕ) (o : Place → Origin) (h : List Found) (p : Point) (k : ℕ) (g : Gap) (y : Float) {x : Float} {w : Gap} {l : Landed Edge} → x ≡ mid g → w ≡ if_inside (is_finite y) x y g → l ≡ landed room h (halve_way o p k w) → l ≡ landed room h (edge_next o p (halving k g) y)
unfolding edge_next
halving_steps room o h p k g y ex ew r =
    r ∙ ap (λ (n : Gap). landed room h (halve_way o p k n)) (ew ∙ ap (λ (n : Float). if_inside (is_finite y) n y g) ex)
