-- The end of a branch in steps is the definition's. Assumes nothing.
use mathlib.Core.Path.{◌≡◌, refl, sym, ◌∙◌, ap}
use mathlib.Core.Bool.{Bool, true, false}
use mathlib.Core.List.{List, [], ◌∷◌, ◌++◌, append_assoc, append-nil}
use Prim.Native.Nat.{ℕ, zero, suc}
use lib.ListN.{length}
use lib.Ieee.{Float, lt}
use Rattle.float.specs.Number.{is_finite}
use Rattle.search_definition.specs.Found.{Place, Origin, Out, asks, ◌then◌, Asked}
use Rattle.search_definition.specs.Dip.{Point}
use Rattle.search_definition.specs.Search.{Gap, mid, keep, reversed_if, halved, bisect, subsample, subsamples, edge_points, edge_row, row_at, scan_row, edge_from}
use Rattle.search_steps.specs.ScanSteps.{last_pair, scan_way}
use Rattle.search_steps.specs.EdgeSteps.{Edge, halving, taking, in_row, sub_angle, row_way, take_way, halve_way, edge_angle, edge_next, edge_way}
use Rattle.search_steps.proofs.Ways.{ask, way_out, last_out, last_once}
use Rattle.search_steps.proofs.ScanOut.{scan_out, scan_once, scan_way_out}

keep_first : (b : Bool) (p : Point) (l : List Point) → keep b p l ≡ keep b p [] ++ l
unfolding keep
keep_first true p l = refl
keep_first false p l = refl

module _ (f : Float → Float) (o : Place → Origin) (p : Point) where
  -- what is left once the rest of the samples is known: l are those kept before
  abbrev gathered : Point → List Point → Asked (List Point) → Out
  gathered e l a = asks a.asked then scan_row f o (reversed_if (lt p.x e.x) (e ∷ ((l ++ a.value) ++ (p ∷ []))))

  -- what is left once the gap is known
  abbrev bisected : Asked Gap → Out
  bisected b = let r = edge_row f b.value.inside p in asks b.asked then asks r.asked then scan_row f o r.value

  -- what is left of an edge that asks
  pub edge_out : Edge → Out
  edge_out (halving k g) = bisected (bisect f (suc k) g)
  edge_out (taking e c j l) = gathered e l (subsamples f e.x p.x (suc c) j)
  edge_out (in_row l z) = scan_out f o (row_at l) 0 (last_pair 0 (length l)) z

  row_out : (l : List Point) → way_out edge_out (row_way o p l) ≡ scan_row f o l
  unfolding row_way scan_row edge_out
  row_out l = last_out (scan_out f o (row_at l) 0 (last_pair 0 (length l))) edge_out (in_row l) (λ z. refl) (scan_way o (row_at l) 0 (length l)) ∙ scan_way_out f o (row_at l) 0 (length l)

  take_out : (e : Point) (c j : ℕ) (l : List Point) → way_out edge_out (take_way o p e c j l) ≡ gathered e l (subsamples f e.x p.x c j)
  unfolding take_way subsamples edge_out way_out
  take_out e zero j l =
      row_out _ ∙ ap (λ (k : List Point). scan_row f o (reversed_if (lt p.x e.x) (e ∷ (k ++ (p ∷ []))))) (sym (append-nil l))
  take_out e (suc c) j l = refl

  halve_out : (k : ℕ) (g : Gap) → way_out edge_out (halve_way o p k g) ≡ bisected (bisect f k g)
  unfolding halve_way bisect edge_row edge_points edge_out way_out
  halve_out zero g = take_out g.inside 7 1 []
  halve_out (suc k) g = refl

  -- one evaluation
  pub edge_once : (z : Edge) → edge_out z ≡ ask (edge_angle o p z) (way_out edge_out (edge_next o p z (f (edge_angle o p z))))
  unfolding edge_out edge_angle edge_next bisect halved subsamples subsample sub_angle
  edge_once (halving k g) = ap (ask (mid g)) (sym (halve_out k (halved f g)))
  edge_once (taking e c j l) =
      let x = sub_angle o p e j in
      let q : Point = record { x = x; y = f x } in
      let b = is_finite (f x) in
      let r = subsamples f e.x p.x c (suc j) in
      ap (λ (k : List Point). ask x (asks r.asked then scan_row f o (reversed_if (lt p.x e.x) (e ∷ (k ++ (p ∷ [])))))) (ap (λ (k : List Point). l ++ k) (keep_first b q r.value) ∙ sym (append_assoc l (keep b q []) r.value))
      ∙ ap (ask x) (sym (take_out e c (suc j) (l ++ keep b q [])))
  edge_once (in_row l z) =
      last_once (scan_out f o (row_at l) 0 (last_pair 0 (length l))) edge_out (in_row l) (λ s. refl) z _ _ (scan_once f o (row_at l) 0 (last_pair 0 (length l)) z)

-- a whole edge
pub edge_way_out : (f : Float → Float) (o : Place → Origin) (g : Gap) → way_out (edge_out f o g.inside) (edge_way o g) ≡ edge_from f o g
unfolding edge_way edge_from
edge_way_out f o g = halve_out f o g.inside 16 g
