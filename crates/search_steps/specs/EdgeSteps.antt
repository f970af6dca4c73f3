-- The end of a branch in steps of one evaluation: 16 bisections, 7 samples, then the scan of the row. Definitions only.
use Rattle.std.specs.Prelude.{List, [], ◌∷◌, ◌++◌, ℕ, zero, suc, length, Float}
use Rattle.std.specs.Float.Ieee.{lt}
use Rattle.float.specs.Num.{◌⊕◌, ◌⊖◌, ◌⊗◌}
use Rattle.float.specs.Number.{is_finite}
use Rattle.search_definition.specs.Found.{Place, Origin}
use Rattle.search_definition.specs.Dip.{Point}
use Rattle.search_definition.specs.Search.{Gap, mid, if_inside, keep, reversed_if, share, row_at}
use Rattle.search_steps.specs.Way.{Way, pause, over, chain}
use Rattle.search_steps.specs.ScanSteps.{Scan, scan_angle, scan_next, last_pair, scan_way}

pub data Edge : Type 0 where
  -- asks the middle of the gap; so many halvings follow this one
  halving : ℕ → Gap → Edge
  -- `taking e c j l`: asks the sample number j from the branch's end e on; c follow it, and l are those kept before it
  taking : Point → ℕ → ℕ → List Point → Edge
  -- scans the row
  in_row : List Point → Scan → Edge

-- a gap beside the grid's sample p
module _ (o : Place → Origin) (p : Point) where
  unfoldable pub sub_angle : Point → ℕ → Float
  sub_angle e j = e.x ⊕ (p.x ⊖ e.x) ⊗ share j

  unfoldable pub row_way : List Point → Way Edge
  row_way l = chain (in_row l) (scan_way o (row_at l) 0 (length l)) (over [])

  unfoldable pub take_way : Point → ℕ → ℕ → List Point → Way Edge
  take_way e zero j l = row_way (reversed_if (lt p.x e.x) (e ∷ (l ++ (p ∷ []))))
  take_way e (suc c) j l = pause [] (taking e c j l)

  unfoldable pub halve_way : ℕ → Gap → Way Edge
  halve_way zero g = take_way g.inside 7 1 []
  halve_way (suc k) g = pause [] (halving k g)

  unfoldable pub edge_angle : Edge → Float
  edge_angle (halving k g) = mid g
  edge_angle (taking e c j l) = sub_angle e j
  edge_angle (in_row l z) = scan_angle o (row_at l) 0 (last_pair 0 (length l)) z

  unfoldable pub edge_next : Edge → Float → Way Edge
  edge_next (halving k g) y = halve_way k (if_inside (is_finite y) (mid g) y g)
  edge_next (taking e c j l) y = take_way e c (suc j) (l ++ keep (is_finite y) (record { x = sub_angle e j; y = y }) [])
  edge_next (in_row l z) y = chain (in_row l) (scan_next o (row_at l) 0 (last_pair 0 (length l)) z y) (over [])

-- a whole gap
unfoldable pub edge_way : (Place → Origin) → Gap → Way Edge
edge_way o g = halve_way o g.inside 16 g
