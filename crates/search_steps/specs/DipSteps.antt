-- minimise_dip in steps of one evaluation: two to open, at most 16 turns, then two refinements or none. Definitions only.
use Rattle.std.specs.Prelude.{Bool, true, false, cond, [], ℕ, zero, suc, Float}
use Rattle.std.specs.Float.Ieee.{lt}
use Rattle.float.specs.Num.{◌⊗◌, nought, infinity}
use Rattle.float.specs.Number.{is_finite}
use Rattle.search_definition.specs.Found.{Part, before, after, Origin, Step, again, leave}
use Rattle.search_definition.specs.Dip.{Valley, left_of, right_of, sign_of, best, if_below, probe, Point, if_tangent}
use Rattle.search_steps.specs.Way.{Way, pause, over, chain}
use Rattle.search_steps.specs.RefineSteps.{Refining, refine_angle, refine_next, refine_start}

-- the depth of a point with value y
unfoldable pub depth_of : Float → Float → Float
depth_of sign y = cond (is_finite y) (sign ⊗ y) infinity

-- between a and b, with the depths of the two inner points
unfoldable pub opened_of : Float → Float → Float → Float → Valley
opened_of a b g1 g2 =
    let p = left_of a b in
    let q = right_of a b in
    let c = lt g1 g2 in
    record { lo = a; hi = b; x1 = p; x2 = q; g1 = g1; g2 = g2; best_x = cond c p q; best_g = cond c g1 g2 }

-- the side with the lower point is kept; g is the depth of its new point
unfoldable pub moved_of : Bool → Valley → Float → Valley
moved_of true v g =
    record { lo = v.lo; hi = v.x2; x1 = probe true v; x2 = v.x1; g1 = g; g2 = v.g1; best_x = v.best_x; best_g = v.best_g }
moved_of false v g =
    record { lo = v.x1; hi = v.hi; x1 = v.x2; x2 = probe false v; g1 = v.g2; g2 = g; best_x = v.best_x; best_g = v.best_g }

-- whether a turn asks on the left
unfoldable pub leftward : Valley → Bool
leftward v = lt v.g1 v.g2

pub data Dip : Type 0 where
  -- asks the left inner point
  opening : Dip
  -- asks the right one, with the depth of the left
  opened_left : Float → Dip
  -- asks the next point; so many turns may follow this one
  sinking : ℕ → Valley → Dip
  -- refines between the first end and the lowest point, which is held for the second refinement
  refining_before : Point → Refining → Dip
  refining_after : Refining → Dip

-- a dip between the points p and q
module _ (o : Part → Origin) (p q : Point) where
  unfoldable pub dip_angle : Dip → Float
  dip_angle opening = left_of p.x q.x
  dip_angle (opened_left g) = right_of p.x q.x
  dip_angle (sinking k v) = probe (leftward v) v
  dip_angle (refining_before m r) = refine_angle r
  dip_angle (refining_after r) = refine_angle r

  -- the lowest point, with its value
  unfoldable pub bottom : Valley → Point
  bottom v = record { x = v.best_x; y = sign_of p.y ⊗ v.best_g }

  unfoldable pub after_way : Point → Way Dip
  after_way m = chain refining_after (refine_start (o after) m q) (over [])

  unfoldable pub if_crossed_way : Bool → Valley → Way Dip
  if_crossed_way true v = chain (refining_before (bottom v)) (refine_start (o before) p (bottom v)) (after_way (bottom v))
  if_crossed_way false v = over (if_tangent (is_finite v.best_g) o v.best_x).found

  unfoldable pub crossed_way : Valley → Way Dip
  crossed_way v = if_crossed_way (lt v.best_g nought) v

  -- at most so many turns from a valley
  unfoldable pub sink_way : ℕ → Valley → Way Dip
  sink_way zero v = crossed_way v
  sink_way (suc k) v = pause [] (sinking k v)

  unfoldable pub sunk : ℕ → Step Valley Valley → Way Dip
  sunk k (again l v) = sink_way k v
  sunk k (leave l v) = crossed_way v

  -- a turn's end: g is the depth of the point that it asked
  unfoldable pub turned_way : ℕ → Valley → Float → Way Dip
  turned_way k v g =
      let w = best (moved_of (leftward v) v g) in
      sunk k (if_below (lt w.best_g nought) (probe (leftward v) v) w)

  unfoldable pub dip_way : Way Dip
  dip_way = pause [] opening

  -- with the value at the angle asked
  unfoldable pub dip_next : Dip → Float → Way Dip
  dip_next opening y = pause [] (opened_left (depth_of (sign_of p.y) y))
  dip_next (opened_left g) y = sink_way 16 (opened_of p.x q.x g (depth_of (sign_of p.y) y))
  dip_next (sinking k v) y = turned_way k v (depth_of (sign_of p.y) y)
  dip_next (refining_before m r) y = chain (refining_before m) (refine_next (o before) r y) (after_way m)
  dip_next (refining_after r) y = chain refining_after (refine_next (o after) r y) (over [])
