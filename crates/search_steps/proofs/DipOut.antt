-- minimise_dip in steps is the definition's minimise_dip. Assumes nothing.
use mathlib.Core.Path.{◌≡◌, refl, sym, ◌∙◌, ap}
use mathlib.Core.Bool.{Bool, true, false}
use mathlib.Core.List.{[], ◌∷◌}
use Prim.Native.Nat.{ℕ, zero, suc}
use lib.Ieee.{Float, lt}
use Rattle.float.specs.Num.{nought}
use Rattle.float.specs.Number.{is_finite}
use Rattle.search_definition.specs.Found.{Part, before, after, Origin, Out, ◌then◌, asking}
use Rattle.search_definition.specs.Dip.{Valley, left_of, right_of, sign_of, best, if_below, probe, itself, depth, moved, dip_step, opened, lowest_from, lowest, Point, entry, if_tangent, refined, if_crossed, settled, minimise_dip}
use Rattle.search_definition.proofs.Steps.{taken, run_suc, run_zero}
use Rattle.search_steps.specs.Way.{over}
use Rattle.search_steps.specs.RefineSteps.{refine_angle, refine_next, refine_start}
use Rattle.search_steps.specs.DipSteps.{depth_of, opened_of, moved_of, leftward, Dip, opening, opened_left, sinking, refining_before, refining_after, dip_angle, bottom, after_way, if_crossed_way, crossed_way, sink_way, sunk, turned_way, dip_way, dip_next}
use Rattle.search_steps.proofs.Ways.{ask, way_out, chain_out, chain_once, last_out, last_once}
use Rattle.search_steps.proofs.RefineOut.{refine_out, refine_start_out, refine_once}

module _ (f : Float → Float) (sign : Float) where
  moved_is : (b : Bool) (v : Valley) → moved f sign b v ≡ moved_of b v (depth_of sign (f (probe b v)))
  unfolding moved moved_of depth depth_of
  moved_is true v = refl
  moved_is false v = refl

  opened_is : (a b : Float) → opened f sign a b ≡ opened_of a b (depth_of sign (f (left_of a b))) (depth_of sign (f (right_of a b)))
  unfolding opened opened_of depth depth_of
  opened_is a b = refl

module _ (f : Float → Float) (o : Part → Origin) (p q : Point) where
  abbrev sign : Float
  sign = sign_of p.y

  -- what is left of a dip that asks
  pub dip_out : Dip → Out
  dip_out opening = minimise_dip f o p q
  dip_out (opened_left g) =
      settled f o p q (asking (right_of p.x q.x ∷ []) (lowest_from f sign 16 (opened_of p.x q.x g (depth_of sign (f (right_of p.x q.x))))))
  dip_out (sinking k v) = settled f o p q (taken (lowest_from f sign k) (dip_step f sign v))
  dip_out (refining_before m r) = refine_out f (o before) r then refined f (o after) m q
  dip_out (refining_after r) = refine_out f (o after) r

  after_out : (m : Point) → way_out dip_out (after_way o p q m) ≡ refined f (o after) m q
  unfolding after_way dip_out
  after_out m = last_out (refine_out f (o after)) dip_out refining_after (λ r. refl) (refine_start (o after) m q) ∙ refine_start_out f (o after) m q

  crossed_out : (v : Valley) → way_out dip_out (crossed_way o p q v) ≡ if_crossed f (lt v.best_g nought) o p q v
  unfolding crossed_way if_crossed_way if_crossed dip_out bottom if_tangent entry way_out
  crossed_out v = go (lt v.best_g nought)
    where
      m : Point
      m = bottom o p q v

      flat : (b : Bool) → way_out dip_out (over (if_tangent b o v.best_x).found) ≡ if_tangent b o v.best_x
      flat true = refl
      flat false = refl

      go : (b : Bool) → way_out dip_out (if_crossed_way o p q b v) ≡ if_crossed f b o p q v
      go true =
          chain_out (refine_out f (o before)) dip_out (refining_before m) (refined f (o after) m q) (λ r. refl) (after_way o p q m) (after_out m) (refine_start (o before) p m)
          ∙ ap (λ (z : Out). z then refined f (o after) m q) (refine_start_out f (o before) p m)
      go false = flat (is_finite v.best_g)

  sink_out : (k : ℕ) (v : Valley) → way_out dip_out (sink_way o p q k v) ≡ settled f o p q (lowest_from f sign k v)
  unfolding sink_way lowest_from settled way_out dip_out
  sink_out zero v = crossed_out v ∙ ap (settled f o p q) (sym (run_zero (dip_step f sign) itself v))
  sink_out (suc k) v = ap (settled f o p q) (sym (run_suc (dip_step f sign) itself k v))

  -- a whole dip
  pub dip_way_out : way_out dip_out (dip_way o p q) ≡ minimise_dip f o p q
  unfolding dip_way way_out dip_out
  dip_way_out = refl

  turn_once : (k : ℕ) (x : Float) (w : Valley) (b : Bool) → settled f o p q (taken (lowest_from f sign k) (if_below b x w)) ≡ ask x (way_out dip_out (sunk o p q k (if_below b x w)))
  unfolding if_below sunk settled
  turn_once k x w true = ap (ask x) (sym (crossed_out w))
  turn_once k x w false = ap (ask x) (sym (sink_out k w))

  -- one evaluation
  pub dip_once : (d : Dip) → dip_out d ≡ ask (dip_angle o p q d) (way_out dip_out (dip_next o p q d (f (dip_angle o p q d))))
  unfolding dip_out dip_angle dip_next minimise_dip lowest settled opened opened_of depth depth_of way_out dip_step leftward turned_way
  dip_once opening = refl
  dip_once (opened_left g) = ap (ask (right_of p.x q.x)) (sym (sink_out 16 _))
  dip_once (sinking k v) =
      ap (λ (m : Valley). settled f o p q (taken (lowest_from f sign k) (if_below (lt (best m).best_g nought) (probe (leftward v) v) (best m)))) (moved_is f sign (leftward v) v)
      ∙ turn_once k (probe (leftward v) v) _ _
  dip_once (refining_before m r) =
      chain_once (refine_out f (o before)) dip_out (refining_before m) (refined f (o after) m q) (λ s. refl) (after_way o p q m) (after_out m) r (refine_angle r) (refine_next (o before) r (f (refine_angle r))) (refine_once f (o before) r)
  dip_once (refining_after r) =
      last_once (refine_out f (o after)) dip_out refining_after (λ s. refl) r (refine_angle r) (refine_next (o after) r (f (refine_angle r))) (refine_once f (o after) r)
