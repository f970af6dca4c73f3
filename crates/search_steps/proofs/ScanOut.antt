-- scan_samples in steps is the definition's scan_samples. Assumes nothing.
use mathlib.Core.Path.{◌≡◌, refl, ◌∙◌, ap}
use mathlib.Core.Bool.{Bool, true, false}
use Prim.Native.Nat.{ℕ, zero, suc, ◌+◌}
use lib.Ieee.{Float}
use Rattle.search_definition.specs.Found.{Place, crossing, Origin, Out, ◌then◌}
use Rattle.search_definition.specs.Dip.{Point}
use Rattle.search_definition.specs.Scan.{crosses, dips, falls_to, falls_back, if_dip, inner_dip, if_crosses, item, items, last_dip, first_dip, scan_samples}
use Rattle.search_definition.proofs.Bounds.{then_assoc}
use Rattle.search_steps.specs.Way.{Way}
use Rattle.search_steps.specs.RefineSteps.{refine_angle, refine_next, refine_start}
use Rattle.search_steps.specs.DipSteps.{dip_way}
use Rattle.search_steps.specs.ScanSteps.{Scan, at_crossing, at_inner, at_last, at_first, of_inner, of_last, of_first, if_first, first_way, if_last, last_way, if_inner, inner_way, if_crosses_way, items_way, scan_angle, scan_next, last_pair, scan_way}
use Rattle.search_steps.proofs.Ways.{ask, way_out, chain_out, chain_once, last_out, last_once}
use Rattle.search_steps.proofs.RefineOut.{refine_out, refine_start_out, refine_once}
use Rattle.search_steps.proofs.DipOut.{dip_out, dip_way_out, dip_once}

module _ (f : Float → Float) (o : Place → Origin) (P : ℕ → Point) (s t : ℕ) where
  -- what follows the pairs of neighbours
  abbrev ends : Out
  ends = last_dip f o P t then first_dip f o P s

  -- what is left of a scan that asks
  pub scan_out : Scan → Out
  scan_out (at_crossing c l r) = refine_out f (o (crossing l)) r then (items f o P c (suc l) then ends)
  scan_out (at_inner c l d) = dip_out f (of_inner o l) (P l) (P (suc (suc l))) d then (items f o P c (suc l) then ends)
  scan_out (at_last d) = dip_out f (of_last o t) (P t) (P (suc t)) d then first_dip f o P s
  scan_out (at_first d) = dip_out f (of_first o s) (P s) (P (suc s)) d

  first_out : way_out scan_out (first_way o P s t) ≡ first_dip f o P s
  unfolding first_way first_dip if_first if_dip scan_out way_out
  first_out = go (falls_back (P s) (P (suc s)))
    where
      go : (b : Bool) → way_out scan_out (if_first o P s t b) ≡ if_dip f b (of_first o s) (P s) (P (suc s))
      go true =
          last_out (dip_out f (of_first o s) (P s) (P (suc s))) scan_out at_first (λ d. refl) (dip_way (of_first o s) (P s) (P (suc s)))
          ∙ dip_way_out f (of_first o s) (P s) (P (suc s))
      go false = refl

  last_dip_out : way_out scan_out (last_way o P s t) ≡ ends
  unfolding last_way last_dip if_last if_dip scan_out
  last_dip_out = go (falls_to (P t) (P (suc t)))
    where
      go : (b : Bool) → way_out scan_out (if_last o P s t b) ≡ if_dip f b (of_last o t) (P t) (P (suc t)) then first_dip f o P s
      go true =
          chain_out (dip_out f (of_last o t) (P t) (P (suc t))) scan_out at_last (first_dip f o P s) (λ d. refl) (first_way o P s t) first_out (dip_way (of_last o t) (P t) (P (suc t)))
          ∙ ap (λ (z : Out). z then first_dip f o P s) (dip_way_out f (of_last o t) (P t) (P (suc t)))
      go false = first_out

  inner_out : (c l : ℕ) (w : Way Scan) → way_out scan_out w ≡ items f o P c (suc l) then ends → way_out scan_out (inner_way o P s t c l w) ≡ inner_dip f o P c l then (items f o P c (suc l) then ends)
  unfolding inner_way inner_dip if_inner if_dip scan_out
  inner_out zero l w e = e
  inner_out (suc c) l w e = go (dips (P l) (P (suc l)) (P (suc (suc l))))
    where
      rest : Out
      rest = items f o P (suc c) (suc l) then ends

      go : (b : Bool) → way_out scan_out (if_inner o P s t b (suc c) l w) ≡ if_dip f b (of_inner o l) (P l) (P (suc (suc l))) then rest
      go true =
          chain_out (dip_out f (of_inner o l) (P l) (P (suc (suc l)))) scan_out (at_inner (suc c) l) rest (λ d. refl) w e (dip_way (of_inner o l) (P l) (P (suc (suc l))))
          ∙ ap (λ (z : Out). z then rest) (dip_way_out f (of_inner o l) (P l) (P (suc (suc l))))
      go false = e

  item_out : (c l : ℕ) (w : Way Scan) → way_out scan_out w ≡ items f o P c (suc l) then ends → way_out scan_out (if_crosses_way o P s t (crosses (P l) (P (suc l))) c l w) ≡ item f o P c l then (items f o P c (suc l) then ends)
  unfolding item if_crosses if_crosses_way scan_out
  item_out c l w e = go (crosses (P l) (P (suc l)))
    where
      rest : Out
      rest = items f o P c (suc l) then ends

      go : (b : Bool) → way_out scan_out (if_crosses_way o P s t b c l w) ≡ if_crosses f o P b c l then rest
      go true =
          chain_out (refine_out f (o (crossing l))) scan_out (at_crossing c l) rest (λ r. refl) w e (refine_start (o (crossing l)) (P l) (P (suc l)))
          ∙ ap (λ (z : Out). z then rest) (refine_start_out f (o (crossing l)) (P l) (P (suc l)))
      go false = inner_out c l w e

  items_out : (c l : ℕ) → way_out scan_out (items_way o P s t c l) ≡ items f o P c l then ends
  unfolding items_way items
  items_out zero l = last_dip_out
  items_out (suc c) l = item_out c l (items_way o P s t c (suc l)) (items_out c (suc l)) ∙ then_assoc (item f o P c l) (items f o P c (suc l)) ends

  -- one evaluation
  pub scan_once : (z : Scan) → scan_out z ≡ ask (scan_angle o P s t z) (way_out scan_out (scan_next o P s t z (f (scan_angle o P s t z))))
  unfolding scan_out scan_angle scan_next
  scan_once (at_crossing c l r) =
      chain_once (refine_out f (o (crossing l))) scan_out (at_crossing c l) (items f o P c (suc l) then ends) (λ z. refl) (items_way o P s t c (suc l)) (items_out c (suc l)) r (refine_angle r) (refine_next (o (crossing l)) r (f (refine_angle r))) (refine_once f (o (crossing l)) r)
  scan_once (at_inner c l d) =
      chain_once (dip_out f (of_inner o l) (P l) (P (suc (suc l)))) scan_out (at_inner c l) (items f o P c (suc l) then ends) (λ z. refl) (items_way o P s t c (suc l)) (items_out c (suc l)) d _ _ (dip_once f (of_inner o l) (P l) (P (suc (suc l))) d)
  scan_once (at_last d) =
      chain_once (dip_out f (of_last o t) (P t) (P (suc t))) scan_out at_last (first_dip f o P s) (λ z. refl) (first_way o P s t) first_out d _ _ (dip_once f (of_last o t) (P t) (P (suc t)) d)
  scan_once (at_first d) =
      last_once (dip_out f (of_first o s) (P s) (P (suc s))) scan_out at_first (λ z. refl) d _ _ (dip_once f (of_first o s) (P s) (P (suc s)) d)

-- a whole scan
pub scan_way_out : (f : Float → Float) (o : Place → Origin) (P : ℕ → Point) (s m : ℕ) → way_out (scan_out f o P s (last_pair s m)) (scan_way o P s m) ≡ scan_samples f o P s m
unfolding scan_way scan_samples last_pair way_out
scan_way_out f o P s zero = refl
scan_way_out f o P s (suc zero) = refl
scan_way_out f o P s (suc (suc c)) = items_out f o P s (s + c) (suc c) s
