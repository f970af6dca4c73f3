-- The ways out of the steps of minimise_dip, by what the code's tests and calls gave. Assumes nothing.
use Rattle.std.proofs.Common.{◌≡◌, ◌≢◌, refl, sym, ◌∙◌, ap, Bool, true, false, List, [], ℕ, suc, ◌-◌, arith, Float}
use Rattle.std.specs.Prelude.{Option, Some, None}
use Rattle.std.specs.Option.{option_map}
use Rattle.std.specs.Float.Ieee.{lt}
use Rattle.float.specs.Num.{◌⊗◌, nought}
use Rattle.float.specs.Number.{is_finite}
use Rattle.search_definition.specs.Found.{Part, only, before, Origin}
use Rattle.search_definition.specs.Dip.{Valley, Point, sign_of, best, if_below, if_tangent, entry, probe}
use Rattle.search_steps.specs.Way.{Way, over, chain}
use Rattle.search_steps.specs.RefineSteps.{refine_start}
use Rattle.search_steps.specs.DipSteps.{depth_of, opened_of, moved_of, leftward, Dip, opened_left, refining_before, refining_after, sinking, bottom, after_way, if_crossed_way, crossed_way, sink_way, sunk, turned_way, dip_angle, dip_next}
use Rattle.step_refine.specs.State.{refining_of}
use Rattle.step_refine.specs.declared.Refining.{Refining}
use Rattle.step_pairs.specs.declared.Found.{Found}
use Rattle.step_pairs.specs.Landed.{entry_of, put_one, putting, Landed, landing, landed, came}
use Rattle.step_pairs.proofs.LandedLaws.{part_ends}
use Rattle.search_dip.specs.Valley.{valley}
use Rattle.step_dip.specs.State.{dip_of}
use Rattle.search_dip.specs.declared.dip.Valley as DeclaredValley
use Rattle.step_dip.specs.declared.dip.Dip as Declared
use Rattle.step_dip.specs.declared.dip.Dip.TheVariants.{Opening, OpenedLeft, Sinking, After}

module _ (room : ℕ) (o : Part → Origin) (h : List Found) where
  -- ---- the second refinement: k and s are what the code left and returned of it
  pub after_is : (a : Way _) (k : List Found) (r : Option Refining) (s : Option Declared.Dip) → came refining_of k r ≡ landed room h a → s ≡ option_map After r → came dip_of k s ≡ landed room h (chain refining_after a (over []))
  after_is a k r s e d = part_ends room refining_of dip_of After refining_after h k a (λ t. refl) r s e d

  -- ---- the valley's lowest point
  module _ (p q : Point) (v : Valley) where
    crossed : (b : Bool) → lt v.best_g nought ≡ b → landed room h (if_crossed_way o p q b v) ≡ landed room h (crossed_way o p q v)
    unfolding crossed_way
    crossed b t = sym (ap (λ (z : Bool). landed room h (if_crossed_way o p q z v)) t)

    abbrev at_depth : Float → Point
    at_depth s = record { x = v.best_x; y = s ⊗ v.best_g }

    pub crosses_there : {s : Float} {l : Landed Dip} → lt v.best_g nought ≡ true → s ≡ sign_of p.y
        → l ≡ landed room h (chain (refining_before (at_depth s)) (refine_start (o before) p (at_depth s)) (after_way o p q (at_depth s))) → l ≡ landed room h (crossed_way o p q v)
    unfolding if_crossed_way bottom
    crosses_there {s} t e a =
        a
        ∙ ap (λ (z : Float). landed room h (chain (refining_before (at_depth z)) (refine_start (o before) p (at_depth z)) (after_way o p q (at_depth z)))) e
        ∙ crossed true t

    touched : {r : Bool} (b : Bool) → lt v.best_g nought ≡ false → r ≡ is_finite v.best_g → r ≡ b → landed room h (over (if_tangent b o v.best_x).found) ≡ landed room h (crossed_way o p q v)
    unfolding if_crossed_way
    touched b t e d = sym (ap (λ (z : Bool). landed room h (over (if_tangent z o v.best_x).found)) (sym e ∙ d)) ∙ crossed false t

    pub touches : {r : Bool} {k : List Found} → lt v.best_g nought ≡ false → r ≡ is_finite v.best_g → r ≡ true → k ≡ put_one room h (entry_of v.best_x (o only)) → landing k None ≡ landed room h (crossed_way o p q v)
    unfolding if_tangent entry landed putting
    touches t e d a = ap (λ (z : List Found). landing z None) a ∙ touched true t e d

    pub misses : {r : Bool} → lt v.best_g nought ≡ false → r ≡ is_finite v.best_g → r ≡ false → landing h None ≡ landed room h (crossed_way o p q v)
    unfolding if_tangent landed putting
    misses t e d = touched false t e d

    -- ---- at most k turns
    pub no_turn : (k : ℕ) {l : Landed Dip} → k ≡ 0 → l ≡ landed room h (crossed_way o p q v) → l ≡ landed room h (sink_way o p q k v)
    unfolding sink_way
    no_turn k e a = a ∙ sym (ap (λ (z : ℕ). landed room h (sink_way o p q z v)) e)

    pub turns : (k : ℕ) → k ≢ 0 → landing h (Some (sinking (k - 1) v)) ≡ landed room h (sink_way o p q k v)
    unfolding sink_way landed putting
    turns k e = let m : k ≡ suc (k - 1) = omega arith in sym (ap (λ (z : ℕ). landed room h (sink_way o p q z v)) m)

    -- ---- a turn's end
    module _ (k : ℕ) (g : Float) {a w : Valley} (e : a ≡ moved_of (leftward v) v g) (d : w ≡ best a) where
      turned : (b : Bool) → lt w.best_g nought ≡ b → landed room h (sunk o p q k (if_below b (probe (leftward v) v) w)) ≡ landed room h (turned_way o p q k v g)
      unfolding turned_way
      turned b t =
          sym (ap (λ (z : Bool). landed room h (sunk o p q k (if_below z (probe (leftward v) v) w))) t)
          ∙ ap (λ (z : Valley). landed room h (sunk o p q k (if_below (lt z.best_g nought) (probe (leftward v) v) z))) (d ∙ ap best e)

      pub sinks_below : {l : Landed Dip} → lt w.best_g nought ≡ true → l ≡ landed room h (crossed_way o p q w) → l ≡ landed room h (turned_way o p q k v g)
      unfolding if_below sunk
      sinks_below t c = c ∙ turned true t

      pub sinks_on : {l : Landed Dip} → lt w.best_g nought ≡ false → l ≡ landed room h (sink_way o p q k w) → l ≡ landed room h (turned_way o p q k v g)
      unfolding if_below sunk
      sinks_on t c = c ∙ turned false t

-- ---- a step, by the state that it starts from
module _ (o : Part → Origin) (p q : Point) (d : Declared.Dip) where
  pub angle_from : (z : Declared.Dip) {a : Float} → d ≡ z → a ≡ dip_angle o p q (dip_of z) → a ≡ dip_angle o p q (dip_of d)
  angle_from z e a = a ∙ sym (ap (λ (c : Declared.Dip). dip_angle o p q (dip_of c)) e)

  module _ (room : ℕ) (h : List Found) (y : Float) where
    abbrev stepped : Declared.Dip → Landed Dip
    stepped z = landed room h (dip_next o p q (dip_of z) y)

    pub opens : {s g : Float} → d ≡ Opening → s ≡ sign_of p.y → g ≡ depth_of s y → landing h (Some (opened_left g)) ≡ stepped d
    unfolding dip_next landed putting
    opens e i j = ap (λ (z : Float). landing h (Some (opened_left z))) (j ∙ ap (λ (z : Float). depth_of z y) i) ∙ sym (ap stepped e)

    pub opens_right : (g : Float) {s t : Float} {v : Valley} {l : Landed Dip} → d ≡ OpenedLeft g → s ≡ sign_of p.y → t ≡ depth_of s y → v ≡ opened_of p.x q.x g t → l ≡ landed room h (sink_way o p q 16 v) → l ≡ stepped d
    unfolding dip_next
    opens_right g e i j k a =
        a
        ∙ ap (λ (z : Valley). landed room h (sink_way o p q 16 z)) (k ∙ ap (opened_of p.x q.x g) (j ∙ ap (λ (z : Float). depth_of z y) i))
        ∙ sym (ap stepped e)

    pub sinks : (k : ℕ) (v : DeclaredValley.Valley) {s t : Float} {l : Landed Dip} → d ≡ Sinking k v → s ≡ sign_of p.y → t ≡ depth_of s y → l ≡ landed room h (turned_way o p q k (valley v) t) → l ≡ stepped d
    unfolding dip_next
    sinks k v e i j a =
        a ∙ ap (λ (z : Float). landed room h (turned_way o p q k (valley v) z)) (j ∙ ap (λ (z : Float). depth_of z y) i) ∙ sym (ap stepped e)

    pub step_from : (z : Declared.Dip) {l : Landed Dip} → d ≡ z → l ≡ stepped z → l ≡ stepped d
    step_from z e a = a ∙ sym (ap stepped e)
