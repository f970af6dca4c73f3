-- What a dip adds, from its lowest point. Assumes nothing.
use mathlib.Core.Path.{◌≡◌, sym, ◌∙◌, ap}
use mathlib.Core.Bool.{Bool, true, false}
use Prim.Native.Nat.{ℕ, ◌≤◌}
use native.Mathlib.Omega.{arith}
use lib.Ieee.{Float, lt}
use Rattle.float.specs.Num.{◌⊗◌, nought}
use Rattle.float.specs.Number.{is_finite}
use Rattle.search_definition.specs.Found.{Part, only, before, after, Origin, asks, ◌then◌}
use Rattle.search_definition.specs.Dip.{Valley, sign_of, lowest, Point, entry, if_tangent, refined, if_crossed, settled, minimise_dip}
use Rattle.search_refine.specs.Counted.{Counted, with_count, evals_of, total}
use Rattle.search_definition.proofs.Bounds.{lowest_asks}
use Rattle.search_pairs.specs.State.{State, afterwards}
use Rattle.search_pairs.proofs.States.{after_both, after_nothing, after_two, spend, after_asks}

pub lowest_few : (f : Float → Float) (sign a b : Float) {v : Valley} {n : ℕ} → with_count v n ≡ total (lowest f sign a b) → n ≤ 18
lowest_few f sign a b e = omega (arith, lowest_asks f sign a b, ap evals_of e)

-- a dip: v is the lowest point, found in n evaluations
module _ (f : Float → Float) (o : Part → Origin) (p q : Point) (s : State) {sign : Float} {v : Valley} {n : ℕ} (es : sign ≡ sign_of p.y) (ev : with_count v n ≡ total (lowest f sign p.x q.x)) where
  dip_is : (b : Bool) → lt v.best_g nought ≡ b → afterwards (spend s n) (if_crossed f b o p q v) ≡ afterwards s (minimise_dip f o p q)
  unfolding minimise_dip settled
  dip_is b e =
      let w = lowest f (sign_of p.y) p.x q.x in
      let d : with_count v n ≡ total w = ev ∙ ap (λ (z : Float). total (lowest f z p.x q.x)) es in
      sym (ap (λ (z : Bool). afterwards (spend s n) (if_crossed f z o p q v)) e)
      ∙ ap (λ (c : Counted Valley). afterwards (spend s c.evals) (if_crossed f (lt c.value.best_g nought) o p q c.value)) d
      ∙ ap (λ (z : State). afterwards z (if_crossed f (lt w.value.best_g nought) o p q w.value)) (after_asks s w.asked)
      ∙ sym (after_both s (asks w.asked) (if_crossed f (lt w.value.best_g nought) o p q w.value))

  not_crossed : (b : Bool) → lt v.best_g nought ≡ false → is_finite v.best_g ≡ b → afterwards (spend s n) (if_tangent b o v.best_x) ≡ afterwards s (minimise_dip f o p q)
  unfolding if_crossed
  not_crossed b a e = ap (λ (z : Bool). afterwards (spend s n) (if_tangent z o v.best_x)) (sym e) ∙ dip_is false a

  pub dip_none : {r : Bool} → r ≡ is_finite v.best_g → lt v.best_g nought ≡ false → r ≡ false → spend s n ≡ afterwards s (minimise_dip f o p q)
  unfolding if_tangent
  dip_none e a b = sym (after_nothing (spend s n)) ∙ not_crossed false a (sym e ∙ b)

  pub dip_tangent : {r : Bool} {t : State} → r ≡ is_finite v.best_g → lt v.best_g nought ≡ false → r ≡ true → t ≡ afterwards (spend s n) (entry v.best_x (o only)) → t ≡ afterwards s (minimise_dip f o p q)
  unfolding if_tangent
  dip_tangent e a b d = d ∙ not_crossed true a (sym e ∙ b)

  pub dip_two : {k t : State} → lt v.best_g nought ≡ true → k ≡ afterwards (spend s n) (refined f (o before) p (record { x = v.best_x; y = sign ⊗ v.best_g })) → t ≡ afterwards k (refined f (o after) (record { x = v.best_x; y = sign ⊗ v.best_g }) q) → t ≡ afterwards s (minimise_dip f o p q)
  unfolding if_crossed
  dip_two {k} {t} a ek et =
      let w : t ≡ afterwards (spend s n) (refined f (o before) p (record { x = v.best_x; y = sign ⊗ v.best_g }) then refined f (o after) (record { x = v.best_x; y = sign ⊗ v.best_g }) q) = after_two (spend s n) _ _ ek et in
      (rw es at w) ∙ dip_is true a
