-- The golden section, by what the code's calls ensure. Assumes nothing.
use mathlib.Core.Path.{◌≡◌, sym, ◌∙◌, ap}
use mathlib.Core.Bool.{Bool, true, false, cond}
use lib.Ieee.{Float, lt}
use Rattle.float.specs.Num.{◌⊗◌, infinity}
use Rattle.float.specs.Number.{is_finite}
use Rattle.search_definition.specs.Dip.{Valley, left_of, right_of, probe}
use Rattle.search_steps.specs.DipSteps.{depth_of, opened_of, moved_of, leftward}

module _ (sign y : Float) {r : Bool} (q : r ≡ is_finite y) where
  pub depth_finite : r ≡ true → sign ⊗ y ≡ depth_of sign y
  unfolding depth_of
  depth_finite t = sym (ap (λ (b : Bool). cond b (sign ⊗ y) infinity) (sym q ∙ t))

  pub depth_infinite : {z : Float} → r ≡ false → z ≡ infinity → z ≡ depth_of sign y
  unfolding depth_of
  depth_infinite t d = d ∙ sym (ap (λ (b : Bool). cond b (sign ⊗ y) infinity) (sym q ∙ t))

module _ (v : Valley) (g : Float) where
  pub probe_left : {p : Float} → lt v.g1 v.g2 ≡ true → p ≡ left_of v.lo v.x2 → p ≡ probe (leftward v) v
  unfolding probe leftward
  probe_left t e = e ∙ sym (ap (λ (b : Bool). probe b v) t)

  pub probe_right : {p : Float} → lt v.g1 v.g2 ≡ false → p ≡ right_of v.x1 v.hi → p ≡ probe (leftward v) v
  unfolding probe leftward
  probe_right t e = e ∙ sym (ap (λ (b : Bool). probe b v) t)

  abbrev to_left : Float → Valley
  to_left x = record { lo = v.lo; hi = v.x2; x1 = x; x2 = v.x1; g1 = g; g2 = v.g1; best_x = v.best_x; best_g = v.best_g }

  abbrev to_right : Float → Valley
  to_right x = record { lo = v.x1; hi = v.hi; x1 = v.x2; x2 = x; g1 = v.g2; g2 = g; best_x = v.best_x; best_g = v.best_g }

  pub moved_left : {p : Float} → lt v.g1 v.g2 ≡ true → p ≡ left_of v.lo v.x2 → to_left p ≡ moved_of (leftward v) v g
  unfolding moved_of probe leftward
  moved_left t e = ap to_left e ∙ sym (ap (λ (b : Bool). moved_of b v g) t)

  pub moved_right : {p : Float} → lt v.g1 v.g2 ≡ false → p ≡ right_of v.x1 v.hi → to_right p ≡ moved_of (leftward v) v g
  unfolding moved_of probe leftward
  moved_right t e = ap to_right e ∙ sym (ap (λ (b : Bool). moved_of b v g) t)

pub opened_is : (a b g h : Float) {p q bx bg : Float} → p ≡ left_of a b → q ≡ right_of a b → bx ≡ cond (lt g h) p q → bg ≡ cond (lt g h) g h → ◌≡◌ {A = Valley} (record { lo = a; hi = b; x1 = p; x2 = q; g1 = g; g2 = h; best_x = bx; best_g = bg }) (opened_of a b g h)
unfolding opened_of
opened_is a b g h ep eq ebx ebg = cc
