-- What holds of the input of a track call that is not refused.
use Prim.Native.Nat.{ℕ, ◌≤◌}
use mathlib.Core.Path.{◌≡◌, refl, sym, ◌∙◌}
use mathlib.Core.Bool.{Bool, true, false, cond, ◌&&◌}
use mathlib.Core.List.{List}
use native.Mathlib.Omega.{arith}
use borrow.Author.Tests.{leb-true, eqb-true, eqb-false}
use lib.Dec.{leb, eqb}
use lib.Ieee.{Float}
use lib.ListN.{length}
use Rattle.float.specs.Number.{is_finite}
use Rattle.refusals.specs.Judge.{known, samples_fit, all_finite, judge_shape, judge_numbers}
use Rattle.track.specs.Reduced.{reduced_arm, handed_on}
use Rattle.track.specs.Track.{lockable, reduced_finite, track_judge, track_refused}

pub record TrackAccepted (family n : ℕ) (arm : List Float) (joint : ℕ) (pose : List Float) : Type 0 where
  pub family_low : 1 ≤ family
  pub family_high : family ≤ 6
  pub arm_long : length arm ≡ 45
  pub pose_long : length pose ≡ 12
  pub joint_high : joint ≤ 6
  pub samples : samples_fit family n ≡ true

pub both_true : (a b : Bool) → a && b ≡ true → (a ≡ true) × (b ≡ true)
both_true true true e = (refl, refl)
both_true true false e = (refl, e)
both_true false b e = (e, cc)

five : (k a p l s f : Bool)
    → ◌≡◌ {A = ℕ} 0 (cond k (cond a (cond p (cond l (cond s (cond f 0 8) 7) 11) 6) 5) 4)
    → (k ≡ true) × (a ≡ true) × (p ≡ true) × (l ≡ true) × (s ≡ true)
five true true true true true f e = (refl, refl, refl, refl, refl)
five true true true true false f e = let z : ◌≡◌ {A = ℕ} 0 7 = e in absurd (omega arith)
five true true true false s f e = let z : ◌≡◌ {A = ℕ} 0 11 = e in absurd (omega arith)
five true true false l s f e = let z : ◌≡◌ {A = ℕ} 0 6 = e in absurd (omega arith)
five true false p l s f e = let z : ◌≡◌ {A = ℕ} 0 5 = e in absurd (omega arith)
five false a p l s f e = let z : ◌≡◌ {A = ℕ} 0 4 = e in absurd (omega arith)

pub track_accepted : (family n : ℕ) (arm : List Float) (joint : ℕ) (angle : Float) (pose : List Float) → 0 ≡ track_judge family n arm joint angle pose → TrackAccepted family n arm joint pose
unfolding track_judge
track_accepted family n arm joint angle pose e =
    let t = five (known family) (eqb (length arm) 45) (eqb (length pose) 12) (lockable joint angle) (samples_fit family n) (all_finite arm && all_finite pose) e in
    let k = both_true (leb 1 family) (leb family 6) t.0 in
    let l = both_true (leb joint 6) (is_finite angle) t.3 in
    record {
      family_low = leb-true 1 family k.0;
      family_high = leb-true family 6 k.1;
      arm_long = eqb-true (length arm) 45 t.1;
      pose_long = eqb-true (length pose) 12 t.2;
      joint_high = leb-true joint 6 l.0;
      samples = t.4;
    }

-- the arm that is left and the pose handed on, of the numbers that the judging gives
pub left-of : (arm : List Float) (joint : ℕ) (angle : Float) {a l : List Float} → a ≡ arm → l ≡ reduced_arm a joint angle → l ≡ reduced_arm arm joint angle
left-of arm joint angle e h = rw (← e) h

pub to-of : (arm : List Float) (joint : ℕ) (angle : Float) (pose : List Float) {a p l : List Float} → a ≡ arm → p ≡ pose → l ≡ handed_on a joint angle p → l ≡ handed_on arm joint angle pose
to-of arm joint angle pose e e-p h = rw (← e, ← e-p) h

-- where nothing is refused, the numbers are accepted and those of the arm that is left are finite
both_zero : (x : ℕ) (b t : Bool) → eqb x 0 ≡ t → ◌≡◌ {A = ℕ} 0 (cond t (cond b 0 8) x) → (0 ≡ x) × (b ≡ true)
both_zero x true true e z = (sym (eqb-true x 0 e), refl)
both_zero x false true e z = let y : ◌≡◌ {A = ℕ} 0 8 = z in absurd (omega arith)
both_zero x b false e z = absurd (eqb-false x 0 e (sym z))

pub unrefused_track : (family n : ℕ) (arm : List Float) (joint : ℕ) (angle : Float) (pose : List Float) → 0 ≡ track_refused family n arm joint angle pose → (0 ≡ track_judge family n arm joint angle pose) × (reduced_finite arm joint angle pose ≡ true)
unfolding track_refused
unrefused_track family n arm joint angle pose e = both_zero (track_judge family n arm joint angle pose) (reduced_finite arm joint angle pose) (eqb (track_judge family n arm joint angle pose) 0) refl e

-- `track_judge` in turn: 4 to 6, then 11, then 7 and 8
module _ (family n : ℕ) (arm : List Float) (joint : ℕ) (angle : Float) (pose : List Float) where
  by_cases : (k a p l : Bool) (rest : ℕ) → (◌≡◌ {A = ℕ} (cond k (cond a (cond p 0 6) 5) 4) 0 → ⊥) → ◌≡◌ {A = ℕ} (cond k (cond a (cond p 0 6) 5) 4) (cond k (cond a (cond p (cond l rest 11) 6) 5) 4)
  by_cases true true true l rest h = absurd (h refl)
  by_cases true true false l rest h = refl
  by_cases true false p l rest h = refl
  by_cases false a p l rest h = refl

  passed : (k a p l : Bool) (rest : ℕ) → ◌≡◌ {A = ℕ} 0 (cond k (cond a (cond p 0 6) 5) 4) → ◌≡◌ {A = ℕ} (cond l rest 11) (cond k (cond a (cond p (cond l rest 11) 6) 5) 4)
  passed true true true l rest e = refl
  passed true true false l rest e = let z : ◌≡◌ {A = ℕ} 0 6 = e in absurd (omega arith)
  passed true false p l rest e = let z : ◌≡◌ {A = ℕ} 0 5 = e in absurd (omega arith)
  passed false a p l rest e = let z : ◌≡◌ {A = ℕ} 0 4 = e in absurd (omega arith)

  pub by_shape : {r : ℕ} → r ≡ judge_shape family arm 45 pose → (r ≡ 0 → ⊥) → r ≡ track_judge family n arm joint angle pose
  unfolding track_judge
  by_shape e h = e ∙ by_cases (known family) (eqb (length arm) 45) (eqb (length pose) 12) (lockable joint angle) (judge_numbers family n arm pose) (λ z. h (e ∙ z))

  after_shape : 0 ≡ judge_shape family arm 45 pose → cond (lockable joint angle) (judge_numbers family n arm pose) 11 ≡ track_judge family n arm joint angle pose
  unfolding track_judge
  after_shape e = passed (known family) (eqb (length arm) 45) (eqb (length pose) 12) (lockable joint angle) (judge_numbers family n arm pose) e

  module _ {l : Bool} (e : 0 ≡ judge_shape family arm 45 pose) (e-l : l ≡ lockable joint angle) where
    locked : cond l (judge_numbers family n arm pose) 11 ≡ track_judge family n arm joint angle pose
    locked = rw e-l (after_shape e)

    pub by_lock : l ≡ false → 11 ≡ track_judge family n arm joint angle pose
    by_lock t = rw t at locked

    pub by_numbers : {r : ℕ} → l ≡ true → r ≡ judge_numbers family n arm pose → r ≡ track_judge family n arm joint angle pose
    by_numbers t e-r = e-r ∙ rw t at locked
