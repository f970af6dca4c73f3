-- Pairs that have their answers.
use Prim.Native.Nat.{ℕ, zero, suc}
use mathlib.Core.Path.{◌≡◌, refl, sym}
use mathlib.Core.Bool.{Bool, true, false, ◌&&◌, true≢false}
use mathlib.Core.List.{List}
use native.Mathlib.Omega.{arith}
use borrow.Author.Tests.{ltb-true, lt-ltb, eqb-true, eqb-false}
use lib.Dec.{eqb}
use lib.Ieee.{Float, nan}
use lib.ListN.{get_or}
use Rattle.scalar.proofs.Order.{by_test}
use Rattle.kinematics.specs.Kinematics.{from_numbers}
use Rattle.kinematics.specs.Pose.{pose_rotation, pose_place}
use Rattle.search_error.specs.Error.{t64_count}
use Rattle.family6.specs.Kept.{Usable}
use Rattle.card.specs.Usable.{answered, usable}

both_true : (a b : Bool) → a && b ≡ true → (a ≡ true) × (b ≡ true)
both_true true b e = (refl, e)
both_true false b e = absurd (true≢false (sym e))

module _ (arm pose qs : List Float) (cs : List ℕ) where
  pub all_usable : (k : ℕ) → usable arm pose qs cs k ≡ true → Usable (pose_rotation pose) (pose_place pose) (from_numbers arm) k qs cs
  unfolding usable answered
  all_usable zero e j h = absurd (omega arith)
  all_usable (suc k) e j h =
      let t = both_true (answered arm pose (get_or qs k nan) (get_or cs k 0)) (usable arm pose qs cs k) e in
      by_test (eqb j k)
      (λ s. let same = eqb-true j k s in rw same (ltb-true (get_or cs k 0) (t64_count (from_numbers arm) (pose_rotation pose) (pose_place pose) (get_or qs k nan)) t.0))
      (λ s. let other = eqb-false j k s in all_usable k t.1 j (omega (arith, other)))

  pub usable_all : (k : ℕ) → Usable (pose_rotation pose) (pose_place pose) (from_numbers arm) k qs cs → usable arm pose qs cs k ≡ true
  unfolding usable answered
  usable_all zero u = refl
  usable_all (suc k) u =
      let here = lt-ltb (get_or cs k 0) (t64_count (from_numbers arm) (pose_rotation pose) (pose_place pose) (get_or qs k nan)) (u k (omega arith)) in
      let before = usable_all k (λ j h. u j (omega arith)) in
      rw (here, before) refl
