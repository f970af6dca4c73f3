-- The limits in force: an accepted block's, or those of before.
use Prim.Native.Nat.{ℕ}
use mathlib.Core.Path.{◌≡◌, refl}
use mathlib.Core.Bool.{Bool, true, false}
use mathlib.Core.List.{List}
use lib.Ieee.{Float}
use Rattle.limits.specs.Limits.{refusal_10}
use Rattle.limits_block.specs.LimitsBlock.{limits, accepted, in_force}
use Rattle.limits_block.proofs.Accepted.{accepted_limits}

module _ (bytes : List ℕ) (before : List Float) where
  pub taken : accepted bytes ≡ true → in_force bytes before ≡ limits bytes
  unfolding in_force
  taken h = rw h

  pub kept : accepted bytes ≡ false → in_force bytes before ≡ before
  unfolding in_force
  kept h = rw h

  by_case : (t : Bool) → accepted bytes ≡ t → refusal_10 before ≡ 0 → refusal_10 (in_force bytes before) ≡ 0
  by_case true h e = rw (taken h) (accepted_limits bytes h)
  by_case false h e = rw (kept h) e

  -- 10 is never given of limits that came by blocks
  pub in_force_accepted : refusal_10 before ≡ 0 → refusal_10 (in_force bytes before) ≡ 0
  in_force_accepted e = by_case (accepted bytes) refl e
