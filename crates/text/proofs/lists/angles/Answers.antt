-- `angles`: the first of them are written.
use Rattle.std.proofs.Common.{◌≡◌, ℕ, ◌+◌, ◌<◌, List, ◌++◌, length, get_or, take, arith}
use mathlib.Core.List.{flat_map}
use lib.Ieee.{Float}
use Rattle.text.specs.Lists.{angle}
use Rattle.text.proofs.Laws.{both, nothing, one_more}
use Rattle.text.proofs.lists.angles.Goals as goal

again : (list : List Float) (i : ℕ) (x : Float) (l : List ℕ) {l1 l2 : List ℕ} → i < length list → l1 ≡ l ++ flat_map angle (take i list) → l2 ≡ l1 ++ angle (get_or list i x) → l2 ≡ l ++ flat_map angle (take (i + 1) list)
again list i x l h p q = rw (one_more angle list x i h) (both _ _ l p q)

pub loop-x-init : goal.loop-x-init
unfolding flat_map
loop-x-init c = record { written = nothing _; long = omega arith }

pub loop-x-preserved : goal.loop-x-preserved
loop-x-preserved c = record {
  written = again c.args.list.now c.loop-x.x-index _ _ c.loop-x-test.true c.loop-x.invariant.written c.angle.ensures.items;
  long = omega arith;
}
