-- The blocks before are not refused and their numbers marked.
use Rattle.std.proofs.Common.{◌≡◌, ℕ, [], Bool, false, List, length, get_or, take}
use Rattle.arms.specs.Arm.{Arm}
use Rattle.arms.specs.File.{arms, judge}
use Rattle.arms.specs.Port.{Told}
use Rattle.arms.proofs.judge.Given as goal

-- every number that is held is marked
pub record Marks (seen : List Bool) (held : List Arm) : Type 0 where
  pub long : length seen ≡ 256
  pub told : (n : ℕ) → Told (get_or seen n false) n held

abbrev pub invariant-loop-k : goal.invariant-loop-k
invariant-loop-k l = (judge [] (take l.k l.blocks) ≡ 0) × Marks l.seen (arms (take l.k l.blocks))
