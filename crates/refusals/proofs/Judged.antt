-- What the tests come to.
use Rattle.std.proofs.Common.{◌≡◌, ◌≢◌, ℕ, List, Float, arith}
use Rattle.std.proofs.lemmas.Grind.{common_steps}
use Rattle.refusals.specs.Judge.{judge_shape, judge_numbers, judge}

-- `judge` by its halves
pub judge_refused : (family n : ℕ) (arm pose : List Float) → judge_shape family arm 39 pose ≢ 0 → judge_shape family arm 39 pose ≡ judge family n arm pose
unfolding judge
judge_refused family n arm pose h = grind (arith, common_steps)

pub judge_accepted : (family n : ℕ) (arm pose : List Float) → judge_shape family arm 39 pose ≡ 0 → judge_numbers family n arm pose ≡ judge family n arm pose
unfolding judge
judge_accepted family n arm pose h = grind (arith, common_steps)
