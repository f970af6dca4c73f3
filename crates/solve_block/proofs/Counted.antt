-- The number of answers that a block reports is that of its answers inside the limits.
use Prim.Native.Nat.{ℕ}
use mathlib.Core.Path.{◌≡◌, refl}
use mathlib.Core.Bool.{Bool, true, false, cond}
use mathlib.Core.List.{List, []}
use lib.Dec.{eqb}
use lib.Ieee.{Float}
use lib.ListN.{length}
use Rattle.block.specs.Block.{refusal, family, samples, arm, pose}
use Rattle.solve.specs.Solve.{answers, solve}
use Rattle.solve_block.specs.SolveBlock.{solve_block, block_answers}

solved_or_none : (bytes : List ℕ) (limits : List Float) (room : ℕ) (t : Bool)
    → (cond t (solve (family bytes) (samples bytes) (arm bytes) (pose bytes) limits room) (record { refusal = refusal bytes; answers = 0; evals = 0 })).answers
    ≡ length (cond t (answers (family bytes) (samples bytes) (arm bytes) (pose bytes) limits) [])
unfolding solve
solved_or_none bytes limits room true = refl
solved_or_none bytes limits room false = refl

pub counted : (bytes : List ℕ) (limits : List Float) (room : ℕ) → (solve_block bytes limits room).answers ≡ length (block_answers bytes limits)
unfolding solve_block block_answers
counted bytes limits room = solved_or_none bytes limits room (eqb (refusal bytes) 0)
