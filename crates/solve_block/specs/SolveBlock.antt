-- The block call: a pose block is judged and solved within limits. Document 01: "Refusals 1 to 8 report 0 answers and 0 evaluations and write nothing." A limits block is
-- refused by 3: its byte 3 is not zero.
use Rattle.std.specs.Prelude.{ℕ, cond, List, [], eqb, Float}
use Rattle.answers.specs.declared.Answer.{Answer}
use Rattle.block.specs.Block.{refusal, family, samples, arm, pose}
use Rattle.solve.specs.Solve.{answers, solve}
use Rattle.solve.specs.InNumbers.{Solved}

-- refusals 1 to 3, or what the solve call gives that has room for so many answers
unfoldable pub solve_block : List ℕ → List Float → ℕ → Solved
solve_block bytes limits room =
    let refused = refusal bytes in
    cond (eqb refused 0)
    (solve (family bytes) (samples bytes) (arm bytes) (pose bytes) limits room)
    (record { refusal = refused; answers = 0; evals = 0 })

-- the answers inside the limits
unfoldable pub block_answers : List ℕ → List Float → List Answer
block_answers bytes limits = cond (eqb (refusal bytes) 0) (answers (family bytes) (samples bytes) (arm bytes) (pose bytes) limits) []
