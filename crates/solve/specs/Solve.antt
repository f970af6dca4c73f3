-- The solve call. Document 01: "The public solve call takes a family, a sample count n, an arm, a pose and two lent lists. It gives a refusal (0 is none), the number of
-- answers and the number of evaluations of the search error."
use Rattle.std.specs.Prelude.{ℕ, cond, List, [], eqb, Float, length}
use Rattle.answers.specs.declared.Answer.{Answer}
use Rattle.refusals.specs.Judge.{judge, refusal_9}
use Rattle.limits.specs.Limits.{allowed, refusal_10}
use Rattle.full_list.specs.Full.{Full, no_search, of_numbers}
use Rattle.solve.specs.InNumbers.{Solved}

-- refusals 10 and 4 to 8, the first that applies, or 0. Document 02, request 1: "Refused: 10, limits lent to a call that are neither twelve numbers nor none, a limit that
-- isn't finite or a low above its high, checked after 3 and before 4"
unfoldable pub refused : ℕ → ℕ → List Float → List Float → List Float → ℕ
refused family n arm pose limits = let ten = refusal_10 limits in cond (eqb ten 0) (judge family n arm pose) ten

-- what a call solves: nothing where it refuses
unfoldable pub full : ℕ → ℕ → List Float → List Float → List Float → Full
full family n arm pose limits =
    cond (eqb (refused family n arm pose limits) 0)
    (of_numbers family n arm pose)
    (no_search [])

-- the answers that a call gives. Document 02, request 1: "Answers outside the limits leave the list, the others stay in order [..] with them the comparison, the answer
-- count and 9 go by the Rust's list so filtered"
abbrev pub answers : ℕ → ℕ → List Float → List Float → List Float → List Answer
answers family n arm pose limits = allowed limits (full family n arm pose limits).answers

-- what a call gives that has room for so many answers: `refused` first; "while the evaluations and the search's pairs are those before filtering"
unfoldable pub solve : ℕ → ℕ → List Float → List Float → List Float → ℕ → Solved
solve family n arm pose limits room =
    let count = length (answers family n arm pose limits) in
    let first = refused family n arm pose limits in
    record { refusal = cond (eqb first 0) (refusal_9 count room) first; answers = count; evals = (full family n arm pose limits).evals }
