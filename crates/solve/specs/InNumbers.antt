-- What a call gives, in numbers: "a refusal (0 is none), the number of answers and the number of evaluations of the search error" (document 01).
use Rattle.std.specs.Prelude.{ℕ}
use Rattle.refusals.specs.Judge.{refusal_9}
use Rattle.refusals.specs.Refusal.{number_of}
use Rattle.solve.specs.declared.Solved as Code

pub record Solved : Type 0 where
  pub refusal : ℕ
  pub answers : ℕ
  pub evals : ℕ

abbrev pub in_numbers : Code.Solved → Solved
in_numbers s = record { refusal = number_of s.outcome; answers = s.answers; evals = s.evals }

-- what a call gives that is refused before it solves
abbrev pub refuses : ℕ → Solved
refuses refusal = record { refusal = refusal; answers = 0; evals = 0 }

-- what a call gives that is not, with room for so many answers
abbrev pub gives : ℕ → ℕ → ℕ → Solved
gives answers evals room = record { refusal = refusal_9 answers room; answers = answers; evals = evals }
