-- What joint limits do to the solve call, and what they leave alone. The words in quotes are document 02's, request 1.
use Rattle.std.specs.Prelude.{ℕ, ◌*◌, ◌≤◌, ◌≡◌, List, [], Float, length}
use Rattle.refusals.specs.Judge.{judge}
use Rattle.limits.specs.Limits.{refusal_10}
use Rattle.limits.specs.Allowed.{Filtered}
use Rattle.solve.specs.Solve.{refused, full, answers, solve}

pub record Limited (family n : ℕ) (arm pose limits : List Float) : Type 0 where
  -- "Answers outside the limits leave the list, the others stay in order": exactly those inside, in their order
  pub filtered : Filtered limits (full family n arm pose limits).answers (answers family n arm pose limits)
  -- "Without limits the list is the Rust's", and so is everything else
  pub without_limits : answers family n arm pose [] ≡ (full family n arm pose []).answers
  pub refused_without : refused family n arm pose [] ≡ judge family n arm pose
  -- "the evaluations and the search's pairs are those before filtering": all that is solved is as without limits
  pub same_solving : refusal_10 limits ≡ 0 → full family n arm pose limits ≡ full family n arm pose []
  pub same_evaluations : (room : ℕ) → refusal_10 limits ≡ 0 → (solve family n arm pose limits room).evals ≡ (solve family n arm pose [] room).evals
  -- "10 [..] checked after 3 and before 4"
  pub ten_first : (refusal_10 limits ≡ 0 → ⊥) → refused family n arm pose limits ≡ refusal_10 limits
  -- document 01: "Families 1 to 5 give at most 8 answers, family 6 at most 44 × n."
  pub at_most_8 : (family ≡ 6 → ⊥) → length (answers family n arm pose limits) ≤ 8
  pub at_most_44 : family ≡ 6 → length (answers family n arm pose limits) ≤ 44 * n
