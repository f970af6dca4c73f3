-- The one-answer call. Document 02, request 3: "The press interlock wants a single answer within the limits and no list. .. six angles and a flag, without a count; a refusal
-- gives six zeros and flag 0. Lists lent to the full call play no part, so 9 can't be given. Refused: 12, exactly if the filtered list is empty, checked last." Request 6: "The
-- single-answer call of request 3 shall now give the first member of the filtered list. Its empty case is judged as before."
use Rattle.std.specs.Prelude.{ℕ, ◌<◌, ◌≡◌, false, cond, List, [], ◌∷◌, eqb, Float, length, get_or, Result, Ok, Err}
use Rattle.float.specs.Num.{nought}
use Rattle.answers.specs.declared.Answer.{Answer}
use Rattle.refusals.specs.Refusal.{number}
use Rattle.refusals.specs.declared.refusal.Refusal.{Refusal}
use Rattle.solve.specs.Solve.{refused, answers}

-- "six zeros and flag 0"
abbrev pub zeros : Answer
zeros = record { q1 = nought; q2 = nought; q3 = nought; q4 = nought; q5 = nought; q6 = nought; is_ls = false }

-- what a call gives, in numbers
pub record One : Type 0 where
  pub refusal : ℕ
  pub answer : Answer

-- zeros where it is refused
abbrev pub one_of : Result Answer Refusal → One
one_of (Ok q) = record { refusal = 0; answer = q }
one_of (Err refusal) = record { refusal = number refusal; answer = zeros }

-- of the filtered list "the first member", or 12 where it is empty
unfoldable pub first_of : List Answer → One
first_of [] = record { refusal = 12; answer = zeros }
first_of (q ∷ rest) = record { refusal = 0; answer = q }

-- the refusals of the solve call but 9 come first
unfoldable pub solve_one : ℕ → ℕ → List Float → List Float → List Float → One
unfolding first_of
solve_one family n arm pose limits =
    let first = refused family n arm pose limits in
    cond (eqb first 0) (first_of (answers family n arm pose limits)) (record { refusal = first; answer = zeros })

-- ---- what request 3 asked, which left open which member is given, holds of it: a theorem

-- the refusals of the solve call but 9; then 12 where the filtered list is empty
unfoldable pub one_refusal : ℕ → ℕ → List Float → List Float → List Float → ℕ
one_refusal family n arm pose limits =
    let first = refused family n arm pose limits in
    cond (eqb first 0) (cond (eqb (length (answers family n arm pose limits)) 0) 12 0) first

-- an answer of a list: at some place
pub record Member (q : Answer) (all : List Answer) : Type 0 where
  pub place : ℕ
  pub within : place < length all
  pub there : q ≡ get_or all place zeros

pub record Gives (family n : ℕ) (arm pose limits : List Float) (r : One) : Type 0 where
  pub refusal_is : r.refusal ≡ one_refusal family n arm pose limits
  pub refused_zeros : (r.refusal ≡ 0 → ⊥) → r.answer ≡ zeros
  pub member : r.refusal ≡ 0 → Member r.answer (answers family n arm pose limits)

abbrev pub SolveOneGives : Type 0
SolveOneGives = (family n : ℕ) (arm pose limits : List Float) → Gives family n arm pose limits (solve_one family n arm pose limits)
