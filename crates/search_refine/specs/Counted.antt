-- A value of the search with the number of evaluations on the way to it.
use Rattle.std.specs.Prelude.{ℕ, ◌+◌, length}
use Rattle.search_definition.specs.Found.{Asked}

-- a value, and how often the error was asked on the way to it
pub record Counted (R : Type 0) : Type 0 where
  pub value : R
  pub evals : ℕ

abbrev pub with_count : {R : Type 0} → R → ℕ → Counted R
with_count v k = record { value = v; evals = k }

abbrev pub evals_of : {R : Type 0} → Counted R → ℕ
evals_of c = c.evals

-- what an asking value gives: the count is the number of the angles asked
abbrev pub total : {R : Type 0} → Asked R → Counted R
total a = record { value = a.value; evals = length a.asked }

-- the same after k evaluations
abbrev pub counted : {R : Type 0} → ℕ → Asked R → Counted R
counted k a = record { value = a.value; evals = k + length a.asked }
