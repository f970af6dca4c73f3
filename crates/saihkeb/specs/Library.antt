-- What the library's calls leave beside the two lists.
use Rattle.std.specs.Prelude.{ℕ, List, [], ◌∷◌}
use Rattle.solve.specs.InNumbers.{Solved}

-- the two counts of a call: the answers inside the limits, then the evaluations
abbrev pub counts_of : Solved → List ℕ
counts_of s = s.answers ∷ s.evals ∷ []
