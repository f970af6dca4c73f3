-- The pairs (q1, i) that two lists hold, angles and components.
use Rattle.std.specs.Prelude.{List, [], ◌∷◌, ℕ, ◌<◌, Float, take}
use Rattle.solutionset.specs.SolutionSet4.{size}
use Rattle.float.specs.Num.{nought}
use Rattle.solutionset.specs.declared.Pair as Angles
use Rattle.search_definition.specs.Found.{SearchPair}
use Rattle.search_error.specs.Fixed.{given_q1, t64}
use Rattle.search_error.specs.declared.Fixed.{Fixed}

-- in place of subproblem 6's answer (t6, t4) where there is none
abbrev pub no_answer : Angles.Pair
no_answer = record { first = nought; second = nought }

abbrev pub pair : Float → ℕ → SearchPair
pair q1 i = record { q1 = q1; i = i }

unfoldable pub zipped : List Float → List ℕ → List SearchPair
zipped [] cs = []
zipped (q ∷ qs) [] = []
zipped (q ∷ qs) (i ∷ cs) = pair q i ∷ zipped qs cs

-- the first m
abbrev pub first_pairs : ℕ → List Float → List ℕ → List SearchPair
first_pairs m qs cs = zipped (take m qs) (take m cs)

-- component i is below the number of subproblem 6's answers at q1
abbrev pub Answered : Fixed → Float → ℕ → Type 0
Answered g q1 i = i < size (t64 g (given_q1 g q1))
