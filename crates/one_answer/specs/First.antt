-- The first of a list's answers that is inside the limits: what the code looks for.
use Rattle.std.specs.Prelude.{List, [], ◌∷◌, Float, Option, Some, None}
use Rattle.answers.specs.declared.Answer.{Answer}
use Rattle.limits.specs.Limits.{allowed}

abbrev pub head : List Answer → Option Answer
head [] = None
head (q ∷ rest) = Some q

unfoldable pub first_allowed : List Float → List Answer → Option Answer
first_allowed limits all = head (allowed limits all)
