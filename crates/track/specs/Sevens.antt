-- Answers of an arm on a track. Document 02, request 2: "puts the locked angle back in its place, so an answer is seven numbers and 9 counts sevens".
use Rattle.std.specs.Prelude.{ℕ, List, [], ◌∷◌, ◌++◌, Float, take, drop, get_or}
use Rattle.std.specs.Float.{nan}
use Rattle.answers.specs.Answer.{six}
use Rattle.answers.specs.Rows.{Form}
use Rattle.answers.specs.declared.Answer.{Answer}

-- the six angles with the locked one at its joint, counted from 0
unfoldable pub seven : ℕ → Float → Answer → List Float
seven joint angle q = take joint (six q) ++ angle ∷ drop joint (six q)

abbrev pub sevens : ℕ → Float → Form
sevens joint angle = record { wide = 7; numbers = seven joint angle }

-- the seven numbers of a row, one by one
abbrev pub parts : List Float → List Float
parts row = get_or row 0 nan ∷ get_or row 1 nan ∷ get_or row 2 nan ∷ get_or row 3 nan ∷ get_or row 4 nan ∷ get_or row 5 nan ∷ get_or row 6 nan ∷ []
