-- The lines of a block, from its numbers and the two lists.
use Rattle.std.specs.Prelude.{ℕ, zero, suc, ◌*◌, Float, take, drop, get_or}
use mathlib.Core.List.{List, [], ◌++◌, flat_map}
use Rattle.text.specs.Text.{text, digits, decimal, hex}

-- a word and a number
unfoldable pub field : List ℕ → ℕ → List ℕ
field name n = name ++ decimal n

-- "It prints, for each block, its place from 0, refusal, answers and evaluations": block 0 refusal 0 answers 0 evals 0
unfoldable pub head : ℕ → ℕ → ℕ → ℕ → List ℕ
head place refusal answers evals =
    field (text "block ") place ++ field (text " refusal ") refusal ++ field (text " answers ") answers ++ field (text " evals ") evals ++ text "\n"

-- an angle, and the space after it
unfoldable pub angle : Float → List ℕ
angle x = hex x ++ text " "

-- the line of an answer, whose flag is one digit
unfoldable pub line : List Float → ℕ → List ℕ
line six flag = flat_map angle six ++ digits 10 1 flag ++ text "\n"

-- answer i of the two lists
unfoldable pub line_at : List Float → List ℕ → ℕ → List ℕ
line_at angles flags i = line (take 6 (drop (6 * i) angles)) (get_or flags i 0)

-- the first n answers of the two lists
unfoldable pub lines_of : List Float → List ℕ → ℕ → List ℕ
lines_of angles flags zero = []
lines_of angles flags (suc n) = lines_of angles flags n ++ line_at angles flags n
