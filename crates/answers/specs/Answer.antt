-- An answer: six angles and a flag. Document 01: "An answer is six angles in radians in the angle list and one byte in the flag list, 1 for least squares, else 0."
use Rattle.std.specs.Prelude.{ℕ, Bool, true, false, List, [], ◌∷◌, Float}
use Rattle.answers.specs.declared.Answer.{Answer}

-- its six angles
abbrev pub six : Answer → List Float
six q = q.q1 ∷ q.q2 ∷ q.q3 ∷ q.q4 ∷ q.q5 ∷ q.q6 ∷ []

-- its byte
abbrev pub flag : Bool → ℕ
flag true = 1
flag false = 0

abbrev pub byte : Answer → ℕ
byte q = flag q.is_ls
