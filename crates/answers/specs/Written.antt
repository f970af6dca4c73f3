-- Answers as document 01 has them: six numbers and a byte each.
use Rattle.std.specs.Prelude.{ℕ, List, Float}
use Rattle.answers.specs.Answer.{six}
use Rattle.answers.specs.Rows.{Form, room_of, fitting_of, written_of, flagged_of, WroteOf}
use Rattle.answers.specs.declared.Answer.{Answer}

abbrev pub sixes : Form
sixes = record { wide = 6; numbers = six }

abbrev pub room : List Float → List ℕ → ℕ
room = room_of sixes

abbrev pub fitting : List Answer → List Float → List ℕ → List Answer
fitting = fitting_of sixes

abbrev pub written : List Answer → List Float → List ℕ → List Float
written = written_of sixes

abbrev pub flagged : List Answer → List Float → List ℕ → List ℕ
flagged = flagged_of sixes

abbrev pub Wrote : List Answer → List Float → List ℕ → List Float → List ℕ → ℕ → Type 0
Wrote = WroteOf sixes
