-- Calls on a card in any order, and what they give.
use Rattle.std.specs.Prelude.{ℕ, List, [], ◌∷◌, Float}
use Rattle.answers.specs.Written.{room, written, flagged}
use Rattle.solve.specs.InNumbers.{Solved}
use Rattle.card.specs.Card.{Card, read, write, step, step_answers, zeros}

-- a step is lent two lists
pub data Call : Type 0 where
  writes : ℕ → ℕ → Call
  reads : ℕ → Call
  steps : List Float → List ℕ → Call

-- what a call gives: a read its byte, a step its refusal and counts and what is in its lists
pub record Gave : Type 0 where
  pub byte : ℕ
  pub solved : Solved
  pub angles : List Float
  pub flags : List ℕ

abbrev pub nothing : Gave
nothing = record { byte = 0; solved = zeros; angles = []; flags = [] }

unfoldable pub given : Card → Call → Gave
given c (writes address value) = nothing
given c (reads address) = record { byte = read c address; solved = zeros; angles = []; flags = [] }
given c (steps angles flags) =
    record { byte = 0; solved = (step c (room angles flags)).gave; angles = written (step_answers c) angles flags; flags = flagged (step_answers c) angles flags }

unfoldable pub after : Card → Call → Card
after c (writes address value) = write c address value
after c (reads address) = c
after c (steps angles flags) = (step c (room angles flags)).card

unfoldable pub run : Card → List Call → List Gave
run c [] = []
run c (call ∷ calls) = given c call ∷ run (after c call) calls
