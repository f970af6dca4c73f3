-- The standing that the program's numbers and its space stand for.
use Rattle.std.specs.Prelude.{ℕ, ◌+◌, ◌≤◌, ◌≡◌, List, length, take, drop, Option}
use Rattle.stream.specs.Standing.{Standing, numbers, go_on}
use Rattle.stream.specs.Calls.{Moved}
use Rattle.stream.specs.declared.progress.Run.{Run}

abbrev pub standing : Run → Standing
standing p =
    record {
      place = p.at.place;
      limits = numbers p.limits;
      begun = take p.at.filled p.block;
      pending = drop p.at.written p.lines.out.items;
      ended = p.at.ended;
      failed = p.at.failed;
    }

-- the program went on to the standing s: where it was at a place, it is there or at the next
pub record Went (s : Standing) (p : Run) (place : ℕ) : Type 0 where
  pub stands : standing p ≡ s
  pub places : p.at.place ≤ place + 1

-- one call: what it gave, and the bytes that then stand behind those begun, are the system's to say; the program goes on as the definition does, and what it moved is what it gave
pub record Turned (p r : Run) (left₀ left held₀ held : Option (List ℕ)) : Type 0 where
  pub gave : Option ℕ
  pub behind : List ℕ
  pub room : length (take p.at.filled p.block) + length behind ≡ 512
  pub went : Went (go_on (standing p) gave behind) r p.at.place
  pub moved : Moved (standing p) (record { gave = gave; behind = behind }) left₀ left held₀ held
