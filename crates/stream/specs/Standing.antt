-- How the program stands between two calls of the system, and how it goes on after one. Calls.antt says what a run of calls prints, and proofs/Right.antt that it is the output.
use Rattle.std.specs.Prelude.{ℕ, min, Bool, true, false, cond, List, [], ◌∷◌, ◌++◌, eqb, Float, Result, Ok, Err, Option, Some, None, length, take, drop}
use Rattle.limits_block.specs.LimitsBlock.{in_force}
use Rattle.lines.specs.Lines.{lines}
use Rattle.stream.specs.Output.{place_after}
use Rattle.stream.specs.declared.progress.Ask.{Ask}
use Rattle.stream.specs.declared.progress.Ask.TheVariants.{Write, Read, Stop}

pub record Standing : Type 0 where
  -- the place of the block that is being read, and the limits in force
  pub place : ℕ
  pub limits : List Float
  -- what was read of the block
  pub begun : List ℕ
  -- lines that are not written yet
  pub pending : List ℕ
  -- the input has ended; a read or a write has failed
  pub ended : Bool
  pub failed : Bool

-- the numbers of the limits in force, where there are any
abbrev pub numbers : Option (List Float) → List Float
numbers None = []
numbers (Some limits) = limits

-- before the first call
abbrev pub start : Standing
start = record { place = 0; limits = []; begun = []; pending = []; ended = false; failed = false }

unfoldable pub broken : Standing → Standing
broken s = record { place = s.place; limits = s.limits; begun = s.begun; pending = s.pending; ended = s.ended; failed = true }

-- a write took the first n bytes; one that takes none has failed
unfoldable pub delivered : Standing → ℕ → Standing
delivered s n =
    cond (eqb n 0)
    (broken s)
    (record { place = s.place; limits = s.limits; begun = s.begun; pending = drop n s.pending; ended = s.ended; failed = s.failed })

-- a block is full: its lines are to be written, the limits are those in force after it, and the next block begins
unfoldable pub full : Standing → List ℕ → Standing
full s block =
    record {
      place = place_after block s.place;
      limits = in_force block s.limits;
      begun = [];
      pending = lines block s.place s.limits;
      ended = s.ended;
      failed = s.failed;
    }

-- a read brought bytes, which fill the block, or do not
unfoldable pub received : Standing → List ℕ → Standing
received s new =
    let block = s.begun ++ new in
    cond (eqb (length block) 512)
    (full s block)
    (record { place = s.place; limits = s.limits; begun = block; pending = []; ended = s.ended; failed = s.failed })

-- a read brought nothing: the input has ended, and a block that was begun is a short last one
unfoldable pub closed : Standing → Standing
closed s =
    record {
      place = s.place;
      limits = s.limits;
      begun = [];
      pending = cond (eqb (length s.begun) 0) [] (lines s.begun s.place s.limits);
      ended = true;
      failed = s.failed;
    }

-- a list is not empty
abbrev pub some : List ℕ → Bool
some [] = false
some (x ∷ rest) = true

-- what is asked of the system next: lines are written before anything more is read, and nothing is asked after a failure, nor at the end
unfoldable pub next : Standing → Ask
next s = cond s.failed Stop (cond (some s.pending) Write (cond s.ended Stop Read))

-- what a call of the system gave: how many bytes it moved, of at most so many, or nothing where it failed
abbrev pub heard : {E : Type 0} → Result ℕ E → ℕ → Option ℕ
heard (Ok k) most = Some (min k most)
heard (Err e) most = None

-- how many bytes it moved
abbrev pub count : Option ℕ → ℕ
count (Some n) = n
count None = 0

unfoldable pub after_write : Standing → Option ℕ → Standing
after_write s (Some n) = delivered s n
after_write s None = broken s

-- after a read that left these bytes behind those begun: as many of them as it says were read
unfoldable pub after_read : Standing → Option ℕ → List ℕ → Standing
after_read s (Some n) behind = cond (eqb n 0) (closed s) (received s (take n behind))
after_read s None behind = broken s

-- after a call, which is the one that was asked; where none is, nothing happens
unfoldable pub go_on : Standing → Option ℕ → List ℕ → Standing
go_on s h behind = cond s.failed s (cond (some s.pending) (after_write s h) (cond s.ended s (after_read s h behind)))
