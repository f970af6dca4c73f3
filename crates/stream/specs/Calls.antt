-- What a run of calls of the system reads and prints.
use Rattle.std.specs.Prelude.{ℕ, ◌+◌, ◌<◌, ◌≡◌, true, cond, List, [], ◌∷◌, ◌++◌, length, take, false, Option, IfSome}
use Rattle.std.specs.Io.KnownBytes.{Appends, Consumes, IsAtEnd}
use Rattle.stream.specs.Standing.{Standing, start, some, count, next, go_on}
use Rattle.stream.specs.Output.{output}
use Rattle.stream.specs.declared.progress.Ask.TheVariants.{Stop}

-- a call: what it gave, and the bytes that then stand behind those begun
pub record Call : Type 0 where
  pub gave : Option ℕ
  pub behind : List ℕ

-- how the program stands after calls
unfoldable pub after : Standing → List Call → Standing
after s [] = s
after s (c ∷ calls) = after (go_on s c.gave c.behind) calls

-- the bytes that a call reads: none where it writes, fails or is not made
unfoldable pub reads : Standing → Call → List ℕ
reads s c = cond s.failed [] (cond (some s.pending) [] (cond s.ended [] (take (count c.gave) c.behind)))

-- the bytes that it writes
unfoldable pub writes : Standing → Call → List ℕ
writes s c = cond s.failed [] (take (count c.gave) s.pending)

unfoldable pub all_read : Standing → List Call → List ℕ
all_read s [] = []
all_read s (c ∷ calls) = reads s c ++ all_read (go_on s c.gave c.behind) calls

unfoldable pub all_written : Standing → List Call → List ℕ
all_written s [] = []
all_written s (c ∷ calls) = writes s c ++ all_written (go_on s c.gave c.behind) calls

-- each call has the rest of the block for the bytes that it reads
unfoldable pub Fitting : Standing → List Call → Type 0
Fitting s [] = Unit {0}
Fitting s (c ∷ calls) = (length s.begun + length c.behind ≡ 512) × Fitting (go_on s c.gave c.behind) calls

-- what is printed is right: whatever calls were made and whatever they gave
pub record Right (calls : List Call) : Type 0 where
  -- at the end of the input, with nothing left to write, all lines of the whole input were written, and nothing else
  pub whole : (after start calls).ended ≡ true → (after start calls).pending ≡ [] → all_written start calls ≡ output (all_read start calls)
  -- at any other time, also after a failure, what was written is a beginning of the lines of what was read
  pub rest : List ℕ
  pub beginning : all_written start calls ++ rest ≡ output (all_read start calls)

-- the program has come to this standing by some calls, as many as it can count or until nothing more is asked
pub record Served (s : Standing) (most : ℕ) : Type 0 where
  pub calls : List Call
  pub fitting : Fitting start calls
  pub came : after start calls ≡ s
  pub done : length calls < most → next s ≡ Stop

-- what one call did to the bytes that its reader has left and to those that its writer holds, where these are known
pub record Moved (s : Standing) (c : Call) (left₀ left held₀ held : Option (List ℕ)) : Type 0 where
  pub consumed : Consumes left₀ left (reads s c)
  pub appended : Appends held₀ held (writes s c)
  -- nothing but the end of the input ends it
  pub ends : (go_on s c.gave c.behind).ended ≡ true → s.ended ≡ false → IsAtEnd left

-- What a run did to them. (Of standard input and output they are not known; of a list of bytes in memory they are.)
pub record Copied (s : Standing) (left₀ left held₀ held : Option (List ℕ)) : Type 0 where
  -- what was read and what was written
  pub read : List ℕ
  pub written : List ℕ
  pub consumed : Consumes left₀ left read
  pub appended : Appends held₀ held written
  -- where the input has ended, all of it was read
  pub all_of_it : s.ended ≡ true → IfSome left₀ (λ input. read ≡ input)
  -- at its end, with nothing left to write, all lines of what was read were written, and nothing else
  pub whole : s.ended ≡ true → s.pending ≡ [] → written ≡ output read
  -- at any other time, also after a failure, what was written is a beginning of them
  pub rest : List ℕ
  pub beginning : written ++ rest ≡ output read
