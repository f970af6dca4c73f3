-- `numbers`: the first i are written, and the rest of the definition's list is to come.
use Rattle.std.proofs.Common.{◌≡◌, ◌+◌, ◌-◌, ◌++◌, length, take}
use Rattle.words.specs.Words.{numbers}
use Rattle.words.proofs.numbers.Given as goal

abbrev pub invariant-loop-i : goal.invariant-loop-i
invariant-loop-i l = take l.i l.list ++ numbers l.bytes (l.first + l.i) (length l.initial.list - l.i) ≡ numbers l.bytes l.first (length l.initial.list)
