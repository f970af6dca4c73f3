-- `check` is the sum modulo 2^64: so it is after each word.
use Rattle.std.proofs.Common.{◌≡◌, ◌%◌, ◌^◌, ◌≤◌}
use Rattle.block.specs.Check.{sum_of}
use Rattle.block.proofs.check.Given as goal

abbrev pub invariant-loop-i : goal.invariant-loop-i
invariant-loop-i l = (l.i ≤ 63) × (l.sum ≡ sum_of l.bytes l.i % 2 ^ 64)
