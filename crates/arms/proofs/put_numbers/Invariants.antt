-- The bytes of the first i numbers are written.
use Rattle.std.proofs.Common.{◌≡◌, ◌*◌, ◌++◌, length, take, drop}
use Rattle.arms.specs.File.{eights}
use Rattle.arms.proofs.put_numbers.Given as goal

abbrev pub invariant-loop-i : goal.invariant-loop-i
invariant-loop-i l = (length l.b ≡ length l.initial.b) × (take (8 * l.i) l.b ++ eights (drop l.i l.numbers) ≡ eights l.numbers)
