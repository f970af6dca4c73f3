-- The numbers so far are finite, and the rest decides.
use Rattle.std.proofs.Common.{◌≡◌, ◌+◌, drop}
use Rattle.refusals.specs.Judge.{first_not_finite}
use Rattle.refusals.proofs.first_not_finite.Given as goal

abbrev pub invariant-loop-i : goal.invariant-loop-i
invariant-loop-i l = l.i + first_not_finite (drop l.i l.numbers) ≡ first_not_finite l.numbers
