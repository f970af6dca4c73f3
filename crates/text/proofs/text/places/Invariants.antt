-- `places`: k - 1 digits are off, and the rest has as many as are missing.
use Rattle.std.proofs.Common.{◌≡◌, ◌+◌, ◌-◌}
use Rattle.text.specs.Text.{places}
use Rattle.text.proofs.text.places.Given as goal

abbrev pub invariant-loop-k : goal.invariant-loop-k
invariant-loop-k l = places (20 - l.k) l.rest + (l.k - 1) ≡ places 19 l.n
