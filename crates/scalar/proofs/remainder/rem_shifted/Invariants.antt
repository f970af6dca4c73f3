-- `rem_shifted`: what is left to shift leaves the remainder as it is. Assumes nothing.
use Rattle.std.proofs.Common.{◌≡◌, ◌-◌, ◌*◌, ◌%◌, ◌^◌, ◌<◌}
use Rattle.scalar.specs.Digits.{tau_digits}
use Rattle.scalar.proofs.remainder.rem_shifted.Given as goal

abbrev pub invariant-loop : goal.invariant-loop
invariant-loop l = (l.r * 2 ^ (l.k - 11 * l.counter) % tau_digits ≡ l.fn.m * 2 ^ l.fn.k % tau_digits) × (l.r < 2 ^ 53)
