-- `rem_shifted` meets its contract. Assumes nothing.
use Rattle.std.proofs.Common.{◌≡◌, ◌+◌, ◌-◌, ◌*◌, ◌%◌, ◌∙◌, ◌^◌, ℕ, ap}
use Rattle.std.proofs.lemmas.Nat.{mul-mod_first}
use native.Mathlib.Omega.{arith}
use Rattle.scalar.specs.Digits.{tau_digits}
use Rattle.scalar.proofs.Steps.{places, shifted, few}
use Rattle.scalar.proofs.remainder.rem_shifted.Goals as goal

pub loop-init : goal.loop-init
loop-init c =
    let e : c.args.k - 0 ≡ c.args.k = omega arith in
    (ap (λ (n : ℕ). c.args.m % tau_digits * 2 ^ n % tau_digits) e ∙ mul-mod_first c.args.m (2 ^ c.args.k) tau_digits, few c.args.m)

pub loop-preserved : goal.loop-preserved
loop-preserved c =
    let left : ℕ = c.args.k - 11 * c.loop.counter in
    let e : c.args.k - 11 * (c.loop.counter + 1) ≡ left - 11 = omega arith in
    (ap (λ (n : ℕ). c.loop.r * 2048 % tau_digits * 2 ^ n % tau_digits) e ∙ places c.loop.r left tau_digits (omega (arith, c.loop-test.true)) ∙ c.loop.invariant.0, few (c.loop.r * 2048))

pub returns : goal.returns
returns c =
    let e : c.args.k % 11 ≡ c.args.k - 11 * c.loop.counter = omega (arith, c.loop-test.false, c.loop.auto.counter-end) in
    (ap (λ (x : ℕ). x % tau_digits) (shifted c.loop.r (c.args.k % 11) c.loop.invariant.1 (omega arith)) ∙ ap (λ (n : ℕ). c.loop.r * 2 ^ n % tau_digits) e ∙ c.loop.invariant.0, few (c.loop.r * 2 ^ (c.args.k % 11) % 2 ^ 64))
