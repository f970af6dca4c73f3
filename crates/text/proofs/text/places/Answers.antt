-- `places`: k - 1 digits are off, and the rest has as many as are missing.
use Rattle.std.proofs.Common.{◌≡◌, ℕ, zero, suc, ◌+◌, ◌-◌, ◌/◌, ◌≤◌, ◌<◌, arith}
use borrow.Author.Tests.{lt-ltb, le-ltb}
use Rattle.text.specs.Text.{places}
use Rattle.text.proofs.text.places.Goals as goal

start : (n : ℕ) → places (20 - 1) n + (1 - 1) ≡ places 19 n
start n = omega arith

module _ (n k rest : ℕ) (inv : places (20 - k) rest + (k - 1) ≡ places 19 n) where
  last : 1 ≤ k → k < 20 → rest < 10 → k ≡ places 19 n
  unfolding places
  last low h t =
      let more : 20 - k ≡ suc (19 - k) = omega arith in
      let i = rw (more, lt-ltb rest 10 t) at inv in
      omega arith

  again : 1 ≤ k → k < 20 → 10 ≤ rest → places (20 - (k + 1)) (rest / 10) + (k + 1 - 1) ≡ places 19 n
  unfolding places
  again low h t =
      let more : 20 - k ≡ suc (20 - (k + 1)) = omega arith in
      let i = rw (more, le-ltb rest 10 t) at inv in
      omega arith

  full : 20 ≤ k → k ≤ 20 → 20 ≡ places 19 n
  unfolding places
  full h h' = let none : 20 - k ≡ zero = omega arith in let i = rw none at inv in omega arith

pub loop-k-init : goal.loop-k-init
loop-k-init c = search start

pub returns-then-rest-lt10 : goal.returns-then-rest-lt10
returns-then-rest-lt10 c = search last

pub loop-k-preserved : goal.loop-k-preserved
loop-k-preserved c = search again

pub returns : goal.returns
returns c = full c.args.n c.loop-k.k c.loop-k.rest c.loop-k.invariant c.loop-k-test.false (c.loop-k.auto.k-end (omega arith))
