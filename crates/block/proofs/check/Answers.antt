-- `check`: behind the last word the sum is that of all.
use Rattle.std.proofs.Common.{◌≡◌, ℕ, ◌%◌, ◌^◌, ◌≤◌, List, arith}
use Rattle.block.specs.Check.{sum_of, check}
use Rattle.block.proofs.check.Goals as goal

all : (bytes : List ℕ) (i : ℕ) {s : ℕ} → 63 ≤ i → i ≤ 63 → s ≡ sum_of bytes i % 2 ^ 64 → s ≡ check bytes
unfolding check
all bytes i h h' e = let i-is : i ≡ 63 = omega arith in rw i-is at e

pub returns : goal.returns
returns c = all c.args.bytes.now c.loop-i.i (omega arith) (omega arith) c.loop-i.invariant.1
