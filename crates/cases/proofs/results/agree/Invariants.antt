-- The first k results are the record's, and the rest decides.
use Rattle.std.proofs.Common.{length, ◌-◌, ◌≡◌, ◌≤◌}
use Rattle.cases.specs.Results.{agree}
use Rattle.cases.proofs.results.agree.Given as goal

abbrev pub invariant-loop-k : goal.invariant-loop-k
invariant-loop-k l = (l.k ≤ length l.results) × (agree l.bytes l.i (length l.results - l.k) l.k l.results ≡ agree l.bytes l.i (length l.results) 0 l.results)
