-- The words that are left decide as all do.
use Rattle.std.proofs.Common.{◌≡◌}
use Rattle.words.specs.Port.{same_words}
use Rattle.words.proofs.same_words.Given as goal

abbrev pub invariant-loop-k : goal.invariant-loop-k
invariant-loop-k l = same_words l.bytes l.k l.w ≡ same_words l.bytes l.words l.w
