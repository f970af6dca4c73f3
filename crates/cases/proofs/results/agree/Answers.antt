-- One result more is the record's.
use Rattle.std.proofs.Common.{◌≡◌, ℕ, suc, ◌+◌, ◌-◌, ◌<◌, Bool, true, List, length, get_or, arith}
use Rattle.words.specs.Words.{word}
use Rattle.cases.specs.Results.{same, agree}
use Rattle.cases.proofs.results.agree.Goals as goal

on : (bytes : List ℕ) (i : ℕ) (results : List ℕ) (k : ℕ) → agree bytes i (length results - k) k results ≡ agree bytes i (length results) 0 results → {w : ℕ} {t : Bool} → k < length results → w ≡ word bytes (i + k) → t ≡ same w (get_or results k 0) → t ≡ true → agree bytes i (length results - (k + 1)) (k + 1) results ≡ agree bytes i (length results) 0 results
unfolding agree
on bytes i results k e h e-w e-t f =
    let more : length results - k ≡ suc (length results - (k + 1)) = omega arith in
    let before = rw more at e in cc

pub loop-k-preserved : goal.loop-k-preserved
loop-k-preserved c = (omega arith, on _ _ _ _ c.loop-k.invariant.1 c.loop-k-test.true c.word.ensures c.same.ensures c.if-not-same.false)
