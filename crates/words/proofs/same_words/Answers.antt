-- The words that are left decide as all do.
use Rattle.std.proofs.Common.{◌≡◌, ℕ, suc, ◌-◌, ◌≤◌, ◌<◌, true, false, ◌&&◌, List, eqb, sym, ap, ◌∙◌, arith, eq-eqb}
use borrow.Author.Tests.{ne_eqb}
use Rattle.words.specs.Words.{word}
use Rattle.words.specs.Port.{same_words}
use Rattle.words.proofs.same_words.Goals as goal

module _ (bytes : List ℕ) (words w left : ℕ) (inv : same_words bytes left w ≡ same_words bytes words w) where
  ended : left ≤ 0 → true ≡ same_words bytes words w
  unfolding same_words
  ended h = let e : left ≡ 0 = omega arith in rw e at inv

  module _ (h : 0 < left) {v : ℕ} (e : v ≡ word bytes (left - 1)) where
    one : same_words bytes left w ≡ eqb v w && same_words bytes (left - 1) w
    unfolding same_words
    one = let here : left ≡ suc (left - 1) = omega arith in rw e (ap (λ (k : ℕ). same_words bytes k w) here)

    other : (v ≡ w → ⊥) → false ≡ same_words bytes words w
    other n = let b = ne_eqb v w n in sym (rw b at one) ∙ inv

    next : v ≡ w → same_words bytes (left - 1) w ≡ same_words bytes words w
    next z = let b = eq-eqb v w z in sym (rw b at one) ∙ inv

pub returns-then-word-w : goal.returns-then-word-w
returns-then-word-w c =
    other c.args.bytes.now c.args.words c.args.w c.loop-k.k c.loop-k.invariant (omega arith) c.word.ensures c.if-word-w.true

pub loop-k-preserved : goal.loop-k-preserved
loop-k-preserved c =
    next c.args.bytes.now c.args.words c.args.w c.loop-k.k c.loop-k.invariant (omega arith) c.word.ensures c.if-word-w.false

pub returns : goal.returns
returns c = ended c.args.bytes.now c.args.words c.args.w c.loop-k.k c.loop-k.invariant (omega arith)
