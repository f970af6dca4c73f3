-- The blocks before are not refused and their numbers marked, and what is refused is the next.
use Rattle.std.proofs.Common.{◌≡◌, ℕ, suc, ◌+◌, ◌*◌, ◌/◌, ◌%◌, ◌<◌, Bool, true, false, cond, List, [], ◌∷◌, ◌++◌, length, get_or, take, drop, set, replicate, refl, sym, ap, ◌∙◌, arith, rules}
use borrow.Author.Tests.{eqb-true, eqb-false, ne_eqb, lt-ltb}
use lib.Dec.{eqb}
use lib.ListN.{length-set, length-replicate, length-drop, take-append-drop}
use lib.Seq.{take_all, drop-cons, get_or-set_same, get_or-set_other}
use Rattle.std.proofs.lemmas.List.{take_more}
use mathlib.Core.List.{append-nil, append_assoc}
use Rattle.words.specs.Words.{zeros}
use Rattle.refusals.specs.Refusal as Refusals
use Rattle.arms.specs.Arm.{Arm, or_else, holds}
use Rattle.arms.specs.File.{blocks, number, arm_of, arms, block_fault, judge}
use Rattle.arms.specs.Port.{Told}
use Rattle.arms.proofs.Lists.{at_end, more_holds}
use Rattle.arms.proofs.Blocks.{then_is, first_is, arms_append, judge_append}
use Rattle.arms.proofs.Parts.{whole_chunks, short_chunk}
use Rattle.refusals.proofs.Outcomes.{number-positive}
use Rattle.std.specs.Simd.{first_chunks}
use Rattle.arms.proofs.judge.Goals as goal
use Rattle.arms.proofs.judge.Invariants.{Marks}

no-marks : Marks (replicate 256 false) (arms [])
unfolding arms holds
no-marks = record { long = length-replicate 256 false; told = λ n. record { new = λ e. refl } }

none : judge [] [] ≡ 0
unfolding judge
none = refl

mark : (seen : List Bool) (held : List Arm) (b : List ℕ) → Marks seen held → Told (get_or seen (get_or b 0 0) false) (number b) held
unfolding number
mark seen held b m = m.told (get_or b 0 0)

module _ (bs : List (List ℕ)) (k : ℕ) (h : k < length bs) (v : judge [] (take k bs) ≡ 0) where
  abbrev b : List ℕ
  b = get_or bs k []

  up : take (k + 1) bs ≡ take k bs ++ b ∷ []
  up = take_more bs k [] h

  split : (tail : List (List ℕ)) → bs ++ tail ≡ take k bs ++ (b ∷ (drop (suc k) bs ++ tail))
  split tail =
      let e = take-append-drop k bs in
      let d = drop-cons bs k [] h in
      ap (λ (l : List (List ℕ)). l ++ tail) (sym (rw d at e)) ∙ append_assoc (take k bs) (b ∷ drop (suc k) bs) tail

  first : (tail : List (List ℕ)) {fault : ℕ} → fault ≡ block_fault (arms (take k bs)) b → (fault ≡ 0 → ⊥) → fault ≡ judge [] (bs ++ tail)
  unfolding judge
  first tail e n =
      rw (split tail, judge_append [] (take k bs) (b ∷ (drop (suc k) bs ++ tail)), then_is (judge [] (take k bs)) _ v)
      (e ∙ sym (first_is (block_fault (arms (take k bs)) b) _ (λ z. n (e ∙ z))))

  module _ (fine : block_fault (arms (take k bs)) b ≡ 0) where
    next : judge [] (take (k + 1) bs) ≡ 0
    unfolding judge or_else
    next = rw (up, judge_append [] (take k bs) (b ∷ []), v, fine)

  held_next : arms (take (k + 1) bs) ≡ arms (take k bs) ++ arms (b ∷ [])
  held_next = rw up (arms_append (take k bs) (b ∷ []))

  other : (n : ℕ) → (n ≡ get_or b 0 0 → ⊥) → holds n (arms (take (k + 1) bs)) ≡ holds n (arms (take k bs))
  unfolding arms arm_of number
  other n ne = ap (λ (held : List Arm). holds n held) held_next ∙ go (zeros b)
    where
      go : (z : Bool) → holds n (arms (take k bs) ++ cond z [] (arm_of b ∷ [])) ≡ holds n (arms (take k bs))
      go true = rw (append-nil (arms (take k bs)))
      go false = more_holds n (at_end (arm_of b) (arms (take k bs))) ∙ rw (ne_eqb (get_or b 0 0) n (λ e. ne (sym e)))

  one_more : (seen : List Bool) → Marks seen (arms (take k bs)) → get_or b 0 0 < 256 → Marks (set seen (get_or b 0 0) true) (arms (take (k + 1) bs))
  one_more seen marks few = record { long = length-set seen (get_or b 0 0) true ∙ marks.long; told = λ n. go n (eqb n (get_or b 0 0)) refl }
    where
      go : (n : ℕ) (t : Bool) → eqb n (get_or b 0 0) ≡ t → Told (get_or (set seen (get_or b 0 0) true) n false) n (arms (take (k + 1) bs))
      go n true q =
          let s : get_or (set seen (get_or b 0 0) true) (get_or b 0 0) false ≡ true = get_or-set_same seen (get_or b 0 0) true false (rw marks.long few) in
          rw (eqb-true n (get_or b 0 0) q, s) (record { new = λ f. cc })
      go n false q =
          let ne = eqb-false n (get_or b 0 0) q in
          rw (get_or-set_other seen (get_or b 0 0) n true false ne) (record { new = λ f. other n ne ∙ (marks.told n).new f })

-- the blocks of a buffer, with and without a short one
module _ (l : List ℕ) (bs : List (List ℕ)) (e : bs ≡ first_chunks 512 (length l / 512) l) where
  even : length l % 512 ≡ 0 → blocks l ≡ bs ++ []
  even m = sym (whole_chunks l m) ∙ (sym e ∙ sym (append-nil bs))

  odd : (length l % 512 ≡ 0 → ⊥) → blocks l ≡ bs ++ (drop (length l / 512 * 512) l ∷ [])
  odd m = sym (short_chunk l m) ∙ ap (λ (x : List (List ℕ)). x ++ (drop (length l / 512 * 512) l ∷ [])) (sym e)

  stopped : (k : ℕ) → k < length bs → judge [] (take k bs) ≡ 0 → {fault : ℕ} → fault ≡ block_fault (arms (take k bs)) (get_or bs k []) → (fault ≡ 0 → ⊥) → fault ≡ judge [] (blocks l)
  stopped k h v {fault} f n = go (eqb (length l % 512) 0) refl
    where
      go : (t : Bool) → eqb (length l % 512) 0 ≡ t → fault ≡ judge [] (blocks l)
      go true q = rw (even (eqb-true (length l % 512) 0 q)) (first bs k h v [] f n)
      go false q = rw (odd (eqb-false (length l % 512) 0 q)) (first bs k h v (drop (length l / 512 * 512) l ∷ []) f n)

  module _ (v : judge [] bs ≡ 0) where
    short : (length l % 512 ≡ 0 → ⊥) → 1 ≡ judge [] (blocks l)
    unfolding judge or_else block_fault
    short m =
        let d = length-drop (length l / 512 * 512) l in
        rw (odd m, judge_append [] bs (drop (length l / 512 * 512) l ∷ []), v, lt-ltb (length (drop (length l / 512 * 512) l)) 512 (omega arith))

    ended : length l % 512 ≡ 0 → 0 ≡ judge [] (blocks l)
    ended m = rw (even m, append-nil bs) (sym v)

pub loop-k-init : goal.loop-k-init
loop-k-init c = (none, no-marks)

pub invariant_of-before : goal.invariant_of-before
invariant_of-before c = record { valid = c.loop-k.invariant.0 }

pub block_fault-requires : goal.block_fault-requires
block_fault-requires c =
    let bs = c.as_chunks.result.0.now in
    (mark c.loop-k.seen (arms (take c.loop-k.k bs)) (get_or bs c.loop-k.k []) c.loop-k.invariant.1)

pub loop-k-preserved : goal.loop-k-preserved
loop-k-preserved c =
    let bs = c.as_chunks.result.0.now in
    let k = c.loop-k.k in
    let v = c.loop-k.invariant.0 in
    (next bs k c.loop-k-test.true v (sym c.in_ok-block_fault.ensures), one_more bs k c.loop-k-test.true v c.loop-k.seen c.loop-k.invariant.1 (search rules))

pub returns-in_err-block_fault-clause-refusal : goal.returns-in_err-block_fault-clause-refusal
returns-in_err-block_fault-clause-refusal c =
    let r = c.in_err-block_fault.field-0.0 in
    let e : Refusals.number_of c.from_residual.result ≡ Refusals.number r = search rules in
    e ∙ stopped c.args.buffer.now c.as_chunks.result.0.now c.as_chunks.ensures.front c.loop-k.k c.loop-k-test.true c.loop-k.invariant.0 c.in_err-block_fault.ensures (number-positive r)

pub returns-then-not-is_empty-clause-refusal : goal.returns-then-not-is_empty-clause-refusal
returns-then-not-is_empty-clause-refusal c =
    let bs = c.as_chunks.result.0.now in
    let all : take c.loop-k.k bs ≡ bs = take_all c.loop-k.k bs (omega arith) in
    short c.args.buffer.now bs c.as_chunks.ensures.front (rw all at c.loop-k.invariant.0)
    (λ z. eqb-false (length c.as_chunks.result.1.now) 0 (sym c.is_empty.ensures ∙ c.if-not-is_empty.true) (c.as_chunks.ensures.back_len ∙ z))

pub returns-clause-refusal : goal.returns-clause-refusal
returns-clause-refusal c =
    let bs = c.as_chunks.result.0.now in
    let all : take c.loop-k.k bs ≡ bs = take_all c.loop-k.k bs (omega arith) in
    ended c.args.buffer.now bs c.as_chunks.ensures.front (rw all at c.loop-k.invariant.0)
    (sym c.as_chunks.ensures.back_len ∙ eqb-true (length c.as_chunks.result.1.now) 0 (sym c.is_empty.ensures ∙ c.if-not-is_empty.false))

pub invariant_of-result : goal.invariant_of-result
invariant_of-result c =
    let bs = c.as_chunks.result.0.now in
    let all : take c.loop-k.k bs ≡ bs = take_all c.loop-k.k bs (omega arith) in
    record { valid = rw all at c.loop-k.invariant.0 }

pub returns-clause-whole : goal.returns-clause-whole
returns-clause-whole c =
    let bs = c.as_chunks.result.0.now in
    let m = sym c.as_chunks.ensures.back_len ∙ eqb-true (length c.as_chunks.result.1.now) 0 (sym c.is_empty.ensures ∙ c.if-not-is_empty.false) in
    sym (even c.args.buffer.now bs c.as_chunks.ensures.front m ∙ append-nil bs)
