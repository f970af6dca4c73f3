-- The buffer's refusal, then the arm's, then 15; the first block with the number 0 is the first empty one.
use Rattle.std.proofs.Common.{◌≡◌, ℕ, ◌+◌, ◌-◌, ◌*◌, ◌≤◌, Bool, true, false, cond, Option, Some, None, List, length, refl, sym, ◌∙◌, arith, rules}
use Rattle.std.specs.List.{position}
use Rattle.refusals.specs.Refusal as Refusals
use borrow.Author.Tests.{eqb-true}
use borrow.Rule.Slice.PartMut.{put_mid}
use lib.Dec.{eqb}
use lib.Ieee.{Float}
use lib.Seq.{drop-drop}
use Rattle.words.specs.Words.{zeros}
use Rattle.arms.specs.Arm.{numbered, arm_fault, put_fault, put, own}
use Rattle.arms.specs.File.{blocks, arms, block_of, room, effect, refusal, after}
use Rattle.arms.specs.Agreement.{Valid}
use Rattle.arms.specs.Port.{named}
use Rattle.arms.proofs.Blocks.{first_is, then_is}
use Rattle.refusals.proofs.Outcomes.{number-positive}
use Rattle.arms.proofs.Calls.{bad, bad_kept, kept, done, own_next}
use Rattle.arms.proofs.Places.{free_at, room_there, no_room, block_within, replace_at}
use Rattle.arms.proofs.put.Goals as goal

all : (l : List ℕ) (n : ℕ) (numbers : List Float) → 0 ≡ put_fault (arms (blocks l)) (numbered n numbers) → length numbers ≡ 39
unfolding put_fault
all l n numbers f = go (eqb (length numbers) 39) refl (sym f)
  where
    go : (t : Bool) → eqb (length numbers) 39 ≡ t → cond t (arm_fault (arms (blocks l)) (numbered n numbers)) 5 ≡ 0 → length numbers ≡ 39
    go true g z = eqb-true (length numbers) 39 g
    go false g z = absurd (omega arith)

module _ (l : List ℕ) (n : ℕ) (numbers : List Float) (v : Valid l) {own-fault : ℕ} (f : own-fault ≡ put_fault (arms (blocks l)) (numbered n numbers)) where
  arm-refused : (own-fault ≡ 0 → ⊥) → own-fault ≡ refusal (put (numbered n numbers)) l
  unfolding own
  arm-refused h = f ∙ (sym (first_is (put_fault (arms (blocks l)) (numbered n numbers)) _ (λ z. h (f ∙ z))) ∙ own_next (put (numbered n numbers)) l (sym v) refl)

  module _ (fine : own-fault ≡ 0) {r : Option ℕ} (e : r ≡ position (named 0) (blocks l)) where
    by_room : cond (room (blocks l)) 0 15 ≡ refusal (put (numbered n numbers)) l
    unfolding own
    by_room = sym (then_is (put_fault (arms (blocks l)) (numbered n numbers)) _ (sym f ∙ fine)) ∙ own_next (put (numbered n numbers)) l (sym v) refl

    module _ (k : ℕ) (there : r ≡ Some k) where
      inside : 512 * k + 512 ≤ length l
      inside = block_within l v k (free_at l v e k there).1

      placed : 0 ≡ refusal (put (numbered n numbers)) l
      placed = rw (room_there l v e k there) at by_room

      placed-left : {m : List ℕ} → m ≡ block_of (numbered n numbers) → put_mid (512 * k) (512 * k + 512 - 512 * k) l m ≡ after (put (numbered n numbers)) l
      unfolding effect
      placed-left e-m =
          let at = 512 * k in
          let p = free_at l v e k there in
          let j : at + 512 - at ≡ 512 = omega arith in
          rw (done (put (numbered n numbers)) l placed, replace_at l v zeros (block_of (numbered n numbers)) k p.0 p.1, e-m, j, drop-drop 512 at l)

    full : r ≡ None → 15 ≡ refusal (put (numbered n numbers)) l
    full none = rw (no_room l v e none) at by_room

pub returns-in_err-judged-clause-result : goal.returns-in_err-judged-clause-result
returns-in_err-judged-clause-result c =
    let r = c.in_err-judged.field-0.0 in
    let e : Refusals.number_of c.from_residual.result ≡ Refusals.number r = search rules in
    e ∙ bad (put (numbered c.args.number c.args.arm.now)) c.args.buffer.now c.in_err-judged.ensures.refusal (number-positive r)

pub returns-in_err-judged-clause-buffer : goal.returns-in_err-judged-clause-buffer
returns-in_err-judged-clause-buffer c =
    bad_kept (put (numbered c.args.number c.args.arm.now)) c.args.buffer.now c.in_err-judged.ensures.refusal (number-positive c.in_err-judged.field-0.0)

pub returns-in_err-put_fault-clause-result : goal.returns-in_err-put_fault-clause-result
returns-in_err-put_fault-clause-result c =
    let l = c.args.buffer.now in
    let r = c.in_err-put_fault.field-0.0 in
    let e : Refusals.number_of c.from_residual-in_err-put_fault.result ≡ Refusals.number r = search rules in
    e ∙ arm-refused l c.args.number c.args.arm.now (sym c.in_ok-judged.ensures.refusal) (rw c.in_ok-judged.ensures.whole at c.in_err-put_fault.ensures) (number-positive r)

pub returns-in_err-put_fault-clause-buffer : goal.returns-in_err-put_fault-clause-buffer
returns-in_err-put_fault-clause-buffer c =
    let l = c.args.buffer.now in
    let r = c.in_err-put_fault.field-0.0 in
    kept (put (numbered c.args.number c.args.arm.now)) l
    (arm-refused l c.args.number c.args.arm.now (sym c.in_ok-judged.ensures.refusal) (rw c.in_ok-judged.ensures.whole at c.in_err-put_fault.ensures) (number-positive r)) (number-positive r)

pub slice_bounds-put_block-end : goal.slice_bounds-put_block-end
slice_bounds-put_block-end c =
    let b = c.in_ok-judged.ensures.whole in
    omega (arith, inside c.args.buffer.now c.args.number c.args.arm.now (sym c.in_ok-judged.ensures.refusal) (rw b at c.in_ok-put_fault.ensures) refl (rw b at c.in-Some.ensures) c.in-Some.k refl)

pub put_block-requires : goal.put_block-requires
put_block-requires c =
    let l = c.args.buffer.now in
    let b = c.in_ok-judged.ensures.whole in
    let i = inside l c.args.number c.args.arm.now (sym c.in_ok-judged.ensures.refusal) (rw b at c.in_ok-put_fault.ensures) refl (rw b at c.in-Some.ensures) c.in-Some.k refl in
    (search rules, all l c.args.number c.args.arm.now (rw b at c.in_ok-put_fault.ensures))

pub returns-in-Some-clause-result : goal.returns-in-Some-clause-result
returns-in-Some-clause-result c =
    let b = c.in_ok-judged.ensures.whole in
    placed c.args.buffer.now c.args.number c.args.arm.now (sym c.in_ok-judged.ensures.refusal) (rw b at c.in_ok-put_fault.ensures) refl (rw b at c.in-Some.ensures) c.in-Some.k refl

pub returns-in-Some-clause-buffer : goal.returns-in-Some-clause-buffer
returns-in-Some-clause-buffer c =
    let b = c.in_ok-judged.ensures.whole in
    placed-left c.args.buffer.now c.args.number c.args.arm.now (sym c.in_ok-judged.ensures.refusal) (rw b at c.in_ok-put_fault.ensures) refl (rw b at c.in-Some.ensures) c.in-Some.k refl c.put_block.ensures

pub returns-in-None-clause-result : goal.returns-in-None-clause-result
returns-in-None-clause-result c =
    let b = c.in_ok-judged.ensures.whole in
    full c.args.buffer.now c.args.number c.args.arm.now (sym c.in_ok-judged.ensures.refusal) (rw b at c.in_ok-put_fault.ensures) refl (rw b at c.in-None.ensures) refl

pub returns-in-None-clause-buffer : goal.returns-in-None-clause-buffer
returns-in-None-clause-buffer c =
    let l = c.args.buffer.now in
    let b = c.in_ok-judged.ensures.whole in
    kept (put (numbered c.args.number c.args.arm.now)) l
    (full l c.args.number c.args.arm.now (sym c.in_ok-judged.ensures.refusal) (rw b at c.in_ok-put_fault.ensures) refl (rw b at c.in-None.ensures) refl) (λ z. omega arith)
