-- The block of the number is cleared, and a refusal leaves the buffer as it came.
use Rattle.std.proofs.Common.{◌≡◌, ℕ, ◌+◌, ◌-◌, ◌*◌, ◌≤◌, Option, Some, None, List, length, drop, replicate, refl, sym, ◌∙◌, arith, rules}
use Rattle.std.specs.List.{position}
use Rattle.refusals.specs.Refusal as Refusals
use borrow.Rule.Slice.PartMut.{mid_of, put_mid}
use lib.ListN.{length-drop}
use lib.Seq.{drop-drop, length-take-le}
use Rattle.arms.specs.Arm.{take_out, own}
use Rattle.arms.specs.File.{blocks, empty, has, effect, refusal, after}
use Rattle.arms.specs.Agreement.{Valid}
use Rattle.arms.proofs.Places.{found, there_held, not_held, block_within, replace_at}
use Rattle.refusals.proofs.Outcomes.{number-positive}
use Rattle.arms.proofs.Calls.{bad, bad_kept, kept, done, own_next}
use Rattle.arms.proofs.take_out.Goals as goal

module _ (l : List ℕ) (n : ℕ) (v : Valid l) {r : Option ℕ} (e : r ≡ position (has n) (blocks l)) where
  module _ (k : ℕ) (f : r ≡ Some k) where
    inside : 512 * k + 512 ≤ length l
    inside = block_within l v k (found (has n) (blocks l) e k f).1

    taken : 0 ≡ refusal (take_out n) l
    unfolding own
    taken = rw (there_held n (blocks l) e k f) at (own_next (take_out n) l (sym v) refl)

    taken-left : {m : List ℕ} → m ≡ replicate (length (mid_of (512 * k) (512 * k + 512 - 512 * k) l)) 0 → put_mid (512 * k) (512 * k + 512 - 512 * k) l m ≡ after (take_out n) l
    unfolding effect empty
    taken-left e-m =
        let at = 512 * k in
        let p = found (has n) (blocks l) e k f in
        let j : at + 512 - at ≡ 512 = omega arith in
        let i = inside in
        let d = length-drop at l in
        let s = length-take-le 512 (drop at l) (omega arith) in
        rw (done (take_out n) l taken, replace_at l v (has n) empty k p.0 p.1, e-m, j, s, drop-drop 512 at l)

  none : r ≡ None → 14 ≡ refusal (take_out n) l
  unfolding own
  none f = rw (not_held n (blocks l) e f) at (own_next (take_out n) l (sym v) refl)

pub returns-in_err-judge-clause-result : goal.returns-in_err-judge-clause-result
returns-in_err-judge-clause-result c =
    let r = c.in_err-judge.field-0.0 in
    let e : Refusals.number_of c.from_residual.result ≡ Refusals.number r = search rules in
    e ∙ bad (take_out c.args.number) c.args.buffer.now c.in_err-judge.ensures.refusal (number-positive r)

pub returns-in_err-judge-clause-buffer : goal.returns-in_err-judge-clause-buffer
returns-in_err-judge-clause-buffer c = bad_kept (take_out c.args.number) c.args.buffer.now c.in_err-judge.ensures.refusal (number-positive c.in_err-judge.field-0.0)

pub slice_bounds-fill-end : goal.slice_bounds-fill-end
slice_bounds-fill-end c =
    let l = c.args.buffer.now in
    let v = sym c.in_ok-judge.ensures.refusal in
    let e = rw c.in_ok-judge.ensures.whole at c.in-Some.ensures in
    omega (arith, inside l c.args.number v e c.in-Some.k refl)

pub returns-in-Some-clause-result : goal.returns-in-Some-clause-result
returns-in-Some-clause-result c =
    let l = c.args.buffer.now in
    let v = sym c.in_ok-judge.ensures.refusal in
    taken l c.args.number v (rw c.in_ok-judge.ensures.whole at c.in-Some.ensures) c.in-Some.k refl

pub returns-in-Some-clause-buffer : goal.returns-in-Some-clause-buffer
returns-in-Some-clause-buffer c =
    let l = c.args.buffer.now in
    let v = sym c.in_ok-judge.ensures.refusal in
    taken-left l c.args.number v (rw c.in_ok-judge.ensures.whole at c.in-Some.ensures) c.in-Some.k refl (c.fill.ensures.after (λ y e. e))

pub returns-in-None-clause-result : goal.returns-in-None-clause-result
returns-in-None-clause-result c =
    let l = c.args.buffer.now in
    let v = sym c.in_ok-judge.ensures.refusal in
    none l c.args.number v (rw c.in_ok-judge.ensures.whole at c.in-None.ensures) refl

pub returns-in-None-clause-buffer : goal.returns-in-None-clause-buffer
returns-in-None-clause-buffer c =
    let l = c.args.buffer.now in
    let v = sym c.in_ok-judge.ensures.refusal in
    kept (take_out c.args.number) l (none l c.args.number v (rw c.in_ok-judge.ensures.whole at c.in-None.ensures) refl) (λ z. omega arith)
