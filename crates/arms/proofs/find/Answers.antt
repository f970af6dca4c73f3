-- 39 zeros where it is refused, and else the arm of its block.
use Rattle.std.proofs.Common.{◌≡◌, ℕ, Option, Some, None, List, refl, sym, ◌∙◌, arith, rules}
use Rattle.std.specs.List.{position}
use Rattle.refusals.specs.Refusal as Refusals
use Rattle.arms.specs.Arm.{zeros_39, find, own, arm_or_zeros}
use Rattle.arms.specs.File.{blocks, has, refusal}
use Rattle.arms.specs.Agreement.{Valid}
use Rattle.arms.proofs.Places.{there_held, not_held, pick_at}
use Rattle.refusals.proofs.Outcomes.{number-positive}
use Rattle.arms.proofs.Calls.{bad, own_next, gives_none, gives_arm}
use Rattle.arms.proofs.find.Goals as goal

module _ (l : List ℕ) (n : ℕ) (v : Valid l) {r : Option ℕ} (e : r ≡ position (has n) (blocks l)) where
  found : (k : ℕ) → r ≡ Some k → 0 ≡ refusal (find n) l
  unfolding own
  found k f = rw (there_held n (blocks l) e k f) at (own_next (find n) l (sym v) refl)

  none : r ≡ None → 14 ≡ refusal (find n) l
  unfolding own
  none f = rw (not_held n (blocks l) e f) at (own_next (find n) l (sym v) refl)

pub returns-in_err-judged-clause-result : goal.returns-in_err-judged-clause-result
returns-in_err-judged-clause-result c =
    let r = c.in_err-judged.field-0.0 in
    let e : Refusals.number_of c.from_residual.result ≡ Refusals.number r = search rules in
    e ∙ bad (find c.args.number) c.args.buffer.now c.in_err-judged.ensures.refusal (number-positive r)

pub returns-in_err-judged-clause-arm : goal.returns-in_err-judged-clause-arm
returns-in_err-judged-clause-arm c =
    let r = c.in_err-judged.field-0.0 in
    let e : arm_or_zeros c.from_residual.result ≡ zeros_39 = search rules in
    e ∙ gives_none c.args.number c.args.buffer.now (bad (find c.args.number) c.args.buffer.now c.in_err-judged.ensures.refusal (number-positive r)) (number-positive r)

pub returns-in-Some-clause-result : goal.returns-in-Some-clause-result
returns-in-Some-clause-result c =
    let v = sym c.in_ok-judged.ensures.refusal in
    let e = rw c.in_ok-judged.ensures.whole at c.in-Some.ensures in
    found c.args.buffer.now c.args.number v e c.in-Some.k refl

pub returns-in-Some-clause-arm : goal.returns-in-Some-clause-arm
returns-in-Some-clause-arm c =
    let l = c.args.buffer.now in
    let n = c.args.number in
    let v = sym c.in_ok-judged.ensures.refusal in
    let b = c.in_ok-judged.ensures.whole in
    let e = rw b at c.in-Some.ensures in
    rw b at c.arm.ensures ∙ (sym (pick_at n (blocks l) e c.in-Some.k refl) ∙ gives_arm n l (found l n v e c.in-Some.k refl))

pub returns-in-None-clause-result : goal.returns-in-None-clause-result
returns-in-None-clause-result c =
    let v = sym c.in_ok-judged.ensures.refusal in
    let e = rw c.in_ok-judged.ensures.whole at c.in-None.ensures in
    none c.args.buffer.now c.args.number v e refl

pub returns-in-None-clause-arm : goal.returns-in-None-clause-arm
returns-in-None-clause-arm c =
    let v = sym c.in_ok-judged.ensures.refusal in
    let e = rw c.in_ok-judged.ensures.whole at c.in-None.ensures in
    gives_none c.args.number c.args.buffer.now (none c.args.buffer.now c.args.number v e refl) (λ z. omega arith)
