-- The held blocks stand at the front, and the bytes behind them are cleared.
use Rattle.std.proofs.Common.{◌≡◌, ℕ, ◌-◌, ◌*◌, List, [], ◌++◌, length, take, drop, replicate, refl, sym, ap, ◌∙◌, arith, rules}
use Rattle.refusals.specs.Refusal as Refusals
use borrow.Rule.Slice.PartMut.{mid_of, put_mid}
use lib.ListN.{length-drop, drop_of_length-le}
use lib.Seq.{length-take-le}
use mathlib.Core.List.{append-nil}
use Rattle.arms.specs.Arm.{compact, own}
use Rattle.arms.specs.File.{blocks, flat, empty, front, effect, refusal, after}
use Rattle.arms.specs.Agreement.{Valid}
use Rattle.arms.specs.Port.{Fronted}
use Rattle.arms.proofs.Blocks.{each_front}
use Rattle.arms.proofs.Bytes.{length_flat, flat_empty}
use Rattle.arms.proofs.Agree.{good_of}
use Rattle.arms.proofs.Places.{valid_long}
use Rattle.arms.proofs.Fronts.{flat_append}
use Rattle.refusals.proofs.Outcomes.{number-positive}
use Rattle.arms.proofs.Calls.{bad, bad_kept, done, own_next}
use Rattle.arms.proofs.compact.Goals as goal

module _ (l : List ℕ) (valid : Valid l) where
  none : 0 ≡ refusal compact l
  unfolding own
  none = own_next compact l (sym valid) refl

  packed : {w : ℕ} {b m : List ℕ} → Fronted w l b → m ≡ replicate (length (mid_of w (length b - w) b)) 0 → put_mid w (length b - w) b m ≡ after compact l
  unfolding effect
  packed {w} {b} {m} fr e-m =
      let n = length (blocks l) - length (front (blocks l)) in
      let c = valid_long l valid in
      let g = fr.within in
      let same = fr.long in
      let sizes = length_flat (each_front (good_of l valid).sizes) in
      let tw = length-take-le w b (omega arith) in
      let tf = ap (λ (x : List ℕ). length x) fr.fronts in
      let k : length b - w ≡ 512 * n = omega arith in
      let d = length-drop w b in
      let s = length-take-le (length b - w) (drop w b) (omega arith) in
      let p = drop_of_length-le (drop w b) {i = length b - w} (omega arith) in
      let out : flat (front (blocks l) ++ replicate n empty) ≡ take w b ++ (m ++ []) = rw (flat_append (front (blocks l)) (replicate n empty), flat_empty n, append-nil m, e-m, s, k, fr.fronts) in
      rw (p, done compact l none, out)

pub returns-in_err-judge-clause-result : goal.returns-in_err-judge-clause-result
returns-in_err-judge-clause-result c =
    let r = c.in_err-judge.field-0.0 in
    let e : Refusals.number_of c.from_residual.result ≡ Refusals.number r = search rules in
    e ∙ bad compact c.args.buffer.now c.in_err-judge.ensures.refusal (number-positive r)

pub returns-in_err-judge-clause-buffer : goal.returns-in_err-judge-clause-buffer
returns-in_err-judge-clause-buffer c = bad_kept compact c.args.buffer.now c.in_err-judge.ensures.refusal (number-positive c.in_err-judge.field-0.0)

pub returns-clause-result : goal.returns-clause-result
returns-clause-result c = none c.args.buffer.now (sym c.in_ok-judge.ensures.refusal)

pub returns-clause-buffer : goal.returns-clause-buffer
returns-clause-buffer c = packed c.args.buffer.now (sym c.in_ok-judge.ensures.refusal) c.to_front-behind.ensures (c.fill.ensures.after (λ y e. e))
