-- Refused, of another family, or searched.
use Prim.Native.Nat.{ℕ}
use mathlib.Core.Path.{◌≡◌, refl, sym, ap, ◌∙◌}
use mathlib.Core.Bool.{Bool, true, false, ◌&&◌}
use mathlib.Core.List.{List}
use borrow.Author.Tests.{eq-eqb, ne_eqb}
use lib.Dec.{eqb}
use lib.Ieee.{Float}
use Rattle.block.specs.Block as Block
use Rattle.refusals.proofs.Outcomes.{number-positive}
use Rattle.refusals.specs.Refusal.{number, number_of}
use Rattle.refusals.specs.declared.refusal.Refusal.{Refusal}
use Rattle.std.proofs.Common.{Result, Ok, Err}
use Rattle.std.specs.Result.{is_ok}
use Rattle.refusals.specs.Judge.{judge}
use Rattle.limits.specs.Limits.{refusal_10}
use Rattle.solve.specs.Solve.{refused}
use Rattle.card.specs.Machine.{block_refused, searches}
use Rattle.card.proofs.judge.searches.Goals as goal

and-false : (a : Bool) → false ≡ a && false
and-false true = refl
and-false false = refl

module _ (block : List ℕ) {first : ℕ} (e : first ≡ Block.refusal block) where
  damaged : (first ≡ 0 → ⊥) → false ≡ searches block
  unfolding searches
  damaged h = let t = ne_eqb first 0 h in rw (← e, t, t) refl

  module _ (z : first ≡ 0) {family : ℕ} (e-f : family ≡ Block.family block) where
    other : (family ≡ 6 → ⊥) → false ≡ searches block
    unfolding searches
    other h =
        let t : eqb (Block.family block) 6 ≡ false = rw (← e-f) (ne_eqb family 6 h) in
        and-false (eqb (block_refused block) 0) ∙ ap (λ (b : Bool). eqb (block_refused block) 0 && b) (sym t)

    judged : {n : ℕ} {arm pose : List Float} {r : ℕ} → family ≡ 6 → n ≡ Block.samples block → arm ≡ Block.arm block → pose ≡ Block.pose block → r ≡ judge family n arm pose → eqb r 0 ≡ searches block
    unfolding searches refused refusal_10
    judged {r = r} six e-n e-a e-p e-r =
        let t = eq-eqb first 0 z in
        let f = eq-eqb family 6 six in
        rw (← e, t, ← e-f, ← e-n, ← e-a, ← e-p, ← e-r, f) (and-true (eqb r 0))
      where
        and-true : (a : Bool) → a ≡ a && true
        and-true true = refl
        and-true false = refl

no_refusal : {T : Type 0} (r : Result T Refusal) → is_ok r ≡ eqb (number_of r) 0
no_refusal (Ok x) = refl
no_refusal (Err e) = sym (ne_eqb (number e) 0 (number-positive e))

pub returns-in-Err : goal.returns-in-Err
returns-in-Err c = damaged _ c.in-Err.ensures.refusal (number-positive _)

pub returns-then-family-eq6 : goal.returns-then-family-eq6
returns-then-family-eq6 c =
    let b = c.in-Ok.ensures.block in
    let six = sym c.if-family-eq6.true ∙ c.family.ensures in
    c.is_ok.ensures.value ∙ no_refusal c.judge.result
    ∙ judged c.args.bytes.now c.in-Ok.ensures.refusal refl (rw b at six) refl (rw b at c.samples.ensures) (rw b at c.arm.ensures) (rw b at c.pose.ensures) c.judge.ensures

pub returns-else-family-eq6 : goal.returns-else-family-eq6
returns-else-family-eq6 c =
    let b = c.in-Ok.ensures.block in
    let family = c.family.ensures in
    ne_eqb c.family.result 6 c.if-family-eq6.false ∙ other c.args.bytes.now c.in-Ok.ensures.refusal refl (rw b at family) c.if-family-eq6.false
