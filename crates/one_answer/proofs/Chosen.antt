-- Refused, or the first answer of the filtered list.
use Prim.Native.Nat.{ℕ}
use mathlib.Core.Path.{◌≡◌, refl, sym, ap, ◌∙◌}
use mathlib.Core.Bool.{true, false, cond}
use mathlib.Core.List.{List, [], ◌∷◌}
use native.Mathlib.Omega.{arith}
use borrow.Author.Tests.{eq-eqb, ne_eqb, eqb-false}
use lib.Dec.{eqb}
use lib.Ieee.{Float}
use lib.ListN.{length}
use Rattle.std.proofs.Common.{Option, Result, Err}
use Rattle.std.specs.Option.{ok_or}
use Rattle.answers.specs.declared.Answer.{Answer}
use Rattle.scalar.proofs.Order.{by_test}
use Rattle.refusals.specs.Refusal.{number}
use Rattle.refusals.specs.declared.refusal.Refusal.{Refusal}
use Rattle.refusals.specs.declared.refusal.Refusal.TheVariants.{NoneAllowed}
use Rattle.refusals.proofs.Outcomes.{number-positive}
use Rattle.limits.specs.Limits.{allowed}
use Rattle.full_list.specs.Full.{Full}
use Rattle.solve.specs.Solve.{refused, full, answers}
use Rattle.one_answer.specs.OneAnswer.{zeros, One, one_of, first_of, solve_one, one_refusal, Member, Gives, SolveOneGives}
use Rattle.one_answer.specs.First.{head, first_allowed}

-- the answer, or refusal 12
abbrev pub or_none : Option Answer → Result Answer Refusal
or_none q = ok_or q NoneAllowed

-- a list by its first answer: refusal 12, or a member
abbrev Chosen : List Answer → One → Type 0
Chosen all r = (r.refusal ≡ cond (eqb (length all) 0) 12 0) × ((r.refusal ≡ 0 → ⊥) → r.answer ≡ zeros) × (r.refusal ≡ 0 → Member r.answer all)

chosen : (all : List Answer) → Chosen all (first_of all)
unfolding first_of
chosen [] = (refl, λ h. refl, λ z. let y : ◌≡◌ {A = ℕ} 12 0 = z in absurd (omega arith))
chosen (q ∷ rest) = (rw (ne_eqb (length (q ∷ rest)) 0 (λ z. omega arith)), λ h. absurd (h refl), λ z. record { place = 0; within = omega arith; there = refl })

by_head : (all : List Answer) → one_of (or_none (head all)) ≡ first_of all
unfolding first_of
by_head [] = refl
by_head (q ∷ rest) = refl

module _ (family n : ℕ) (arm pose limits : List Float) where
  of_list : eqb (refused family n arm pose limits) 0 ≡ true → solve_one family n arm pose limits ≡ first_of (answers family n arm pose limits)
  unfolding solve_one
  of_list t = rw t refl

  of_refusal : eqb (refused family n arm pose limits) 0 ≡ false → solve_one family n arm pose limits ≡ record { refusal = refused family n arm pose limits; answer = zeros }
  unfolding solve_one
  of_refusal t = rw t refl

  pub by_refusal : {r : Result Answer Refusal} (refusal : Refusal) → r ≡ Err refusal → number refusal ≡ refused family n arm pose limits → one_of r ≡ solve_one family n arm pose limits
  by_refusal refusal e h =
      let t = ne_eqb (number refusal) 0 (number-positive refusal) in
      let s = of_refusal (rw h at t) in
      rw (e, h) (sym s)

  pub gives : {m : Option Answer} {r : Result Answer Refusal} {f : Full} {stops : List Float}
      → 0 ≡ refused family n arm pose limits
      → f ≡ full family n arm pose limits
      → stops ≡ limits
      → m ≡ first_allowed stops f.answers
      → r ≡ or_none m
      → one_of r ≡ solve_one family n arm pose limits
  unfolding first_allowed
  gives {m} z e-f e-s e-m e-r =
      let all = answers family n arm pose limits in
      let is-head : m ≡ head all = (rw e-s at e-m) ∙ ap (λ (x : Full). head (allowed limits x.answers)) e-f in
      let first : one_of (or_none m) ≡ first_of all = rw is-head (by_head all) in
      rw e-r (first ∙ sym (of_list (eq-eqb (refused family n arm pose limits) 0 (sym z))))

pub solve_one_gives : SolveOneGives
unfolding one_refusal
solve_one_gives family n arm pose limits =
    let first = refused family n arm pose limits in
    by_test (eqb first 0)
    (λ t.
    let c = chosen (answers family n arm pose limits) in
    rw (of_list family n arm pose limits t)
    (record {
      refusal_is = c.0 ∙ rw t refl;
      refused_zeros = c.1;
      member = c.2;
    }))
    (λ t.
    rw (of_refusal family n arm pose limits t)
    (record {
      refusal_is = rw t refl;
      refused_zeros = λ _. refl;
      member = λ y. absurd (eqb-false first 0 t y);
    }))
