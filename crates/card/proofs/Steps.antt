-- A step of the machine gives what a step of the card gives.
use Prim.Native.Nat.{ℕ, zero, suc, ◌<◌}
use mathlib.Core.Path.{◌≡◌, refl, sym, ap, subst, ◌∙◌}
use mathlib.Core.Bool.{Bool, true, false, cond, not, ◌||◌, true≢false}
use mathlib.Core.List.{List, []}
use native.Mathlib.Omega.{arith}
use borrow.Author.Tests.{eqb-true, eqb-false, le-leb, lt-leb, leb-true, leb-false}
use lib.Dec.{eqb, leb}
use lib.Ieee.{Float}
use Rattle.scalar.proofs.Order.{by_test}
use Rattle.search_definition.specs.Found.{pairs}
use Rattle.search_steps.specs.Steps.{State, busy, start}
use Rattle.search_steps.specs.Run as Run
use Rattle.search_steps.proofs.Run.{search_runs}
use Rattle.block.specs.Block as Block
use Rattle.solve.specs.Demand3.{err, definition}
use Rattle.solve_block.specs.SolveBlock.{block_answers}
use Rattle.card.specs.Card.{Card, whole, one_more, is_last, ended, step, step_answers}
use Rattle.card.specs.Machine.{Machine, Stepped, waits, ends, searches, one_evaluation, stands, search_step, machine_step, Reached, Agrees}
use Rattle.card.proofs.Block.{E, gives, all_answers, so_many, one_step, some}

-- the next step comes after so many
after : (err : ℕ → Float → Float) (n k : ℕ) (s : State) → Run.step err n (Run.steps err n k s) ≡ Run.steps err n (suc k) s
unfolding Run.steps
after err n zero s = refl
after err n (suc k) s = after err n k (Run.step err n s)

cond_true : {A : Type 0} {t : Bool} (a b : A) → t ≡ true → cond t a b ≡ a
cond_true a b e = rw e

cond_false : {A : Type 0} {t : Bool} (a b : A) → t ≡ false → cond t a b ≡ b
cond_false a b e = rw e

or_true : (a b : Bool) → b ≡ true → a || b ≡ true
or_true true b e = refl
or_true false b e = e

module _ (m : Machine) (room : ℕ) where
  abbrev c : Card
  c = m.card

  abbrev block : List ℕ
  block = c.block

  abbrev n : ℕ
  n = Block.samples block

  abbrev error : ℕ → Float → Float
  error = err n (Block.arm block) (Block.pose block)

  -- while idle
  stays : c.busy ≡ false → machine_step m room ≡ waits m
  unfolding machine_step
  stays b = cond_false _ _ b

  idle : c.busy ≡ false → Agrees m room
  unfolding step step_answers is_last
  idle b =
      let e = stays b in
      record {
        gave = ap (λ (x : Stepped). x.gave) e ∙ rw b;
        answers = ap (λ (x : Stepped). x.answers) e ∙ rw b;
        card = ap (λ (x : Stepped). x.machine.card) e ∙ rw b;
        reached = subst (λ (x : Stepped). Reached x.machine) (sym e) (λ t. absurd (true≢false (sym t ∙ b)));
      }

  -- one step, of families 1 to 5 and of a block that is refused
  at_once : c.busy ≡ true → c.made ≡ 0 → searches block ≡ false → Agrees m room
  unfolding machine_step step step_answers is_last ended
  at_once b z s =
      let o = one_step block s in
      record {
        gave = rw (b, z, s, o);
        answers = rw (b, z, s, o);
        card = rw (b, z, s, o);
        reached = rw (b, z, s) (λ t. absurd (true≢false (sym t)));
      }

  -- in a search, k evaluations made
  module _ (b : c.busy ≡ true) (s : searches block ≡ true) (at : stands m ≡ Run.steps error n c.made (start n)) (left : c.made < E block) where
    abbrev next : State
    next = Run.steps error n (suc c.made) (start n)

    comes : one_evaluation block (stands m) ≡ next
    comes = ap (Run.step error n) at ∙ after error n c.made (start n)

    search_goes : machine_step m room ≡ search_step m room next
    unfolding machine_step
    search_goes = cond_true _ _ b ∙ cond_true _ _ (or_true (not (eqb c.made 0)) (searches block) s) ∙ ap (search_step m room) comes

    last_by : (x : Bool) → leb (E block) (suc c.made) ≡ x → is_last c ≡ x
    unfolding is_last
    last_by x e = rw (b, so_many block s) e

    going : suc c.made < E block → machine_step m room ≡ waits (record { card = one_more c; search = next })
    unfolding search_step
    going h = search_goes ∙ cond_true _ _ ((search_runs error n).goes_on (suc c.made) h)

    not_yet : suc c.made < E block → Agrees m room
    unfolding step step_answers
    not_yet h =
        let e = going h in
        let l = last_by false (lt-leb (E block) (suc c.made) h) in
        record {
          gave = ap (λ (x : Stepped). x.gave) e ∙ rw l;
          answers = ap (λ (x : Stepped). x.answers) e ∙ rw l;
          card = ap (λ (x : Stepped). x.machine.card) e ∙ rw l (sym (cond_true _ _ b));
          reached = subst (λ (x : Stepped). Reached x.machine) (sym e) (λ _ _. record { searching = s; at = refl; left = rw (so_many block s) h });
        }

    found_same : suc c.made ≡ E block → next.found ≡ (definition n (Block.arm block) (Block.pose block)).found
    found_same e = rw e (search_runs error n).pairs

    ending : suc c.made ≡ E block → machine_step m room ≡ ends m next (whole c room) (block_answers block [])
    unfolding search_step pairs
    ending e =
        let f = found_same e in
        let w = gives block s room in
        let a = all_answers block s in
        let over : busy next ≡ false = rw e (search_runs error n).ends in
        search_goes ∙ cond_false _ _ over ∙ rw (f, w, a, e)

    now : suc c.made ≡ E block → Agrees m room
    unfolding step step_answers ended
    now z =
        let e = ending z in
        let l = last_by true (le-leb (E block) (suc c.made) (omega (arith, z))) in
        record {
          gave = ap (λ (x : Stepped). x.gave) e ∙ rw l;
          answers = ap (λ (x : Stepped). x.answers) e ∙ rw l;
          card = ap (λ (x : Stepped). x.machine.card) e ∙ rw l;
          reached = subst (λ (x : Stepped). Reached x.machine) (sym e) (λ t. absurd (true≢false (sym t)));
        }

    in_search : Agrees m room
    in_search = by_test (leb (E block) (suc c.made)) (λ t. now (exact t)) (λ t. not_yet (further t))
      where
        exact : leb (E block) (suc c.made) ≡ true → suc c.made ≡ E block
        exact t = let h = leb-true (E block) (suc c.made) t in omega arith

        further : leb (E block) (suc c.made) ≡ false → suc c.made < E block
        further t = leb-false (E block) (suc c.made) t

  pub agrees : Reached m → Agrees m room
  unfolding Run.steps
  agrees r =
      by_test c.busy
      (λ b.
      by_test (eqb c.made 0)
      (λ z.
      let made_none = eqb-true c.made 0 z in
      by_test (searches block) (λ s. in_search b s (first made_none z) (rw made_none (some block s)))
      (λ s. at_once b made_none s))
      (λ z.
      let u = r b (made_some z) in
      in_search b u.searching (rw z u.at) (rw (← so_many block u.searching) u.left)))
      (λ b. idle b)
    where
      made_some : eqb c.made 0 ≡ false → 0 < c.made
      made_some z = let h = eqb-false c.made 0 z in omega (arith, h)

      first : c.made ≡ 0 → eqb c.made 0 ≡ true → stands m ≡ Run.steps error n c.made (start n)
      first e z = rw (z, e) refl
