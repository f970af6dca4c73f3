-- What the solve call gives for a block that is searched, and for one that is not.
use Prim.Native.Nat.{ℕ, ◌≤◌, ◌<◌}
use mathlib.Core.Path.{◌≡◌, refl, sym, ap, ◌∙◌}
use mathlib.Core.Bool.{Bool, true, false, cond, ◌&&◌, true≢false}
use mathlib.Core.List.{List, []}
use native.Mathlib.Omega.{arith}
use borrow.Author.Tests.{eqb-true, eqb-false, eq-eqb, leb-true}
use lib.Dec.{eqb, leb}
use lib.Ieee.{Float}
use lib.ListN.{length}
use Rattle.scalar.proofs.Order.{by_test}
use Rattle.refusals.specs.Judge.{refusal_9}
use Rattle.limits.specs.Limits.{refusal_10}
use Rattle.limits.proofs.Filter.{unlimited}
use Rattle.search_steps.specs.Steps.{busy, busy_in, start}
use Rattle.search_steps.specs.Run as Run
use Rattle.search_steps.proofs.Run.{search_runs}
use Rattle.full_list.specs.Full.{by_family}
use Rattle.block.specs.Block as Block
use Rattle.solve.specs.Solve.{refused, full, answers, solve}
use Rattle.solve.specs.Demand3.{err, definition, of_pairs, Finite, SolveDemand3}
use Rattle.solve.specs.InNumbers.{Solved}
use Rattle.solve.proofs.Accepted.{Accepted, accepted, accepted_numbers}
use Rattle.solve.proofs.Demand3.{demand}
use Rattle.solve_block.specs.SolveBlock.{solve_block, block_answers}
use Rattle.card.specs.Card.{steps_of}
use Rattle.card.specs.Machine.{block_refused, searches}

both_true : (a b : Bool) → a && b ≡ true → (a ≡ true) × (b ≡ true)
both_true true true e = (refl, refl)
both_true true false e = (refl, e)
both_true false b e = (e, absurd (true≢false (sym e)))

both_zero : (t : Bool) (x y : ℕ) → eqb x 0 ≡ t → cond t y x ≡ 0 → (x ≡ 0) × (y ≡ 0)
both_zero true x y e z = (eqb-true x 0 e, z)
both_zero false x y e z = absurd (eqb-false x 0 e z)

module _ (block : List ℕ) where
  abbrev n : ℕ
  n = Block.samples block

  abbrev arm : List Float
  arm = Block.arm block

  abbrev pose : List Float
  pose = Block.pose block

  abbrev pub E : ℕ
  E = length (definition n arm pose).asked

  -- ---- a block that is searched
  module _ (s : searches block ≡ true) where
    tests : (eqb (block_refused block) 0 ≡ true) × (eqb (Block.family block) 6 ≡ true)
    unfolding searches
    tests = both_true (eqb (block_refused block) 0) (eqb (Block.family block) 6) s

    six : Block.family block ≡ 6
    six = eqb-true (Block.family block) 6 tests.1

    zeros : (Block.refusal block ≡ 0) × (refused (Block.family block) n arm pose [] ≡ 0)
    zeros = both_zero (eqb (Block.refusal block) 0) (Block.refusal block) (refused (Block.family block) n arm pose []) refl (eqb-true (block_refused block) 0 tests.0)

    fit : Accepted 6 n arm pose
    fit = accepted 6 n arm pose (accepted_numbers 6 n arm pose [] (rw six at (sym zeros.1)))

    few : (1 ≤ n) × (n ≤ 400)
    few = let t = both_true (leb 1 n) (leb n 400) fit.samples in (leb-true 1 n t.0, leb-true n 400 t.1)

    finite : Finite n arm pose
    finite =
        record {
          arm_long = fit.arm_long;
          pose_long = fit.pose_long;
          arm_finite = fit.arm_finite;
          pose_finite = fit.pose_finite;
          some = few.0;
          most = few.1;
        }

    none : refusal_10 [] ≡ 0
    unfolding refusal_10
    none = refl

    demanded : (room : ℕ) → SolveDemand3 n arm pose [] room
    demanded room = demand n arm pose finite [] none room

    solved : (room : ℕ) → solve_block block [] room ≡ solve 6 n arm pose [] room
    unfolding solve_block
    solved room = rw (eq-eqb (Block.refusal block) 0 zeros.0, six)

    all : answers 6 n arm pose [] ≡ of_pairs n arm pose
    all = (demanded 0).list ∙ unlimited (of_pairs n arm pose)

    count : length (answers 6 n arm pose []) ≡ length (definition n arm pose).found
    count = ap length all ∙ (demanded 0).one_each

    unrefused : refused 6 n arm pose [] ≡ 0
    unrefused = rw six at zeros.1

    -- what the solve call gives, and its answers
    pub gives : (room : ℕ)
        → solve_block block [] room
        ≡ record { refusal = refusal_9 (length (definition n arm pose).found) room; answers = length (definition n arm pose).found; evals = E }
    unfolding solve
    gives room =
        let e = (demanded room).evaluations in
        solved room ∙ rw (eq-eqb (refused 6 n arm pose []) 0 unrefused, count, e)

    pub all_answers : block_answers block [] ≡ of_pairs n arm pose
    unfolding block_answers
    all_answers = rw (eq-eqb (Block.refusal block) 0 zeros.0, six) all

    start_busy : busy (start n) ≡ true
    unfolding busy busy_in start
    start_busy = refl

    -- a search that asks nothing would be over at its start
    ended : (k : ℕ) → E ≡ k → busy (Run.steps (err n arm pose) n k (start n)) ≡ false
    ended k e = rw e at (search_runs (err n arm pose) n).ends

    not_at_once : E ≡ 0 → ⊥
    unfolding Run.steps
    not_at_once e = true≢false (sym start_busy ∙ ended 0 e)

    pub some : 0 < E
    some = let h = not_at_once in omega (arith, h)

    pub so_many : steps_of block ≡ E
    unfolding steps_of
    so_many = let e = ap (λ (g : Solved). g.evals) (gives 0) in let h = some in rw e (omega arith)

  -- ---- one that is not
  no_evals : searches block ≡ false → (solve_block block [] 0).evals ≡ 0
  unfolding searches solve_block solve full by_family
  no_evals s =
      by_test (eqb (Block.refusal block) 0)
      (λ a.
      by_test (eqb (refused (Block.family block) n arm pose []) 0)
      (λ b.
      by_test (eqb (Block.family block) 6) (λ c. let z : true ≡ false = rw (a, b, c) at s in absurd (true≢false z))
      (λ c. rw (a, b, c)))
      (λ b. rw (a, b)))
      (λ a. rw a)

  pub one_step : searches block ≡ false → steps_of block ≡ 1
  unfolding steps_of
  one_step s = rw (no_evals s)
