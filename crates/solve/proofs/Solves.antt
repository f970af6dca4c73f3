-- What a call gives where it refuses, and where it solves.
use Prim.Native.Nat.{ℕ}
use mathlib.Core.Path.{◌≡◌, refl, sym, ap, ◌∙◌}
use mathlib.Core.List.{List, []}
use borrow.Author.Tests.{eq-eqb, ne_eqb}
use lib.Ieee.{Float}
use lib.ListN.{length}
use Rattle.answers.specs.Written.{room, written, flagged}
use Rattle.answers.proofs.Laws.{nothing, by_name}
use Rattle.limits.specs.Limits.{allowed}
use Rattle.limits.proofs.Filter.{none_allowed}
use Rattle.full_list.specs.Full.{Full, no_search}
use Rattle.full_list.specs.Task.{of_task}
use Rattle.full_list.specs.Listed.{listed, evaluated, ListOf}
use Rattle.full_list.specs.declared.task.Task.{Task}
use Rattle.full_list.specs.declared.list.FullList.{FullList}
use Rattle.solve.specs.InNumbers.{refuses, gives}
use Rattle.solve.specs.Solve.{refused, full, answers, solve}

module _ (family n : ℕ) (arm pose limits : List Float) where
  module _ (angles : List Float) (flags : List ℕ) {first : ℕ} (e : first ≡ refused family n arm pose limits) (h : first ≡ 0 → ⊥) where
    solves-nothing : full family n arm pose limits ≡ no_search []
    unfolding full
    solves-nothing = let t = ne_eqb first 0 h in cc

    no-answers : [] ≡ answers family n arm pose limits
    no-answers = rw solves-nothing (sym (none_allowed limits))

    pub result-refused : refuses first ≡ solve family n arm pose limits (room angles flags)
    unfolding solve
    result-refused = rw (← no-answers, solves-nothing, ← e, ne_eqb first 0 h)

    pub angles-refused : angles ≡ written (answers family n arm pose limits) angles flags
    angles-refused = (by_name no-answers (nothing angles flags)).all_angles

    pub flags-refused : flags ≡ flagged (answers family n arm pose limits) angles flags
    flags-refused = (by_name no-answers (nothing angles flags)).all_flags

  module _ (z : 0 ≡ refused family n arm pose limits) {t : Task} {list : FullList} {stops : List Float} (e : of_task t ≡ full family n arm pose limits) (s : stops ≡ limits) (l : ListOf t list) where
    the-answers : listed list ≡ (full family n arm pose limits).answers
    the-answers = l.all ∙ ap (λ (x : Full). x.answers) e

    the-evals : evaluated list ≡ (full family n arm pose limits).evals
    the-evals = l.counted ∙ ap (λ (x : Full). x.evals) e

    pub result-solved : (room : ℕ) → gives (length (allowed stops (listed list))) (evaluated list) room ≡ solve family n arm pose limits room
    unfolding solve
    result-solved room = let t = eq-eqb (refused family n arm pose limits) 0 (sym z) in rw (s, the-answers, the-evals, t) refl

    pub angles-solved : (angles : List Float) (flags : List ℕ) → written (allowed stops (listed list)) angles flags ≡ written (answers family n arm pose limits) angles flags
    angles-solved angles flags = rw (s, the-answers) refl

    pub flags-solved : (angles : List Float) (flags : List ℕ) → flagged (allowed stops (listed list)) angles flags ≡ flagged (answers family n arm pose limits) angles flags
    flags-solved angles flags = rw (s, the-answers) refl
