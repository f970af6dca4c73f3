-- The answers of pairs that have them, each written where there is room.
use Rattle.std.proofs.Common.{◌≡◌, ◌∙◌, refl, sym, ap, ℕ, ◌≤◌, ◌/◌, min, length, List, [], take, map, true, Float}
use Rattle.std.proofs.lemmas.List.{length-take-le, get_or-take}
use Rattle.answers.specs.Rows.{room_of}
use Rattle.answers.specs.Written.{room, written, flagged, Wrote}
use Rattle.answers.specs.declared.Answer.{Answer}
use Rattle.answers.proofs.Laws.{by_name}
use Rattle.refusals.specs.Judge.{refusal_9}
use Rattle.refusals.specs.declared.family.Family.TheVariants.{TwoParallel}
use Rattle.limits.specs.Limits.{allowed}
use Rattle.limits.proofs.Filter.{unlimited}
use Rattle.family6_answers.specs.Pairs.{zipped}
use Rattle.family6.specs.Kept.{Usable}
use Rattle.family6.specs.TwoParallel.{answer_of}
use Rattle.full_list.specs.Full.{tolerance}
use Rattle.full_list.specs.Task.{task_of}
use Rattle.full_list.specs.declared.task.Task.{Task}
use Rattle.full_list.proofs.Laws.{pairs_long}
use Rattle.solve.specs.InNumbers.{Solved, gives}
use Rattle.card.specs.Usable.{usable, pair_answers}
use Rattle.card.proofs.UsableLaws.{all_usable}
use Rattle.card.proofs.pairs.finish.Goals as goal

module _ (arm pose qs : List Float) (cs : List ℕ) (pairs : ℕ) {task : Task} (e : task ≡ task_of TwoParallel 0 arm pose) (in-qs : pairs ≤ length qs) (in-cs : pairs ≤ length cs) where
  same : length (take pairs cs) ≡ length (take pairs qs)
  same = length-take-le pairs cs in-cs ∙ sym (length-take-le pairs qs in-qs)

  few : pairs ≤ 17600 → length (take pairs qs) ≤ 17600
  few h = rw (length-take-le pairs qs in-qs) h

  kept : usable arm pose qs cs pairs ≡ true → Usable task.r_06 task.p_0t task.kin (length (take pairs qs)) (take pairs qs) (take pairs cs)
  kept u = rw (e, length-take-le pairs qs in-qs) (λ j h. rw (get_or-take pairs cs j 0 h, get_or-take pairs qs j _ h) (all_usable arm pose qs cs pairs u j h))

  abbrev of : List Answer
  of = map (answer_of task.r_06 task.p_0t task.kin tolerance) (zipped (take pairs qs) (take pairs cs))

  all : of ≡ pair_answers arm pose qs cs pairs
  unfolding pair_answers
  all = rw e refl

  module _ (angles : List Float) (flags : List ℕ) {stops a : List Float} {b : List ℕ} {count : ℕ} (none : stops ≡ []) (w : Wrote (allowed stops of) angles flags a b count) where
    free : Wrote (allowed [] of) angles flags a b count
    free = rw none at w

    wrote : Wrote (pair_answers arm pose qs cs pairs) angles flags a b count
    wrote = by_name (unlimited of ∙ all) free

    angles-written : a ≡ written (pair_answers arm pose qs cs pairs) angles flags
    angles-written = wrote.all_angles

    flags-written : b ≡ flagged (pair_answers arm pose qs cs pairs) angles flags
    flags-written = wrote.all_flags

    so_many : count ≡ pairs
    so_many = free.all_counted ∙ ap length (unlimited of) ∙ sym (pairs_long (take pairs qs) (take pairs cs) same (answer_of task.r_06 task.p_0t task.kin tolerance)) ∙ length-take-le pairs qs in-qs

    result : (evals : ℕ) {s : Solved} → s ≡ gives count evals (min (length angles / 6) (length flags)) → s ≡ record { refusal = refusal_9 pairs (room angles flags); answers = pairs; evals = evals }
    unfolding room_of
    result evals h = rw so_many at h

pub invariant_of-list : goal.invariant_of-list
invariant_of-list c =
    let r = c.requires in
    record {
      as_many = same c.args.arm.now c.args.pose.now c.args.qs.now c.args.cs.now c.args.pairs c.new-task.ensures r.1 r.2;
      few = few c.args.arm.now c.args.pose.now c.args.qs.now c.args.cs.now c.args.pairs c.new-task.ensures r.1 r.2 r.0;
      usable = kept c.args.arm.now c.args.pose.now c.args.qs.now c.args.cs.now c.args.pairs c.new-task.ensures r.1 r.2 r.3;
    }

pub returns-clause-result : goal.returns-clause-result
returns-clause-result c = search result

pub returns-clause-angles : goal.returns-clause-angles
returns-clause-angles c = search angles-written

pub returns-clause-flags : goal.returns-clause-flags
returns-clause-flags c = search flags-written
