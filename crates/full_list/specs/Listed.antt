-- A full list as it is kept.
use Rattle.std.specs.Prelude.{ℕ, ◌≡◌, false, List, map}
use Rattle.float.specs.Num.{nought}
use Rattle.answers.specs.declared.Answer.{Answer}
use Rattle.family6_answers.specs.Pairs.{zipped}
use Rattle.family6.specs.TwoParallel.{answer_of}
use Rattle.full_list.specs.Full.{tolerance}
use Rattle.full_list.specs.Task.{of_task}
use Rattle.full_list.specs.declared.pairs.Pairs.{Pairs}
use Rattle.full_list.specs.declared.task.Task.{Task}
use Rattle.full_list.specs.declared.list.FullList.{FullList}
use Rattle.full_list.specs.declared.list.FullList.TheVariants.{Found, Searched}

-- the answers of the search's pairs
abbrev pub of_pairs : Pairs → List Answer
of_pairs pairs = map (answer_of pairs.task.now.r_06 pairs.task.now.p_0t pairs.task.now.kin tolerance) (zipped pairs.angles.now pairs.components.now)

-- the answers that a list keeps
abbrev pub listed : FullList → List Answer
listed (Found found) = found.now.items
listed (Searched pairs) = of_pairs pairs

-- how often the search's error was evaluated for it
abbrev pub evaluated : FullList → ℕ
evaluated (Found found) = 0
evaluated (Searched pairs) = pairs.evals

-- a list is that of a task: its answers, in their order, and its evaluations
pub record ListOf (task : Task) (list : FullList) : Type 0 where
  pub all : listed list ≡ (of_task task).answers
  pub counted : evaluated list ≡ (of_task task).evals

-- where a list has no such place
abbrev pub blank : Answer
blank = record { q1 = nought; q2 = nought; q3 = nought; q4 = nought; q5 = nought; q6 = nought; is_ls = false }
