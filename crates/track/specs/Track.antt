-- The track call. Document 02, request 2: "A new call takes 45 numbers (seven axes, eight offsets), a joint from 0 to 6 and its angle, locks that joint, solves the six-axis
-- arm that results and puts the locked angle back in its place [..] Limits do not apply here."
use Rattle.std.specs.Prelude.{ℕ, Bool, ◌&&◌, cond, List, [], leb, eqb, Float, length}
use Rattle.float.specs.Number.{is_finite}
use Rattle.answers.specs.declared.Answer.{Answer}
use Rattle.refusals.specs.Judge.{known, samples_fit, all_finite, refusal_9}
use Rattle.full_list.specs.Full.{Full, no_search, of_numbers}
use Rattle.full_list.specs.Task.{of_task}
use Rattle.full_list.specs.declared.task.Task.{Task}
use Rattle.solve.specs.InNumbers.{Solved, gives}
use Rattle.track.specs.Reduced.{reduced_arm, handed_on}

-- "Refusal 5 means 45 here." "Refused: 11, a locked joint above 6 or its angle not finite, checked after 6." "The evaluation bound is to hold for the reduced arm as well, if
-- its numbers and the pose handed on are finite; otherwise 8 is given."
abbrev pub lockable : ℕ → Float → Bool
lockable joint angle = leb joint 6 && is_finite angle

abbrev pub reduced_finite : List Float → ℕ → Float → List Float → Bool
reduced_finite arm joint angle pose = all_finite (reduced_arm arm joint angle) && all_finite (handed_on arm joint angle pose)

unfoldable pub track_judge : ℕ → ℕ → List Float → ℕ → Float → List Float → ℕ
track_judge family n arm joint angle pose =
    cond (known family)
    (cond (eqb (length arm) 45)
    (cond (eqb (length pose) 12) (cond (lockable joint angle) (cond (samples_fit family n) (cond (all_finite arm && all_finite pose) 0 8) 7) 11) 6)
    5)
    4

unfoldable pub track_refused : ℕ → ℕ → List Float → ℕ → Float → List Float → ℕ
track_refused family n arm joint angle pose =
    let first = track_judge family n arm joint angle pose in
    cond (eqb first 0) (cond (reduced_finite arm joint angle pose) 0 8) first

-- what a call solves: nothing where it refuses
unfoldable pub track_full : ℕ → ℕ → List Float → ℕ → Float → List Float → Full
track_full family n arm joint angle pose =
    cond (eqb (track_refused family n arm joint angle pose) 0)
    (of_numbers family n (reduced_arm arm joint angle) (handed_on arm joint angle pose))
    (no_search [])

-- the answers of the reduced arm; the lists have them as sevens
abbrev pub track_answers : ℕ → ℕ → List Float → ℕ → Float → List Float → List Answer
track_answers family n arm joint angle pose = (track_full family n arm joint angle pose).answers

-- what a call gives that has room for so many sevens
unfoldable pub solve_track : ℕ → ℕ → List Float → ℕ → Float → List Float → ℕ → Solved
solve_track family n arm joint angle pose room =
    let count = length (track_answers family n arm joint angle pose) in
    let first = track_refused family n arm joint angle pose in
    record { refusal = cond (eqb first 0) (refusal_9 count room) first; answers = count; evals = (track_full family n arm joint angle pose).evals }

-- what solving the arm that is left gives, with room for so many sevens
unfoldable pub solve_left : Task → ℕ → Solved
solve_left task room = gives (length (of_task task).answers) (of_task task).evals room
