-- Whether subproblem 6 has the answer of each of the first so many pairs in two lists, for an arm and a pose: what the code asks of lists before it reads answers from them. Of a
-- search's own pairs it is so.
use Rattle.std.specs.Prelude.{ℕ, zero, suc, Bool, true, ◌&&◌, List, map, ltb, Float, get_or}
use Rattle.std.specs.Float.{nan}
use Rattle.answers.specs.declared.Answer.{Answer}
use Rattle.kinematics.specs.Kinematics.{from_numbers}
use Rattle.kinematics.specs.Pose.{pose_rotation, pose_place}
use Rattle.search_error.specs.Error.{t64_count}
use Rattle.family6_answers.specs.Pairs.{first_pairs}
use Rattle.family6.specs.TwoParallel.{answer_of}
use Rattle.full_list.specs.Full.{tolerance}

unfoldable pub answered : List Float → List Float → Float → ℕ → Bool
answered arm pose q1 i = ltb i (t64_count (from_numbers arm) (pose_rotation pose) (pose_place pose) q1)

unfoldable pub usable : List Float → List Float → List Float → List ℕ → ℕ → Bool
usable arm pose qs cs zero = true
usable arm pose qs cs (suc k) = answered arm pose (get_or qs k nan) (get_or cs k 0) && usable arm pose qs cs k

-- the answers of these pairs
unfoldable pub pair_answers : List Float → List Float → List Float → List ℕ → ℕ → List Answer
pair_answers arm pose qs cs k =
    map (answer_of (pose_rotation pose) (pose_place pose) (from_numbers arm) tolerance) (first_pairs k qs cs)
