-- The customer's third demand, of the solve call in family 6. The words in quotes are document 00's. `listed` and what it names are written in search_definition: specs/Demand.antt.
-- "Whatever finite numbers anybody lends for arm and pose, and whatever n from 1 to 400": proofs/Demand3.antt proves it with no other hypothesis.
use Rattle.std.specs.Prelude.{◌≡◌, true, List, map, ℕ, ◌+◌, ◌*◌, ◌≤◌, Float, length}
use Rattle.linear.specs.Matrix.{Matrix}
use Rattle.linear.specs.declared.vector.Vector3.{Vector3}
use Rattle.kinematics.specs.Kinematics.{from_numbers}
use Rattle.kinematics.specs.Pose.{pose_rotation, pose_place}
use Rattle.kinematics.specs.declared.Kinematics.{Kinematics}
use Rattle.search_definition.specs.Found.{Out, pairs}
use Rattle.search_definition.specs.Search.{search_1d_bracketed}
use Rattle.search_definition.specs.Demand.{Demand3}
use Rattle.search_error.specs.Error as Error
use Rattle.search_error.specs.Error.{error_i}
use Rattle.answers.specs.declared.Answer.{Answer}
use Rattle.family6.specs.TwoParallel.{answer_of}
use Rattle.refusals.specs.Judge.{all_finite}
use Rattle.limits.specs.Limits.{allowed}
use Rattle.full_list.specs.Full.{tolerance}
use Rattle.solve.specs.Solve.{answers, solve}

module _ (n : ℕ) (arm pose : List Float) where
  -- the arm and the pose that the numbers are
  abbrev kin : Kinematics
  kin = from_numbers arm

  abbrev r_06 : Matrix
  r_06 = pose_rotation pose

  abbrev p_0t : Vector3
  p_0t = pose_place pose

  -- the error of two_parallel for them: component i at an angle
  abbrev pub err : ℕ → Float → Float
  err = error_i kin r_06 p_0t

  -- "the definition": its list, with what added each position, and the angles that it asks, in order
  abbrev pub definition : Out
  definition = search_1d_bracketed err n

  -- the number of subproblem 6's answers at q1
  abbrev pub answered : Float → ℕ
  answered = Error.t64_count kin r_06 p_0t

  -- what anybody may lend
  pub record Finite : Type 0 where
    pub arm_long : length arm ≡ 39
    pub pose_long : length pose ≡ 12
    pub arm_finite : all_finite arm ≡ true
    pub pose_finite : all_finite pose ≡ true
    pub some : 1 ≤ n
    pub most : n ≤ 400

  -- the answers of the definition's pairs, one for each
  abbrev pub of_pairs : List Answer
  of_pairs = map (answer_of r_06 p_0t kin tolerance) (pairs definition)

  -- for a call with any limits that are not refused, and room for so many answers
  pub record SolveDemand3 (limits : List Float) (room : ℕ) : Type 0 where
    -- "the two-parallel search evaluates its error exactly as often as the definition does [..] and the solve call that runs it reports the count so made"; document 02,
    -- request 1: "while the evaluations and the search's pairs are those before filtering"
    pub evaluations : (solve 6 n arm pose limits room).evals ≡ length definition.asked
    -- "at most n + 1 + 3,128 × n times"
    pub bounded : (solve 6 n arm pose limits room).evals ≤ n + 1 + 3128 * n
    -- "The search's list is then the definition's, bit for bit and in its order": the answers are those of its pairs, one for each, that are inside the limits
    pub list : answers 6 n arm pose limits ≡ allowed limits of_pairs
    pub one_each : length of_pairs ≡ length definition.found
    pub counted : (solve 6 n arm pose limits room).answers ≡ length (allowed limits of_pairs)
    -- "family 6 at most 44 × n" (document 01)
    pub few : (solve 6 n arm pose limits room).answers ≤ 44 * n
    -- "every pair (q1, i) in it has q1 finite, error i at q1 finite, and i below the number of subproblem 6's answers at q1. No crossing is lost: [..] the list has exactly one
    -- pair of their own, which no other crossing shares.": `usable`, `kept`, `own`, `with-that-i` and `apart` of Demand3
    pub listed : Demand3 err n answered
