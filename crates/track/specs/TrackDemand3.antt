-- The customer's third demand, of the track call in family 6. Document 02, request 2: "The evaluation bound is to hold for the reduced arm as well, if its numbers and the pose
-- handed on are finite; otherwise 8 is given." The words of document 00 and what they mean stand in solve: specs/Demand3.antt; here they are said of the arm that is left.
use Rattle.std.specs.Prelude.{ℕ, ◌+◌, ◌*◌, ◌≤◌, ◌≡◌, List, Float, length}
use Rattle.search_definition.specs.Demand.{Demand3}
use Rattle.solve.specs.Demand3.{err, definition, answered, of_pairs}
use Rattle.track.specs.Reduced.{reduced_arm, handed_on}
use Rattle.track.specs.Track.{track_answers, solve_track}

module _ (n : ℕ) (arm : List Float) (joint : ℕ) (angle : Float) (pose : List Float) where
  -- the arm that is left, and the pose handed on
  abbrev left : List Float
  left = reduced_arm arm joint angle

  abbrev to : List Float
  to = handed_on arm joint angle pose

  -- for a call that is not refused before it solves, with room for so many sevens
  pub record TrackDemand3 (room : ℕ) : Type 0 where
    pub evaluations : (solve_track 6 n arm joint angle pose room).evals ≡ length (definition n left to).asked
    pub bounded : (solve_track 6 n arm joint angle pose room).evals ≤ n + 1 + 3128 * n
    pub list : track_answers 6 n arm joint angle pose ≡ of_pairs n left to
    pub counted : (solve_track 6 n arm joint angle pose room).answers ≡ length (definition n left to).found
    pub few : (solve_track 6 n arm joint angle pose room).answers ≤ 44 * n
    pub listed : Demand3 (err n left to) n (answered n left to)
