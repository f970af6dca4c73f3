-- Demand 3, whole: what a call of the search leaves, for the arm kin and the pose (r_06, p_0t). The words in quotes are demand 3's (document 00).
-- proofs/Demand.antt proves it of every call whose n is from 1 to 400 and whose lists have room for 44 n pairs. It holds for any numbers, finite or not.
use Rattle.std.specs.Prelude.{ℕ, ◌+◌, ◌*◌, ◌≤◌}
use Rattle.linear.specs.Matrix.{Matrix}
use Rattle.linear.specs.declared.vector.Vector3.{Vector3}
use Rattle.kinematics.specs.declared.Kinematics.{Kinematics}
use Rattle.search_definition.specs.Found.{Out}
use Rattle.search_definition.specs.Search.{search_1d_bracketed}
use Rattle.search_definition.specs.Demand.{Demand3}
use Rattle.search_error.specs.Error.{error_i, t64_count}
use Rattle.search.specs.Searched.{Listed, search_within}
use Rattle.search_pairs.specs.declared.lent_pairs.LentPairs.{LentPairs}

-- the search's definition over the error of two_parallel: its list, with what added each position, and the angles that it asks
abbrev pub two_parallel_search : Kinematics → Matrix → Vector3 → ℕ → Out
two_parallel_search kin r_06 p_0t n = search_within (error_i kin r_06 p_0t) n

module _ (kin : Kinematics) (r_06 : Matrix) (p_0t : Vector3) (n : ℕ) where
  pub record Demanded (old new : LentPairs) : Type 0 where
    -- "evaluates its error exactly as often as the definition does": its field `evals`.
    -- "The search's list is then the definition's, bit for bit and in its order": its fields `angles`, `components` and `pairs`.
    pub listed : Listed (search_1d_bracketed (error_i kin r_06 p_0t) n) old new
    -- "at most n + 1 + 3,128 × n times", of the count that the call gives
    pub bounded : new.evals ≤ n + 1 + 3128 * n
    pub few : new.pairs ≤ 44 * n
    -- "every pair (q1, i) in it has q1 finite, error i at q1 finite, and i below the number of subproblem 6's answers at q1. No crossing is lost: [..]"
    pub definition : Demand3 (error_i kin r_06 p_0t) n (t64_count kin r_06 p_0t)
