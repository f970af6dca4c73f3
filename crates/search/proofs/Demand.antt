-- Demand 3 of the search's contract, for every arm and pose. Assumes nothing.
use Prim.Native.Nat.{ℕ, ◌*◌, ◌≤◌}
use native.Mathlib.Omega.{arith}
use lib.ListN.{length}
use Rattle.linear.specs.Matrix.{Matrix}
use Rattle.linear.specs.declared.vector.Vector3.{Vector3}
use Rattle.kinematics.specs.declared.Kinematics.{Kinematics}
use Rattle.search_definition.specs.Search.{search_1d_bracketed}
use Rattle.search_definition.specs.Demand.{Demand3}
use Rattle.search_definition.proofs.Demand.{demand_3}
use Rattle.search_error.specs.Error.{error_i, t64_count}
use Rattle.search_error.proofs.Strict.{strict}
use Rattle.search.specs.Searched.{Searched, Listed}
use Rattle.search.specs.Demand.{two_parallel_search, Demanded}
use Rattle.search_pairs.specs.declared.lent_pairs.LentPairs.{LentPairs}
use Rattle.search.proofs.Listed.{listed}

pub demand : (kin : Kinematics) (r_06 : Matrix) (p_0t : Vector3) (n : ℕ) (old : LentPairs) {new : LentPairs} → 1 ≤ n → n ≤ 400 → 44 * n ≤ length old.angles.now → 44 * n ≤ length old.components.now → Searched (two_parallel_search kin r_06 p_0t n) old new → Demanded kin r_06 p_0t n old new
demand kin r_06 p_0t n old {new} one most room room' w =
    let err = error_i kin r_06 p_0t in
    let l : Listed (search_1d_bracketed err n) old new = listed err n old most room room' w in
    let d : Demand3 err n (t64_count kin r_06 p_0t) = demand_3 err n (t64_count kin r_06 p_0t) (strict kin r_06 p_0t) in
    record {
      listed = l;
      bounded = omega (arith, l.evals, d.evaluations);
      few = omega (arith, l.pairs, d.listed);
      definition = d;
    }
