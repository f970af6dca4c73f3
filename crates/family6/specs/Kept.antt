-- What family 6 keeps of its answers: the search's pairs, in two lists.
use Rattle.std.specs.Prelude.{◌≡◌, List, ℕ, ◌≤◌, ◌<◌, Float, length, get_or}
use Rattle.std.specs.Float.{nan}
use Rattle.linear.specs.Matrix.{Matrix}
use Rattle.linear.specs.declared.vector.Vector3.{Vector3}
use Rattle.kinematics.specs.declared.Kinematics.{Kinematics}
use Rattle.search_definition.specs.Found.{pairs}
use Rattle.search_error.specs.Error.{t64_count}
use Rattle.search_pairs.specs.declared.pair_list.PairList.{PairList}
use Rattle.search.specs.Demand.{two_parallel_search}
use Rattle.family6_answers.specs.Pairs.{first_pairs}
use Rattle.family6.specs.TwoParallel.{evaluations}

-- subproblem 6 has the answer of each of the first m pairs
abbrev pub Usable : Matrix → Vector3 → Kinematics → ℕ → List Float → List ℕ → Type 0
Usable r_06 p_0t kin m qs cs = (j : ℕ) → j < m → get_or cs j 0 < t64_count kin r_06 p_0t (get_or qs j nan)

pub record Kept (r_06 : Matrix) (p_0t : Vector3) (kin : Kinematics) (n : ℕ) {N : ℕ} (list : PairList N) : Type 0 where
  pub held : first_pairs list.pairs list.angles list.components ≡ pairs (two_parallel_search kin r_06 p_0t n)
  pub usable : Usable r_06 p_0t kin list.pairs list.angles list.components
  pub counted : list.evals ≡ evaluations r_06 p_0t kin n
  -- the pairs are within both lists
  pub few : list.pairs ≤ 17600
  pub qs_long : length list.angles ≡ 17600
  pub cs_long : length list.components ≡ 17600
