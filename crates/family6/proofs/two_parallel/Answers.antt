-- The search, and what its lists then hold.
use mathlib.Core.Path.{◌≡◌, ◌∙◌, ap}
use mathlib.Core.List.{map}
use Prim.Native.Nat.{ℕ}
use native.Mathlib.Omega.{arith}
use lib.ListN.{length}
use lib.Seq.{length-sets}
use Rattle.linear.specs.Matrix.{Matrix}
use Rattle.linear.specs.declared.vector.Vector3.{Vector3}
use Rattle.kinematics.specs.declared.Kinematics.{Kinematics}
use Rattle.search_error.specs.Fixed.{fixed, error_at}
use Rattle.search_error.specs.declared.Fixed.{Fixed}
use Rattle.search_pairs.specs.State.{State, angle_of, component_of}
use Rattle.search_pairs.specs.declared.lent_pairs.LentPairs.{LentPairs}
use Rattle.search_pairs.specs.declared.pair_list.PairList.{PairList}
use Rattle.search.specs.Searched.{Searched, search_within}
use Rattle.family6.specs.TwoParallel.{evaluations}
use Rattle.family6.specs.Kept.{Kept}
use Rattle.family6.proofs.Held.{pairs_fit, all_usable, search_held, search_evals}
use Rattle.family6.proofs.two_parallel.Goals as goal

module _ (r_06 : Matrix) (p_0t : Vector3) (kin : Kinematics) (n : ℕ) {g : Fixed} (old : LentPairs) {new : LentPairs}
    (lq : length old.angles.now ≡ 17600)
    (lc : length old.components.now ≡ 17600)
    (e : g ≡ fixed kin r_06 p_0t)
    (w : Searched (search_within (error_at g) n) old new) where
  same_evaluations : new.evals ≡ evaluations r_06 p_0t kin n
  unfolding evaluations
  same_evaluations = search_evals kin r_06 p_0t n e old w lq lc

  -- the lists that were lent, with the counts, are the list that is left
  abbrev left : PairList 17600
  left = record { angles = new.angles.now; components = new.components.now; pairs = new.pairs; evals = new.evals }

  kept : Kept r_06 p_0t kin n left
  kept =
      record {
        held = search_held kin r_06 p_0t n e old w lq lc;
        usable = all_usable kin r_06 p_0t n e old w lq lc;
        counted = same_evaluations;
        few = pairs_fit kin r_06 p_0t n e old w lq lc;
        qs_long = ap length w.angles ∙ length-sets old.angles.now 0 (map angle_of (search_within (error_at g) n).found) ∙ lq;
        cs_long = ap length w.components ∙ length-sets old.components.now 0 (map component_of (search_within (error_at g) n).found) ∙ lc;
      }

pub returns : goal.returns
returns c =
    let a = c.args in
    let angles : length c.new-lent.result.angles.now ≡ 17600 = ap (λ (s : State). length s.angles) c.new-lent.ensures ∙ omega arith in
    let components : length c.new-lent.result.components.now ≡ 17600 = ap (λ (s : State). length s.components) c.new-lent.ensures ∙ omega arith in
    kept a.r_06 a.p_0t a.kin a.n c.new-lent.result angles components c.new.ensures c.search_1d_bracketed.ensures
