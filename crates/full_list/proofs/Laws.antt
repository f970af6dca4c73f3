-- The answers of a search's pairs, one by one, and how many answers a list has.
use Prim.Native.Nat.{ℕ, zero, suc, ◌≤◌, ◌<◌}
use mathlib.Core.Path.{◌≡◌, refl, sym, ◌∙◌, ap}
use mathlib.Core.Bool.{Bool, true, false, cond}
use mathlib.Core.List.{List, [], ◌∷◌, map}
use native.Mathlib.Nat.{not-suc-le-zero}
use native.Mathlib.Omega.{arith}
use borrow.Author.Tests.{ne_eqb}
use lib.Dec.{eqb}
use lib.Ieee.{Float, nan}
use lib.ListN.{length, get_or, length-map}
use denote.Bor.{Bor}
use Rattle.std.proofs.lemmas.List.{take_all}
use Rattle.array_vec.specs.ArrayVec.{ArrayVec}
use Rattle.answers.specs.declared.Answer.{Answer}
use Rattle.linear.specs.Matrix.{Matrix}
use Rattle.linear.specs.declared.vector.Vector3.{Vector3}
use Rattle.kinematics.specs.declared.Kinematics.{Kinematics}
use Rattle.refusals.specs.Family.{family_number}
use Rattle.refusals.specs.declared.family.Family.{Family}
use Rattle.refusals.specs.declared.family.Family.TheVariants.{SphericalTwoParallel, SphericalTwoIntersecting, Spherical, ThreeParallelTwoIntersecting, ThreeParallel, TwoParallel}
use Rattle.families.specs.SphericalTwoParallel.{spherical_two_parallel}
use Rattle.families.specs.SphericalTwoIntersecting.{spherical_two_intersecting}
use Rattle.families.specs.Spherical.{spherical}
use Rattle.families.specs.ThreeParallelTwoIntersecting.{three_parallel_two_intersecting}
use Rattle.families.specs.ThreeParallel.{three_parallel}
use Rattle.families.proofs.AtMost8.{at_most_8}
use Rattle.search_definition.specs.Found.{SearchPair}
use Rattle.search_pairs.specs.declared.pair_list.PairList.{PairList}
use Rattle.family6_answers.specs.Pairs.{pair, zipped, first_pairs}
use Rattle.family6_answers.proofs.Zipped.{first_long, first_at}
use Rattle.family6.specs.TwoParallel.{answer_of, two_parallel}
use Rattle.family6.specs.Kept.{Kept}
use Rattle.full_list.specs.Full.{Full, no_search, without_search, by_family, tolerance}
use Rattle.full_list.specs.Task.{of_task}
use Rattle.full_list.specs.Listed.{blank, ListOf}
use Rattle.full_list.specs.declared.task.Task.{Task}
use Rattle.full_list.specs.declared.list.FullList.TheVariants.{Found}

map_at : {A B : Type 0} (f : A → B) (l : List A) (k : ℕ) (d : A) (e : B) → k < length l → get_or (map f l) k e ≡ f (get_or l k d)
map_at f [] k d e h = absurd (not-suc-le-zero h)
map_at f (x ∷ l) zero d e h = refl
map_at f (x ∷ l) (suc k) d e h = map_at f l k d e (omega arith)

module _ (qs : List Float) (cs : List ℕ) (same : length cs ≡ length qs) where
  all_of : first_pairs (length qs) qs cs ≡ zipped qs cs
  all_of = rw (take_all (length qs) qs (omega arith), take_all (length qs) cs (omega arith)) refl

  long : length (zipped qs cs) ≡ length qs
  long = ap length (sym all_of) ∙ first_long (length qs) qs cs (omega arith) (omega arith)

  -- as many answers as pairs
  pub pairs_long : (f : SearchPair → Answer) → length qs ≡ length (map f (zipped qs cs))
  pairs_long f = sym (length-map (zipped qs cs) f ∙ long)

  -- answer k is that of pair k
  pub pair_at : (f : SearchPair → Answer) (k : ℕ) → k < length qs → f (pair (get_or qs k nan) (get_or cs k 0)) ≡ get_or (map f (zipped qs cs)) k blank
  pair_at f k h =
      let within : k < length (zipped qs cs) = rw long h in
      let e : get_or (zipped qs cs) k (pair nan 0) ≡ pair (get_or qs k nan) (get_or cs k 0) =
      ap (λ l. get_or l k (pair nan 0)) (sym all_of) ∙ first_at (length qs) qs cs (omega arith) (omega arith) k (pair nan 0) h in
      sym (map_at f (zipped qs cs) k (pair nan 0) blank within ∙ ap f e)

-- the answers of the pairs that family 6 keeps are its list
module _ (r : Matrix) (p : Vector3) (kin : Kinematics) (n : ℕ) {N : ℕ} {list : PairList N} (kept : Kept r p kin n list) where
  pub searched : map (answer_of r p kin tolerance) (first_pairs list.pairs list.angles list.components) ≡ (by_family 6 n r p kin tolerance).answers
  unfolding by_family two_parallel
  searched = ap (map (answer_of r p kin tolerance)) kept.held

  pub searched_counted : list.evals ≡ (by_family 6 n r p kin tolerance).evals
  unfolding by_family
  searched_counted = kept.counted

-- at most eight answers of families 1 to 5
five_few : (r : Matrix) (p : Vector3) (kin : Kinematics) (tolerance : Float) (a b c d : Bool)
    → length (cond a (spherical_two_parallel r p kin tolerance) (cond b (spherical_two_intersecting r p kin tolerance) (cond c (spherical r p kin tolerance) (cond d (three_parallel_two_intersecting r p kin tolerance) (three_parallel r p kin tolerance))))) ≤ 8
five_few r p kin tolerance true b c d = (at_most_8 r p kin tolerance).family1
five_few r p kin tolerance false true c d = (at_most_8 r p kin tolerance).family2
five_few r p kin tolerance false false true d = (at_most_8 r p kin tolerance).family3
five_few r p kin tolerance false false false true = (at_most_8 r p kin tolerance).family4
five_few r p kin tolerance false false false false = (at_most_8 r p kin tolerance).family5

pub without_search_few : (family : ℕ) (r : Matrix) (p : Vector3) (kin : Kinematics) (tolerance : Float) → length (without_search family r p kin tolerance) ≤ 8
unfolding without_search
without_search_few family r p kin tolerance = five_few r p kin tolerance (eqb family 1) (eqb family 2) (eqb family 3) (eqb family 4)

-- which family's list it is
pub closed : (family n : ℕ) (r : Matrix) (p : Vector3) (kin : Kinematics) (tolerance : Float) → (family ≡ 6 → ⊥) → by_family family n r p kin tolerance ≡ no_search (without_search family r p kin tolerance)
unfolding by_family
closed family n r p kin tolerance h = rw (ne_eqb family 6 h)

pub not-six : (family : Family) → (family ≡ TwoParallel → ⊥) → family_number family ≡ 6 → ⊥
not-six SphericalTwoParallel h = λ e. omega arith
not-six SphericalTwoIntersecting h = λ e. omega arith
not-six Spherical h = λ e. omega arith
not-six ThreeParallelTwoIntersecting h = λ e. omega arith
not-six ThreeParallel h = λ e. omega arith
not-six TwoParallel h = λ e. h refl

-- a task whose family does not search
module _ (t : Task) where
  pub of_found : (t.family ≡ TwoParallel → ⊥) → {found : Bor (ArrayVec Answer)} → found.now.items ≡ (of_task t).answers → ListOf t (Found found)
  of_found other all =
      let e = closed (family_number t.family) t.n t.r_06 t.p_0t t.kin tolerance (not-six t.family other) in
      record { all = all; counted = sym (ap (λ (x : Full). x.evals) e) }
