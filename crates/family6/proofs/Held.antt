-- What the two lists hold after the search: its pairs, each of them with an answer of subproblem 6. Assumes nothing.
use mathlib.Core.Path.{◌≡◌, refl, sym, ◌∙◌, ap}
use mathlib.Core.Bool.{Bool, true, false, cond}
use mathlib.Core.List.{List, [], ◌∷◌, map}
use Prim.Native.Nat.{ℕ, ◌*◌, ◌≤◌, ◌<◌}
use native.Mathlib.Omega.{arith}
use native.Mathlib.Nat.{not-suc-le-zero}
use borrow.Author.Tests.{leb-true}
use lib.Dec.{leb}
use lib.Ieee.{Float, nan}
use lib.ListN.{length, take, get_or, length-map, get_or-map}
use lib.Seq.{sets-eq, take_at, get_or-take}
use Rattle.linear.specs.Matrix.{Matrix}
use Rattle.linear.specs.declared.vector.Vector3.{Vector3}
use Rattle.kinematics.specs.declared.Kinematics.{Kinematics}
use Rattle.search_definition.specs.Found.{Entry, Out, nothing, SearchPair, component, pair_of, pairs}
use Rattle.search_definition.specs.Search.{search_1d_bracketed}
use Rattle.search_definition.specs.Demand.{Demand3, blank}
use Rattle.search_definition.proofs.Demand.{demand_3}
use Rattle.search_error.specs.Error.{error_i, t64_count}
use Rattle.search_error.specs.Fixed.{fixed, error_at}
use Rattle.search_error.specs.declared.Fixed.{Fixed}
use Rattle.search_error.proofs.SameError.{error_at_same}
use Rattle.search_error.proofs.Strict.{strict}
use Rattle.search_pairs.specs.State.{angle_of, component_of}
use Rattle.search.specs.Searched.{Searched, search_within}
use Rattle.search.specs.Demand.{two_parallel_search}
use Rattle.search_pairs.specs.declared.lent_pairs.LentPairs.{LentPairs}
use Rattle.search.proofs.Listed.{same_error}
use Rattle.family6_answers.specs.Pairs.{pair, zipped, first_pairs}
use Rattle.family6.specs.Kept.{Usable}

-- ---- lists of pairs
zipped_map : (l : List Entry) → zipped (map angle_of l) (map component_of l) ≡ map pair_of l
unfolding zipped pair_of
zipped_map [] = refl
zipped_map (e ∷ l) = ap (λ (t : List SearchPair). pair (angle_of e) (component_of e) ∷ t) (zipped_map l)

-- ---- after a search whose pairs all fit
module _ (o : Out) (old : LentPairs) {new : LentPairs} (s : Searched o old new) (hq : length o.found ≤ length old.angles.now) (hc : length o.found ≤ length old.components.now) where
  angles_first : take new.pairs new.angles.now ≡ map angle_of o.found
  angles_first =
      let m : length (map angle_of o.found) ≡ length o.found = length-map o.found angle_of in
      rw (s.pairs, s.angles, sets-eq (map angle_of o.found) old.angles.now 0 (omega arith))
      (take_at (map angle_of o.found) _ (length o.found) m)

  components_first : take new.pairs new.components.now ≡ map component_of o.found
  components_first =
      let m : length (map component_of o.found) ≡ length o.found = length-map o.found component_of in
      rw (s.pairs, s.components, sets-eq (map component_of o.found) old.components.now 0 (omega arith))
      (take_at (map component_of o.found) _ (length o.found) m)

  pub held : first_pairs new.pairs new.angles.now new.components.now ≡ pairs o
  unfolding pairs
  held = rw (angles_first, components_first) (zipped_map o.found)

  angle_held : (j : ℕ) → j < new.pairs → get_or new.angles.now j nan ≡ (get_or o.found j blank).q1
  angle_held j h = sym (get_or-take new.pairs new.angles.now j nan h) ∙ ap (λ (l : List Float). get_or l j nan) angles_first ∙ get_or-map angle_of o.found j blank

  component_held : (j : ℕ) → j < new.pairs → get_or new.components.now j 0 ≡ component (get_or o.found j blank).origin
  unfolding component
  component_held j h = sym (get_or-take new.pairs new.components.now j 0 h) ∙ ap (λ (l : List ℕ). get_or l j 0) components_first ∙ get_or-map component_of o.found j blank

-- ---- after the search of two_parallel
module _ (kin : Kinematics) (r_06 : Matrix) (p_0t : Vector3) (n : ℕ) where
  demand : Demand3 (error_i kin r_06 p_0t) n (t64_count kin r_06 p_0t)
  demand = demand_3 (error_i kin r_06 p_0t) n (t64_count kin r_06 p_0t) (strict kin r_06 p_0t)

  pub few : length (two_parallel_search kin r_06 p_0t n).found ≤ 44 * n
  few = go (leb n 400)
    where
      go : (b : Bool) → length (cond b (search_1d_bracketed (error_i kin r_06 p_0t) n) nothing).found ≤ 44 * n
      go true = demand.listed
      go false = omega arith

  fits : length (two_parallel_search kin r_06 p_0t n).found ≤ 17600
  fits = go (leb n 400) refl
    where
      go : (b : Bool) → leb n 400 ≡ b → length (cond b (search_1d_bracketed (error_i kin r_06 p_0t) n) nothing).found ≤ 17600
      go true e = omega (arith, demand.listed, leb-true n 400 e)
      go false e = omega arith

  usable : (j : ℕ) → j < length (two_parallel_search kin r_06 p_0t n).found → component (get_or (two_parallel_search kin r_06 p_0t n).found j blank).origin < t64_count kin r_06 p_0t (get_or (two_parallel_search kin r_06 p_0t n).found j blank).q1
  usable j = go (leb n 400)
    where
      go : (b : Bool)
          → j < length (cond b (search_1d_bracketed (error_i kin r_06 p_0t) n) nothing).found
          → component (get_or (cond b (search_1d_bracketed (error_i kin r_06 p_0t) n) nothing).found j blank).origin < t64_count kin r_06 p_0t (get_or (cond b (search_1d_bracketed (error_i kin r_06 p_0t) n) nothing).found j blank).q1
      go true h = (demand.usable j h).answered
      go false h = absurd (not-suc-le-zero h)

  -- as the call has it: `g` is what is computed once
  module _ {g : Fixed} (e : g ≡ fixed kin r_06 p_0t) (old : LentPairs) {new : LentPairs} (w : Searched (search_within (error_at g) n) old new) (lq : length old.angles.now ≡ 17600) (lc : length old.components.now ≡ 17600) where
    searched : Searched (two_parallel_search kin r_06 p_0t n) old new
    searched = same_error n old (ap error_at e ∙ error_at_same kin r_06 p_0t) w

    room : length (two_parallel_search kin r_06 p_0t n).found ≤ length old.angles.now
    room = omega (arith, fits)

    room' : length (two_parallel_search kin r_06 p_0t n).found ≤ length old.components.now
    room' = omega (arith, fits)

    pub pairs_fit : new.pairs ≤ 17600
    pairs_fit = omega (arith, fits, searched.pairs)

    pub all_usable : Usable r_06 p_0t kin new.pairs new.angles.now new.components.now
    all_usable j h =
        rw (angle_held (two_parallel_search kin r_06 p_0t n) old searched room room' j h, component_held (two_parallel_search kin r_06 p_0t n) old searched room room' j h)
        (usable j (omega (arith, searched.pairs)))

    pub search_held : first_pairs new.pairs new.angles.now new.components.now ≡ pairs (two_parallel_search kin r_06 p_0t n)
    search_held = held (two_parallel_search kin r_06 p_0t n) old searched room room'

    pub search_evals : new.evals ≡ length (two_parallel_search kin r_06 p_0t n).asked
    search_evals = searched.evals
