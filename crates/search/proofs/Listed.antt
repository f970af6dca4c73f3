-- What the search's contract means: the fields of `Searched`, and the whole lists where there is room for every pair. Assumes nothing.
use mathlib.Core.Path.{◌≡◌, sym, ◌∙◌, ap, subst}
use mathlib.Core.List.{◌++◌, map}
use Prim.Native.Nat.{ℕ, ◌*◌, ◌≤◌, ◌<◌}
use native.Mathlib.Omega.{arith}
use native.Mathlib.Nat.{zero-add}
use borrow.Author.Tests.{le-leb, lt-leb}
use lib.ListN.{length, drop, length-map}
use lib.Seq.{sets-eq}
use lib.Ieee.{Float}
use Rattle.search_definition.specs.Found.{Out, nothing}
use Rattle.search_definition.specs.Search.{search_1d_bracketed}
use Rattle.search_definition.proofs.Bounds.{search_held}
use Rattle.search.specs.State.{State, emptied, state, angle_of, component_of, afterwards}
use Rattle.search.specs.Searched.{Searched, Listed, search_within}
use Rattle.search_pairs.specs.declared.lent_pairs.LentPairs.{LentPairs}

pub searched : (o : Out) (old : LentPairs) {new : LentPairs} → state new ≡ afterwards (emptied (state old)) o → Searched o old new
unfolding afterwards
searched o old e =
    record {
      angles = ap (λ (z : State). z.angles) e;
      components = ap (λ (z : State). z.components) e;
      pairs = ap (λ (z : State). z.pairs) e ∙ zero-add _;
      evals = ap (λ (z : State). z.evals) e ∙ zero-add _;
      lists = ap (λ (z : State). z.lists) e;
    }

pub same_error : {err err' : ℕ → Float → Float} (n : ℕ) (old : LentPairs) {new : LentPairs} → err ≡ err' → Searched (search_within err n) old new → Searched (search_within err' n) old new
same_error n old {new} e s = subst (λ (f : ℕ → Float → Float). Searched (search_within f n) old new) e s

module _ (err : ℕ → Float → Float) (n : ℕ) where
  pub within : n ≤ 400 → search_1d_bracketed err n ≡ search_within err n
  within h = rw (le-leb n 400 h)

  pub beyond : 400 < n → nothing ≡ search_within err n
  beyond h = rw (lt-leb n 400 h)

  pub listed : (old : LentPairs) {new : LentPairs} → n ≤ 400 → 44 * n ≤ length old.angles.now → 44 * n ≤ length old.components.now → Searched (search_within err n) old new → Listed (search_1d_bracketed err n) old new
  listed old {new} h a b w =
      let s : Searched (search_1d_bracketed err n) old new = rw (within h) w in
      let l = (search_1d_bracketed err n).found in
      let k = search_held err n in
      let m : length (map angle_of l) ≡ length l = length-map l angle_of in
      let p : length (map component_of l) ≡ length l = length-map l component_of in
      record {
        angles = s.angles ∙ sets-eq (map angle_of l) old.angles.now 0 (omega (arith, k.pairs)) ∙ ap (λ (j : ℕ). map angle_of l ++ drop j old.angles.now) (zero-add _ ∙ m ∙ sym s.pairs);
        components = s.components ∙ sets-eq (map component_of l) old.components.now 0 (omega (arith, k.pairs)) ∙ ap (λ (j : ℕ). map component_of l ++ drop j old.components.now) (zero-add _ ∙ p ∙ sym s.pairs);
        pairs = s.pairs;
        evals = s.evals;
      }
