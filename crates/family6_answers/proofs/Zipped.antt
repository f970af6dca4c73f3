-- Two lists side by side as a list of pairs. Assumes nothing.
use mathlib.Core.Path.{◌≡◌, refl, sym, ◌∙◌, ap}
use mathlib.Core.List.{List, [], ◌∷◌}
use Prim.Native.Nat.{ℕ, zero, suc, ◌≤◌, ◌<◌}
use native.Mathlib.Omega.{arith}
use native.Mathlib.Nat.{not-suc-le-zero}
use lib.Ieee.{Float, nan}
use lib.ListN.{length, take, get_or}
use lib.Seq.{get_or-take, length-take-le}
use Rattle.search_definition.specs.Found.{SearchPair}
use Rattle.family6_answers.specs.Pairs.{pair, zipped, first_pairs}

zipped_at : (qs : List Float) (cs : List ℕ) (j : ℕ) (d : SearchPair) → j < length qs → j < length cs → get_or (zipped qs cs) j d ≡ pair (get_or qs j nan) (get_or cs j 0)
unfolding zipped
zipped_at [] cs j d h k = absurd (not-suc-le-zero h)
zipped_at (q ∷ qs) [] j d h k = absurd (not-suc-le-zero k)
zipped_at (q ∷ qs) (i ∷ cs) zero d h k = refl
zipped_at (q ∷ qs) (i ∷ cs) (suc j) d h k = zipped_at qs cs j d (omega arith) (omega arith)

zipped_long : (qs : List Float) (cs : List ℕ) → length qs ≡ length cs → length (zipped qs cs) ≡ length qs
unfolding zipped
zipped_long [] cs e = refl
zipped_long (q ∷ qs) [] e = sym e
zipped_long (q ∷ qs) (i ∷ cs) e = ap suc (zipped_long qs cs (omega arith))

module _ (m : ℕ) (qs : List Float) (cs : List ℕ) (hq : m ≤ length qs) (hc : m ≤ length cs) where
  pub first_long : length (first_pairs m qs cs) ≡ m
  first_long = zipped_long (take m qs) (take m cs) (length-take-le m qs hq ∙ sym (length-take-le m cs hc)) ∙ length-take-le m qs hq

  pub first_at : (j : ℕ) (d : SearchPair) → j < m → get_or (first_pairs m qs cs) j d ≡ pair (get_or qs j nan) (get_or cs j 0)
  first_at j d h =
      let a : length (take m qs) ≡ m = length-take-le m qs hq in
      let b : length (take m cs) ≡ m = length-take-le m cs hc in
      rw (zipped_at (take m qs) (take m cs) j d (omega arith) (omega arith), get_or-take m qs j nan h, get_or-take m cs j 0 h)
