-- What `sort` of Sort.antt is for, stated for every list and every comparison that orders its values: its result is in order, and it is the list
-- permuted in such a way that equals keep their order. The proof is in proofs/Sorting.antt.
use Prim.Native.Nat.{ℕ, zero, suc, ◌-◌}
use Rattle.std.specs.Prelude.{◌≡◌, ◌≤◌, length, Bool, true, false, cond, not, ◌&&◌, List, [], ◌∷◌}
use Rattle.solutionset.specs.declared.Triple.{Triple}
use Rattle.triple_sort.specs.Sort.{triple_above, ordered_above, pass, sort}
use Rattle.triple_sort.specs.declared.Ordered.{Ordered}

module _ {A : Type 0} where
  -- a comparison that orders its values, of which several may be equal: not both ways, and what is not above goes through
  pub record Orders (above : A → A → Bool) : Type 0 where
    pub one_way : (a b : A) → above a b ≡ true → above b a ≡ false
    pub through : (a b c : A) → above a b ≡ false → above b c ≡ false → above a c ≡ false

  -- p of every member
  abbrev pub Every : (A → Type 0) → List A → Type 0
  Every p [] = Unit {0}
  Every p (a ∷ l) = p a × Every p l

  -- no member is above a later one
  abbrev pub Sorted : (A → A → Bool) → List A → Type 0
  Sorted above [] = Unit {0}
  Sorted above (a ∷ l) = Every (λ b. above a b ≡ false) l × Sorted above l

  -- the same members, each as often
  pub data Permuted : List A → List A → Type 0 where
    none : Permuted [] []
    after : (a : A) {l r : List A} → Permuted l r → Permuted (a ∷ l) (a ∷ r)
    exchange : (a b : A) (l : List A) → Permuted (a ∷ b ∷ l) (b ∷ a ∷ l)
    then : {l m r : List A} → Permuted l m → Permuted m r → Permuted l r

  -- those members that pass a test, in their order
  abbrev pub those : (A → Bool) → List A → List A
  those p [] = []
  those p (a ∷ l) = cond (p a) (a ∷ those p l) (those p l)

  -- equal in the comparison
  abbrev pub level : (A → A → Bool) → A → A → Bool
  level above a b = not (above a b) && not (above b a)

  pub record Sorts (above : A → A → Bool) (l r : List A) : Type 0 where
    pub sorted : Sorted above r
    pub permuted : Permuted l r
    pub stable : (a : A) → those (level above a) r ≡ those (level above a) l

-- the theorem, and its two uses in reduced_solutionset
abbrev pub SortSorts : Type 1
SortSorts = (A : Type 0) (above : A → A → Bool) → Orders above → (l : List A) → Sorts above l (sort above l).result

abbrev pub FirstSortSorts : Type 0
FirstSortSorts = (l : List Triple) → Sorts triple_above l (sort triple_above l).result

abbrev pub SecondSortSorts : Type 0
SecondSortSorts = (l : List Ordered) → Sorts ordered_above l (sort ordered_above l).result

-- ---- ending sooner
module _ {A : Type 0} (above : A → A → Bool) where
  -- k passes, whether they exchange any or not
  unfoldable pub all_passes : ℕ → List A → List A
  all_passes zero l = l
  all_passes (suc k) l = all_passes k (pass above l)

  -- "Its result is as before": that of one pass fewer than there are members. The number of passes: "at most one fewer than there are candidates"; none of no member
  -- or of one; of more that are in order the one that exchanges none
  pub record Sooner (l : List A) : Type 0 where
    pub as_before : (sort above l).result ≡ all_passes (length l - 1) l
    pub within : (sort above l).passes ≤ length l - 1
    pub no_pass : length l ≤ 1 → (sort above l).passes ≡ 0
    pub one_pass : 2 ≤ length l → Sorted above l → (sort above l).passes ≡ 1

abbrev pub SortSooner : Type 1
SortSooner = (A : Type 0) (above : A → A → Bool) (l : List A) → Sooner above l
