-- What the sort of src/ gives and leaves, for contracts: no definition cites this file.
use Rattle.std.specs.Prelude.{Bool, List, ℕ}
use Rattle.triple_sort.specs.Sort.{SortOf, sort}

abbrev pub in_order : {A : Type 0} → (A → A → Bool) → List A → List A
in_order above l = (sort above l).result

-- a list as a sort leaves it, and the number that it gives
abbrev pub sorted : {A : Type 0} → List A → ℕ → SortOf A
sorted l n = record { result = l; passes = n }
