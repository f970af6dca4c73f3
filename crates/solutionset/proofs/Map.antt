-- A map of a set is the set of the list's map.
use mathlib.Core.Path.{◌≡◌, refl}
use mathlib.Core.List.{List, [], ◌∷◌, map as list_map}
use Rattle.solutionset.specs.SolutionSet4.{get_all, from_vec, map}
use Rattle.solutionset.specs.declared.set4.SolutionSet4.{SolutionSet4}
use Rattle.solutionset.specs.declared.set4.SolutionSet4.TheVariants.{Zero, One, Two, Three, Four}

module _ {T U : Type 0} (f : T → U) where
  pub map_from_vec : (l : List T) → map f (from_vec l) ≡ from_vec (list_map f l)
  map_from_vec [] = refl
  map_from_vec (a ∷ []) = refl
  map_from_vec (a ∷ b ∷ []) = refl
  map_from_vec (a ∷ b ∷ c ∷ []) = refl
  map_from_vec (a ∷ b ∷ c ∷ d ∷ l) = refl

  pub map_get_all : (s : SolutionSet4 T) → map f s ≡ from_vec (list_map f (get_all s))
  map_get_all Zero = refl
  map_get_all (One a) = refl
  map_get_all (Two a b) = refl
  map_get_all (Three a b c) = refl
  map_get_all (Four a b c d) = refl
