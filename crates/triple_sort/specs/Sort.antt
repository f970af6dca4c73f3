-- The comparison and the sort of reduced_solutionset (subproblem5 of subproblems/mod.rs), as document 01 fixes them:
-- "Triples compare by their first unequal number; equals keep their order; a NaN counts as above every number and equal to a NaN (the Rust would panic)."
-- "The second sort compares the ordering value first, then the triple." -0.0 and 0.0 are equal.
use Prim.Native.Nat.{ℕ, zero, suc, ◌-◌}
use Rattle.std.specs.Prelude.{Bool, true, false, cond, not, ◌||◌, Float, length}
use mathlib.Core.List.{List, [], ◌∷◌}
use Rattle.std.specs.Float.Ieee.{lt, is_nan}
use Rattle.solutionset.specs.declared.Triple.{Triple}
use Rattle.triple_sort.specs.declared.Ordered.{Ordered}

-- whether the first compares above the second
unfoldable pub number_above : Float → Float → Bool
number_above a b = cond (is_nan a) (not (is_nan b)) (lt b a)

-- by two numbers, or where these are equal by the rest
abbrev pub then_by : Float → Float → Bool → Bool
then_by a b rest = cond (number_above a b) true (cond (number_above b a) false rest)

unfoldable pub triple_above : Triple → Triple → Bool
unfolding number_above
triple_above a b =
    then_by a.first b.first (then_by a.second b.second (number_above a.third b.third))

unfoldable pub ordered_above : Ordered → Ordered → Bool
unfolding triple_above
ordered_above a b = then_by a.ordering b.ordering (triple_above a.solution b.solution)

-- what a sort gives: "Its result is as before, for equals and NaNs too; beside it the sort gives the number of passes made"
pub record SortOf (A : Type 0) : Type 0 where
  pub result : List A
  pub passes : ℕ

module _ {A : Type 0} (above : A → A → Bool) where
  -- "A pass goes from the first slot to the last over neighbours and exchanges two exactly if the earlier compares above the later":
  -- so it carries on the higher of a, which it has come with, and the next
  unfoldable pub carry : A → List A → List A
  carry a [] = a ∷ []
  carry a (b ∷ l) = cond (above a b) b a ∷ carry (cond (above a b) a b) l

  unfoldable pub pass : List A → List A
  unfolding carry
  pass [] = []
  pass (a ∷ l) = carry a l

  -- whether a pass exchanges any two
  unfoldable pub carry_exchanges : A → List A → Bool
  carry_exchanges a [] = false
  carry_exchanges a (b ∷ l) = above a b || carry_exchanges (cond (above a b) a b) l

  unfoldable pub exchanges : List A → Bool
  unfolding carry_exchanges
  exchanges [] = false
  exchanges (a ∷ l) = carry_exchanges a l

  -- at most k passes, "up to and with the first that exchanges none, or all if each exchanges"
  unfoldable pub by_passes : ℕ → List A → SortOf A
  unfolding pass exchanges
  by_passes zero l = record { result = l; passes = 0 }
  by_passes (suc k) l =
      let after = cond (exchanges l) (by_passes k (pass l)) (record { result = pass l; passes = 0 }) in
      record { result = after.result; passes = suc after.passes }

  -- "let each of the two sorts go by passes, at most one fewer than there are candidates, and end after the first that exchanges none"
  unfoldable pub sort : List A → SortOf A
  unfolding by_passes
  sort l = by_passes (length l - 1) l
