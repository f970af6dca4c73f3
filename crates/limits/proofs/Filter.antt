-- Laws of the filtered list.
use Prim.Native.Nat.{suc, ◌≤◌}
use mathlib.Core.Path.{◌≡◌, refl, sym, ap}
use mathlib.Core.Bool.{Bool, true, false, cond}
use mathlib.Core.List.{List, [], ◌∷◌, ◌++◌, flat_map}
use native.Mathlib.Omega.{arith}
use lib.Ieee.{Float}
use lib.ListN.{length}
use Rattle.answers.specs.declared.Answer.{Answer}
use Rattle.limits.specs.Limits.{inside, allowed}
use Rattle.limits.specs.Allowed.{Filtered, none, stays, leaves, Allowed}

-- without limits every answer stays
pub unlimited : (all : List Answer) → allowed [] all ≡ all
unfolding allowed inside
unlimited [] = refl
unlimited (q ∷ all) = ap (λ (l : List Answer). q ∷ l) (unlimited all)

-- a list of no numbers is no limits
pub no_limits : (limits : List Float) → length limits ≡ 0 → (all : List Answer) → allowed limits all ≡ all
no_limits [] e all = unlimited all
no_limits (x ∷ limits) e all = let z : suc (length limits) ≡ 0 = e in absurd (omega arith)

module _ (limits : List Float) where
  choice : (q : Answer) (all : List Answer) (t : Bool) → inside limits q ≡ t → Filtered limits all (allowed limits all)
      → Filtered limits (q ∷ all) (cond t (q ∷ allowed limits all) (allowed limits all))
  choice q all true e f = stays e f
  choice q all false e f = leaves e f

  filtered : (all : List Answer) → Filtered limits all (allowed limits all)
  unfolding allowed
  filtered [] = none
  filtered (q ∷ all) = choice q all (inside limits q) refl (filtered all)

  fewer : {all some : List Answer} → Filtered limits all some → length some ≤ length all
  fewer none = omega arith
  fewer (stays e f) = let h = fewer f in omega arith
  fewer (leaves e f) = let h = fewer f in omega arith

  pub the_allowed : (all : List Answer) → Allowed limits all
  the_allowed all = record { filtered = filtered all; no_more = fewer (filtered all) }

  one_then : (q : Answer) (t : Bool) (a b : List Answer) → cond t (q ∷ (a ++ b)) (a ++ b) ≡ cond t (q ∷ a) a ++ b
  one_then q true a b = refl
  one_then q false a b = refl

  pub none_allowed : allowed limits [] ≡ []
  unfolding allowed
  none_allowed = refl

  -- of two lists, one behind the other
  pub both : (a b : List Answer) → allowed limits (a ++ b) ≡ allowed limits a ++ allowed limits b
  unfolding allowed
  both [] b = refl
  both (q ∷ a) b = rw (both a b) (one_then q (inside limits q) (allowed limits a) (allowed limits b))

  pub one_stays : (q : Answer) → inside limits q ≡ true → q ∷ [] ≡ allowed limits (q ∷ [])
  unfolding allowed
  one_stays q e = rw e

  pub one_leaves : (q : Answer) → inside limits q ≡ false → [] ≡ allowed limits (q ∷ [])
  unfolding allowed
  one_leaves q e = rw e

  -- the answers one by one
  pub each_allowed : (all : List Answer) → flat_map (λ q. allowed limits (q ∷ [])) all ≡ allowed limits all
  unfolding flat_map
  each_allowed [] = sym none_allowed
  each_allowed (q ∷ all) = rw (each_allowed all) (sym (both (q ∷ []) all))

  pub one_few : (q : Answer) → length (allowed limits (q ∷ [])) ≤ 1
  one_few q = (the_allowed (q ∷ [])).no_more
