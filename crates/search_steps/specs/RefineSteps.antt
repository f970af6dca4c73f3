-- refine_bracket in steps of one evaluation. Definitions only.
use Rattle.std.specs.Prelude.{Bool, true, false, List, [], ◌∷◌, ℕ, zero, suc, Float}
use Rattle.float.specs.Number.{is_finite}
use Rattle.search_definition.specs.Found.{Entry, Origin, Step, again, leave}
use Rattle.search_definition.specs.Refine.{Bracket, bracket, next, if_value}
use Rattle.search_definition.specs.Dip.{Point}
use Rattle.search_steps.specs.Way.{Way, pause, over}

-- It asks at `next at`; `left` turns may follow this one.
pub record Refining : Type 0 where
  pub left : ℕ
  pub at : Bracket

abbrev pub refining : ℕ → Bracket → Refining
refining k s = record { left = k; at = s }

unfoldable pub refine_angle : Refining → Float
refine_angle r = next r.at

abbrev pub one_pair : Float → Origin → List Entry
one_pair x o = record { q1 = x; origin = o } ∷ []

module _ (o : Origin) where
  unfoldable pub if_guess : Bool → ℕ → Bracket → Way Refining
  if_guess true k s = pause [] (refining k s)
  if_guess false k s = over (one_pair s.x o)

  -- at most so many turns from a bracket. A guess that is not finite ends it with no evaluation.
  unfoldable pub refine_way : ℕ → Bracket → Way Refining
  refine_way zero s = over (one_pair s.x o)
  refine_way (suc k) s = if_guess (is_finite (next s)) k s

  unfoldable pub refine_turned : ℕ → Step Bracket Float → Way Refining
  refine_turned k (again l s) = refine_way k s
  refine_turned k (leave l x) = over (one_pair x o)

  -- the turn's end, with the value at the guess
  unfoldable pub refine_next : Refining → Float → Way Refining
  refine_next r y = refine_turned r.left (if_value (is_finite y) (next r.at) y r.at)

  -- all of it, between two points
  unfoldable pub refine_start : Point → Point → Way Refining
  refine_start p q = refine_way 60 (bracket p.x q.x p.y q.y)
