-- The list of pairs, and what a way does to it.
use Rattle.std.specs.Prelude.{cond, List, [], ◌∷◌, ◌++◌, ℕ, ltb, length, Float, Option, Some, None}
use Rattle.search_definition.specs.Found.{Entry, Origin, component}
use Rattle.search_steps.specs.Way.{Way, pause, over}
use Rattle.step_pairs.specs.declared.Found.{Found}

abbrev pub entry_of : Float → Origin → Entry
entry_of x o = record { q1 = x; origin = o }

-- an entry without what added it, as the code keeps it
abbrev pub pair_of : Entry → Found
pair_of e = record { q1 = e.q1; component = component e.origin }

-- a pair more, where a list for so many pairs has room
unfoldable pub put_one : ℕ → List Found → Entry → List Found
put_one room h e = cond (ltb (length h) room) (h ++ (pair_of e ∷ [])) h

unfoldable pub putting : ℕ → List Found → List Entry → List Found
putting room h [] = h
putting room h (e ∷ l) = putting room (put_one room h e) l

-- the list, and the state that asks, or none
pub record Landed (S : Type 0) : Type 0 where
  pub list : List Found
  pub now_at : Option S

abbrev pub landing : {S : Type 0} → List Found → Option S → Landed S
landing h s = record { list = h; now_at = s }

unfoldable pub landed : {S : Type 0} → ℕ → List Found → Way S → Landed S
landed room h (pause e s) = landing (putting room h e) (Some s)
landed room h (over e) = landing (putting room h e) None

-- what the code leaves in the list and returns, with its own state read as the machine's
abbrev pub came : {T S : Type 0} → (T → S) → List Found → Option T → Landed S
came f h (Some t) = landing h (Some (f t))
came f h None = landing h None
