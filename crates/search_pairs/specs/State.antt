-- What the code lists of a search, in the definition's words: two lent lists with what is written there, and the counts.
use Rattle.std.specs.Prelude.{List, map, ℕ, ◌+◌, ◌*◌, ◌≤◌, length, Float}
use Rattle.std.specs.Borrow.{GName, MutBor}
use Rattle.std.proofs.lemmas.List.Edits.{sets}
use Rattle.search_definition.specs.Found.{Entry, Out, component}
use Rattle.search_pairs.specs.declared.lent_pairs.LentPairs as DeclaredPairs

abbrev pub angle_of : Entry → Float
angle_of e = e.q1

abbrev pub component_of : Entry → ℕ
component_of e = component e.origin

-- which two lists were lent: what they hold in the end is what stands there when the loan is over
pub record Lists : Type 0 where
  pub angles : GName
  pub components : GName

abbrev pub lists_of : MutBor (List Float) → MutBor (List ℕ) → Lists
lists_of q c = record { angles = q.ghost_name; components = c.ghost_name }

pub record State : Type 0 where
  pub angles : List Float
  pub components : List ℕ
  pub pairs : ℕ
  pub evals : ℕ
  pub lists : Lists

abbrev pub held : List Float → List ℕ → ℕ → ℕ → Lists → State
held q c p n l = record { angles = q; components = c; pairs = p; evals = n; lists = l }

-- nothing is listed yet
abbrev pub emptied : State → State
emptied s = held s.angles s.components 0 0 s.lists

abbrev pub state : DeclaredPairs.LentPairs → State
state f = held f.angles.now f.components.now f.pairs f.evals (lists_of f.angles f.components)

-- The counts are so low that none overflows, whatever the part that asks for this level adds.
abbrev pub Roomy : ℕ → DeclaredPairs.LentPairs → Type 0
Roomy level f = (f.pairs ≤ level) × (f.evals ≤ 1000 * level)

-- The state after a part of the search: its pairs are written from the place on, as far as the lists have room, and the two counts go on by all of them.
unfoldable pub afterwards : State → Out → State
afterwards s o =
    record {
      angles = sets s.angles s.pairs (map angle_of o.found);
      components = sets s.components s.pairs (map component_of o.found);
      pairs = s.pairs + length o.found;
      evals = s.evals + length o.asked;
      lists = s.lists;
    }
