-- What the search leaves in the lent lists, and its counts.
use Rattle.std.specs.Prelude.{cond, List, ◌++◌, map, ◌≡◌, ℕ, ◌<◌, leb, length, drop, Float}
use Rattle.std.proofs.lemmas.List.Edits.{sets}
use Rattle.std.specs.Float.Ieee.{neg}
use Rattle.float.specs.Num.{◌⊕◌, ◌⊖◌, ◌⊗◌, ◌⊘◌, as_f64, pi}
use Rattle.search_definition.specs.Found.{Out, nothing, ◌then◌}
use Rattle.search_definition.specs.Dip.{Point}
use Rattle.search_definition.specs.Search.{sample, of_component, search_1d_bracketed}
use Rattle.search.specs.State.{column, angle_of, component_of, lists_of}
use Rattle.search_pairs.specs.declared.row.Sample.{Sample}
use Rattle.search_pairs.specs.declared.lent_pairs.LentPairs.{LentPairs}

-- left + k * delta, written out
abbrev pub spaced : ℕ → ℕ → Float
spaced n k = neg pi ⊕ as_f64 k ⊗ ((pi ⊖ neg pi) ⊘ as_f64 n)

-- the first m points of a row are those of a rule
abbrev pub Sampled : (ℕ → Point) → ℕ → (ℕ → Point) → Type 0
Sampled g m P = (k : ℕ) → k < m → P k ≡ g k

-- The first m of a list are the samples of the grid of n, in each of the error's components.
pub record Gridded (err : ℕ → Float → Float) (n m : ℕ) (l : List Sample) : Type 0 where
  pub each : (i : ℕ) → Sampled (sample err n i) m (column l i)

-- the four components, each over its row of samples
abbrev pub of_components : (ℕ → Float → Float) → ℕ → (ℕ → ℕ → Point) → Out
of_components err n P =
    of_component (err 0) 0 (P 0) n then of_component (err 1) 1 (P 1) n then of_component (err 2) 2 (P 2) n then of_component (err 3) 3 (P 3) n

-- The search for n up to 400; beyond that nothing is searched.
abbrev pub search_within : (ℕ → Float → Float) → ℕ → Out
search_within err n = cond (leb n 400) (search_1d_bracketed err n) nothing

-- The pairs of o stand in the two lists from the first place on, as far as there is room, and the rest of the lists is as it was. All pairs are counted, and all evaluations.
pub record Searched (o : Out) (old new : LentPairs) : Type 0 where
  pub angles : new.angles.now ≡ sets old.angles.now 0 (map angle_of o.found)
  pub components : new.components.now ≡ sets old.components.now 0 (map component_of o.found)
  pub pairs : new.pairs ≡ length o.found
  pub evals : new.evals ≡ length o.asked
  -- the lists are still those that were lent
  pub lists : lists_of new.angles new.components ≡ lists_of old.angles old.components

-- The same with room for every pair: the lists are the definition's, in its order, and then what stood there.
pub record Listed (o : Out) (old new : LentPairs) : Type 0 where
  pub angles : new.angles.now ≡ map angle_of o.found ++ drop new.pairs old.angles.now
  pub components : new.components.now ≡ map component_of o.found ++ drop new.pairs old.components.now
  pub pairs : new.pairs ≡ length o.found
  pub evals : new.evals ≡ length o.asked
