-- solutionset.rs, SolutionSet2: its list and number, and its methods. Document 01: "Where an answer is an enum, a
-- definition gives this paper's number and values for each of its cases."
use Rattle.std.specs.Prelude.{ℕ, ◌≤◌, List, [], ◌∷◌, length, get_or}
use Rattle.std.proofs.Common.{arith}
use Rattle.solutionset.specs.declared.set2.SolutionSet2.{SolutionSet2}
use Rattle.solutionset.specs.declared.set2.SolutionSet2.TheVariants.{Zero, One, Two}

module _ {T : Type 0} where
  abbrev pub get_all : SolutionSet2 T → List T
  get_all Zero = []
  get_all (One s) = s ∷ []
  get_all (Two s1 s2) = s1 ∷ s2 ∷ []

  abbrev pub size : SolutionSet2 T → ℕ
  size s = length (get_all s)

  -- a set has at most two
  pub few : (s : SolutionSet2 T) → size s ≤ 2
  few Zero = omega arith
  few (One s) = omega arith
  few (Two s1 s2) = omega arith

  -- the solution with the number i, of those that there are, and else d
  abbrev pub at : T → SolutionSet2 T → ℕ → T
  at d s i = get_or (get_all s) i d

  -- of a set that has any
  abbrev pub get_first : T → SolutionSet2 T → T
  get_first d s = at d s 0

  -- of a set of one: `expect_one` asks that it is
  abbrev pub expect_one : T → SolutionSet2 T → T
  expect_one d Zero = d
  expect_one d (One s) = s
  expect_one d (Two s1 s2) = d

  -- of a set of two: `expect_two` asks that it is
  abbrev pub expect_two : T → SolutionSet2 T → T × T
  expect_two d Zero = (d, d)
  expect_two d (One s) = (d, d)
  expect_two d (Two s1 s2) = (s1, s2)

  abbrev pub duplicated : SolutionSet2 T → SolutionSet2 T
  duplicated (One s) = Two s s
  duplicated (Two s1 s2) = Two s1 s2
  duplicated Zero = Zero

  -- of a list of at most two: `from_vec` asks that it is
  abbrev pub from_vec : List T → SolutionSet2 T
  from_vec [] = Zero
  from_vec (s ∷ []) = One s
  from_vec (s1 ∷ s2 ∷ more) = Two s1 s2
