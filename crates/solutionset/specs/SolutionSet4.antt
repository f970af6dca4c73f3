-- solutionset.rs, SolutionSet4: its list and number, and its methods. Document 01: "Where an answer is an enum, a
-- definition gives this paper's number and values for each of its cases."
use Rattle.std.specs.Prelude.{ℕ, ◌≤◌, List, [], ◌∷◌, length, get_or}
use Rattle.std.proofs.Common.{arith}
use Rattle.solutionset.specs.declared.set4.SolutionSet4.{SolutionSet4}
use Rattle.solutionset.specs.declared.set4.SolutionSet4.TheVariants.{Zero, One, Two, Three, Four}

module _ {T : Type 0} where
  abbrev pub get_all : SolutionSet4 T → List T
  get_all Zero = []
  get_all (One s) = s ∷ []
  get_all (Two s1 s2) = s1 ∷ s2 ∷ []
  get_all (Three s1 s2 s3) = s1 ∷ s2 ∷ s3 ∷ []
  get_all (Four s1 s2 s3 s4) = s1 ∷ s2 ∷ s3 ∷ s4 ∷ []

  abbrev pub size : SolutionSet4 T → ℕ
  size s = length (get_all s)

  -- a set has at most four
  pub few : (s : SolutionSet4 T) → size s ≤ 4
  few Zero = omega arith
  few (One s) = omega arith
  few (Two s1 s2) = omega arith
  few (Three s1 s2 s3) = omega arith
  few (Four s1 s2 s3 s4) = omega arith

  -- the solution with the number i, of those that there are, and else d
  abbrev pub at : T → SolutionSet4 T → ℕ → T
  at d s i = get_or (get_all s) i d

  -- of a set that has any
  abbrev pub get_first : T → SolutionSet4 T → T
  get_first d s = at d s 0

  -- of a set of one: `expect_one` asks that it is
  abbrev pub expect_one : T → SolutionSet4 T → T
  expect_one d Zero = d
  expect_one d (One s) = s
  expect_one d (Two s1 s2) = d
  expect_one d (Three s1 s2 s3) = d
  expect_one d (Four s1 s2 s3 s4) = d

  -- of a set of two: `expect_two` asks that it is
  abbrev pub expect_two : T → SolutionSet4 T → T × T
  expect_two d Zero = (d, d)
  expect_two d (One s) = (d, d)
  expect_two d (Two s1 s2) = (s1, s2)
  expect_two d (Three s1 s2 s3) = (d, d)
  expect_two d (Four s1 s2 s3 s4) = (d, d)

  -- of a list of at most four: `from_vec` asks that it is
  abbrev pub from_vec : List T → SolutionSet4 T
  from_vec [] = Zero
  from_vec (s ∷ []) = One s
  from_vec (s1 ∷ s2 ∷ []) = Two s1 s2
  from_vec (s1 ∷ s2 ∷ s3 ∷ []) = Three s1 s2 s3
  from_vec (s1 ∷ s2 ∷ s3 ∷ s4 ∷ more) = Four s1 s2 s3 s4

-- what f gives of each solution
module _ {T U : Type 0} where
  abbrev pub map : (T → U) → SolutionSet4 T → SolutionSet4 U
  map f Zero = Zero
  map f (One s) = One (f s)
  map f (Two s1 s2) = Two (f s1) (f s2)
  map f (Three s1 s2 s3) = Three (f s1) (f s2) (f s3)
  map f (Four s1 s2 s3 s4) = Four (f s1) (f s2) (f s3) (f s4)
