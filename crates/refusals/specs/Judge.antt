-- What the solve call refuses. Document 01: "4. The family is not 1 to 6. 5. The arm is not 39 numbers. 6. The pose is not 12 numbers. 7. n is not 0 for
-- families 1 to 5, or not 1 to 400 for family 6. 8. A number of the arm or pose is infinite or NaN. 9. The full list has more answers than the angle list has whole
-- sixes, or more than the flag list has bytes. The first that applies is given." `judge` gives 4 to 8, `refusal-9` the last.
use Rattle.std.specs.Prelude.{ℕ, suc, Bool, ◌&&◌, cond, List, [], ◌∷◌, leb, eqb, Float, length}
use Rattle.float.specs.Number.{is_finite}

abbrev pub within : ℕ → ℕ → ℕ → Bool
within low x high = leb low x && leb x high

abbrev pub known : ℕ → Bool
known family = within 1 family 6

abbrev pub samples_fit : ℕ → ℕ → Bool
samples_fit family n = cond (eqb family 6) (within 1 n 400) (eqb n 0)

-- the place of the first number that is infinite or NaN, or the length where there is none
unfoldable pub first_not_finite : List Float → ℕ
first_not_finite [] = 0
first_not_finite (x ∷ l) = cond (is_finite x) (suc (first_not_finite l)) 0

abbrev pub all_finite : List Float → Bool
all_finite l = leb (length l) (first_not_finite l)

-- refusals 4 to 8, or 0
unfoldable pub judge : ℕ → ℕ → List Float → List Float → ℕ
judge family n arm pose =
    cond (known family)
    (cond (eqb (length arm) 39)
    (cond (eqb (length pose) 12) (cond (samples_fit family n) (cond (all_finite arm && all_finite pose) 0 8) 7) 6)
    5)
    4

-- the two halves of it, for an arm of so many numbers: 4 to 6, or 0, and then 7 and 8, or 0
abbrev pub judge_shape : ℕ → List Float → ℕ → List Float → ℕ
judge_shape family arm arm_numbers pose = cond (known family) (cond (eqb (length arm) arm_numbers) (cond (eqb (length pose) 12) 0 6) 5) 4

abbrev pub judge_numbers : ℕ → ℕ → List Float → List Float → ℕ
judge_numbers family n arm pose = cond (samples_fit family n) (cond (all_finite arm && all_finite pose) 0 8) 7

-- "9. The full list has more answers than the angle list has whole sixes, or more than the flag list has bytes", or 0
abbrev pub refusal_9 : ℕ → ℕ → ℕ
refusal_9 answers room = cond (leb answers room) 0 9
