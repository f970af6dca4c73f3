-- Joint limits. Document 02, request 1: "The arm record gains a low and a high angle for each of six joints." They are twelve numbers, "low then high, joint by joint", or none.
-- "Answers outside the limits leave the list, the others stay in order; an end counts as inside, a NaN as outside. Without limits the list is the Rust's".
use Rattle.std.specs.Prelude.{◌≡◌, ℕ, ◌+◌, ◌*◌, Bool, true, ◌&&◌, not, cond, List, [], ◌∷◌, eqb, Float, length, get_or}
use Rattle.std.specs.Float.{nan}
use Rattle.std.specs.Float.Ieee.{le, lt}
use Rattle.answers.specs.declared.Answer.{Answer}
use Rattle.float.specs.Number.{is_finite}

-- as f64 compare: an end is inside, a NaN is outside
abbrev pub between : Float → Float → Float → Bool
between low q high = le low q && le q high

-- the low and the high of joint j, counted from 0: "low then high, joint by joint"
abbrev pub low : List Float → ℕ → Float
low limits j = get_or limits (2 * j) nan

abbrev pub high : List Float → ℕ → Float
high limits j = get_or limits (2 * j + 1) nan

abbrev pub all6 : Bool → Bool → Bool → Bool → Bool → Bool → Bool
all6 a b c d e f = a && b && c && d && e && f

abbrev pub at_joint : List Float → ℕ → Float → Bool
at_joint limits j q = between (low limits j) q (high limits j)

-- there are twelve or none
abbrev pub TwelveOrNone : List Float → Type 0
TwelveOrNone limits = (length limits ≡ 0 → ⊥) → length limits ≡ 12

-- "Without limits the list is the Rust's": every answer is inside
unfoldable pub inside : List Float → Answer → Bool
inside limits q =
    cond (eqb (length limits) 0)
    true
    (all6 (at_joint limits 0 q.q1) (at_joint limits 1 q.q2) (at_joint limits 2 q.q3) (at_joint limits 3 q.q4) (at_joint limits 4 q.q5) (at_joint limits 5 q.q6))

-- "Answers outside the limits leave the list, the others stay in order"
unfoldable pub allowed : List Float → List Answer → List Answer
allowed limits [] = []
allowed limits (q ∷ answers) = cond (inside limits q) (q ∷ allowed limits answers) (allowed limits answers)

-- a low and a high that are finite, the low not above the high
unfoldable pub stops_fit : Float → Float → Bool
stops_fit low high = is_finite low && is_finite high && not (lt high low)

abbrev pub fit_joint : List Float → ℕ → Bool
fit_joint limits j = stops_fit (low limits j) (high limits j)

unfoldable pub fit : List Float → Bool
fit limits = all6 (fit_joint limits 0) (fit_joint limits 1) (fit_joint limits 2) (fit_joint limits 3) (fit_joint limits 4) (fit_joint limits 5)

-- "Refused: 10, limits lent to a call that are neither twelve numbers nor none, a limit that isn't finite or a low above its high"
unfoldable pub refusal_10 : List Float → ℕ
refusal_10 limits = cond (eqb (length limits) 0) 0 (cond (eqb (length limits) 12 && fit limits) 0 10)
