-- The exact sums by their coefficients, over 41 ! * U ^ 41, where the argument is a number of units and U = 2 ^ 1074 of them make one. Definitions only.
use mathlib.Core.List.{List, [], ◌∷◌}
use Prim.Native.Nat.{ℕ, zero, suc, ◌+◌, ◌-◌, ◌*◌, ◌/◌, ◌%◌, ◌^◌}
use mathlib.Core.Bool.{Bool, true, false}
use lib.Dec.{eqb}
use Rattle.float.specs.Sine.{fact}
use Rattle.sine_accuracy.proofs.Poly.{Diff, nil, spread}

-- 41 ! / i !
unfoldable pub share : ℕ → ℕ
unfolding fact
share i = fact 41 / fact i

-- 41 ! / i ! * U ^ (41 - i)
unfoldable pub coefficient : ℕ → ℕ
unfolding share
coefficient i = share i * (2 ^ 1074) ^ (41 - i)

abbrev pub either : Bool → ℕ → Diff
either true c = record { p = c; n = 0 }
either false c = record { p = 0; n = c }

-- (-1) ^ j * c
abbrev pub signed_by : ℕ → ℕ → Diff
signed_by j c = either (eqb (j % 2) 0) c

-- m terms from j on, of the powers 2 j + o
unfoldable pub series : ℕ → ℕ → ℕ → List Diff
unfolding coefficient
series o zero j = []
series o (suc m) j = signed_by j (coefficient (2 * j + o)) ∷ series o m (suc j)

unfoldable pub sin_poly : ℕ → List Diff
unfolding series spread
sin_poly m = nil ∷ spread (series 1 m 0)

unfoldable pub cos_poly : ℕ → List Diff
unfolding series spread
cos_poly m = spread (series 0 m 0)
