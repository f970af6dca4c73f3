-- The invariant: what is left to fill gives what all gives.
use Prim.Native.Nat.{ℕ, zero, suc, ◌+◌, ◌-◌, ◌≤◌, ◌<◌}
use native.Mathlib.Omega.{arith}
use native.Mathlib.Numerals.{add-one}
use mathlib.Core.Path.{◌≡◌, refl, ap, ◌∙◌}
use mathlib.Core.List.{List, [], ◌∷◌}
use lib.Ieee.{Float}
use lib.ListN.{length, get_or, set}
use Rattle.float.specs.Num.{infinity}
use Rattle.subproblem5.specs.Port.{with_gaps}
use Rattle.subproblem5.specs.Reduced.{with_ordering}
use Rattle.triple_sort.specs.declared.Ordered.{Ordered}
use Rattle.subproblem5.proofs.reduced.with_ordering.Goals as goal
use Rattle.subproblem5.proofs.reduced.with_ordering.Invariants.{from, outside, ordered}

from-after : (k i : ℕ) (last : Float) (x : Ordered) (t : List Ordered) → from k (suc i) last (x ∷ t) ≡ x ∷ from k i last t
unfolding from
from-after zero i last x t = refl
from-after (suc k) i last x t =
    let s = (get_or t i outside).solution in from-after k (suc i) s.first x (set t i (ordered last s))

from_is : (last : Float) (t : List Ordered) → from (length t) 0 last t ≡ with_gaps last t
unfolding from with_ordering
from_is last [] = refl
from_is last (x ∷ t) =
    let s = x.solution in
    from-after (length t) 0 s.first (ordered last s) t
    ∙ ap (λ (l : List Ordered). ordered last s ∷ l) (from_is s.first t)

begin : (n : ℕ) (t : List Ordered) {last : Float} → last ≡ infinity → from (n - 0) 0 last t ≡ from n 0 infinity t
begin n t e = let z : n - 0 ≡ n = omega arith in cc

again : (n i : ℕ) (last : Float) (t t₀ : List Ordered)
    → i < n
    → from (n - i) i last t ≡ from n 0 infinity t₀
    → let s = (get_or t i outside).solution in
    from (n - (i + 1)) (i + 1) s.first (set t i (ordered last s)) ≡ from n 0 infinity t₀
unfolding from
again n i last t t₀ h inv =
    let more : n - i ≡ suc (n - suc i) = omega arith in
    let k = rw more at inv in
    simp add-one k

end : (i : ℕ) (last : Float) (t t₀ : List Ordered)
    → length t₀ ≤ i
    → from (length t₀ - i) i last t ≡ from (length t₀) 0 infinity t₀
    → t ≡ with_gaps infinity t₀
unfolding from
end i last t t₀ h inv =
    let over : length t₀ - i ≡ 0 = omega arith in
    (rw over at inv) ∙ from_is infinity t₀

pub loop-o-init : goal.loop-o-init
loop-o-init c = search begin

pub loop-o-preserved : goal.loop-o-preserved
loop-o-preserved c = search again

pub returns : goal.returns
returns c = search end
