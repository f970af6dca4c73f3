-- Up to four as they came. Over four, the list is at each step what the definition has there.
use Prim.Native.Nat.{◌≤◌, ◌<◌}
use native.Mathlib.Omega.{arith}
use mathlib.Core.Path.{◌≡◌, refl, ap, ◌∙◌}
use mathlib.Core.Bool.{false}
use mathlib.Core.List.{List, [], ◌∷◌, map}
use lib.Dec.{leb}
use lib.ListN.{length, take}
use borrow.Author.Tests.{le-leb, lt-leb}
use Rattle.float.specs.Num.{infinity}
use Rattle.solutionset.specs.SolutionSet4.{from_vec}
use Rattle.solutionset.specs.declared.Triple.{Triple}
use Rattle.solutionset.specs.declared.set4.SolutionSet4.{SolutionSet4}
use Rattle.triple_sort.specs.Port.{in_order}
use Rattle.triple_sort.specs.Sort.{SortOf, triple_above, ordered_above}
use Rattle.subproblem5.specs.Port.{by_first, with_gaps}
use Rattle.subproblem5.specs.Reduced.{solution_of, reduced_solutionset}
use Rattle.triple_sort.specs.declared.Ordered.{Ordered}
use Rattle.triple_sort.proofs.NumberOrder.{then_by_twice}
use Rattle.triple_sort.proofs.Passes.{sort_map}
use Rattle.subproblem5.proofs.reduced.reduced_solutionset.Goals as goal

few : (l : List Triple) {m : List Triple} {r : SolutionSet4 Triple} → length l ≤ 4 → m ≡ l → r ≡ from_vec m → r ≡ reduced_solutionset l
unfolding reduced_solutionset
few l h e e' = let t = le-leb (length l) 4 h in cc

-- ---- over four
-- of equal first numbers, the triples decide
same : (a b : Triple) → ordered_above (by_first a) (by_first b) ≡ triple_above a b
unfolding ordered_above triple_above
same a b = then_by_twice a.first b.first _

solutions-of : (l : List Triple) → map solution_of (map by_first l) ≡ l
solutions-of [] = refl
solutions-of (a ∷ l) = ap (λ (m : List Triple). a ∷ m) (solutions-of l)

many : (l : List Triple) {d t1 t2 t3 : List Ordered} {r : SolutionSet4 Triple}
    → 4 < length l
    → d ≡ map by_first l
    → t1 ≡ in_order ordered_above d
    → t2 ≡ with_gaps infinity t1
    → t3 ≡ in_order ordered_above t2
    → r ≡ from_vec (take 4 (map solution_of t3))
    → r ≡ reduced_solutionset l
unfolding reduced_solutionset
many l h e1 e2 e3 e4 e =
    let t : leb (length l) 4 ≡ false = lt-leb (length l) 4 h in
    let g2 = sort_map by_first ordered_above triple_above same l in
    let g3 = solutions-of (in_order triple_above l) in
    cc

pub returns-then-len-le4 : goal.returns-then-len-le4
returns-then-len-le4 c = few _ (omega (arith, c.len.ensures.value)) c.deref.ensures.0 c.from_vec.ensures

pub returns : goal.returns
returns c =
    let result = λ (s : SortOf Ordered). s.result in
    many _ (omega (arith, c.len.ensures.value)) (c.copy_from_slice.ensures.after ∙ c.deref-2.ensures.0 ∙ c.by_first.ensures) (ap result c.sort.ensures) c.with_ordering.ensures (ap result c.sort-2.ensures) c.first_four.ensures
