-- reduced_solutionset, within subproblem5 of subproblems/mod.rs: "Given n >= 4 solutions, return the top 4 most unique".
-- "subproblem5 has up to 16 candidates; over four, they are sorted and thinned by gap as in reduced_solutionset. The second sort compares the ordering value first, then the triple." (document 01)
use Rattle.std.specs.Prelude.{cond, List, [], ◌∷◌, map, leb, Float, length, take}
use Rattle.float.specs.Num.{◌⊖◌, ◌⊗◌, ◌⊘◌, one, infinity}
use Rattle.solutionset.specs.SolutionSet4.{from_vec}
use Rattle.solutionset.specs.declared.Triple.{Triple}
use Rattle.solutionset.specs.declared.set4.SolutionSet4.{SolutionSet4}
use Rattle.triple_sort.specs.Sort.{triple_above, ordered_above, sort}
use Rattle.triple_sort.specs.declared.Ordered.{Ordered}

-- the loop: delta = solution.0 - last, ordering = 1.0 / (delta * delta), last = solution.0
unfoldable pub with_ordering : Float → List Triple → List Ordered
with_ordering last [] = []
with_ordering last (solution ∷ solutions) =
    let delta = solution.first ⊖ last in
    record { ordering = one ⊘ (delta ⊗ delta); solution = solution } ∷ with_ordering solution.first solutions

abbrev pub solution_of : Ordered → Triple
solution_of o = o.solution

unfoldable pub reduced_solutionset : List Triple → SolutionSet4 Triple
unfolding with_ordering
reduced_solutionset solutions =
    cond (leb (length solutions) 4) (from_vec solutions)
    (let sorted = (sort triple_above solutions).result in
    let solutions-with-ordering = (sort ordered_above (with_ordering infinity sorted)).result in
    from_vec (take 4 (map solution_of solutions-with-ordering)))
