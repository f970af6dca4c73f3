-- The calls, one equation each; the map of the set is the set of the list's map.
use mathlib.Core.Path.{◌≡◌}
use mathlib.Core.List.{List}
use lib.Ieee.{Float}
use Rattle.std.proofs.Common.{rules}
use Rattle.solutionset.specs.SolutionSet4.{from_vec, map}
use Rattle.solutionset.specs.declared.Pair.{Pair}
use Rattle.solutionset.specs.declared.set4.SolutionSet4.{SolutionSet4}
use Rattle.solutionset.proofs.Map.{map_from_vec}
use Rattle.polynomial.specs.Const.{epsilon}
use Rattle.polynomial.specs.Roots.{real_parts, real_quartic}
use Rattle.polynomial.specs.Quartic.{solve_quartic_roots}
use Rattle.polynomial.specs.declared.Matrix2.{Matrix2}
use Rattle.polynomial.specs.declared.Quartic.{Quartic}
use Rattle.polynomial.specs.declared.Vector2.{Vector2}
use Rattle.polynomial.specs.declared.Vector5.{Vector5}
use Rattle.complex.specs.declared.Complex.{Complex}
use Rattle.ellipse.specs.Ellipse.{coefficients, quartic_in_y, point, solve_two_ellipse_numeric}
use Rattle.ellipse.specs.declared.Conic.{Conic}
use Rattle.ellipse.proofs.solve_two_ellipse_numeric.Goals as goal

module _ (xm1 : Vector2) (xn1 : Matrix2) (xm2 : Vector2) (xn2 : Matrix2) where
  met : {g h : Conic} {v : Vector5} {q : Quartic} {found : List Complex} {reals slice : List Float} {set : SolutionSet4 Float}
      {r : SolutionSet4 Pair}
      → g ≡ coefficients xm1 xn1
      → h ≡ coefficients xm2 xn2
      → v ≡ quartic_in_y g h
      → q ≡ real_quartic v
      → found ≡ solve_quartic_roots q
      → reals ≡ real_parts epsilon found
      → slice ≡ reals
      → set ≡ from_vec slice
      → r ≡ map (point g h) set
      → r ≡ solve_two_ellipse_numeric xm1 xn1 xm2 xn2
  unfolding solve_two_ellipse_numeric
  met {g} {h} {slice = slice} e1 e2 e3 e4 e5 e6 e7 e8 e9 = let m = map_from_vec (point g h) slice in cc

pub returns : goal.returns
returns c =
    let e = c.map.ensures (point c.coefficients-g.result c.coefficients-h.result) (λ x y p. search rules) in
    search met
