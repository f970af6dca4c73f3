-- The code's bracket in the definition's words.
use Rattle.std.specs.Prelude.{ℕ}
use Rattle.search_definition.specs.Refine.{Bracket}
use Rattle.search_refine.specs.declared.refine.Moved.{Moved}
use Rattle.search_refine.specs.declared.refine.Moved.TheVariants.{Neither, A, B}
use Rattle.search_refine.specs.declared.refine.Bracket as Declared

-- the definition's `side`
abbrev pub side_of : Moved → ℕ
side_of Neither = 0
side_of A = 1
side_of B = 2

abbrev pub bracket_of : Declared.Bracket → Bracket
bracket_of s =
    record { a = s.a.x; b = s.b.x; fa = s.a.y; fb = s.b.y; side = side_of s.moved; x = s.x }
