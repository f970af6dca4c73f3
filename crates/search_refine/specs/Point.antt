-- The code's points in the definition's words.
use Rattle.search_definition.specs.Dip.{Point}
use Rattle.search_refine.specs.declared.Point as Declared

abbrev pub point_of : Declared.Point → Point
point_of p = record { x = p.x; y = p.y }
