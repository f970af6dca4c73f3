-- The struct of an edge as the definition's record.
use Rattle.search_definition.specs.Search as Search
use Rattle.search_refine.specs.Point.{point_of}
use Rattle.search_edge.specs.declared.edge.Gap as DeclaredGap

abbrev pub gap : DeclaredGap.Gap → Search.Gap
gap g = record { inside = point_of g.inside; outside = g.outside }
