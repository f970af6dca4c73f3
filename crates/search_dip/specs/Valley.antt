-- The struct of a dip as the definition's record.
use Rattle.search_definition.specs.Dip as Dip
use Rattle.search_dip.specs.declared.dip.Valley as DeclaredValley

abbrev pub valley : DeclaredValley.Valley → Dip.Valley
valley v = record { lo = v.lo; hi = v.hi; x1 = v.x1; x2 = v.x2; g1 = v.g1; g2 = v.g2; best_x = v.best_x; best_g = v.best_g }
