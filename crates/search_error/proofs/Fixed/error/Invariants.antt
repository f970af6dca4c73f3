-- After i answers, their components are set.
use Rattle.std.proofs.Common.{◌≡◌, replicate, map, take}
use lib.Seq.{sets}
use Rattle.float.specs.Num.{infinity}
use Rattle.search_error.specs.Fixed.{answer_error}
use Rattle.search_error.proofs.Fixed.error.Given as goal

abbrev pub invariant-loop-i : goal.invariant-loop-i
invariant-loop-i l = l.e ≡ sets (replicate 4 infinity) 0 (map (answer_error l.fn.self l.t) (take l.i l.a-items))
