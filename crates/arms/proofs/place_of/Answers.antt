-- The first block that passes the test of the number.
use Rattle.std.proofs.Common.{rules, tests}
use Rattle.std.proofs.lemmas.Iterator.{YieldsList-from_slice}
use Rattle.std.proofs.lemmas.Iterator.Search.{position_from_yields_List}
use Rattle.arms.specs.File.{number}
use Rattle.arms.specs.Port.{named}
use Rattle.arms.proofs.place_of.Goals as goal

pub returns : goal.returns
unfolding number
returns c =
    position_from_yields_List (named c.args.n) _ _ c.position.result c.position.ensures.ran (YieldsList-from_slice c.args.blocks.now cc) (λ x b q k. search (rules, tests))
