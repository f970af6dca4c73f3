use Rattle.std.proofs.Common.{◌∙◌, ◌<◌, ◌≤◌, length, arith}
use Rattle.std.proofs.lemmas.Grind.{common_steps}
use Rattle.step_pairs.proofs.LandedLaws.{no_room, put_there}
use Rattle.step_pairs.proofs.add_pair.Goals as goal

pub returns-then-not-is_full : goal.returns-then-not-is_full
returns-then-not-is_full g c =
    let h = c.args.found.now.items in
    let l : length h < g.row.N = grind (arith, common_steps) in
    λ o e. c.push.ensures.items ∙ put_there g.row.N h c.args.x c.args.i l o e

pub returns-else-not-is_full : goal.returns-else-not-is_full
returns-else-not-is_full g c =
    let h = c.args.found.now.items in
    let l : g.row.N ≤ length h = grind (arith, common_steps) in
    no_room g.row.N h c.args.x c.args.i l
