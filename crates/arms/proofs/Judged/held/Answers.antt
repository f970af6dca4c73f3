-- It is held exactly if its block is there.
use Rattle.std.proofs.Common.{◌∙◌}
use Rattle.arms.proofs.Places.{held_is}
use Rattle.arms.proofs.Judged.held.Goals as goal

pub returns : goal.returns
returns c = c.is_some.ensures ∙ held_is c.args.n c.args.self.now.blocks.now c.held_at.ensures
