-- A number that is not 0 stands in the block that holds it, and 0 in no block that holds an arm.
use Rattle.std.proofs.Common.{◌∙◌}
use Rattle.arms.proofs.Places.{never_0, has_at}
use Rattle.arms.proofs.Judged.held_at.Goals as goal

pub returns-then-n-eq0 : goal.returns-then-n-eq0
returns-then-n-eq0 c = rw c.if-n-eq0.true (never_0 c.args.self.now.blocks.now c.args.self.now.valid)

pub returns : goal.returns
returns c = c.place_of.ensures ∙ has_at c.args.self.now.blocks.now c.args.self.now.valid c.args.n c.if-n-eq0.false
