-- The digits, and a space.
use Rattle.text.specs.Lists.{angle}
use Rattle.text.proofs.Laws.{both}
use Rattle.text.proofs.lists.angle.Goals as goal

pub returns-clause-items : goal.returns-clause-items
unfolding angle
returns-clause-items c = both _ _ _ c.hex.ensures.items c.push.ensures.items
