-- The word, and then the number.
use Rattle.text.specs.Lists.{field}
use Rattle.text.proofs.Laws.{both}
use Rattle.text.proofs.lists.field.Goals as goal

pub returns-clause-items : goal.returns-clause-items
unfolding field
returns-clause-items c = both _ _ _ c.put.ensures.items c.decimal.ensures.items
