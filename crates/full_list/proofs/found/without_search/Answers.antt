-- Its family does not search.
use Rattle.std.proofs.Common.{◌∙◌, sym, ap}
use Rattle.full_list.specs.Full.{Full}
use Rattle.full_list.proofs.Laws.{closed, not-six}
use Rattle.full_list.proofs.found.without_search.Goals as goal

pub returns : goal.returns
returns c = c.found.ensures ∙ sym (ap (λ (x : Full). x.answers) (closed _ _ _ _ _ _ (not-six _ c.requires)))
