-- A family that does not search evaluates nothing.
use Rattle.full_list.proofs.Laws.{of_found}
use Rattle.full_list.proofs.list.with_list.Goals as goal

pub returns-in_default : goal.returns-in_default
returns-in_default g c = (_, of_found _ c.in_default.not-TwoParallel c.without_search.ensures, c.f-in_default.ensures)
