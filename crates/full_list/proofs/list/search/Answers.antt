-- The pairs that family 6 keeps are its answers.
use Rattle.full_list.proofs.Laws.{searched, searched_counted}
use Rattle.full_list.proofs.list.search.Goals as goal

pub returns-clause-all : goal.returns-clause-all
returns-clause-all c = searched _ _ _ _ c.two_parallel.ensures

pub returns-clause-counted : goal.returns-clause-counted
returns-clause-counted c = searched_counted _ _ _ _ c.two_parallel.ensures
