-- As many as pairs.
use Rattle.full_list.proofs.Laws.{pairs_long}
use Rattle.full_list.proofs.list.FullList.len.Goals as goal

pub returns-in-Searched-clause-len : goal.returns-in-Searched-clause-len
returns-in-Searched-clause-len c = rw c.in-Searched.is (pairs_long _ _ c.in-Searched.pairs.as_many _)
