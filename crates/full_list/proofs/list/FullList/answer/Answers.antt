-- As many as pairs.
use Rattle.std.proofs.Common.{◌≡◌, length}
use Rattle.full_list.specs.Listed.{of_pairs}
use Rattle.full_list.proofs.Laws.{pairs_long}
use Rattle.full_list.proofs.list.FullList.answer.Goals as goal

pub answer-requires : goal.answer-requires
answer-requires c =
    let e : length c.in-Searched.pairs.angles.now ≡ length (of_pairs c.in-Searched.pairs) = pairs_long _ _ c.in-Searched.pairs.as_many _ in
    rw e (rw c.in-Searched.is at c.requires)
