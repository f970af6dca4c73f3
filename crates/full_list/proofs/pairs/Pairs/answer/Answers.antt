-- Of pair k.
use Rattle.std.proofs.Common.{◌∙◌}
use Rattle.full_list.proofs.Laws.{pair_at}
use Rattle.full_list.proofs.pairs.Pairs.answer.Goals as goal

pub returns : goal.returns
returns c = c.answer_of.ensures ∙ pair_at _ _ c.args.self.now.as_many _ _ c.requires
