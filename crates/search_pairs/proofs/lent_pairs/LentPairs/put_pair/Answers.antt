-- The pair is one entry after the state.
use Rattle.search_pairs.specs.State.{state}
use Rattle.search_pairs.proofs.States.{after_entry}
use Rattle.search_pairs.proofs.lent_pairs.LentPairs.put_pair.Goals as goal

pub returns : goal.returns
returns c = let a = c.args in after_entry (state a.self.now) a.x a.i c.put.ensures c.put-2.ensures
