-- `turn`: nothing is asked.
use Rattle.stream.proofs.Steps.{turned_stop}
use Rattle.stream.proofs.calls.turn.Goals as goal

pub returns-in-Stop : goal.returns-in-Stop
returns-in-Stop g c = search turned_stop
