-- `close`: nothing is printed where no block was begun.
use Rattle.stream.proofs.Steps.{closes_none, closes_short}
use Rattle.stream.proofs.progress.Run.close.Goals as goal

pub returns-then-self-eq0 : goal.returns-then-self-eq0
returns-then-self-eq0 c = search closes_none

pub returns-else-self-eq0 : goal.returns-else-self-eq0
returns-else-self-eq0 c = search closes_short
