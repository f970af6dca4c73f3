-- `take_in`: a full block is printed, and a block that is not full goes on.
use Rattle.stream.proofs.Steps.{fills, begins}
use Rattle.stream.proofs.progress.Run.take_in.Goals as goal

pub returns-then-filled-eq512 : goal.returns-then-filled-eq512
returns-then-filled-eq512 c = search fills

pub returns : goal.returns
returns c = search begins
