-- `fill`: the lines go by the limits before the block, and its own are in force after it.
use Rattle.stream.proofs.Steps.{filled_up}
use Rattle.stream.proofs.progress.Run.fill.Goals as goal

pub returns : goal.returns
returns c = search filled_up
