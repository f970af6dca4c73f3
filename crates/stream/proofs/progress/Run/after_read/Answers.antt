-- `after_read`: a failure, the end of the input, or bytes.
use Rattle.stream.proofs.Steps.{reads_fail, reads_none, reads_some}
use Rattle.stream.proofs.progress.Run.after_read.Goals as goal

pub returns-in-None : goal.returns-in-None
returns-in-None c = search reads_fail

pub returns-then-n-eq0 : goal.returns-then-n-eq0
returns-then-n-eq0 c = reads_none c.args.self.now _ c.in-Some.is c.if-n-eq0.true c.close.ensures

pub returns-else-n-eq0 : goal.returns-else-n-eq0
returns-else-n-eq0 c = reads_some c.args.self.now _ c.in-Some.is c.if-n-eq0.false c.take_in.ensures
