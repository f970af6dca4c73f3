-- `after_write`: nothing was taken, or some of what is left.
use Rattle.std.proofs.Common.{◌∙◌}
use Rattle.stream.proofs.Took.{took_is}
use Rattle.stream.proofs.Steps.{writes_none, writes_some}
use Rattle.stream.proofs.progress.Run.after_write.Goals as goal

pub returns-then-took-eq0 : goal.returns-then-took-eq0
returns-then-took-eq0 c = let e = c.unwrap_or-took.ensures ∙ took_is c.args.gave in search writes_none

pub returns-else-took-eq0 : goal.returns-else-took-eq0
returns-else-took-eq0 c = let e = c.unwrap_or-took.ensures ∙ took_is c.args.gave in search writes_some
