-- `next`: by failure, what is pending, and the end.
use Rattle.stream.proofs.Steps.{asks_none, asks_write, asks_end, asks_read}
use Rattle.stream.proofs.progress.Run.next.Goals as goal

pub returns-then-self : goal.returns-then-self
returns-then-self c = search asks_none

pub returns-then-self-len : goal.returns-then-self-len
returns-then-self-len c = asks_write c.args.self.now c.if-self.false (rw c.len.ensures.value at c.if-self-len.true)

pub returns-then-self-2 : goal.returns-then-self-2
returns-then-self-2 c = asks_end c.args.self.now c.if-self.false (rw c.len.ensures.value at c.if-self-len.false) c.if-self-2.true

pub returns-else-self-2 : goal.returns-else-self-2
returns-else-self-2 c = asks_read c.args.self.now c.if-self.false (rw c.len.ensures.value at c.if-self-len.false) c.if-self-2.false
