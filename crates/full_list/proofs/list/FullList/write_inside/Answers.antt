-- Of each answer so far, what `put` writes.
use Rattle.std.proofs.Common.{arith}
use Rattle.limits.proofs.Each.{begun, step, all_written, small}
use Rattle.full_list.specs.Listed.{blank}
use Rattle.full_list.proofs.list.FullList.write_inside.Goals as goal

pub loop-k-init : goal.loop-k-init
loop-k-init c = begun _ _ _ _ _ c.len-k-end.ensures.len c.len-k-end.ensures.few

pub answer-q-requires : goal.answer-q-requires
answer-q-requires c = omega (arith, c.len-k-end.ensures.len)

pub overflow_add-count : goal.overflow_add-count
overflow_add-count c = omega (arith, small _ _ _ _ c.loop-k.invariant c.put-count.ensures)

pub loop-k-preserved : goal.loop-k-preserved
loop-k-preserved c = step _ _ _ blank c.loop-k.invariant c.loop-k-test.true c.answer-q.ensures c.rest-at.ensures c.rest-on.ensures c.put-count.ensures

pub returns : goal.returns
returns c = all_written _ _ _ c.loop-k-test.false c.loop-k.invariant
