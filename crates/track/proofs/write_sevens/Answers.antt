-- Of each answer so far, what `put_seven` writes.
use Rattle.std.proofs.Common.{arith}
use Rattle.answers.proofs.Rows.{by_name}
use Rattle.answers.proofs.RowSteps.{start_long, again, end}
use Rattle.full_list.specs.Listed.{blank}
use Rattle.track.proofs.SevenRows.{seven_good, one, one_few, ones}
use Rattle.track.proofs.write_sevens.Goals as goal

pub loop-k-init : goal.loop-k-init
loop-k-init c = start_long _ (seven_good _ _ c.args.lock.seven_joints) one _ _ _ _ _ c.len-k-end.ensures.len c.len-k-end.ensures.few

pub answer-q-requires : goal.answer-q-requires
answer-q-requires c = omega (arith, c.len-k-end.ensures.len)

pub overflow_add-count : goal.overflow_add-count
overflow_add-count c =
    let t = c.loop-k.invariant in
    omega (arith, t.bound, t.within, t.few, c.put_seven-count.ensures.all_counted)

pub loop-k-preserved : goal.loop-k-preserved
loop-k-preserved c =
    again _ (seven_good _ _ c.args.lock.seven_joints) one _ blank _ _ one_few c.loop-k.invariant c.loop-k-test.true c.answer-q.ensures c.rest-at.ensures c.rest-on.ensures c.put_seven-count.ensures

pub returns : goal.returns
returns c = by_name _ (seven_good _ _ c.args.lock.seven_joints) (ones _) (end _ (seven_good _ _ c.args.lock.seven_joints) one _ _ _ c.loop-k-test.false c.loop-k.invariant)
