-- Of each answer so far, what `put` writes.
use Rattle.std.proofs.Common.{sym, ◌∙◌, arith}
use Rattle.answers.proofs.Held.{held_at, held_long}
use Rattle.limits.proofs.Each.{begun, step, all_written, small}
use Rattle.limits.proofs.write_allowed.Goals as goal

pub loop-k-init : goal.loop-k-init
loop-k-init c = begun _ _ _ _ _ (sym (held_long c.args.n c.args.numbers.now c.args.bytes.now)) c.requires.0

pub read-q-requires : goal.read-q-requires
read-q-requires c = (omega arith, omega arith)

pub overflow_add-count : goal.overflow_add-count
overflow_add-count c = omega (arith, small _ _ _ _ c.loop-k.invariant c.put-count.ensures)

pub loop-k-preserved : goal.loop-k-preserved
loop-k-preserved c =
    let q = c.read-q.result in
    step _ _ _ q c.loop-k.invariant c.loop-k-test.true (c.read-q.ensures ∙ sym (held_at c.args.n c.args.numbers.now c.args.bytes.now c.loop-k.k q c.loop-k-test.true)) c.rest-at.ensures c.rest-on.ensures c.put-count.ensures

pub returns : goal.returns
returns c = all_written _ _ _ c.loop-k-test.false c.loop-k.invariant
