-- None of the first k is inside.
use Rattle.std.proofs.Common.{refl, arith}
use Rattle.full_list.specs.Listed.{listed, blank}
use Rattle.one_answer.proofs.Firsts as Firsts
use Rattle.one_answer.proofs.first_allowed.Goals as goal

pub loop-k-init : goal.loop-k-init
loop-k-init c = refl

pub answer-q-requires : goal.answer-q-requires
answer-q-requires c = omega (arith, c.len-k-end.ensures.len)

pub returns-then-inside : goal.returns-then-inside
returns-then-inside c = Firsts.here _ _ _ c.loop-k.invariant blank (omega (arith, c.len-k-end.ensures.len)) c.answer-q.ensures c.inside.ensures c.if-inside.true

pub loop-k-preserved : goal.loop-k-preserved
loop-k-preserved c = Firsts.on _ _ _ c.loop-k.invariant blank (omega (arith, c.len-k-end.ensures.len)) c.answer-q.ensures c.inside.ensures c.if-inside.false

pub returns : goal.returns
returns c = Firsts.none c.args.limits.stops.now (listed c.args.list.now) c.loop-k.k c.loop-k.invariant (omega (arith, c.len-k-end.ensures.len))
