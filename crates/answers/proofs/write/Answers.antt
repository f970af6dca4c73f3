-- The laws of InTurn.antt, for rows of six.
use Rattle.std.proofs.Common.{refl, ◌<◌, length-take, arith}
use Rattle.answers.specs.Rows.{room_of}
use Rattle.answers.specs.Written.{room}
use Rattle.answers.proofs.InTurn.{one_more, whole}
use Rattle.answers.proofs.Laws.{six_good, nothing}
use Rattle.answers.proofs.write.Goals as goal

pub loop-k-init : goal.loop-k-init
loop-k-init c = nothing _ _

pub loop-k-preserved : goal.loop-k-preserved
unfolding room_of
loop-k-preserved c =
    let k = c.loop-k.k in
    let fits : k < room c.args.angles.now c.args.flags.now = omega (arith, simp length-take at c.loop-k-test.true) in
    one_more _ six_good _ _ c.loop-k-test.true fits c.loop-k.invariant (omega arith) (omega arith) refl c.put.ensures

pub returns : goal.returns
unfolding room_of
returns c = whole _ six_good _ _ (cc) c.loop-k-test.false c.loop-k.invariant
