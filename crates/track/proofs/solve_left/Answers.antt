-- The list of what is left, as sevens.
use Rattle.std.proofs.Common.{rules}
use Rattle.answers.specs.Rows.{room_of}
use Rattle.track.specs.Sevens.{sevens}
use Rattle.track.proofs.Solves.{left-result, left-angles, left-flags}
use Rattle.track.proofs.solve_left.Goals as goal

pub returns-clause-result : goal.returns-clause-result
returns-clause-result c =
    let left = left-result _ c.with_list.ensures.1 (room_of (sevens c.args.lock.joint c.args.lock.angle) c.args.angles.now c.args.flags.now) in
    search (rules, left)

pub returns-clause-angles : goal.returns-clause-angles
returns-clause-angles c =
    let left = left-angles _ c.with_list.ensures.1 (sevens c.args.lock.joint c.args.lock.angle) c.args.angles.now c.args.flags.now in
    search (rules, left)

pub returns-clause-flags : goal.returns-clause-flags
returns-clause-flags c =
    let left = left-flags _ c.with_list.ensures.1 (sevens c.args.lock.joint c.args.lock.angle) c.args.angles.now c.args.flags.now in
    search (rules, left)
