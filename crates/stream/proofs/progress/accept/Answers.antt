-- `accept`: accepted limits are in force, whatever was in force before.
use Rattle.std.proofs.Common.{sym, ◌∙◌}
use Rattle.limits_block.proofs.InForce.{taken, kept}
use Rattle.stream.proofs.progress.accept.Goals as goal

pub returns-then-taken-clause-limits : goal.returns-then-taken-clause-limits
returns-then-taken-clause-limits c =
    let call = c.take_limits-taken.ensures in
    let is = sym call.result ∙ c.if-taken.true in
    call.limits ∙ taken _ _ is ∙ sym (taken _ _ is)

pub returns-else-taken-clause-limits : goal.returns-else-taken-clause-limits
returns-else-taken-clause-limits c = sym (kept _ _ (sym c.take_limits-taken.ensures.result ∙ c.if-taken.false))
