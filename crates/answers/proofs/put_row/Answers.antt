-- The row fits both lists, or one of them is too short: the laws of One.antt.
use mir.Val.{bool_byte}
use Rattle.std.proofs.Common.{◌≡◌, ◌∙◌, refl, Bool, true, false, arith}
use Rattle.answers.specs.Answer.{flag}
use Rattle.answers.proofs.One.{fits, short_angles, short_flags}
use Rattle.answers.proofs.put_row.Goals as goal
use Rattle.answers.proofs.put_row.Goals.{else-wide-angles-via-then-wide-angles+else-flags-ge1, else-wide-angles-via-else-wide-angles}

is_flag : (b : Bool) → bool_byte b ≡ flag b
is_flag true = refl
is_flag false = refl

pub returns-then-flags-ge1 : goal.returns-then-flags-ge1
returns-then-flags-ge1 c = λ form q r. fits form q r _ _ c.if-wide-angles.true c.if-flags-ge1.true (cc) (c.from.ensures ∙ is_flag _)

pub returns-else-wide-angles : goal.returns-else-wide-angles
returns-else-wide-angles c = λ form q r. elim c.else-wide-angles.branch [ else-wide-angles-via-then-wide-angles+else-flags-ge1 w ↦ short_flags form q r _ _ (omega (arith, w.if-flags-ge1.false)) | else-wide-angles-via-else-wide-angles w ↦ short_angles form q r _ _ (omega (arith, w.if-wide-angles.false)) ]
