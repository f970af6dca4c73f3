-- `limits_lines`: no line where the block is accepted, and its line where it is refused.
use Rattle.std.proofs.Common.{◌≡◌, ℕ, List, [], refl, ◌∙◌}
use borrow.Author.Tests.{eq-eqb, ne_eqb}
use Rattle.refusals.proofs.Outcomes.{number-positive}
use Rattle.limits_block.specs.LimitsBlock.{limits_refusal}
use Rattle.text.specs.Lists.{head}
use Rattle.lines.specs.Lines.{limits_lines}
use Rattle.lines.proofs.limits_lines.Goals as goal

module _ (bytes : List ℕ) (place : ℕ) {refused : ℕ} (e : refused ≡ limits_refusal bytes) where
  no_line : refused ≡ 0 → [] ≡ limits_lines bytes place
  unfolding limits_lines
  no_line z = rw (← e, eq-eqb refused 0 z) refl

  its_line : (refused ≡ 0 → ⊥) → head place refused 0 0 ≡ limits_lines bytes place
  unfolding limits_lines
  its_line h = rw (← e, ne_eqb refused 0 h) refl

pub returns-in-Err : goal.returns-in-Err
returns-in-Err c = c.head.ensures.items ∙ rw c.number.ensures (its_line _ _ c.in-Err.ensures.refusal (number-positive _))

pub returns-in_default : goal.returns-in_default
returns-in_default c = c.clear.ensures ∙ no_line _ _ c.in_default.ensures.refusal refl
