-- `card::registers::ended_status` meets its contract. Assumes nothing.
use mathlib.Core.Path.{refl, ◌≡◌}
use Prim.Native.Nat.{ℕ, ◌+◌, ◌*◌}
use mathlib.Core.Bool.{not}
use borrow.Author.Tests.{ne_eqb}
use lib.Dec.{eqb}
use Rattle.card.specs.Card.{bit}
use Rattle.card.proofs.registers.ended_status.Goals as goal

accepted : (refusal : ℕ) → refusal ≡ 0 → 2 ≡ 2 + 4 * bit (not (eqb refusal 0))
accepted refusal e = rw e refl

pub returns-then-refusal-eq0 : goal.returns-then-refusal-eq0
returns-then-refusal-eq0 c = search accepted

refused : (refusal : ℕ) → (refusal ≡ 0 → ⊥) → 6 ≡ 2 + 4 * bit (not (eqb refusal 0))
refused refusal e = rw (ne_eqb refusal 0 e) refl

pub returns-else-refusal-eq0 : goal.returns-else-refusal-eq0
returns-else-refusal-eq0 c = search refused
