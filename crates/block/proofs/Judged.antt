-- A block that is not refused: it is whole, and the rest of its judging does not refuse it.
use Rattle.std.proofs.Common.{◌≡◌, ℕ, ◌≤◌, Bool, true, false, cond, eqb, ltb, List, length, refl, arith, ltb-false}
use Rattle.words.specs.Words.{word}
use Rattle.block.specs.Check.{check}
use Rattle.block.specs.Block.{judged}

abbrev first : Bool → Bool → ℕ → ℕ
first short right rest = cond short 1 (cond right rest 2)

long : (short right : Bool) (rest : ℕ) → first short right rest ≡ 0 → short ≡ false
long true right rest e = absurd (omega arith)
long false right rest e = refl

zero : (short right : Bool) (rest : ℕ) → first short right rest ≡ 0 → rest ≡ 0
zero true right rest e = absurd (omega arith)
zero false true rest e = e
zero false false rest e = absurd (omega arith)

module _ (bytes : List ℕ) (rest : ℕ) where
  -- a block that is not refused is whole, and its rest does not refuse it
  pub undamaged : judged bytes rest ≡ 0 → 512 ≤ length bytes
  undamaged e = ltb-false (length bytes) 512 (long (ltb (length bytes) 512) (eqb (word bytes 63) (check bytes)) rest e)

  pub passed : judged bytes rest ≡ 0 → rest ≡ 0
  passed e = zero (ltb (length bytes) 512) (eqb (word bytes 63) (check bytes)) rest e
