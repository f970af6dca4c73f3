-- `hex`: one digit more, and all sixteen.
use Rattle.std.proofs.Common.{◌≡◌, ℕ, ◌+◌, ◌*◌, ◌-◌, ◌/◌, ◌%◌, ◌^◌, ◌<◌, ◌≤◌, List, [], ◌∷◌, ◌++◌, arith}
use Rattle.std.proofs.Math.Nat.{div-one}
use Rattle.std.specs.Float.{binary64}
use Rattle.std.specs.Float.Ieee.{to_bits}
use lib.Ieee.{Float}
use Rattle.text.specs.Text.{glyph, digits, hex}
use Rattle.text.proofs.Laws.{both, nothing, digit_more}
use Rattle.text.proofs.text.hex.Goals as goal

module _ (n i : ℕ) (l : List ℕ) {l1 : List ℕ} (p : l1 ≡ l ++ digits 16 i (n / 2 ^ (64 - 4 * i))) where
  again : {g : ℕ} {l2 : List ℕ} → i < 16 → g ≡ glyph (n / 2 ^ (60 - 4 * i) % 16) → l2 ≡ l1 ++ g ∷ [] → l2 ≡ l ++ digits 16 (i + 1) (n / 2 ^ (64 - 4 * (i + 1)))
  again h e q = rw (digit_more n i h) (both (digits 16 i (n / 2 ^ (64 - 4 * i))) (glyph (n / 2 ^ (60 - 4 * i) % 16) ∷ []) l p (rw e at q))

  all : (x : Float) → 16 ≤ i → i ≤ 16 → n ≡ to_bits binary64 x → l1 ≡ l ++ hex x
  unfolding hex
  all x h h' e =
      let full : i ≡ 16 = omega arith in
      let q = rw full at p in
      rw (div-one n, e) at q

pub loop-i-init : goal.loop-i-init
unfolding digits
loop-i-init c = record { written = nothing _; long = omega arith }

pub loop-i-preserved : goal.loop-i-preserved
loop-i-preserved c = record {
  written = again c.pattern-bits.result c.loop-i.i _ c.loop-i.invariant.written c.loop-i-test.true c.glyph.ensures c.push.ensures.items;
  long = omega arith;
}

pub returns-clause-items : goal.returns-clause-items
returns-clause-items c = all _ _ _ c.loop-i.invariant.written c.args.x c.loop-i-test.false c.loop-i.auto.i-end c.pattern-bits.ensures
