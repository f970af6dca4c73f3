-- `spell` writes the last digit first: what is left to write is the first digits, those of the rest.
use Rattle.std.proofs.Common.{◌≡◌, refl, ap, ◌∙◌, ℕ, suc, ◌+◌, ◌-◌, ◌/◌, ◌%◌, ◌≤◌, ◌<◌, List, [], ◌∷◌, ◌++◌, length, arith}
use native.Mathlib.Nat.{zero-add}
use lib.ListN.{set, length-set}
use lib.Seq.{sets}
use Rattle.text.specs.Text.{glyph, digits}
use Rattle.text.proofs.Laws.{last_first}
use Rattle.text.proofs.Long.{digits_long}
use Rattle.text.proofs.text.spell.Goals as goal

start : (out : List ℕ) (k n : ℕ) → sets out 0 (digits 10 (k - 0) n) ≡ sets out 0 (digits 10 k n)
start out k n = let e : k - 0 ≡ k = omega arith in rw e refl

grown : (out : List ℕ) (i g : ℕ) {n : ℕ} → length out ≡ n → length (set out i g) ≡ n
grown out i g e = length-set out i g ∙ e

module _ (out₀ out : List ℕ) (k n i rest : ℕ) (e : sets out 0 (digits 10 (k - i) rest) ≡ sets out₀ 0 (digits 10 k n)) where
  more : {g : ℕ} → i < k → g ≡ glyph (rest % 10) → sets (set out (k - 1 - i) g) 0 (digits 10 (k - (i + 1)) (rest / 10)) ≡ sets out₀ 0 (digits 10 k n)
  unfolding digits
  more {g} h e-g =
      let i-is : k - i ≡ suc (k - (i + 1)) = omega arith in
      let at-is : k - 1 - i ≡ k - (i + 1) = omega arith in
      let ds = digits 10 (k - (i + 1)) (rest / 10) in
      let whole : digits 10 (k - i) rest ≡ ds ++ (glyph (rest % 10) ∷ []) = ap (λ (j : ℕ). digits 10 j rest) i-is in
      let turned = last_first ds g out 0 in
      let long = digits_long 10 (k - (i + 1)) (rest / 10) in
      rw at-is (rw (whole, ← e-g, turned, long, zero-add (k - (i + 1))) at e)

  all : k ≤ i → out ≡ sets out₀ 0 (digits 10 k n)
  unfolding digits
  all h =
      let none : k - i ≡ 0 = omega arith in
      rw none at e

pub loop-i-init : goal.loop-i-init
loop-i-init c = record { written = start c.args.out.now c.args.k c.args.n; long = refl }

pub loop-i-preserved : goal.loop-i-preserved
loop-i-preserved c = record { written = search more; long = grown _ _ _ c.loop-i.invariant.long }

pub returns : goal.returns
returns c = search all
