-- std's copy within a list, seen as what stands before the place's end and what behind that of the source.
use Rattle.std.proofs.Common.{◌≡◌, ℕ, ◌+◌, ◌-◌, ◌≤◌, List, length, drop, refl, sym, ap, ◌∙◌, arith}
use Rattle.std.specs.List.{copy_within}
use Rattle.std.proofs.Math.Seq.{paste}
use lib.ListN.{length-drop}
use lib.Seq.{take-add, drop-drop}
use Rattle.std.proofs.lemmas.List.Edits.{take-paste, drop-paste, length-paste}
use Rattle.arms.specs.Port.{Moved}
use Rattle.arms.proofs.move_down.Goals as goal

module _ (b : List ℕ) (from to : ℕ) (low : to ≤ from) (fit : from + 512 ≤ length b) where
  copied : Moved from to b (copy_within b from (from + 512) to)
  copied =
      let d = length-drop from b in
      let k : from + 512 - from ≡ 512 = omega arith in
      let g : to + 512 + (from - to) ≡ from + 512 = omega arith in
      let tail = drop-paste b to (drop from b) 512 (omega arith) (omega arith) in
      rw k (record {
        long = length-paste b to (drop from b) 512 (omega arith) (omega arith);
        there = take-paste b to (drop from b) 512 (omega arith) (omega arith);
        behind = ap (λ (m : ℕ). drop m (paste b to (drop from b) 512)) (sym g) ∙ (sym (drop-drop (from - to) (to + 512) (paste b to (drop from b) 512)) ∙ (ap (λ (x : List ℕ). drop (from - to) x) tail ∙ (drop-drop (from - to) (to + 512) b ∙ ap (λ (m : ℕ). drop m b) g)));
      })

stays : (b : List ℕ) (from to : ℕ) → to ≡ from → Moved from to b b
stays b from to e = record { long = refl; there = rw e (take-add from 512 b); behind = refl }

pub returns-then-to-from : goal.returns-then-to-from
returns-then-to-from c = rw c.copy_within.ensures.after (copied c.args.b.now c.args.from c.args.to c.requires.0 c.requires.1)

pub returns-else-to-from : goal.returns-else-to-from
returns-else-to-from c = stays c.args.b.now c.args.from c.args.to c.if-to-from.false
