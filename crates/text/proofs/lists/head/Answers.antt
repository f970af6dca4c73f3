-- Four words with their numbers, and the end of the line.
use Rattle.std.proofs.Common.{◌≡◌, ℕ, List, ◌++◌}
use Rattle.text.specs.Text.{text}
use Rattle.text.specs.Lists.{field, head}
use Rattle.text.proofs.Laws.{both}
use Rattle.text.proofs.lists.head.Goals as goal

module _ (place refusal answers evals : ℕ) where
  abbrev one : List ℕ
  one = field (text "block ") place

  abbrev two : List ℕ
  two = field (text " refusal ") refusal

  abbrev three : List ℕ
  three = field (text " answers ") answers

  abbrev four : List ℕ
  four = field (text " evals ") evals

  met : (l : List ℕ) {l1 l2 l3 l4 l5 : List ℕ} → l1 ≡ l ++ one → l2 ≡ l1 ++ two → l3 ≡ l2 ++ three → l4 ≡ l3 ++ four → l5 ≡ l4 ++ text "\n" → l5 ≡ l ++ head place refusal answers evals
  unfolding head
  met l p1 p2 p3 p4 p5 = both (one ++ two ++ three ++ four) (text "\n") l (both (one ++ two ++ three) four l (both (one ++ two) three l (both one two l p1 p2) p3) p4) p5

pub returns-clause-items : goal.returns-clause-items
returns-clause-items c =
    rw c.clear.ensures at (met _ _ _ _ _ c.field.ensures.items c.field-2.ensures.items c.field-3.ensures.items c.field-4.ensures.items c.push.ensures.items)
