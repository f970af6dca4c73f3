-- Every byte passes the test exactly if all are zero.
use Rattle.std.proofs.Common.{◌≡◌, ℕ, List, [], ◌∷◌, ◌&&◌, eqb, refl, ap, ◌∙◌, rules, tests}
use Rattle.std.specs.List.{list_all}
use Rattle.std.proofs.lemmas.Iterator.{YieldsList-from_slice}
use Rattle.std.proofs.lemmas.Iterator.Search.{all_from_yields_List}
use Rattle.words.specs.Words.{zeros}
use Rattle.words.proofs.zero_bytes.Goals as goal

all-zero : (bytes : List ℕ) → list_all (λ b. eqb b 0) bytes ≡ zeros bytes
unfolding zeros
all-zero [] = refl
all-zero (b ∷ bytes) = ap (λ t. eqb b 0 && t) (all-zero bytes)

pub returns : goal.returns
returns c =
    all_from_yields_List (λ b. eqb b 0) _ _ c.all.result c.all.ensures.ran (YieldsList-from_slice c.args.bytes.now cc) (λ x b q k. search (rules, tests)) ∙ all-zero c.args.bytes.now
