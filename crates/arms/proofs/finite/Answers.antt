-- The words pass the test exactly if the numbers are finite.
use Rattle.std.proofs.Common.{◌≡◌, ℕ, zero, suc, ◌+◌, Bool, true, false, cond, ◌&&◌, List, ◌∷◌, length, refl, sym, ap, ◌∙◌, arith, rules, tests}
use borrow.Author.Tests.{lt-leb}
use lib.Dec.{leb, leb-suc-suc}
use lib.Ieee.{Float, binary64, of_bits}
use Rattle.std.specs.List.{list_all, range_with_len}
use Rattle.std.proofs.lemmas.Iterator.{YieldsList-from_range}
use Rattle.std.proofs.lemmas.Iterator.Search.{all_from_yields_List}
use Rattle.float.specs.Number.{is_finite}
use Rattle.refusals.specs.Judge.{first_not_finite, all_finite}
use Rattle.words.specs.Words.{word, numbers}
use Rattle.arms.proofs.finite.Goals as goal

with-one : (x : Float) (l : List Float) → all_finite (x ∷ l) ≡ (is_finite x && all_finite l)
unfolding first_not_finite
with-one x l = go (is_finite x)
  where
    go : (t : Bool) → leb (suc (length l)) (cond t (suc (first_not_finite l)) 0) ≡ (t && leb (length l) (first_not_finite l))
    go true = leb-suc-suc (length l) (first_not_finite l)
    go false = lt-leb (suc (length l)) 0 (omega arith)

abbrev finite_at : List ℕ → ℕ → Bool
finite_at b i = is_finite (of_bits binary64 (word b i))

all-words : (b : List ℕ) (first n : ℕ) → list_all (finite_at b) (range_with_len first n) ≡ all_finite (numbers b first n)
unfolding numbers first_not_finite
all-words b first zero = refl
all-words b first (suc n) = ap (λ t. finite_at b first && t) (all-words b (first + 1) n) ∙ sym (with-one (of_bits binary64 (word b first)) (numbers b (first + 1) n))

pub returns : goal.returns
returns c =
    let b = c.args.b.now in
    all_from_yields_List (finite_at b) _ _ c.all.result c.all.ensures.ran (YieldsList-from_range 1 40 39 refl refl) (λ x r q k. search (rules, tests)) ∙ all-words b 1 39
