-- What a function of src/ tests, for its contract: no definition cites this file.
use Rattle.std.specs.Prelude.{ℕ, zero, suc, Bool, true, ◌&&◌, List, eqb}
use Rattle.words.specs.Words.{word}

-- each of the first words is w
unfoldable pub same_words : List ℕ → ℕ → ℕ → Bool
same_words bytes zero w = true
same_words bytes (suc k) w = eqb (word bytes k) w && same_words bytes k w
