-- When two results are the same.
use Rattle.std.specs.Prelude.{ℕ, zero, suc, ◌+◌, Bool, true, false, cond, ◌&&◌, ◌||◌, List, ◌==◌, slice_index}
use Rattle.std.specs.Float.{binary64}
use Rattle.std.specs.Float.Ieee.{nan_bits}
use Rattle.words.specs.Words.{word}

-- Two results are the same if their words are, or if both are patterns of a NaN, whose bits document 01 leaves open.
abbrev pub same : ℕ → ℕ → Bool
same a b = a == b || (nan_bits binary64 a && nan_bits binary64 b)

-- whether the n results from place k on are a record's; word i stands at place 0
unfoldable pub agree : List ℕ → ℕ → ℕ → ℕ → List ℕ → Bool
agree bytes i zero k results = true
agree bytes i (suc n) k results = cond (same (word bytes (i + k)) (slice_index results k)) (agree bytes i n (k + 1) results) false
