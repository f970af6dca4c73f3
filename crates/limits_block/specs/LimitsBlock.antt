-- The limits block. Document 02, request 1: "They come in a limits block: byte 3 of word 0 is 1, words 1 to 12 hold low then high, joint by joint, everything else but the
-- check is zero, or 3 is given".
use Rattle.std.specs.Prelude.{ℕ, Bool, ◌&&◌, cond, List, eqb, get_or, take, drop, Float}
use Rattle.words.specs.Words.{zeros, numbers}
use Rattle.block.specs.Block.{judged}
use Rattle.limits.specs.Limits.{refusal_10}

-- "byte 3 of word 0 is 1"; bytes that end before it are no limits block
abbrev pub is_limits : List ℕ → Bool
is_limits bytes = eqb (get_or bytes 3 0) 1

-- "words 1 to 12 hold low then high, joint by joint"
abbrev pub limits : List ℕ → List Float
limits bytes = numbers bytes 1 12

-- "everything else but the check is zero": bytes 0 to 2 and 4 to 7 of word 0, and words 13 to 62; and byte 3 is 1
unfoldable pub limits_reserved : List ℕ → Bool
limits_reserved bytes = is_limits bytes && zeros (take 3 bytes) && zeros (take 4 (drop 4 bytes)) && zeros (take 400 (drop 104 bytes))

-- refusals 1, 2, 3 and 10, the first that applies, or 0: 1 and 2 are those of any block; "or 3 is given"; 10 is "checked after 3 and before 4"
unfoldable pub limits_refusal : List ℕ → ℕ
limits_refusal bytes = judged bytes (cond (limits_reserved bytes) (refusal_10 (limits bytes)) 3)

-- none of them applies
abbrev pub accepted : List ℕ → Bool
accepted bytes = eqb (limits_refusal bytes) 0

-- the limits in force after a block, where `before` were in force: "It holds for the pose blocks after it until the next one; a refused one changes nothing."
unfoldable pub in_force : List ℕ → List Float → List Float
in_force bytes before = cond (accepted bytes) (limits bytes) before
