-- The file of arms. Document 02, request 7: "Service engineers keep the arms of a site in one lent buffer of 512-byte blocks, each an arm: its number 1 to 255 in byte 0 of
-- word 0, words 1 to 39 as in a pose block, the rest zero, the check as before. An all-zero block is empty."
use Rattle.std.specs.Prelude.{ℕ, zero, suc, ◌+◌, ◌-◌, ◌/◌, ◌%◌, Bool, false, cond, not, ◌&&◌, ◌||◌, List, [], ◌∷◌, ◌++◌, eqb, Float, length, get_or, take, drop, replicate}
use Rattle.std.specs.Float.{binary64}
use Rattle.std.specs.Float.Ieee.{to_bits}
use Rattle.words.specs.Words.{zeros}
use Rattle.block.specs.Block.{arm, judged}
use Rattle.block.specs.Check.{check}
use Rattle.arms.specs.Arm.{Arm, numbered, or_else, arm_fault, Call, put, find, take_out, compact, own, Gave, gave}

-- the blocks of a buffer: 512 bytes each, and the last is short where the length is no multiple of 512
unfoldable pub blocks_of : ℕ → List ℕ → List (List ℕ)
blocks_of zero bytes = []
blocks_of (suc n) bytes = take 512 bytes ∷ blocks_of n (drop 512 bytes)

unfoldable pub blocks : List ℕ → List (List ℕ)
blocks bytes = blocks_of ((length bytes + 511) / 512) bytes

-- the bytes of blocks
unfoldable pub flat : List (List ℕ) → List ℕ
flat [] = []
flat (b ∷ bs) = b ++ flat bs

-- word 0 is the number's bytes and the zeros beside it
abbrev pub number_bytes : ℕ
number_bytes = 1

abbrev pub number_gap : ℕ
number_gap = 7

-- "its number 1 to 255 in byte 0 of word 0, words 1 to 39 as in a pose block"
unfoldable pub number : List ℕ → ℕ
number b = get_or b 0 0

unfoldable pub arm_of : List ℕ → Arm
arm_of b = numbered (number b) (arm b)

-- "the rest zero": bytes 1 to 7 of word 0, and words 40 to 62
unfoldable pub rest : List ℕ → Bool
rest b = zeros (take number_gap (drop number_bytes b)) && zeros (take 184 (drop 320 b))

-- the arms held, in their order: "An all-zero block is empty"
unfoldable pub arms : List (List ℕ) → List Arm
arms [] = []
arms (b ∷ bs) = cond (zeros b) (arms bs) (arm_of b ∷ arms bs)

-- what a block is refused for, where these arms stand before it: "1, 2 or 3 as for blocks, 8 for an arm that isn't finite .., 13 for a non-empty block numbered 0 or as an
-- earlier one"
unfoldable pub block_fault : List Arm → List ℕ → ℕ
block_fault earlier b = judged b (cond (zeros b) 0 (cond (rest b) (arm_fault earlier (arm_of b)) 3))

-- "Every operation first judges the buffer, block by block"
unfoldable pub judge : List Arm → List (List ℕ) → ℕ
judge earlier [] = 0
judge earlier (b ∷ bs) = or_else (block_fault earlier b) (judge (earlier ++ arms (b ∷ [])) bs)

-- the n bytes of a number, the least significant first; the bytes of f64s, eight each
unfoldable pub little : ℕ → ℕ → List ℕ
little zero v = []
little (suc n) v = v % 256 ∷ little n (v / 256)

unfoldable pub eights : List Float → List ℕ
eights [] = []
eights (x ∷ numbers) = little 8 (to_bits binary64 x) ++ eights numbers

-- the block of an arm: number, zeros, the arm, zeros, and the check of these 504 bytes
unfoldable pub body : Arm → List ℕ
body arm = little number_bytes arm.number ++ (replicate number_gap 0 ++ (eights arm.numbers ++ replicate 184 0))

unfoldable pub block_of : Arm → List ℕ
block_of arm = body arm ++ little 8 (check (body arm))

unfoldable pub empty : List ℕ
empty = replicate 512 0

-- the first block that passes a test becomes another
unfoldable pub replace : (List ℕ → Bool) → List ℕ → List (List ℕ) → List (List ℕ)
replace test new [] = []
replace test new (b ∷ bs) = cond (test b) (new ∷ bs) (b ∷ replace test new bs)

-- a block holds the arm of a number
unfoldable pub has : ℕ → List ℕ → Bool
has n b = not (zeros b) && eqb (number b) n

-- some block is empty
unfoldable pub room : List (List ℕ) → Bool
room [] = false
room (b ∷ bs) = zeros b || room bs

-- the blocks that are not empty, in their order
unfoldable pub front : List (List ℕ) → List (List ℕ)
front [] = []
front (b ∷ bs) = cond (zeros b) (front bs) (b ∷ front bs)

-- "put (into the first empty block), find, take out (the block becomes zero) and compact, which moves held arms to the front in their order and zeroes every block behind them"
unfoldable pub effect : Call → List (List ℕ) → List (List ℕ)
effect (put arm) bs = replace zeros (block_of arm) bs
effect (find n) bs = bs
effect (take_out n) bs = replace (has n) empty bs
effect compact bs = front bs ++ replicate (length bs - length (front bs)) empty

-- a call's refusal: "Every operation first judges the buffer", then its own
unfoldable pub refusal : Call → List ℕ → ℕ
refusal call buffer = or_else (judge [] (blocks buffer)) (own (arms (blocks buffer)) (room (blocks buffer)) call)

-- what it gives, and the buffer after it: "A refusal changes no byte."
unfoldable pub gives : Call → List ℕ → Gave
gives call buffer = gave (refusal call buffer) (arms (blocks buffer)) call

unfoldable pub after : Call → List ℕ → List ℕ
after call buffer = cond (eqb (refusal call buffer) 0) (flat (effect call (blocks buffer))) buffer

-- a sequence of calls: what each gives, and the buffer after them all
unfoldable pub run : List Call → List ℕ → List Gave
run [] buffer = []
run (call ∷ calls) buffer = gives call buffer ∷ run calls (after call buffer)

unfoldable pub left : List Call → List ℕ → List ℕ
left [] buffer = buffer
left (call ∷ calls) buffer = left calls (after call buffer)
