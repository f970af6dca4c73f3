-- What is proved of the file of arms as a whole (proofs/Agreed.antt). "Any sequence of calls on a valid buffer agrees, in what each call gives, with a plain list of numbered
-- arms that has room for one a block."
use Rattle.std.specs.Prelude.{ℕ, ◌+◌, ◌*◌, ◌^◌, ◌<◌, ◌≡◌, true, List, [], ◌∷◌, T, get_or, replicate}
use Rattle.std.specs.Float.{binary64}
use Rattle.std.specs.Float.Ieee.{fits, to_bits}
use Rattle.float.specs.Num.{nought}
use Rattle.refusals.specs.Judge.{all_finite}
use Rattle.words.specs.Words.{word}
use Rattle.block.specs.Block.{arm}
use Rattle.arms.specs.Arm.{Arm, Call, put, find, take_out, compact}
use Rattle.arms.specs.File.{blocks, number_bytes, judge, refusal, gives, after, run, left}
use Rattle.arms.specs.Plain.{Plain, plain_gives, plain_after, plain_run, Stands, plain_of}

-- each of a list is so
pub data Each {A : Type 0} (P : A → Type 0) : List A → Type 0 where
  none : Each P []
  more : {x : A} {xs : List A} → P x → Each P xs → Each P (x ∷ xs)

-- "a valid buffer": its judging refuses nothing
abbrev pub Valid : List ℕ → Type 0
Valid buffer = judge [] (blocks buffer) ≡ 0

-- what a call can be handed: a number that its bytes hold, and f64s (`fits binary64 x` says that x is one). Every u8 and every f64, finite or not, is so.
pub record Fits (arm : Arm) : Type 0 where
  pub number_fits : arm.number < 2 ^ (8 * number_bytes)
  pub numbers_fit : Each (λ x. T (fits binary64 x)) arm.numbers

abbrev pub FitsCall : Call → Type 0
FitsCall (put arm) = Fits arm
FitsCall (find n) = Unit
FitsCall (take_out n) = Unit
FitsCall compact = Unit

-- one call on a buffer and on the plain list that it stands for: they give the same, and after it the buffer is valid and stands for the list
pub record Agrees (call : Call) (buffer : List ℕ) (plain : Plain) : Type 0 where
  pub same : gives call buffer ≡ plain_gives call plain
  pub valid : Valid (after call buffer)
  pub stands : Stands (after call buffer) (plain_after call plain)

-- n empty blocks
abbrev pub new_file : ℕ → List ℕ
new_file n = replicate (512 * n) 0

pub record Agreement : Type 0 where
  -- every valid buffer stands for a plain list, and n empty blocks for the empty list with room for n
  pub stands : (buffer : List ℕ) → Valid buffer → Stands buffer (plain_of buffer)
  pub new_valid : (n : ℕ) → Valid (new_file n)
  pub new_stands : (n : ℕ) → Stands (new_file n) (record { capacity = n; held = [] })
  -- one call, and any sequence of calls: "agrees, in what each call gives"; and the buffer stays valid
  pub one_call : (call : Call) (buffer : List ℕ) (plain : Plain) → FitsCall call → Valid buffer → Stands buffer plain → Agrees call buffer plain
  pub any_calls : {calls : List Call} (buffer : List ℕ) (plain : Plain) → Each FitsCall calls → Valid buffer → Stands buffer plain → run calls buffer ≡ plain_run calls plain
  pub from_new : {calls : List Call} (n : ℕ) → Each FitsCall calls → run calls (new_file n) ≡ plain_run calls (record { capacity = n; held = [] })
  pub stays_valid : {calls : List Call} (buffer : List ℕ) → Each FitsCall calls → Valid buffer → Valid (left calls buffer)
  -- "A refusal changes no byte"; nor does a find
  pub refusal_keeps : (call : Call) (buffer : List ℕ) → (refusal call buffer ≡ 0 → ⊥) → after call buffer ≡ buffer
  pub find_keeps : (n : ℕ) (buffer : List ℕ) → after (find n) buffer ≡ buffer
  -- "compacting changes no find", of any buffer
  pub compact_finds : (n : ℕ) (buffer : List ℕ) → gives (find n) (after compact buffer) ≡ gives (find n) buffer
  -- an arm that was put is found again, number for number: -0.0 stays -0.0, and a finite f64 has one pattern
  pub comes_back : (arm : Arm) (buffer : List ℕ) → Fits arm → refusal (put arm) buffer ≡ 0 → gives (find arm.number) (after (put arm) buffer) ≡ record { refusal = 0; arm = arm.numbers }
  -- and what is found in any block has the bits of the block's words
  pub same_bits : (b : List ℕ) → Each (λ x. x < 256) b → all_finite (arm b) ≡ true → (i : ℕ) → i < 39 → to_bits binary64 (get_or (arm b) i nought) ≡ word b (i + 1)
