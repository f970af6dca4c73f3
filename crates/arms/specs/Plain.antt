-- "a plain list of numbered arms that has room for one a block", and what it is for a buffer to stand for such a list.
use Rattle.std.specs.Prelude.{ℕ, ◌≡◌, false, cond, List, [], ◌∷◌, ◌++◌, ltb, eqb, length}
use Rattle.arms.specs.Arm.{Arm, holds, pick, Call, put, find, take_out, compact, own, Gave, gave}
use Rattle.arms.specs.File.{blocks, arms}

pub record Plain : Type 0 where
  pub capacity : ℕ
  pub held : List Arm

-- the list without the arm of a number
unfoldable pub without : ℕ → List Arm → List Arm
without n [] = []
without n (arm ∷ arms) = cond (eqb arm.number n) arms (arm ∷ without n arms)

-- what each call does to the list; compact does nothing
unfoldable pub plain_effect : Call → List Arm → List Arm
plain_effect (put arm) held = held ++ arm ∷ []
plain_effect (find n) held = held
plain_effect (take_out n) held = without n held
plain_effect compact held = held

-- a call on the plain list: its refusal, what it gives, and the list after it
unfoldable pub plain_refusal : Call → Plain → ℕ
plain_refusal call plain = own plain.held (ltb (length plain.held) plain.capacity) call

unfoldable pub plain_gives : Call → Plain → Gave
plain_gives call plain = gave (plain_refusal call plain) plain.held call

unfoldable pub plain_after : Call → Plain → Plain
plain_after call plain =
    record { capacity = plain.capacity; held = cond (eqb (plain_refusal call plain) 0) (plain_effect call plain.held) plain.held }

-- what a sequence of calls gives
unfoldable pub plain_run : List Call → Plain → List Gave
plain_run [] plain = []
plain_run (call ∷ calls) plain = plain_gives call plain ∷ plain_run calls (plain_after call plain)

-- no two have one number
pub data Distinct : List Arm → Type 0 where
  no_arm : Distinct []
  one_more : {arm : Arm} {arms : List Arm} → holds arm.number arms ≡ false → Distinct arms → Distinct (arm ∷ arms)

-- two lists of one length in which every number is held alike, by the same arm
pub record Alike (xs ys : List Arm) : Type 0 where
  pub size : length xs ≡ length ys
  pub holds_same : (n : ℕ) → holds n xs ≡ holds n ys
  pub pick_same : (n : ℕ) → pick n xs ≡ pick n ys

-- a buffer stands for a plain list: room for one arm a block, and the same arms, in whatever order
pub record Stands (buffer : List ℕ) (plain : Plain) : Type 0 where
  pub capacity_is : plain.capacity ≡ length (blocks buffer)
  pub alike : Alike (arms (blocks buffer)) plain.held
  pub distinct : Distinct plain.held

-- the plain list of a buffer
abbrev pub plain_of : List ℕ → Plain
plain_of buffer = record { capacity = length (blocks buffer); held = arms (blocks buffer) }
