-- Numbered arms, the calls, what a call is refused for and what it gives: what the file of arms (File.antt) and the plain list (Plain.antt) have in common.
-- Document 02, request 7: "The operations are put (into the first empty block), find, take out (the block becomes zero) and compact".
use Rattle.std.specs.Prelude.{ℕ, Bool, false, cond, ◌||◌, Result, Ok, Err, List, [], ◌∷◌, eqb, Float, length, replicate}
use Rattle.float.specs.Num.{nought}
use Rattle.refusals.specs.Judge.{all_finite}

-- an arm with its number
pub record Arm : Type 0 where
  pub number : ℕ
  pub numbers : List Float

abbrev pub numbered : ℕ → List Float → Arm
numbered n numbers = record { number = n; numbers = numbers }

-- "39 zeros"
abbrev pub zeros_39 : List Float
zeros_39 = replicate 39 nought

-- the first refusal that applies; 0 is none
unfoldable pub or_else : ℕ → ℕ → ℕ
or_else first later = cond (eqb first 0) later first

-- whether a number is held, and the arm that has it
unfoldable pub holds : ℕ → List Arm → Bool
holds n [] = false
holds n (arm ∷ arms) = eqb arm.number n || holds n arms

unfoldable pub pick : ℕ → List Arm → Arm
pick n [] = numbered 0 zeros_39
pick n (arm ∷ arms) = cond (eqb arm.number n) arm (pick n arms)

-- what an arm is refused for, in a block or put, where these arms are held already: "8 for an arm that isn't finite", "13 for a non-empty block numbered 0 or as an earlier
-- one", "13, put of number 0 or one already held"
unfoldable pub arm_fault : List Arm → Arm → ℕ
arm_fault held arm = cond (all_finite arm.numbers) (cond (eqb arm.number 0 || holds arm.number held) 13 0) 8

-- an arm that is put is 39 numbers, or 5: "put's own 5 and 8 come after the buffer"
unfoldable pub put_fault : List Arm → Arm → ℕ
put_fault held arm = cond (eqb (length arm.numbers) 39) (arm_fault held arm) 5

pub data Call : Type 0 where
  put : Arm → Call
  find : ℕ → Call
  take_out : ℕ → Call
  compact : Call

-- a call's own refusals, where these arms are held and there is room for one more or not: "Refused: 13, put of number 0 or one already held; 14, find or take out of a number
-- not held; 15, put when no block is empty. They are checked in that order, after 8."
unfoldable pub own : List Arm → Bool → Call → ℕ
own held room (put arm) = or_else (put_fault held arm) (cond room 0 15)
own held room (find n) = cond (holds n held) 0 14
own held room (take_out n) = cond (holds n held) 0 14
own held room compact = 0

-- "Find gives the arm, or 39 zeros where it is refused"; the other calls give no arm
unfoldable pub arm_given : ℕ → List Arm → Call → List Float
arm_given refused held (put arm) = []
arm_given refused held (find n) = cond (eqb refused 0) (pick n held).numbers zeros_39
arm_given refused held (take_out n) = []
arm_given refused held compact = []

-- the same of a result: the arm, or 39 zeros
abbrev pub arm_or_zeros : {R : Type 0} → Result (List Float) R → List Float
arm_or_zeros (Ok arm) = arm
arm_or_zeros (Err refused) = zeros_39

-- what a call gives
pub record Gave : Type 0 where
  pub refusal : ℕ
  pub arm : List Float

abbrev pub gave : ℕ → List Arm → Call → Gave
gave refused held call = record { refusal = refused; arm = arm_given refused held call }
