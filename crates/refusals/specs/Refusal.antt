-- The numbers of the refusals. Document 01 and document 02, "Refusals".
use Rattle.std.specs.Prelude.{ℕ, Result, Ok, Err}
use Rattle.refusals.specs.declared.refusal.Refusal.{Refusal}
use Rattle.refusals.specs.declared.refusal.Refusal.TheVariants.{ShortBlock, WrongCheck, Reserved, Family, ArmLength, PoseLength, Samples, NotFinite, NoRoom, Limits, Lock, NoneAllowed, ArmNumber, NotHeld, FileFull, AnglesLength}

abbrev pub number : Refusal → ℕ
number ShortBlock = 1
number WrongCheck = 2
number Reserved = 3
number Family = 4
number ArmLength = 5
number PoseLength = 6
number Samples = 7
number NotFinite = 8
number NoRoom = 9
number Limits = 10
number Lock = 11
number NoneAllowed = 12
number ArmNumber = 13
number NotHeld = 14
number FileFull = 15
number AnglesLength = 18

-- the number of what a call refuses, or 0
abbrev pub number_of : {T : Type 0} → Result T Refusal → ℕ
number_of (Ok x) = 0
number_of (Err r) = number r
