-- What a refusal that is passed on comes to.
use Rattle.std.proofs.Common.{◌≡◌, ◌≢◌, Result, refl, arith}
use Rattle.std.specs.Result.{IsErrAnd}
use Rattle.std.proofs.lemmas.Result.{err_from_is_err_and}
use Rattle.refusals.specs.declared.refusal.Refusal.{Refusal}
use Rattle.refusals.specs.declared.refusal.Refusal.TheVariants.{ShortBlock, WrongCheck, Reserved, Family, ArmLength, PoseLength, Samples, NotFinite, NoRoom, Limits, Lock, NoneAllowed, ArmNumber, NotHeld, FileFull, AnglesLength}
use Rattle.refusals.specs.Refusal.{number, number_of}

-- none has the number of no refusal
pub number-positive : (refusal : Refusal) → number refusal ≢ 0
number-positive ShortBlock = λ h. omega arith
number-positive WrongCheck = λ h. omega arith
number-positive Reserved = λ h. omega arith
number-positive Family = λ h. omega arith
number-positive ArmLength = λ h. omega arith
number-positive PoseLength = λ h. omega arith
number-positive Samples = λ h. omega arith
number-positive NotFinite = λ h. omega arith
number-positive NoRoom = λ h. omega arith
number-positive Limits = λ h. omega arith
number-positive Lock = λ h. omega arith
number-positive NoneAllowed = λ h. omega arith
number-positive ArmNumber = λ h. omega arith
number-positive NotHeld = λ h. omega arith
number-positive FileFull = λ h. omega arith
number-positive AnglesLength = λ h. omega arith

-- what the exit of a `?` gives
pub passed_on : {T : Type 0} (r : Result T Refusal) (refusal : Refusal) → IsErrAnd r (λ e. e ≡ refusal) → number_of r ≡ number refusal
passed_on r refusal h = let p = err_from_is_err_and r h in rw (p.1, p.2) refl
