-- What a write took, where it failed nothing.
use Rattle.std.proofs.Common.{◌≡◌, ℕ, Option, Some, None, refl}
use Rattle.std.specs.Option.{unwrap_or}
use Rattle.stream.specs.Standing.{count}

pub took_is : (gave : Option ℕ) → unwrap_or gave 0 ≡ count gave
took_is (Some n) = refl
took_is None = refl
