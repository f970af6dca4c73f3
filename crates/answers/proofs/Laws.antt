-- The laws of Rows.antt for answers of six numbers.
use Prim.Native.Nat.{ℕ, ◌*◌, ◌≤◌}
use mathlib.Core.Path.{◌≡◌, refl}
use mathlib.Core.List.{List, [], ◌++◌, map, flat_map}
use native.Mathlib.Omega.{arith}
use lib.Ieee.{Float}
use lib.ListN.{length, drop}
use Rattle.answers.specs.Answer.{six, byte}
use Rattle.answers.specs.Written.{sixes, room, written, flagged, Wrote}
use Rattle.answers.specs.declared.Answer.{Answer}
use Rattle.answers.proofs.Rows as Rows
use Rattle.answers.proofs.Rows.{Good}

pub six_good : Good sixes
six_good = record { width = omega arith; long = λ q. refl }

pub length_six : (qs : List Answer) → length (flat_map six qs) ≡ 6 * length qs
length_six = Rows.length_rows sixes six_good

pub written_long : (qs : List Answer) (a : List Float) (f : List ℕ) → length (written qs a f) ≡ length a
written_long = Rows.written_long sixes six_good

pub flagged_long : (qs : List Answer) (a : List Float) (f : List ℕ) → length (flagged qs a f) ≡ length f
flagged_long = Rows.flagged_long sixes six_good

pub angles_are : (xs ys : List Answer) (a : List Float) (f : List ℕ) → length xs ≤ room a f → written xs a f ≡ flat_map six xs ++ drop (6 * length xs) a
angles_are = Rows.angles_are sixes six_good

pub flags_are : (xs ys : List Answer) (a : List Float) (f : List ℕ) → length xs ≤ room a f → flagged xs a f ≡ map byte xs ++ drop (length xs) f
flags_are = Rows.flags_are sixes six_good

pub nothing : (a : List Float) (f : List ℕ) → Wrote [] a f a f 0
nothing = Rows.nothing sixes six_good

pub by_name : {qs rs : List Answer} {a₀ a : List Float} {f₀ f : List ℕ} {r : ℕ} → qs ≡ rs → Wrote qs a₀ f₀ a f r → Wrote rs a₀ f₀ a f r
by_name e w = Rows.by_name sixes six_good e w
