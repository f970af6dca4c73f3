-- What is read back from two lists is what was written to them.
use Prim.Native.Nat.{ℕ, zero, suc, ◌+◌, ◌*◌, ◌≤◌, ◌<◌}
use mathlib.Core.Path.{◌≡◌, refl, ap, ◌∙◌}
use mathlib.Core.Bool.{Bool, true, false}
use mathlib.Core.List.{List, [], ◌∷◌, ◌++◌, map, flat_map}
use native.Mathlib.Omega.{arith}
use native.Mathlib.Nat.{not-suc-le-zero}
use lib.Dec.{eqb}
use lib.Ieee.{Float, nan}
use lib.ListN.{length, get_or, drop}
use lib.Seq.{get_or-drop}
use Rattle.answers.specs.Answer.{six, byte, flag}
use Rattle.answers.specs.Written.{room, Wrote}
use Rattle.answers.specs.Held.{read, held}
use Rattle.answers.specs.declared.Answer.{Answer}
use Rattle.answers.proofs.Laws.{angles_are, flags_are}

-- answer k of the rest is answer k + 1
read_rest : (a : List Float) (f : List ℕ) (k : ℕ) → read (drop 6 a) (drop 1 f) k ≡ read a f (suc k)
unfolding read
read_rest a f k =
    let e0 : 6 + 6 * k ≡ 6 * suc k = omega arith in
    let e1 : 6 + (6 * k + 1) ≡ 6 * suc k + 1 = omega arith in
    let e2 : 6 + (6 * k + 2) ≡ 6 * suc k + 2 = omega arith in
    let e3 : 6 + (6 * k + 3) ≡ 6 * suc k + 3 = omega arith in
    let e4 : 6 + (6 * k + 4) ≡ 6 * suc k + 4 = omega arith in
    let e5 : 6 + (6 * k + 5) ≡ 6 * suc k + 5 = omega arith in
    let e6 : 1 + k ≡ suc k = omega arith in
    rw (get_or-drop 6 a (6 * k) nan, get_or-drop 6 a (6 * k + 1) nan, get_or-drop 6 a (6 * k + 2) nan, get_or-drop 6 a (6 * k + 3) nan, get_or-drop 6 a (6 * k + 4) nan, get_or-drop 6 a (6 * k + 5) nan, get_or-drop 1 f k 0, e0, e1, e2, e3, e4, e5, e6)

pub held_at : (n : ℕ) (a : List Float) (f : List ℕ) (k : ℕ) (d : Answer) → k < n → get_or (held n a f) k d ≡ read a f k
unfolding held
held_at zero a f k d h = absurd (not-suc-le-zero h)
held_at (suc n) a f zero d h = refl
held_at (suc n) a f (suc k) d h = held_at n (drop 6 a) (drop 1 f) k d (omega arith) ∙ read_rest a f k

pub held_long : (n : ℕ) (a : List Float) (f : List ℕ) → length (held n a f) ≡ n
unfolding held
held_long zero a f = refl
held_long (suc n) a f = ap suc (held_long n (drop 6 a) (drop 1 f))

is_flag : (b : Bool) → eqb (flag b) 1 ≡ b
is_flag true = refl
is_flag false = refl

-- the first of answers that stand in front
first : (q : Answer) (a : List Float) (f : List ℕ) → read (six q ++ a) (byte q ∷ f) 0 ≡ q
unfolding read
first q a f = rw (is_flag q.is_ls)

in_front : (qs : List Answer) (a : List Float) (f : List ℕ) → held (length qs) (flat_map six qs ++ a) (map byte qs ++ f) ≡ qs
unfolding held flat_map
in_front [] a f = refl
in_front (q ∷ qs) a f = rw (first q (flat_map six qs ++ a) (map byte qs ++ f), in_front qs a f)

-- where all answers fit the lists that they are written to
pub held_written : {qs : List Answer} {a₀ a : List Float} {f₀ f : List ℕ} {n : ℕ} → Wrote qs a₀ f₀ a f n → length qs ≤ room a₀ f₀ → held n a f ≡ qs
held_written {qs} {a₀} {f₀ = f₀} w h = rw (w.all_counted, w.all_angles, w.all_flags, angles_are qs [] a₀ f₀ h, flags_are qs [] a₀ f₀ h) (in_front qs _ _)
