-- Texts written one after another, and how long they are.
use Rattle.std.proofs.Common.{◌≡◌, refl, sym, ℕ, zero, suc, ◌+◌, ◌-◌, ◌*◌, ◌/◌, ◌%◌, ◌^◌, ◌≤◌, ◌<◌, List, [], ◌∷◌, ◌++◌, length, get_or, take, append_assoc, append-nil, add-zero, add-one, arith, lit<}
use Rattle.std.proofs.Math.Nat.{div-div-eq-div-mul, mod-lt, mod-eq_of_lt}
use Rattle.std.proofs.lemmas.Nat.{pow-add}
use Rattle.std.proofs.lemmas.Fmt.{decimal_from_appends, length-decimal-le}
use Rattle.std.specs.Fmt.{decimal as std_decimal}
use mathlib.Core.List.{flat_map}
use borrow.Author.Tests.{lt-ltb, le-ltb}
use lib.ListN.{set}
use lib.Seq.{sets, set_comm, take-suc}
use Rattle.text.specs.Text.{glyph, digits, places, decimal}

-- xs, and then ys
pub both : (xs ys l : List ℕ) {l1 l2 : List ℕ} → l1 ≡ l ++ xs → l2 ≡ l1 ++ ys → l2 ≡ l ++ (xs ++ ys)
both xs ys l p q = rw (q, p, append_assoc l xs ys) refl

-- the last byte may be written first
pub last_first : (xs : List ℕ) (y : ℕ) (l : List ℕ) (at : ℕ) → sets l at (xs ++ (y ∷ [])) ≡ sets (set l (at + length xs) y) at xs
last_first [] y l at = rw (add-zero at)
last_first (x ∷ xs) y l at =
    let e : at + suc (length xs) ≡ suc at + length xs = omega arith in
    let other : at ≡ suc at + length xs → ⊥ = λ h. omega arith in
    rw (last_first xs y (set l at x) (suc at), e, set_comm l at (suc at + length xs) x y other)

-- nothing is written yet
pub nothing : (l : List ℕ) → l ≡ l ++ []
nothing l = sym (append-nil l)

flat_map_append : {A B : Type 0} (g : A → List B) (xs ys : List A) → flat_map g (xs ++ ys) ≡ flat_map g xs ++ flat_map g ys
unfolding flat_map
flat_map_append g [] ys = refl
flat_map_append g (x ∷ xs) ys = rw (flat_map_append g xs ys, append_assoc)

pub one_more : {A B : Type 0} (g : A → List B) (l : List A) (d : A) (i : ℕ) → i < length l → flat_map g (take (i + 1) l) ≡ flat_map g (take i l) ++ g (get_or l i d)
unfolding flat_map
one_more g l d i h = rw (add-one i, take-suc l i d h, flat_map_append, append-nil)

-- one hexadecimal digit more of a number's sixteen
pub digit_more : (n i : ℕ) → i < 16
    → digits 16 (i + 1) (n / 2 ^ (64 - 4 * (i + 1))) ≡ digits 16 i (n / 2 ^ (64 - 4 * i)) ++ (glyph (n / 2 ^ (60 - 4 * i) % 16) ∷ [])
unfolding digits
digit_more n i h =
    let here : 64 - 4 * suc i ≡ 60 - 4 * i = omega arith in
    let wider : 64 - 4 * i ≡ (60 - 4 * i) + 4 = omega arith in
    rw (add-one i, here, wider, pow-add 2 (60 - 4 * i) 4, ← div-div-eq-div-mul n (2 ^ (60 - 4 * i)) 16) refl

-- the digits of a number of at most k decimal digits
abbrev upto : ℕ → ℕ → List ℕ
upto zero n = []
upto (suc k) n = digits 10 (places k n) n

last_digit : (n : ℕ) → glyph (n % 10) ≡ 48 + n % 10
last_digit n = rw (lt-ltb (n % 10) 10 (mod-lt n (omega arith))) refl

one_digit : (k n : ℕ) → n < 10 → upto (suc k) n ≡ (48 + n) ∷ []
unfolding digits places
one_digit zero n h = rw (last_digit n, mod-eq_of_lt h) refl
one_digit (suc k) n h = rw (lt-ltb n 10 h, last_digit n, mod-eq_of_lt h) refl

more_digits : (k n : ℕ) → 10 ≤ n → upto (suc k) n ≡ upto k (n / 10) ++ ((48 + n % 10) ∷ [])
unfolding digits places
more_digits zero n h = rw (last_digit n) refl
more_digits (suc k) n h = rw (le-ltb n 10 h, last_digit n) refl

-- std's text of a 64-bit number is this one
pub decimal_is : (n : ℕ) → n < 2 ^ 64 → std_decimal n ≡ decimal n
unfolding decimal
decimal_is n h = sym (decimal_from_appends upto (record { one = one_digit; more = more_digits }) 20 n h (length-decimal-le 20 n (lit< tt) (omega arith) h))
