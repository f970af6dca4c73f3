-- The record of specs/Agreement.antt: any sequence of calls, refusals, compacting, and arms that come back.
use Prim.Native.Nat.{ℕ, zero, suc, ◌+◌, ◌*◌, ◌^◌, ◌<◌}
use mathlib.Core.Path.{◌≡◌, refl, ap, sym, ◌∙◌}
use mathlib.Core.Bool.{Bool, true, false, cond, not}
use mathlib.Core.List.{List, [], ◌∷◌, ◌++◌}
use native.Mathlib.Omega.{arith}
use borrow.Author.Tests.{eqb-true, eqb-false, eq-eqb, ne_eqb, leb-true}
use lib.Dec.{T, leb, eqb, leb-suc-suc}
use lib.Ieee.{Float, nan, inf, fin, binary64, is_nan, of_bits, to_bits}
use lib.Ieee.Bits.{to_bits-of_bits}
use lib.ListN.{length, get_or, replicate, length-replicate}
use Rattle.float.specs.Num.{nought}
use Rattle.float.specs.Number.{is_finite}
use Rattle.refusals.specs.Judge.{first_not_finite, all_finite}
use Rattle.words.specs.Words.{word, numbers}
use Rattle.block.specs.Block.{arm}
use Rattle.arms.specs.Arm.{Arm, holds, pick, Call, put, find, compact, own, arm_given}
use Rattle.arms.specs.File.{blocks, flat, arms, judge, room, effect, empty, refusal, gives, after, run, left}
use Rattle.arms.specs.Plain.{Plain, plain_effect, plain_refusal, plain_gives, plain_after, plain_run, no_arm, Stands, plain_of}
use Rattle.arms.specs.Agreement.{Each, none, more, Valid, Fits, FitsCall, new_file, Agreement}
use Rattle.arms.proofs.Lists.{at_end, more_holds, more_pick}
use Rattle.arms.proofs.Blocks.{each_replicate, no_arms, first_none}
use Rattle.arms.proofs.Bytes.{flat_blocks, flat_empty, blocks_flat, empty_zeros, empty_length, empty_sound}
use Rattle.arms.proofs.Agree.{Good, good_of, valid_of, put_known, own_is, plain_is, agrees}

stands : (buffer : List ℕ) → Valid buffer → Stands buffer (plain_of buffer)
stands buffer v = record { capacity_is = refl; alike = record { size = refl; holds_same = λ n. refl; pick_same = λ n. refl }; distinct = (good_of buffer v).distinct }

-- n empty blocks
new_good : (n : ℕ) → Good (replicate n empty)
new_good n = record { sizes = each_replicate n empty empty_length; sound = each_replicate n empty empty_sound; distinct = rw (no_arms n empty empty_zeros) no_arm }

new_valid : (n : ℕ) → Valid (new_file n)
new_valid n = rw (flat_empty n) at (valid_of (new_good n))

new_blocks : (n : ℕ) → blocks (new_file n) ≡ replicate n empty
new_blocks n = ap blocks (sym (flat_empty n)) ∙ blocks_flat (new_good n).sizes

new_stands : (n : ℕ) → Stands (new_file n) (record { capacity = n; held = [] })
new_stands n =
    let e : arms (blocks (new_file n)) ≡ [] = ap arms (new_blocks n) ∙ no_arms n empty empty_zeros in
    record {
      capacity_is = sym (ap (λ (bs : List (List ℕ)). length bs) (new_blocks n) ∙ length-replicate n empty);
      alike = record { size = rw e; holds_same = λ k. ap (λ (l : List Arm). holds k l) e; pick_same = λ k. ap (λ (l : List Arm). pick k l) e };
      distinct = no_arm;
    }

-- any sequence of calls
any_calls : {calls : List Call} (buffer : List ℕ) (plain : Plain) → Each FitsCall calls → Valid buffer → Stands buffer plain → run calls buffer ≡ plain_run calls plain
unfolding run plain_run
any_calls buffer plain none v s = refl
any_calls buffer plain (more {x = call} {xs = calls} f fs) v s =
    let a = agrees call buffer plain v s f in
    rw (a.same, any_calls (after call buffer) (plain_after call plain) fs a.valid a.stands)

from_new : {calls : List Call} (n : ℕ) → Each FitsCall calls → run calls (new_file n) ≡ plain_run calls (record { capacity = n; held = [] })
from_new n fits = any_calls (new_file n) _ fits (new_valid n) (new_stands n)

stays_valid : {calls : List Call} (buffer : List ℕ) → Each FitsCall calls → Valid buffer → Valid (left calls buffer)
unfolding left
stays_valid buffer none v = v
stays_valid buffer (more {x = call} f fs) v = stays_valid (after call buffer) fs (agrees call buffer (plain_of buffer) v (stands buffer v) f).valid

-- what is refused, and what a find leaves
refusal_keeps : (call : Call) (buffer : List ℕ) → (refusal call buffer ≡ 0 → ⊥) → after call buffer ≡ buffer
unfolding after
refusal_keeps call buffer n = rw (ne_eqb (refusal call buffer) 0 n)

find_keeps : (n : ℕ) (buffer : List ℕ) → after (find n) buffer ≡ buffer
unfolding after effect
find_keeps n buffer = go (eqb (refusal (find n) buffer) 0)
  where
    go : (t : Bool) → cond t (flat (blocks buffer)) buffer ≡ buffer
    go true = flat_blocks buffer
    go false = refl

-- compacting
compact_plain : (plain : Plain) → plain_after compact plain ≡ plain
unfolding plain_after plain_refusal own plain_effect
compact_plain plain = refl

bad_kept : (buffer : List ℕ) → (judge [] (blocks buffer) ≡ 0 → ⊥) → after compact buffer ≡ buffer
unfolding refusal
bad_kept buffer n = refusal_keeps compact buffer (λ e. n (first_none (judge [] (blocks buffer)) _ e))

compact_finds : (n : ℕ) (buffer : List ℕ) → gives (find n) (after compact buffer) ≡ gives (find n) buffer
compact_finds n buffer = go (eqb (judge [] (blocks buffer)) 0) refl
  where
    go : (t : Bool) → eqb (judge [] (blocks buffer)) 0 ≡ t → gives (find n) (after compact buffer) ≡ gives (find n) buffer
    go true e =
        let v = eqb-true (judge [] (blocks buffer)) 0 e in
        let s = stands buffer v in
        let a = agrees compact buffer (plain_of buffer) v s tt in
        let b = agrees (find n) (after compact buffer) (plain_after compact (plain_of buffer)) a.valid a.stands tt in
        let d = agrees (find n) buffer (plain_of buffer) v s tt in
        b.same ∙ (ap (λ (p : Plain). plain_gives (find n) p) (compact_plain (plain_of buffer)) ∙ sym d.same)
    go false e = ap (λ (l : List ℕ). gives (find n) l) (bad_kept buffer (eqb-false (judge [] (blocks buffer)) 0 e))

-- an arm that was put
found_last : (arm : Arm) (held : List Arm) (k : ℕ) → holds arm.number held ≡ false
    → plain_gives (find arm.number) (record { capacity = k; held = held ++ arm ∷ [] }) ≡ record { refusal = 0; arm = arm.numbers }
unfolding plain_gives plain_refusal own arm_given
found_last arm held k e =
    let same = eq-eqb arm.number arm.number refl in
    let h : holds arm.number (held ++ arm ∷ []) ≡ true = rw same at (more_holds arm.number (at_end arm held)) in
    let p : pick arm.number (held ++ arm ∷ []) ≡ arm = rw same at (more_pick arm.number (at_end arm held) e) in
    rw (h, p)

put_plain : (arm : Arm) (plain : Plain) → plain_refusal (put arm) plain ≡ 0 → plain_after (put arm) plain ≡ record { capacity = plain.capacity; held = plain.held ++ arm ∷ [] }
unfolding plain_after plain_effect
put_plain arm plain e = rw (eq-eqb (plain_refusal (put arm) plain) 0 e)

comes_back : (arm : Arm) (buffer : List ℕ) → Fits arm → refusal (put arm) buffer ≡ 0 → gives (find arm.number) (after (put arm) buffer) ≡ record { refusal = 0; arm = arm.numbers }
unfolding refusal
comes_back arm buffer fits e =
    let plain = plain_of buffer in
    let v = first_none (judge [] (blocks buffer)) _ e in
    let s = stands buffer v in
    let a = agrees (put arm) buffer plain v s fits in
    let b = agrees (find arm.number) (after (put arm) buffer) (plain_after (put arm) plain) a.valid a.stands tt in
    let o = sym (own_is (put arm) buffer plain v s) ∙ e in
    let k = put_known (arms (blocks buffer)) (room (blocks buffer)) arm o in
    let p = put_plain arm plain (sym (plain_is (put arm) buffer plain v s) ∙ e) in
    b.same ∙ (ap (λ (q : Plain). plain_gives (find arm.number) q) p ∙ found_last arm plain.held plain.capacity k.arm_is.fresh)

-- the bits of what is found
byte_small : (k : ℕ) {b : List ℕ} → Each (λ x. x < 256) b → get_or b k 0 < 256
byte_small k none = omega arith
byte_small zero (more h hs) = h
byte_small (suc k) (more h hs) = byte_small k hs

word_small : (b : List ℕ) (i : ℕ) → Each (λ x. x < 256) b → word b i < 2 ^ 64
word_small b i e =
    let at = 8 * i in
    omega (arith, byte_small at e, byte_small (at + 1) e, byte_small (at + 2) e, byte_small (at + 3) e, byte_small (at + 4) e, byte_small (at + 5) e, byte_small (at + 6) e, byte_small (at + 7) e)

not_nan : (x : Float) → is_finite x ≡ true → T (not (is_nan x))
unfolding is_nan
not_nan nan e = let z : ◌≡◌ {A = ℕ} 0 1 = cc in absurd (omega arith)
not_nan (inf s) e = tt
not_nan (fin s m e) f = tt

numbers_bits : (b : List ℕ) → Each (λ x. x < 256) b → (first n : ℕ) → all_finite (numbers b first n) ≡ true → (i : ℕ) → i < n → to_bits binary64 (get_or (numbers b first n) i nought) ≡ word b (first + i)
unfolding numbers first_not_finite
numbers_bits b bytes first zero f i h = absurd (omega arith)
numbers_bits b bytes first (suc n) f i h = go (is_finite (of_bits binary64 (word b first))) refl f i h (numbers_bits b bytes (first + 1) n)
  where
    x : Float
    x = of_bits binary64 (word b first)

    rest : List Float
    rest = numbers b (first + 1) n

    go : (t : Bool) → is_finite x ≡ t → leb (suc (length rest)) (cond t (suc (first_not_finite rest)) 0) ≡ true → (j : ℕ) → j < suc n
        → (all_finite rest ≡ true → (k : ℕ) → k < n → to_bits binary64 (get_or rest k nought) ≡ word b (first + 1 + k))
        → to_bits binary64 (get_or (x ∷ rest) j nought) ≡ word b (first + j)
    go true e g zero l ih = let z : first + 0 ≡ first = omega arith in rw z (to_bits-of_bits binary64 (word b first) (word_small b first bytes) (not_nan x e))
    go true e g (suc j) l ih =
        let z : first + 1 + j ≡ first + suc j = omega arith in
        rw (← z) (ih (sym (leb-suc-suc (length rest) (first_not_finite rest)) ∙ g) j (omega arith))
    go false e g j l ih = let z = leb-true (suc (length rest)) 0 g in absurd (omega arith)

same_bits : (b : List ℕ) → Each (λ x. x < 256) b → all_finite (arm b) ≡ true → (i : ℕ) → i < 39 → to_bits binary64 (get_or (arm b) i nought) ≡ word b (i + 1)
same_bits b bytes f i h = let e : 1 + i ≡ i + 1 = omega arith in rw e at (numbers_bits b bytes 1 39 f i h)

pub agreement : Agreement
agreement =
    record {
      stands = stands;
      new_valid = new_valid;
      new_stands = new_stands;
      one_call = λ call buffer plain fits v s. agrees call buffer plain v s fits;
      any_calls = any_calls;
      from_new = from_new;
      stays_valid = stays_valid;
      refusal_keeps = refusal_keeps;
      find_keeps = find_keeps;
      compact_finds = compact_finds;
      comes_back = comes_back;
      same_bits = same_bits;
    }
