-- The file agrees with the plain list, call by call.
use Prim.Native.Nat.{ℕ, ◌-◌, ◌≤◌}
use mathlib.Core.Path.{◌≡◌, refl, ap, sym, ◌∙◌}
use mathlib.Core.Bool.{Bool, true, false, cond, ◌||◌}
use mathlib.Core.List.{List, []}
use native.Mathlib.Omega.{arith}
use borrow.Author.Tests.{eqb-true, eqb-false}
use lib.Dec.{ltb, eqb}
use lib.ListN.{length, replicate, length-append, length-replicate}
use Rattle.words.specs.Words.{zeros}
use Rattle.block.proofs.Judged.{undamaged}
use Rattle.refusals.specs.Judge.{all_finite}
use Rattle.arms.specs.Arm.{Arm, holds, arm_fault, put_fault, Call, put, find, take_out, compact, own, arm_given, Gave}
use Rattle.arms.specs.File.{blocks, flat, arms, block_fault, judge, block_of, empty, replace, has, room, front, effect, refusal, gives, after}
use Rattle.arms.specs.Plain.{Plain, plain_effect, plain_refusal, plain_gives, plain_after, Distinct, no_arm, Alike, Stands}
use Rattle.arms.specs.Agreement.{Each, none, more, Valid, Fits, FitsCall, Agrees}
use Rattle.arms.proofs.Lists.{More, at_end, or_false_left, or_false_right, more_distinct, less_distinct, taken, alike_more, alike_taken}
use Rattle.arms.proofs.Blocks.{each_append, each_replicate, each_replace, each_front, length_replace, length_front, arms_few, room_is, put_arms, take_arms, compact_arms, first_none, then_is, Sound, judged_sound, sound_judged}
use Rattle.arms.proofs.Bytes.{small_blocks, blocks_flat, block_length, block_arm, block_held, block_sound, empty_zeros, empty_length, empty_sound}

-- what a valid buffer is, block by block
pub record Good (bs : List (List ℕ)) : Type 0 where
  pub sizes : Each (λ b. length b ≡ 512) bs
  pub sound : Each Sound bs
  pub distinct : Distinct (arms bs)

whole : (b : List ℕ) → Sound b → 512 ≤ length b
unfolding block_fault
whole b e = undamaged b _ e

sized : {bs : List (List ℕ)} → Each Sound bs → Each (λ b. length b ≤ 512) bs → Each (λ b. length b ≡ 512) bs
sized none none = none
sized (more {x = b} {xs = bs} p e) (more q f) =
    let w = whole b p in
    let l : length b ≡ 512 = omega arith in
    more l (sized e f)

pub good_of : (buffer : List ℕ) → Valid buffer → Good (blocks buffer)
good_of buffer v =
    let j = judged_sound [] (blocks buffer) v no_arm in
    record { sizes = sized j.0 (small_blocks buffer); sound = j.0; distinct = j.1 }

pub valid_of : {bs : List (List ℕ)} → Good bs → Valid (flat bs)
valid_of {bs} g = rw (blocks_flat g.sizes) (sound_judged [] g.sound g.distinct)

-- a test that was not the one that refused
passed : (t : Bool) (r s : ℕ) → (r ≡ 0 → ⊥) → cond t r s ≡ 0 → t ≡ false
passed true r s n e = absurd (n e)
passed false r s n e = refl

met : (t : Bool) (r s : ℕ) → (s ≡ 0 → ⊥) → cond t r s ≡ 0 → t ≡ true
met true r s n e = refl
met false r s n e = absurd (n e)

-- what is known of an arm that is not refused
pub record ArmKnown (held : List Arm) (arm : Arm) : Type 0 where
  pub finite : all_finite arm.numbers ≡ true
  pub not_zero : arm.number ≡ 0 → ⊥
  pub fresh : holds arm.number held ≡ false
  pub alone : arm_fault [] arm ≡ 0

pub arm_known : (held : List Arm) (arm : Arm) → arm_fault held arm ≡ 0 → ArmKnown held arm
unfolding arm_fault holds
arm_known held arm e =
    let f = met (all_finite arm.numbers) _ 8 (λ z. omega arith) e in
    let e1 = rw f at e in
    let o = passed (eqb arm.number 0 || holds arm.number held) 13 0 (λ z. omega arith) e1 in
    let n = or_false_left (eqb arm.number 0) _ o in
    record { finite = f; not_zero = eqb-false arm.number 0 n; fresh = or_false_right (eqb arm.number 0) _ o; alone = rw (f, n) }

-- what is known of a call that is not refused
pub record PutKnown (held : List Arm) (free : Bool) (arm : Arm) : Type 0 where
  pub all : length arm.numbers ≡ 39
  pub arm_is : ArmKnown held arm
  pub free_is : free ≡ true

pub put_known : (held : List Arm) (free : Bool) (arm : Arm) → own held free (put arm) ≡ 0 → PutKnown held free arm
unfolding own put_fault
put_known held free arm e =
    let p = first_none (put_fault held arm) (cond free 0 15) e in
    let l = met (eqb (length arm.numbers) 39) (arm_fault held arm) 5 (λ z. omega arith) p in
    let room_left = rw (then_is (put_fault held arm) (cond free 0 15) p) at e in
    record {
      all = eqb-true (length arm.numbers) 39 l;
      arm_is = arm_known held arm (rw l at p);
      free_is = met free 0 15 (λ z. omega arith) room_left;
    }

held_known : (held : List Arm) (free : Bool) (n : ℕ) → own held free (take_out n) ≡ 0 → holds n held ≡ true
unfolding own
held_known held free n e = met (holds n held) 0 14 (λ z. omega arith) e

-- the effect of each call
module _ (bs : List (List ℕ)) (good : Good bs) where
  put_more : (arm : Arm) → Fits arm → own (arms bs) (room bs) (put arm) ≡ 0 → More arm (arms bs) (arms (replace zeros (block_of arm) bs))
  put_more arm fits e =
      let k = put_known (arms bs) (room bs) arm e in
      rw (block_arm arm k.all fits) at (put_arms (block_of arm) bs (block_held arm k.all fits k.arm_is.not_zero) k.free_is)

  put_good : (arm : Arm) → Fits arm → own (arms bs) (room bs) (put arm) ≡ 0 → Good (effect (put arm) bs)
  unfolding effect
  put_good arm fits e =
      let k = put_known (arms bs) (room bs) arm e in
      record {
        sizes = each_replace zeros (block_of arm) (block_length arm k.all) good.sizes;
        sound = each_replace zeros (block_of arm) (block_sound arm k.all fits k.arm_is.not_zero k.arm_is.alone) good.sound;
        distinct = more_distinct (put_more arm fits e) k.arm_is.fresh good.distinct;
      }

  take_good : (n : ℕ) → own (arms bs) (room bs) (take_out n) ≡ 0 → Good (effect (take_out n) bs)
  unfolding effect
  take_good n e =
      record {
        sizes = each_replace (has n) empty empty_length good.sizes;
        sound = each_replace (has n) empty empty_sound good.sound;
        distinct = rw (take_arms n empty bs empty_zeros) (less_distinct (taken n (arms bs) (held_known (arms bs) (room bs) n e)) good.distinct);
      }

  compact_good : Good (effect compact bs)
  unfolding effect
  compact_good =
      let n = length bs - length (front bs) in
      record {
        sizes = each_append (each_front good.sizes) (each_replicate n empty empty_length);
        sound = each_append (each_front good.sound) (each_replicate n empty empty_sound);
        distinct = rw (compact_arms n empty bs empty_zeros) good.distinct;
      }

  good_effect : (call : Call) → FitsCall call → own (arms bs) (room bs) call ≡ 0 → Good (effect call bs)
  unfolding effect
  good_effect (put arm) fits e = put_good arm fits e
  good_effect (find n) fits e = good
  good_effect (take_out n) fits e = take_good n e
  good_effect compact fits e = compact_good

  alike_effect : (call : Call) {held : List Arm} → FitsCall call → own (arms bs) (room bs) call ≡ 0 → Alike (arms bs) held → Distinct held → Alike (arms (effect call bs)) (plain_effect call held)
  unfolding effect plain_effect
  alike_effect (put arm) {held} fits e a d = alike_more a (put_more arm fits e) (at_end arm held) (put_known (arms bs) (room bs) arm e).arm_is.fresh
  alike_effect (find n) fits e a d = a
  alike_effect (take_out n) fits e a d = rw (take_arms n empty bs empty_zeros) (alike_taken n a good.distinct d (held_known (arms bs) (room bs) n e))
  alike_effect compact fits e a d = rw (compact_arms (length bs - length (front bs)) empty bs empty_zeros) a

  distinct_effect : (call : Call) {held : List Arm} → own (arms bs) (room bs) call ≡ 0 → Alike (arms bs) held → Distinct held → Distinct (plain_effect call held)
  unfolding plain_effect
  distinct_effect (put arm) {held} e a d = more_distinct (at_end arm held) (sym (a.holds_same arm.number) ∙ (put_known (arms bs) (room bs) arm e).arm_is.fresh) d
  distinct_effect (find n) e a d = d
  distinct_effect (take_out n) {held} e a d = less_distinct (taken n held (sym (a.holds_same n) ∙ held_known (arms bs) (room bs) n e)) d
  distinct_effect compact e a d = d

length_effect : (bs : List (List ℕ)) (call : Call) → length (effect call bs) ≡ length bs
unfolding effect
length_effect bs (put arm) = length_replace zeros (block_of arm) bs
length_effect bs (find n) = refl
length_effect bs (take_out n) = length_replace (has n) empty bs
length_effect bs compact =
    let n = length bs - length (front bs) in
    let f = length_front bs in
    let g = arms_few bs in
    rw (length-append (front bs) (replicate n empty), length-replicate n empty) (omega arith)

-- one call on alike lists
own_same : {xs ys : List Arm} (s t : Bool) (call : Call) → Alike xs ys → s ≡ t → own xs s call ≡ own ys t call
unfolding own put_fault arm_fault
own_same s t (put arm) a e = rw (a.holds_same arm.number, e)
own_same s t (find n) a e = rw (a.holds_same n)
own_same s t (take_out n) a e = rw (a.holds_same n)
own_same s t compact a e = refl

given_same : (r : ℕ) {xs ys : List Arm} (call : Call) → Alike xs ys → arm_given r xs call ≡ arm_given r ys call
unfolding arm_given
given_same r (put arm) a = refl
given_same r (find n) a = rw (a.pick_same n)
given_same r (take_out n) a = refl
given_same r compact a = refl

gave_same : {r s : ℕ} {xs ys : List _} → r ≡ s → xs ≡ ys → ◌≡◌ {A = Gave} (record { refusal = r; arm = xs }) (record { refusal = s; arm = ys })
gave_same e f = rw (e, f)

module _ (call : Call) (buffer : List ℕ) (plain : Plain) (valid : Valid buffer) (stands : Stands buffer plain) where
  pub own_is : refusal call buffer ≡ own (arms (blocks buffer)) (room (blocks buffer)) call
  unfolding refusal
  own_is = then_is (judge [] (blocks buffer)) _ valid

  room_same : room (blocks buffer) ≡ ltb (length plain.held) plain.capacity
  room_same = rw (stands.capacity_is, ← stands.alike.size) (room_is (blocks buffer))

  pub plain_is : refusal call buffer ≡ plain_refusal call plain
  unfolding plain_refusal
  plain_is = own_is ∙ own_same (room (blocks buffer)) _ call stands.alike room_same

  same_given : gives call buffer ≡ plain_gives call plain
  unfolding gives plain_gives
  same_given = gave_same plain_is (ap (λ (r : ℕ). arm_given r (arms (blocks buffer)) call) plain_is ∙ given_same (plain_refusal call plain) call stands.alike)

  module _ (fits : FitsCall call) where
    done : refusal call buffer ≡ 0 → Good (effect call (blocks buffer))
    done e = good_effect (blocks buffer) (good_of buffer valid) call fits (rw own_is at e)

    valid_after : (t : Bool) → eqb (refusal call buffer) 0 ≡ t → Valid (cond t (flat (effect call (blocks buffer))) buffer)
    valid_after true e = valid_of (done (eqb-true _ 0 e))
    valid_after false e = valid

    stands_after : (t : Bool) → eqb (refusal call buffer) 0 ≡ t
        → Stands (cond t (flat (effect call (blocks buffer))) buffer) (record { capacity = plain.capacity; held = cond t (plain_effect call plain.held) plain.held })
    stands_after true e =
        let o = rw own_is at (eqb-true (refusal call buffer) 0 e) in
        let g = done (eqb-true _ 0 e) in
        let good = good_of buffer valid in
        record {
          capacity_is = rw (blocks_flat g.sizes) (stands.capacity_is ∙ sym (length_effect (blocks buffer) call));
          alike = rw (blocks_flat g.sizes) (alike_effect (blocks buffer) good call fits o stands.alike stands.distinct);
          distinct = distinct_effect (blocks buffer) good call o stands.alike stands.distinct;
        }
    stands_after false e = stands

    -- every call on a valid buffer gives what the plain list gives, and leaves a valid buffer that stands for the plain list after it
    pub agrees : Agrees call buffer plain
    unfolding after plain_after
    agrees =
        record {
          same = same_given;
          valid = valid_after (eqb (refusal call buffer) 0) refl;
          stands = rw (sym plain_is) (stands_after (eqb (refusal call buffer) 0) refl);
        }
