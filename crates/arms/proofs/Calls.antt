-- A call, refused or done: what the buffer's judging decides, and what it leaves to the call.
use Prim.Native.Nat.{ℕ}
use mathlib.Core.Path.{◌≡◌, sym, ◌∙◌}
use mathlib.Core.List.{List, []}
use borrow.Author.Tests.{eq-eqb, ne_eqb}
use Rattle.arms.specs.Arm.{zeros_39, pick, Call, find, own, arm_given}
use Rattle.arms.specs.File.{blocks, flat, arms, judge, room, effect, refusal, gives, after}
use Rattle.arms.proofs.Blocks.{first_is, then_is}

module _ (call : Call) (l : List ℕ) where
  pub kept : {r : ℕ} → r ≡ refusal call l → (r ≡ 0 → ⊥) → l ≡ after call l
  unfolding after
  kept e n = sym (rw (ne_eqb (refusal call l) 0 (λ z. n (e ∙ z))))

  pub done : 0 ≡ refusal call l → after call l ≡ flat (effect call (blocks l))
  unfolding after
  done e = rw (eq-eqb (refusal call l) 0 (sym e))

  module _ {fault : ℕ} (e : fault ≡ judge [] (blocks l)) where
    pub bad : (fault ≡ 0 → ⊥) → fault ≡ refusal call l
    unfolding refusal
    bad n = e ∙ sym (first_is (judge [] (blocks l)) _ (λ z. n (e ∙ z)))

    pub bad_kept : (fault ≡ 0 → ⊥) → l ≡ after call l
    bad_kept n = kept (bad n) n

    pub own_next : fault ≡ 0 → own (arms (blocks l)) (room (blocks l)) call ≡ refusal call l
    unfolding refusal
    own_next z = sym (then_is (judge [] (blocks l)) _ (sym e ∙ z))

-- what find gives
module _ (n : ℕ) (l : List ℕ) where
  pub gives_none : {r : ℕ} → r ≡ refusal (find n) l → (r ≡ 0 → ⊥) → zeros_39 ≡ (gives (find n) l).arm
  unfolding gives arm_given
  gives_none e h = rw (ne_eqb (refusal (find n) l) 0 (λ z. h (e ∙ z)))

  pub gives_arm : 0 ≡ refusal (find n) l → (pick n (arms (blocks l))).numbers ≡ (gives (find n) l).arm
  unfolding gives arm_given
  gives_arm e = rw (eq-eqb (refusal (find n) l) 0 (sym e))
