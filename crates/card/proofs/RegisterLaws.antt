-- Bytes that calls lead to are those of their card, and what each way through src/registers.rt leaves in them is what the card becomes.
use Prim.Native.Nat.{ℕ, zero, suc, ◌+◌, ◌-◌, ◌*◌, ◌/◌, ◌%◌, ◌≤◌, ◌<◌}
use mathlib.Core.Path.{◌≡◌, refl, sym, ap, ◌∙◌}
use mathlib.Core.Bool.{Bool, true, false, cond, not, ◌&&◌, ◌||◌, true≢false}
use mathlib.Core.List.{List, [], ◌∷◌}
use native.Mathlib.Omega.{arith}
use borrow.Author.Tests.{eqb-true, eqb-false, eq-eqb, ne_eqb, leb-true, le-leb, lt-leb, lt-ltb, le-ltb, ltb-false}
use lib.Dec.{eqb, leb, ltb}
use lib.ListN.{length, get_or, set, drop, length-set, get_or-eq_default}
use Rattle.scalar.proofs.Order.{by_test}
use Rattle.card.specs.Card.{Card, bit, status, read, command, write, ended, with_byte}
use Rattle.card.specs.Registers.{registers_of, card_of, proper}

-- ---- proper bytes, taken apart
four_true : (a b c d : Bool) → a && (b && (c && d)) ≡ true → (a ≡ true) × (b ≡ true) × (c ≡ true) × (d ≡ true)
four_true true true true d e = (refl, refl, refl, e)
four_true true true false d e = absurd (true≢false (sym e))
four_true true false c d e = absurd (true≢false (sym e))
four_true false b c d e = absurd (true≢false (sym e))

-- the bits of the four that a status may be
status_back : (s : ℕ) → leb s 2 || eqb s 6 ≡ true → bit (eqb (s % 2) 1) + 2 * bit (eqb (s / 2 % 2) 1) + 4 * bit (eqb (s / 4 % 2) 1) ≡ s
status_back s e =
    by_test (eqb s 6) (λ t. let z = eqb-true s 6 t in rw z refl)
    (λ t. by_test (leb s 2) (λ u. small s (leb-true s 2 u)) (λ u. absurd (true≢false (sym e ∙ rw (t, u) refl))))
  where
    small : (s : ℕ) → s ≤ 2 → bit (eqb (s % 2) 1) + 2 * bit (eqb (s / 2 % 2) 1) + 4 * bit (eqb (s / 4 % 2) 1) ≡ s
    small s h =
        by_test (eqb s 0) (λ t. rw (eqb-true s 0 t) refl)
        (λ t.
        by_test (eqb s 1) (λ u. rw (eqb-true s 1 u) refl)
        (λ u.
        let a = eqb-false s 0 t in
        let b = eqb-false s 1 u in
        let z : s ≡ 2 = omega (arith, a, b) in
        rw z refl))

four : (l : List ℕ) → length l ≡ 516 → l ≡ get_or l 0 0 ∷ get_or l 1 0 ∷ get_or l 2 0 ∷ get_or l 3 0 ∷ drop 4 l
four [] h = absurd (omega arith)
four (a ∷ []) h = absurd (omega arith)
four (a ∷ b ∷ []) h = absurd (omega arith)
four (a ∷ b ∷ c ∷ []) h = absurd (omega arith)
four (a ∷ b ∷ c ∷ d ∷ l) h = refl

module _ (registers : List ℕ) (p : proper registers ≡ true) where
  parts
      : (eqb (length registers) 516 ≡ true) × (eqb (get_or registers 0 0) 0 ≡ true) × (leb (get_or registers 3 0) 1 ≡ true)
      × (leb (get_or registers 1 0) 2 || eqb (get_or registers 1 0) 6 ≡ true)
  unfolding proper
  parts = four_true (eqb (length registers) 516) (eqb (get_or registers 0 0) 0) (leb (get_or registers 3 0) 1) (leb (get_or registers 1 0) 2 || eqb (get_or registers 1 0) 6) p

  pub long : length registers ≡ 516
  long = eqb-true (length registers) 516 parts.0

  -- every address up to 515 is below the length
  pub below : {address : ℕ} → address < 516 → address < length registers
  below h = rw long h

  shape : registers ≡ 0 ∷ get_or registers 1 0 ∷ get_or registers 2 0 ∷ get_or registers 3 0 ∷ drop 4 registers
  shape = four registers long ∙ ap (λ (a : ℕ). a ∷ get_or registers 1 0 ∷ get_or registers 2 0 ∷ get_or registers 3 0 ∷ drop 4 registers) (eqb-true (get_or registers 0 0) 0 parts.1)

  pub back : (made : ℕ) → registers ≡ registers_of (card_of registers made)
  unfolding registers_of card_of
  back made =
      shape
      ∙ ap (λ (s : ℕ). 0 ∷ s ∷ get_or registers 2 0 ∷ get_or registers 3 0 ∷ drop 4 registers) (sym (status_back (get_or registers 1 0) parts.3))

  block_long : length (drop 4 registers) ≡ 512
  block_long = let h = ap length shape in let l = long in omega (arith, h, l)

-- ---- bytes put together
proper_of
    : {l : List ℕ} (s m f : ℕ) (block : List ℕ)
    → l ≡ 0 ∷ s ∷ m ∷ f ∷ block
    → leb s 2 || eqb s 6 ≡ true
    → leb f 1 ≡ true
    → length block ≡ 512
    → proper l ≡ true
unfolding proper
proper_of s m f block is e g h = rw (is, h, g, e) refl

-- ---- addresses past the four registers
in_block : (address : ℕ) → (address ≡ 0 → ⊥) → (address ≡ 1 → ⊥) → (address ≡ 2 → ⊥) → (address ≡ 3 → ⊥) → 4 ≤ address
in_block zero a b c d = absurd (a refl)
in_block (suc zero) a b c d = absurd (b refl)
in_block (suc (suc zero)) a b c d = absurd (c refl)
in_block (suc (suc (suc zero))) a b c d = absurd (d refl)
in_block (suc (suc (suc (suc i)))) a b c d = omega arith

no_register : (address : ℕ) → 4 ≤ address → (eqb address 0 ≡ false) × (eqb address 1 ≡ false) × (eqb address 2 ≡ false) × (eqb address 3 ≡ false)
no_register address h =
    (ne_eqb address 0 (λ e. omega arith), ne_eqb address 1 (λ e. omega arith), ne_eqb address 2 (λ e. omega arith), ne_eqb address 3 (λ e. omega arith))

set_rest : (x y z w : ℕ) (l : List ℕ) (address v : ℕ) → 4 ≤ address → set (x ∷ y ∷ z ∷ w ∷ l) address v ≡ x ∷ y ∷ z ∷ w ∷ set l (address - 4) v
set_rest x y z w l zero v h = absurd (omega arith)
set_rest x y z w l (suc zero) v h = absurd (omega arith)
set_rest x y z w l (suc (suc zero)) v h = absurd (omega arith)
set_rest x y z w l (suc (suc (suc zero))) v h = absurd (omega arith)
set_rest x y z w l (suc (suc (suc (suc i)))) v h = let e : suc (suc (suc (suc i))) - 4 ≡ i = omega arith in rw e refl

getD_rest : (x y z w : ℕ) (l : List ℕ) (address : ℕ) → 4 ≤ address → get_or (x ∷ y ∷ z ∷ w ∷ l) address 0 ≡ get_or l (address - 4) 0
getD_rest x y z w l zero h = absurd (omega arith)
getD_rest x y z w l (suc zero) h = absurd (omega arith)
getD_rest x y z w l (suc (suc zero)) h = absurd (omega arith)
getD_rest x y z w l (suc (suc (suc zero))) h = absurd (omega arith)
getD_rest x y z w l (suc (suc (suc (suc i)))) h = let e : suc (suc (suc (suc i))) - 4 ≡ i = omega arith in rw e refl

-- ---- the ways of a call: the steps made, and the bytes, are those of a card, and the bytes are proper
abbrev pub StandsFor : ℕ → List ℕ → Card → Type 0
StandsFor made registers c = (made ≡ c.made) × ((registers ≡ registers_of c) × (proper registers ≡ true))

module _ (registers : List ℕ) (made : ℕ) (p : proper registers ≡ true) where
  kept : {c : Card} → c ≡ card_of registers made → StandsFor made registers c
  unfolding card_of
  kept e = rw e (refl, (back registers p made, p))

  status_proper : (s : ℕ) → leb s 2 || eqb s 6 ≡ true → proper (set registers 1 s) ≡ true
  status_proper s e =
      proper_of s (get_or registers 2 0) (get_or registers 3 0) (drop 4 registers) (ap (λ (l : List ℕ). set l 1 s) (shape registers p)) e (parts registers p).2 (block_long registers p)

  -- ---- a command
  busy_is : get_or registers 1 0 % 2 ≡ 1 → (card_of registers made).busy ≡ true
  unfolding card_of
  busy_is h = eq-eqb (get_or registers 1 0 % 2) 1 h

  idle_is : (get_or registers 1 0 % 2 ≡ 1 → ⊥) → (card_of registers made).busy ≡ false
  unfolding card_of
  idle_is h = ne_eqb (get_or registers 1 0 % 2) 1 h

  pub start_ignored : {value : ℕ} → value ≡ 1 → get_or registers 1 0 % 2 ≡ 1 → StandsFor made registers (command (card_of registers made) value)
  unfolding command
  start_ignored v b = kept (rw (v, busy_is b) refl)

  pub start-taken
      : {value : ℕ} → value ≡ 1 → (get_or registers 1 0 % 2 ≡ 1 → ⊥) → StandsFor 0 (set registers 1 1) (command (card_of registers made) value)
  unfolding command registers_of
  start-taken v b = rw (v, idle_is b) (refl, (ap (λ (l : List ℕ). set l 1 1) (back registers p made), status_proper 1 refl))

  pub abandon_taken : {value : ℕ} → value ≡ 2 → StandsFor 0 (set registers 1 0) (command (card_of registers made) value)
  unfolding command registers_of
  abandon_taken v = rw v (refl, (ap (λ (l : List ℕ). set l 1 0) (back registers p made), status_proper 0 refl))

  pub others_ignored : {value : ℕ} → (value ≡ 1 → ⊥) → (value ≡ 2 → ⊥) → StandsFor made registers (command (card_of registers made) value)
  unfolding command
  others_ignored {value} v w = kept (rw (ne_eqb value 1 v, ne_eqb value 2 w) refl)

  -- ---- a write
  module _ {address : ℕ} (value : ℕ) where
    pub at-command
        : {r : ℕ} {l : List ℕ}
        → address ≡ 0
        → r ≡ (command (card_of registers made) value).made
        → l ≡ registers_of (command (card_of registers made) value)
        → proper l ≡ true
        → StandsFor r l (write (card_of registers made) address value)
    unfolding write
    at-command a r l q = rw a (r, (l, q))

    pub at_status : address ≡ 1 → StandsFor made registers (write (card_of registers made) address value)
    unfolding write
    at_status a = kept (rw a refl)

    pub at_mask : address ≡ 2 → StandsFor made (set registers 2 value) (write (card_of registers made) address value)
    unfolding write registers_of card_of
    at_mask a =
        rw a (
          refl,
          (
            ap (λ (l : List ℕ). set l 2 value) (back registers p made),
            proper_of (get_or registers 1 0) value (get_or registers 3 0) (drop 4 registers) (ap (λ (l : List ℕ). set l 2 value) (shape registers p)) (parts registers p).3 (parts registers p).2 (block_long registers p),
          ),
        )

    pub flag_cleared : address ≡ 3 → value ≡ 1 → StandsFor made (set registers 3 0) (write (card_of registers made) address value)
    unfolding write registers_of card_of
    flag_cleared a v =
        rw (a, v) (
          refl,
          (
            ap (λ (l : List ℕ). set l 3 0) (back registers p made),
            proper_of (get_or registers 1 0) (get_or registers 2 0) 0 (drop 4 registers) (ap (λ (l : List ℕ). set l 3 0) (shape registers p)) (parts registers p).3 refl (block_long registers p),
          ),
        )

    pub flag_left : address ≡ 3 → (value ≡ 1 → ⊥) → StandsFor made registers (write (card_of registers made) address value)
    unfolding write
    flag_left a v = kept (rw (a, ne_eqb value 1 v) refl)

    module _ (a0 : address ≡ 0 → ⊥) (a1 : address ≡ 1 → ⊥) (a2 : address ≡ 2 → ⊥) (a3 : address ≡ 3 → ⊥) where
      from : 4 ≤ address
      from = in_block address a0 a1 a2 a3

      at_byte
          : write (card_of registers made) address value
          ≡ cond (ltb address 516) (cond (card_of registers made).busy (card_of registers made) (with_byte (card_of registers made) (address - 4) value)) (card_of registers made)
      unfolding write
      at_byte = let e = no_register address from in rw (e.0, e.1, e.2, e.3) refl

      pub past : 516 ≤ address → StandsFor made registers (write (card_of registers made) address value)
      past h = kept (at_byte ∙ rw (le-ltb address 516 h) refl)

      pub block_ignored : address < 516 → get_or registers 1 0 % 2 ≡ 1 → StandsFor made registers (write (card_of registers made) address value)
      block_ignored h b = kept (at_byte ∙ rw (lt-ltb address 516 h, busy_is b) refl)

      idle-byte
          : address < 516
          → (get_or registers 1 0 % 2 ≡ 1 → ⊥)
          → write (card_of registers made) address value ≡ with_byte (card_of registers made) (address - 4) value
      idle-byte h b = at_byte ∙ rw (lt-ltb address 516 h, idle_is b) refl

      pub block_written
          : address < 516 → (get_or registers 1 0 % 2 ≡ 1 → ⊥) → StandsFor made (set registers address value) (write (card_of registers made) address value)
      unfolding registers_of card_of
      block_written h b =
          let c = card_of registers made in
          let block = drop 4 registers in
          rw (idle-byte h b) (
            refl,
            (
              ap (λ (l : List ℕ). set l address value) (back registers p made) ∙ set_rest 0 (status c) c.mask c.flag block address value from,
              proper_of (get_or registers 1 0) (get_or registers 2 0) (get_or registers 3 0) (set block (address - 4) value)
                  (ap (λ (l : List ℕ). set l address value) (shape registers p) ∙ set_rest 0 (get_or registers 1 0) (get_or registers 2 0) (get_or registers 3 0) block address value from)
                  (parts registers p).3 (parts registers p).2 (length-set block (address - 4) value ∙ block_long registers p),
            ),
          )

  -- ---- an end
  module _ (refusal : ℕ) {s : ℕ} (is : s ≡ 2 + 4 * bit (not (eqb refusal 0))) where
    ended_status : leb s 2 || eqb s 6 ≡ true
    ended_status = by_test (eqb refusal 0) (λ t. rw (is, t) refl) (λ t. rw (is, t) refl)

    mask_same : get_or (set registers 1 s) 2 0 ≡ get_or registers 2 0
    mask_same = ap (λ (l : List ℕ). get_or (set l 1 s) 2 0) (shape registers p)

    pub ended-silent
        : (get_or (set registers 1 s) 2 0 % 2 ≡ 1 → ⊥)
        → (set registers 1 s ≡ registers_of (ended (card_of registers made) refusal)) × (proper (set registers 1 s) ≡ true)
    unfolding ended registers_of card_of
    ended-silent m = (
      rw (ne_eqb (get_or registers 2 0 % 2) 1 (rw mask_same at m), is) (ap (λ (l : List ℕ). set l 1 (2 + 4 * bit (not (eqb refusal 0)))) (back registers p made)),
      status_proper s ended_status,
    )

    pub ended-flagged
        : get_or (set registers 1 s) 2 0 % 2 ≡ 1
        → (set (set registers 1 s) 3 1 ≡ registers_of (ended (card_of registers made) refusal)) × (proper (set (set registers 1 s) 3 1) ≡ true)
    unfolding ended registers_of card_of
    ended-flagged m = (
      rw (eq-eqb (get_or registers 2 0 % 2) 1 (rw mask_same at m), is) (ap (λ (l : List ℕ). set (set l 1 (2 + 4 * bit (not (eqb refusal 0)))) 3 1) (back registers p made)),
      proper_of s (get_or registers 2 0) 1 (drop 4 registers) (ap (λ (l : List ℕ). set (set l 1 s) 3 1) (shape registers p)) ended_status refl (block_long registers p),
    )

-- ---- a read
-- the registers lie in memory as they read
read_is : (c : Card) (address : ℕ) → length c.block ≡ 512 → get_or (registers_of c) address 0 ≡ read c address
unfolding read registers_of
read_is c zero h = refl
read_is c (suc zero) h = refl
read_is c (suc (suc zero)) h = refl
read_is c (suc (suc (suc zero))) h = refl
read_is c (suc (suc (suc (suc i)))) h =
    let address = suc (suc (suc (suc i))) in
    let from : 4 ≤ address = omega arith in
    let e = no_register address from in
    by_test (ltb address 516) (λ t. rw (e.0, e.1, e.2, e.3, t) (getD_rest 0 (status c) c.mask c.flag c.block address from))
    (λ t. let past = ltb-false address 516 t in rw (e.0, e.1, e.2, e.3, t) (get_or-eq_default c.block 0 (omega arith)))

module _ (registers : List ℕ) (address : ℕ) (p : proper registers ≡ true) where
  pub read_within : (made : ℕ) → get_or registers address 0 ≡ read (card_of registers made) address
  unfolding card_of
  read_within made = ap (λ (l : List ℕ). get_or l address 0) (back registers p made) ∙ read_is (card_of registers made) address (block_long registers p)

  pub read_past : 516 ≤ address → (made : ℕ) → 0 ≡ read (card_of registers made) address
  read_past h made = sym (get_or-eq_default registers 0 (rw (long registers p) h)) ∙ read_within made
