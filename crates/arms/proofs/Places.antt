-- The place of a block: of the first that passes a test, in blocks and in bytes; what is held there, and what another block there makes.
use Prim.Native.Nat.{ℕ, suc, ◌+◌, ◌*◌, ◌%◌, ◌≤◌, ◌<◌}
use mathlib.Core.Path.{◌≡◌, refl, ap, sym, ◌∙◌}
use mathlib.Core.Bool.{Bool, true, false, cond, not, ◌&&◌, ◌||◌}
use mathlib.Core.List.{List, [], ◌∷◌, ◌++◌, append_assoc}
use native.Mathlib.Omega.{arith}
use borrow.Author.Tests.{eq-eqb, ne_eqb, lt-ltb, le-ltb, ltb-true, ltb-false}
use Rattle.std.specs.Prelude.{Option, Some, None}
use Rattle.std.specs.Option.{is_some}
use Rattle.std.specs.List.{position, position_or_len}
use Rattle.std.proofs.lemmas.List.Recursion.{is_position_or_len}
use lib.Dec.{ltb, eqb, leb-suc-suc}
use lib.ListN.{length, get_or, take, drop}
use lib.Seq.{drop_at, take-append-add, drop-append-add}
use Rattle.words.specs.Words.{zeros}
use Rattle.block.specs.Block.{arm}
use Rattle.block.proofs.Judged.{passed}
use Rattle.arms.specs.Arm.{Arm, holds, pick, arm_fault}
use Rattle.arms.specs.File.{blocks, flat, number, arm_of, rest, arms, block_fault, judge, replace, has, room}
use Rattle.arms.specs.Agreement.{Each, none, more, Valid}
use Rattle.arms.specs.Port.{named}
use Rattle.arms.specs.Plain.{no_arm}
use Rattle.arms.proofs.Blocks.{Sound, judged_sound}
use Rattle.arms.proofs.Bytes.{flat_blocks, length_flat, zeros_number}
use Rattle.arms.proofs.Agree.{good_of, arm_known}
use Rattle.arms.proofs.Parts.{blocks_at, blocks_split}

-- how many blocks stand before the first that passes a test; all of them, where none does
unfoldable pub place : (List ℕ → Bool) → List (List ℕ) → ℕ
place test [] = 0
place test (b ∷ bs) = cond (test b) 0 (suc (place test bs))

-- tests that agree on every block
pub place_same : (s t : List ℕ → Bool) {bs : List (List ℕ)} → Each (λ b. s b ≡ t b) bs → place s bs ≡ place t bs
unfolding place
place_same s t none = refl
place_same s t (more {x = b} {xs = bs} p e) = rw (p, place_same s t e)

each_map : {P Q : List ℕ → Type 0} → ((b : List ℕ) → P b → Q b) → {bs : List (List ℕ)} → Each P bs → Each Q bs
each_map f none = none
each_map f (more {x = b} p e) = more (f b p) (each_map f e)

each_mid : {P : List ℕ → Type 0} (xs : List (List ℕ)) (b : List ℕ) (ys : List (List ℕ)) → Each P (xs ++ b ∷ ys) → P b
each_mid [] b ys (more p e) = p
each_mid (x ∷ xs) b ys (more p e) = each_mid xs b ys e

-- a sound block is empty exactly if its number is 0
numbered_0 : (b : List ℕ) → Sound b → number b ≡ 0 → zeros b ≡ true
unfolding block_fault arm_of
numbered_0 b s n = go (zeros b) (rest b) (passed b _ s)
  where
    go : (z t : Bool) → ◌≡◌ {A = ℕ} (cond z 0 (cond t (arm_fault [] (arm_of b)) 3)) 0 → z ≡ true
    go true t e = refl
    go false true e = absurd ((arm_known [] (arm_of b) e).not_zero n)
    go false false e = absurd (omega arith)

pub empty_named : (b : List ℕ) → Sound b → zeros b ≡ named 0 b
empty_named b s = go (zeros b) refl
  where
    go : (z : Bool) → zeros b ≡ z → z ≡ eqb (number b) 0
    go true e = sym (eq-eqb (number b) 0 (zeros_number b e))
    go false e = sym (ne_eqb (number b) 0 (λ n. let y : true ≡ false = sym (numbered_0 b s n) ∙ e in let x : ◌≡◌ {A = ℕ} 0 1 = cc in omega arith))

has_named : (n : ℕ) → (n ≡ 0 → ⊥) → (b : List ℕ) → Sound b → has n b ≡ named n b
unfolding has
has_named n h b s = go (zeros b) refl
  where
    go : (z : Bool) → zeros b ≡ z → (not z && eqb (number b) n) ≡ eqb (number b) n
    go true e = sym (ne_eqb (number b) n (λ f. h (sym f ∙ zeros_number b e)))
    go false e = refl

has_0 : (b : List ℕ) → Sound b → has 0 b ≡ false
unfolding has
has_0 b s = rw (empty_named b s) (go (eqb (number b) 0))
  where
    go : (t : Bool) → (not t && t) ≡ false
    go true = refl
    go false = refl

place_never : (bs : List (List ℕ)) → place (λ b. false) bs ≡ length bs
unfolding place
place_never [] = refl
place_never (b ∷ bs) = ap suc (place_never bs)

-- the arm of a number
held_place : (n : ℕ) (bs : List (List ℕ)) → holds n (arms bs) ≡ ltb (place (has n) bs) (length bs)
unfolding holds arms place has arm_of
held_place n [] = refl
held_place n (b ∷ bs) = go (zeros b) (eqb (number b) n) refl refl (held_place n bs)
  where
    go : (z t : Bool) → zeros b ≡ z → eqb (number b) n ≡ t → holds n (arms bs) ≡ ltb (place (has n) bs) (length bs)
        → holds n (cond z (arms bs) (arm_of b ∷ arms bs)) ≡ ltb (cond (not z && t) 0 (suc (place (has n) bs))) (suc (length bs))
    go true t e f ih = ih ∙ sym (leb-suc-suc (suc (place (has n) bs)) (length bs))
    go false true e f ih = rw f (sym (lt-ltb 0 (suc (length bs)) (omega arith)))
    go false false e f ih = rw f (ih ∙ sym (leb-suc-suc (suc (place (has n) bs)) (length bs)))

pick_place : (n : ℕ) (bs : List (List ℕ)) → place (has n) bs < length bs → pick n (arms bs) ≡ arm_of (get_or bs (place (has n) bs) [])
unfolding pick arms place has arm_of
pick_place n [] h = absurd (omega arith)
pick_place n (b ∷ bs) h = go (zeros b) (eqb (number b) n) refl refl (pick_place n bs) h
  where
    go : (z t : Bool) → zeros b ≡ z → eqb (number b) n ≡ t → (place (has n) bs < length bs → pick n (arms bs) ≡ arm_of (get_or bs (place (has n) bs) []))
        → cond (not z && t) 0 (suc (place (has n) bs)) < suc (length bs)
        → pick n (cond z (arms bs) (arm_of b ∷ arms bs)) ≡ arm_of (get_or (b ∷ bs) (cond (not z && t) 0 (suc (place (has n) bs))) [])
    go true t e f ih g = ih (omega arith)
    go false true e f ih g = rw f
    go false false e f ih g = rw f (ih (omega arith))

room_place : (bs : List (List ℕ)) → room bs ≡ ltb (place zeros bs) (length bs)
unfolding room place
room_place [] = refl
room_place (b ∷ bs) = go (zeros b) (room_place bs)
  where
    go : (z : Bool) → room bs ≡ ltb (place zeros bs) (length bs) → (z || room bs) ≡ ltb (cond z 0 (suc (place zeros bs))) (suc (length bs))
    go true ih = sym (lt-ltb 0 (suc (length bs)) (omega arith))
    go false ih = ih ∙ sym (leb-suc-suc (suc (place zeros bs)) (length bs))

-- std's position, by the place
place_is : (test : List ℕ → Bool) (bs : List (List ℕ)) → place test bs ≡ position_or_len test bs
unfolding place
place_is test bs = is_position_or_len (place test) test refl (λ b bs. ap (λ (k : ℕ). cond (test b) 0 k) (omega arith)) bs

position_is : (test : List ℕ → Bool) (bs : List (List ℕ)) → position test bs ≡ cond (ltb (place test bs) (length bs)) (Some (place test bs)) None
position_is test bs = rw (place_is test bs)

module _ (test : List ℕ → Bool) (bs : List (List ℕ)) {r : Option ℕ} (e : r ≡ position test bs) where
  pub found : (k : ℕ) → r ≡ Some k → (k ≡ place test bs) × (k < length bs)
  found k f = go (ltb (place test bs) (length bs)) refl (sym f ∙ (e ∙ position_is test bs))
    where
      go : (t : Bool) → ltb (place test bs) (length bs) ≡ t → Some k ≡ cond t (Some (place test bs)) None → (k ≡ place test bs) × (k < length bs)
      go true h g = let i : k ≡ place test bs = cc in let l = ltb-true (place test bs) (length bs) h in (i, omega arith)
      go false h g = absurd (cc)

  pub missed : r ≡ None → length bs ≤ place test bs
  missed f = go (ltb (place test bs) (length bs)) refl (sym f ∙ (e ∙ position_is test bs))
    where
      go : (t : Bool) → ltb (place test bs) (length bs) ≡ t → ◌≡◌ {A = Option ℕ} None (cond t (Some (place test bs)) None) → length bs ≤ place test bs
      go true h g = absurd (cc)
      go false h g = ltb-false (place test bs) (length bs) h

pub held_is : (n : ℕ) (bs : List (List ℕ)) {r : Option ℕ} → r ≡ position (has n) bs → is_some r ≡ holds n (arms bs)
held_is n bs e = rw (e ∙ position_is (has n) bs, held_place n bs) (go (ltb (place (has n) bs) (length bs)))
  where
    go : (t : Bool) → is_some (cond t (Some (place (has n) bs)) None) ≡ t
    go true = refl
    go false = refl

-- the arm of a number, or none
module _ (n : ℕ) (bs : List (List ℕ)) {r : Option ℕ} (e : r ≡ position (has n) bs) where
  pub there_held : (k : ℕ) → r ≡ Some k → holds n (arms bs) ≡ true
  there_held k f = let p = found (has n) bs e k f in held_place n bs ∙ lt-ltb (place (has n) bs) (length bs) (rw p.0 at p.1)

  pub not_held : r ≡ None → holds n (arms bs) ≡ false
  not_held f = held_place n bs ∙ le-ltb (place (has n) bs) (length bs) (missed (has n) bs e f)

  pub pick_at : (k : ℕ) → r ≡ Some k → (pick n (arms bs)).numbers ≡ arm (get_or bs k [])
  unfolding arm_of
  pick_at k f =
      let p = found (has n) bs e k f in
      ap (λ (a : Arm). a.numbers) (rw (← p.0) at (pick_place n bs (rw p.0 at p.1)))

-- blocks that are not refused
module _ (bs : List (List ℕ)) (v : judge [] bs ≡ 0) where
  sound : Each Sound bs
  sound = (judged_sound [] bs v no_arm).0

  pub never_0 : None ≡ position (has 0) bs
  never_0 =
      let p : place (has 0) bs ≡ length bs = place_same (has 0) (λ b. false) (each_map has_0 sound) ∙ place_never bs in
      let l : ltb (place (has 0) bs) (length bs) ≡ false = le-ltb (place (has 0) bs) (length bs) (omega arith) in
      sym (position_is (has 0) bs ∙ rw l)

  pub has_at : (n : ℕ) → (n ≡ 0 → ⊥) → position (named n) bs ≡ position (has n) bs
  has_at n h = position_is (named n) bs ∙ (rw (sym (place_same (has n) (named n) (each_map (has_named n h) sound))) (sym (position_is (has n) bs)))

-- a block replaced, in bytes
replace_flat : (test : List ℕ → Bool) (new : List ℕ) {bs : List (List ℕ)} → Each (λ b. length b ≡ 512) bs → place test bs < length bs
    → flat (replace test new bs) ≡ take (512 * place test bs) (flat bs) ++ (new ++ drop (512 * place test bs + 512) (flat bs))
unfolding replace place flat
replace_flat test new none h = absurd (omega arith)
replace_flat test new (more {x = b} {xs = bs} p e) h = go (test b) (replace_flat test new e) h
  where
    go : (t : Bool) → (place test bs < length bs → flat (replace test new bs) ≡ take (512 * place test bs) (flat bs) ++ (new ++ drop (512 * place test bs + 512) (flat bs)))
        → cond t 0 (suc (place test bs)) < suc (length bs)
        → flat (cond t (new ∷ bs) (b ∷ replace test new bs)) ≡ take (512 * cond t 0 (suc (place test bs))) (b ++ flat bs) ++ (new ++ drop (512 * cond t 0 (suc (place test bs)) + 512) (b ++ flat bs))
    go true ih g = rw (drop_at b (flat bs) 512 p)
    go false ih g =
        let k : 512 * suc (place test bs) ≡ length b + 512 * place test bs = omega arith in
        let k' : 512 * suc (place test bs) + 512 ≡ length b + (512 * place test bs + 512) = omega arith in
        rw (k', k, take-append-add b (flat bs) (512 * place test bs), drop-append-add b (flat bs) (512 * place test bs + 512), append_assoc b) (ap (λ (x : List ℕ). b ++ x) (ih (omega arith)))

-- the same of a valid buffer, in bytes
module _ (l : List ℕ) (v : Valid l) where
  pub valid_long : length l ≡ 512 * length (blocks l)
  valid_long = ap (λ (x : List ℕ). length x) (sym (flat_blocks l)) ∙ length_flat (good_of l v).sizes

  pub valid_whole : length l % 512 ≡ 0
  valid_whole = let e = valid_long in omega arith

  pub empty_place : place (named 0) (blocks l) ≡ place zeros (blocks l)
  empty_place = sym (place_same zeros (named 0) (each_map empty_named (good_of l v).sound))

  module _ {r : Option ℕ} (e : r ≡ position (named 0) (blocks l)) where
    pub free_at : (k : ℕ) → r ≡ Some k → (k ≡ place zeros (blocks l)) × (k < length (blocks l))
    free_at k f = let p = found (named 0) (blocks l) e k f in (p.0 ∙ empty_place, p.1)

    pub room_there : (k : ℕ) → r ≡ Some k → room (blocks l) ≡ true
    room_there k f = let p = free_at k f in room_place (blocks l) ∙ lt-ltb (place zeros (blocks l)) (length (blocks l)) (rw p.0 at p.1)

    pub no_room : r ≡ None → room (blocks l) ≡ false
    no_room f = room_place (blocks l) ∙ le-ltb (place zeros (blocks l)) (length (blocks l)) (rw empty_place at (missed (named 0) (blocks l) e f))

  pub block_within : (k : ℕ) → k < length (blocks l) → 512 * k + 512 ≤ length l
  block_within k h = let m = valid_long in omega arith

  pub replace_at : (test : List ℕ → Bool) (new : List ℕ) (k : ℕ) → k ≡ place test (blocks l) → k < length (blocks l)
      → flat (replace test new (blocks l)) ≡ take (512 * k) l ++ (new ++ drop (512 * k + 512) l)
  replace_at test new k e h =
      let r = replace_flat test new (good_of l v).sizes (rw e at h) in
      rw (← e, flat_blocks l) at r

  pub empty_at : (at : ℕ) → at % 512 ≡ 0 → at < length l → zeros (take 512 (drop at l)) ≡ named 0 (take 512 (drop at l))
  empty_at at m h =
      let s = rw (blocks_split l at m (omega arith), blocks_at l at h) at (good_of l v).sound in
      empty_named (take 512 (drop at l)) (each_mid (blocks (take at l)) (take 512 (drop at l)) (blocks (drop (at + 512) l)) s)
