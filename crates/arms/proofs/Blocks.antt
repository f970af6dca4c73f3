-- Lists of blocks: what the calls do to the arms held, and what a judged list of blocks is.
use Prim.Native.Nat.{ℕ, zero, suc, ◌≤◌}
use mathlib.Core.Path.{◌≡◌, refl, ap, sym, ◌∙◌}
use mathlib.Core.Bool.{Bool, true, false, cond, not, ◌&&◌, ◌||◌}
use mathlib.Core.List.{List, [], ◌∷◌, ◌++◌, append-nil, append_assoc}
use native.Mathlib.Omega.{arith}
use borrow.Author.Tests.{eqb-true, eq-eqb, ne_eqb, lt-ltb}
use lib.Dec.{ltb, eqb, leb-suc-suc}
use lib.ListN.{length, replicate}
use Rattle.words.specs.Words.{word, zeros}
use Rattle.block.specs.Check.{check}
use Rattle.refusals.specs.Judge.{all_finite}
use Rattle.arms.specs.Arm.{Arm, or_else, holds, arm_fault}
use Rattle.arms.specs.File.{number, arm_of, rest, arms, block_fault, judge, replace, has, room, front}
use Rattle.arms.specs.Plain.{without, Distinct, one_more}
use Rattle.arms.specs.Agreement.{Each, none, more}
use Rattle.arms.proofs.Lists.{More, here, there, at_end, or_false_left, or_false_right, eqb_swap, more_distinct}

module _ {P : List ℕ → Type 0} where
  pub each_append : {xs ys : List (List ℕ)} → Each P xs → Each P ys → Each P (xs ++ ys)
  each_append none e = e
  each_append (more p d) e = more p (each_append d e)

  pub each_replicate : (n : ℕ) (b : List ℕ) → P b → Each P (replicate n b)
  each_replicate zero b p = none
  each_replicate (suc n) b p = more p (each_replicate n b p)

  pub each_replace : (test : List ℕ → Bool) (new : List ℕ) {bs : List (List ℕ)} → P new → Each P bs → Each P (replace test new bs)
  unfolding replace
  each_replace test new p none = none
  each_replace test new p (more {x = b} {xs = bs} q e) = go (test b) (each_replace test new p e)
    where
      go : (t : Bool) → Each P (replace test new bs) → Each P (cond t (new ∷ bs) (b ∷ replace test new bs))
      go true ih = more p e
      go false ih = more q ih

  pub each_front : {bs : List (List ℕ)} → Each P bs → Each P (front bs)
  unfolding front
  each_front none = none
  each_front (more {x = b} {xs = bs} q e) = go (zeros b) (each_front e)
    where
      go : (t : Bool) → Each P (front bs) → Each P (cond t (front bs) (b ∷ front bs))
      go true ih = ih
      go false ih = more q ih

-- the calls keep the number of blocks
pub length_replace : (test : List ℕ → Bool) (new : List ℕ) (bs : List (List ℕ)) → length (replace test new bs) ≡ length bs
unfolding replace
length_replace test new [] = refl
length_replace test new (b ∷ bs) = go (test b) (length_replace test new bs)
  where
    go : (t : Bool) → length (replace test new bs) ≡ length bs → length (cond t (new ∷ bs) (b ∷ replace test new bs)) ≡ suc (length bs)
    go true ih = refl
    go false ih = ap suc ih

pub length_front : (bs : List (List ℕ)) → length (front bs) ≡ length (arms bs)
unfolding front arms
length_front [] = refl
length_front (b ∷ bs) = go (zeros b) (length_front bs)
  where
    go : (t : Bool) → length (front bs) ≡ length (arms bs) → length (cond t (front bs) (b ∷ front bs)) ≡ length (cond t (arms bs) (arm_of b ∷ arms bs))
    go true ih = ih
    go false ih = ap suc ih

pub arms_few : (bs : List (List ℕ)) → length (arms bs) ≤ length bs
unfolding arms
arms_few [] = omega arith
arms_few (b ∷ bs) = go (zeros b) (arms_few bs)
  where
    go : (t : Bool) → length (arms bs) ≤ length bs → length (cond t (arms bs) (arm_of b ∷ arms bs)) ≤ suc (length bs)
    go true ih = omega arith
    go false ih = omega arith

-- there is an empty block exactly if there are fewer arms than blocks
pub room_is : (bs : List (List ℕ)) → room bs ≡ ltb (length (arms bs)) (length bs)
unfolding room arms
room_is [] = refl
room_is (b ∷ bs) = go (zeros b) (room_is bs)
  where
    go : (t : Bool) → room bs ≡ ltb (length (arms bs)) (length bs) → (t || room bs) ≡ ltb (length (cond t (arms bs) (arm_of b ∷ arms bs))) (suc (length bs))
    go true ih = sym (lt-ltb (length (arms bs)) (suc (length bs)) (let h = arms_few bs in omega arith))
    go false ih = ih ∙ sym (leb-suc-suc (suc (length (arms bs))) (length bs))

-- put, take out and compact, seen by the arms held
pub put_arms : (new : List ℕ) (bs : List (List ℕ)) → zeros new ≡ false → room bs ≡ true → More (arm_of new) (arms bs) (arms (replace zeros new bs))
unfolding room arms replace
put_arms new [] z r = let y : ◌≡◌ {A = ℕ} 0 1 = cc in absurd (omega arith)
put_arms new (b ∷ bs) z r = go (zeros b) refl (put_arms new bs z) r
  where
    go : (t : Bool) → zeros b ≡ t → (room bs ≡ true → More (arm_of new) (arms bs) (arms (replace zeros new bs)))
        → (t || room bs) ≡ true → More (arm_of new) (cond t (arms bs) (arm_of b ∷ arms bs)) (arms (cond t (new ∷ bs) (b ∷ replace zeros new bs)))
    go true e ih r' = rw z here
    go false e ih r' = rw e (there (ih r'))

pub take_arms : (n : ℕ) (new : List ℕ) (bs : List (List ℕ)) → zeros new ≡ true → arms (replace (has n) new bs) ≡ without n (arms bs)
unfolding arms replace without has arm_of
take_arms n new [] z = refl
take_arms n new (b ∷ bs) z = go (zeros b) (eqb (number b) n) refl refl (take_arms n new bs z)
  where
    go : (t s : Bool) → zeros b ≡ t → eqb (number b) n ≡ s → arms (replace (has n) new bs) ≡ without n (arms bs)
        → arms (cond (not t && s) (new ∷ bs) (b ∷ replace (has n) new bs)) ≡ without n (cond t (arms bs) (arm_of b ∷ arms bs))
    go true s e f ih = rw e ih
    go false true e f ih = rw (z, f)
    go false false e f ih = rw (e, f) (ap (λ (l : List Arm). arm_of b ∷ l) ih)

pub arms_append : (xs ys : List (List ℕ)) → arms (xs ++ ys) ≡ arms xs ++ arms ys
unfolding arms
arms_append [] ys = refl
arms_append (b ∷ bs) ys = go (zeros b) (arms_append bs ys)
  where
    go : (t : Bool) → arms (bs ++ ys) ≡ arms bs ++ arms ys → cond t (arms (bs ++ ys)) (arm_of b ∷ arms (bs ++ ys)) ≡ cond t (arms bs) (arm_of b ∷ arms bs) ++ arms ys
    go true ih = ih
    go false ih = ap (λ (l : List Arm). arm_of b ∷ l) ih

pub no_arms : (n : ℕ) (b : List ℕ) → zeros b ≡ true → arms (replicate n b) ≡ []
unfolding arms
no_arms zero b z = refl
no_arms (suc n) b z = rw z (no_arms n b z)

arms_front : (bs : List (List ℕ)) → arms (front bs) ≡ arms bs
unfolding arms front
arms_front [] = refl
arms_front (b ∷ bs) = go (zeros b) refl (arms_front bs)
  where
    go : (t : Bool) → zeros b ≡ t → arms (front bs) ≡ arms bs → arms (cond t (front bs) (b ∷ front bs)) ≡ cond t (arms bs) (arm_of b ∷ arms bs)
    go true e ih = ih
    go false e ih = rw e (ap (λ (l : List Arm). arm_of b ∷ l) ih)

pub compact_arms : (n : ℕ) (b : List ℕ) (bs : List (List ℕ)) → zeros b ≡ true → arms (front bs ++ replicate n b) ≡ arms bs
compact_arms n b bs z = arms_append (front bs) (replicate n b) ∙ (ap (λ (l : List Arm). arms (front bs) ++ l) (no_arms n b z) ∙ (append-nil (arms (front bs)) ∙ arms_front bs))

-- the first refusal, and the one after it
pub first_none : (a b : ℕ) → or_else a b ≡ 0 → a ≡ 0
unfolding or_else
first_none a b e = go (eqb a 0) refl e
  where
    go : (t : Bool) → eqb a 0 ≡ t → cond t b a ≡ 0 → a ≡ 0
    go true f g = eqb-true a 0 f
    go false f g = g

pub then_is : (a b : ℕ) → a ≡ 0 → or_else a b ≡ b
unfolding or_else
then_is a b e = rw (eq-eqb a 0 e)

pub first_is : (a b : ℕ) → (a ≡ 0 → ⊥) → or_else a b ≡ a
unfolding or_else
first_is a b n = rw (ne_eqb a 0 n)

pub or_else_assoc : (a b c : ℕ) → or_else (or_else a b) c ≡ or_else a (or_else b c)
unfolding or_else
or_else_assoc a b c = go (eqb a 0) refl
  where
    go : (t : Bool) → eqb a 0 ≡ t → cond (eqb (cond t b a) 0) c (cond t b a) ≡ cond t (cond (eqb b 0) c b) a
    go true e = refl
    go false e = rw e

-- what a block is refused for alone, and then as an earlier one
abbrev pub Sound : List ℕ → Type 0
Sound b = block_fault [] b ≡ 0

unfoldable pub again : List Arm → List ℕ → ℕ
again earlier b = cond (not (zeros b) && holds (number b) earlier) 13 0

-- by the tests: short, check right, zeros, rest zero, finite, number 0 or held
abbrev fault_by : Bool → Bool → Bool → Bool → Bool → Bool → ℕ
fault_by short right empty rest finite taken = cond short 1 (cond right (cond empty 0 (cond rest (cond finite (cond taken 13 0) 8) 3)) 2)

pub alone_then_again : (earlier : List Arm) (b : List ℕ) → block_fault earlier b ≡ or_else (block_fault [] b) (again earlier b)
unfolding block_fault arm_fault again holds arm_of or_else
alone_then_again earlier b =
    go (ltb (length b) 512) (eqb (word b 63) (check b)) (zeros b) (rest b) (all_finite (arm_of b).numbers) (eqb (number b) 0) (holds (number b) earlier)
  where
    go : (s r z t f n h : Bool) → fault_by s r z t f (n || h) ≡ or_else (fault_by s r z t f (n || false)) (cond (not z && h) 13 0)
    go true r z t f n h = refl
    go false false z t f n h = refl
    go false true true t f n h = refl
    go false true false false f n h = refl
    go false true false true false n h = refl
    go false true false true true true h = refl
    go false true false true true false h = refl

again_none : (earlier : List Arm) (b : List ℕ) → zeros b ≡ false → again earlier b ≡ 0 → holds (number b) earlier ≡ false
unfolding again
again_none earlier b z e = go (holds (number b) earlier) (rw z at e)
  where
    go : (t : Bool) → ◌≡◌ {A = ℕ} (cond t 13 0) 0 → t ≡ false
    go true f = absurd (omega arith)
    go false f = refl

distinct_next : (earlier : List Arm) (b : List ℕ) → Distinct earlier → again earlier b ≡ 0 → Distinct (earlier ++ arms (b ∷ []))
unfolding arms arm_of
distinct_next earlier b d e = go (zeros b) refl
  where
    go : (t : Bool) → zeros b ≡ t → Distinct (earlier ++ cond t [] (arm_of b ∷ []))
    go true z = rw (append-nil earlier) d
    go false z = more_distinct (at_end (arm_of b) earlier) (again_none earlier b z e) d

-- the arms of one block and of those behind it
arms_next : (earlier : List Arm) (b : List ℕ) (bs : List (List ℕ)) → earlier ++ arms (b ∷ bs) ≡ (earlier ++ arms (b ∷ [])) ++ arms bs
arms_next earlier b bs = rw (arms_append (b ∷ []) bs) (sym (append_assoc earlier (arms (b ∷ [])) (arms bs)))

-- a list of blocks that is not refused: each is sound by itself, and the numbers differ
pub judged_sound : (earlier : List Arm) (bs : List (List ℕ)) → judge earlier bs ≡ 0 → Distinct earlier → Each Sound bs × Distinct (earlier ++ arms bs)
unfolding judge arms
judged_sound earlier [] e d = (none, rw (append-nil earlier) d)
judged_sound earlier (b ∷ bs) e d =
    let f = first_none (block_fault earlier b) _ e in
    let l : judge (earlier ++ arms (b ∷ [])) bs ≡ 0 = rw (then_is (block_fault earlier b) (judge (earlier ++ arms (b ∷ [])) bs) f) at e in
    let o = rw (alone_then_again earlier b) at f in
    let s = first_none (block_fault [] b) (again earlier b) o in
    let a : again earlier b ≡ 0 = rw (then_is (block_fault [] b) (again earlier b) s) at o in
    let r = judged_sound (earlier ++ arms (b ∷ [])) bs l (distinct_next earlier b d a) in
    (more s r.0, rw (arms_next earlier b bs) r.1)

distinct_mid : (xs : List Arm) (a : Arm) (ys : List Arm) → Distinct (xs ++ a ∷ ys) → holds a.number xs ≡ false
unfolding holds
distinct_mid [] a ys d = refl
distinct_mid (x ∷ xs) a ys (one_more h d) =
    rw (apart xs h) (distinct_mid xs a ys d)
  where
    apart : (zs : List Arm) → holds x.number (zs ++ a ∷ ys) ≡ false → eqb x.number a.number ≡ false
    apart [] h' = eqb_swap a.number x.number (or_false_left (eqb a.number x.number) _ h')
    apart (z ∷ zs) h' = apart zs (or_false_right (eqb z.number x.number) _ h')

none_again : (earlier : List Arm) (b : List ℕ) (bs : List (List ℕ)) → Distinct (earlier ++ arms (b ∷ bs)) → again earlier b ≡ 0
unfolding again arms arm_of
none_again earlier b bs d = go (zeros b) refl d
  where
    go : (t : Bool) → zeros b ≡ t → Distinct (earlier ++ cond t (arms bs) (arm_of b ∷ arms bs)) → ◌≡◌ {A = ℕ} (cond (not t && holds (number b) earlier) 13 0) 0
    go true z d' = refl
    go false z d' = rw (distinct_mid earlier (arm_of b) (arms bs) d')

pub sound_judged : (earlier : List Arm) {bs : List (List ℕ)} → Each Sound bs → Distinct (earlier ++ arms bs) → judge earlier bs ≡ 0
unfolding judge
sound_judged earlier none d = refl
sound_judged earlier (more {x = b} {xs = bs} p e) d =
    let f : block_fault earlier b ≡ 0 = rw (alone_then_again earlier b, then_is (block_fault [] b) (again earlier b) p) (none_again earlier b bs d) in
    rw (then_is (block_fault earlier b) (judge (earlier ++ arms (b ∷ [])) bs) f) (sound_judged (earlier ++ arms (b ∷ [])) e (rw (arms_next earlier b bs) at d))

-- a list of blocks is judged part by part
pub judge_append : (earlier : List Arm) (xs ys : List (List ℕ)) → judge earlier (xs ++ ys) ≡ or_else (judge earlier xs) (judge (earlier ++ arms xs) ys)
unfolding judge or_else arms
judge_append earlier [] ys = rw (append-nil earlier)
judge_append earlier (b ∷ bs) ys =
    rw (judge_append (earlier ++ arms (b ∷ [])) bs ys, ← (arms_next earlier b bs)) (sym (or_else_assoc (block_fault earlier b) (judge (earlier ++ arms (b ∷ [])) bs) (judge (earlier ++ arms (b ∷ bs)) ys)))
