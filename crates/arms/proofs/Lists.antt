-- Lists of numbered arms: one arm more, at any place.
use Prim.Native.Nat.{ℕ, suc}
use mathlib.Core.Path.{◌≡◌, refl, ap, sym, ◌∙◌}
use mathlib.Core.Bool.{Bool, true, false, cond, ◌||◌}
use mathlib.Core.List.{List, [], ◌∷◌, ◌++◌}
use native.Mathlib.Omega.{arith}
use borrow.Author.Tests.{eqb-true, eqb-false, ne_eqb}
use lib.Dec.{eqb}
use lib.ListN.{length}
use Rattle.arms.specs.Arm.{Arm, numbered, zeros_39, holds, pick}
use Rattle.arms.specs.Plain.{without, Distinct, one_more, Alike}

-- `ys` is `xs` with `arm` put in somewhere
pub data More (arm : Arm) : List Arm → List Arm → Type 0 where
  here : {xs : List Arm} → More arm xs (arm ∷ xs)
  there : {x : Arm} {xs ys : List Arm} → More arm xs ys → More arm (x ∷ xs) (x ∷ ys)

pub at_end : (arm : Arm) (xs : List Arm) → More arm xs (xs ++ arm ∷ [])
at_end arm [] = here
at_end arm (x ∷ xs) = there (at_end arm xs)

pub or_false_left : (a b : Bool) → (a || b) ≡ false → a ≡ false
or_false_left true b e = e
or_false_left false b e = refl

pub or_false_right : (a b : Bool) → (a || b) ≡ false → b ≡ false
or_false_right true b e = let z : true ≡ false = e in cc
or_false_right false b e = e

or_swap : (a b c : Bool) → (a || (b || c)) ≡ (b || (a || c))
or_swap true true c = refl
or_swap true false c = refl
or_swap false b c = refl

pub more_holds : {arm : Arm} {xs ys : List Arm} (n : ℕ) → More arm xs ys → holds n ys ≡ (eqb arm.number n || holds n xs)
unfolding holds
more_holds n here = refl
more_holds {arm} n (there {x} {xs} {ys} m) = rw (more_holds n m) (or_swap (eqb x.number n) (eqb arm.number n) (holds n xs))

pub more_size : {arm : Arm} {xs ys : List Arm} → More arm xs ys → length ys ≡ suc (length xs)
more_size here = refl
more_size (there m) = ap suc (more_size m)

-- one test is the same either way round
pub eqb_swap : (a b : ℕ) → eqb a b ≡ false → eqb b a ≡ false
eqb_swap a b e = ne_eqb b a (λ s. eqb-false a b e (sym s))

-- which of two is picked makes no difference, where their numbers differ
pick_swap : (a b : Arm) (n : ℕ) (c : Arm) → eqb a.number b.number ≡ false
    → cond (eqb a.number n) a (cond (eqb b.number n) b c) ≡ cond (eqb b.number n) b (cond (eqb a.number n) a c)
pick_swap a b n c ne = go (eqb a.number n) (eqb b.number n) refl refl
  where
    go : (s t : Bool) → eqb a.number n ≡ s → eqb b.number n ≡ t → cond s a (cond t b c) ≡ cond t b (cond s a c)
    go true true e f = absurd (eqb-false a.number b.number ne (eqb-true a.number n e ∙ sym (eqb-true b.number n f)))
    go true false e f = refl
    go false t e f = refl

pub more_pick : {arm : Arm} {xs ys : List Arm} (n : ℕ) → More arm xs ys → holds arm.number xs ≡ false → pick n ys ≡ cond (eqb arm.number n) arm (pick n xs)
unfolding pick holds
more_pick n here e = refl
more_pick {arm} n (there {x} {xs} {ys} m) e =
    rw (more_pick n m (or_false_right (eqb x.number arm.number) _ e)) (pick_swap x arm n (pick n xs) (or_false_left (eqb x.number arm.number) _ e))

pub more_distinct : {arm : Arm} {xs ys : List Arm} → More arm xs ys → holds arm.number xs ≡ false → Distinct xs → Distinct ys
unfolding holds
more_distinct here e d = one_more e d
more_distinct {arm} (there {x} {xs} {ys} m) e (one_more h d) =
    let ne = or_false_left (eqb x.number arm.number) (holds arm.number xs) e in
    one_more (more_holds x.number m ∙ cc (eqb_swap x.number arm.number ne)) (more_distinct m (or_false_right (eqb x.number arm.number) _ e) d)

pub less_distinct : {arm : Arm} {xs ys : List Arm} → More arm xs ys → Distinct ys → Distinct xs
less_distinct here (one_more h d) = d
less_distinct {arm} (there {x} {xs} {ys} m) (one_more h d) =
    one_more (or_false_right (eqb arm.number x.number) _ (sym (more_holds x.number m) ∙ h)) (less_distinct m d)

pub less_gone : {arm : Arm} {xs ys : List Arm} → More arm xs ys → Distinct ys → holds arm.number xs ≡ false
unfolding holds
less_gone here (one_more h d) = h
less_gone {arm} (there {x} {xs} {ys} m) (one_more h d) =
    let ne = eqb_swap arm.number x.number (or_false_left (eqb arm.number x.number) _ (sym (more_holds x.number m) ∙ h)) in
    rw ne (less_gone m d)

-- taking out
pub picked : (n : ℕ) (xs : List Arm) → holds n xs ≡ true → (pick n xs).number ≡ n
unfolding holds pick
picked n [] e = let z : false ≡ true = e in let y : ◌≡◌ {A = ℕ} 0 1 = cc in absurd (omega arith)
picked n (x ∷ xs) e = go (eqb x.number n) refl (picked n xs) e
  where
    go : (t : Bool) → eqb x.number n ≡ t → (holds n xs ≡ true → (pick n xs).number ≡ n) → (t || holds n xs) ≡ true → (cond t x (pick n xs)).number ≡ n
    go true f ih g = eqb-true x.number n f
    go false f ih g = ih g

pub taken : (n : ℕ) (xs : List Arm) → holds n xs ≡ true → More (pick n xs) (without n xs) xs
unfolding holds pick without
taken n [] e = let z : false ≡ true = e in let y : ◌≡◌ {A = ℕ} 0 1 = cc in absurd (omega arith)
taken n (x ∷ xs) e = go (eqb x.number n) (taken n xs) e
  where
    go : (t : Bool) → (holds n xs ≡ true → More (pick n xs) (without n xs) xs) → (t || holds n xs) ≡ true → More (cond t x (pick n xs)) (cond t xs (x ∷ without n xs)) (x ∷ xs)
    go true ih g = here
    go false ih g = there (ih g)

-- alike lists stay alike
pub alike_more : {arm : Arm} {xs ys ps qs : List Arm} → Alike xs ps → More arm xs ys → More arm ps qs → holds arm.number xs ≡ false → Alike ys qs
alike_more {arm} {xs} {ys} {ps} {qs} a m k e =
    record {
      size = more_size m ∙ (ap suc a.size ∙ sym (more_size k));
      holds_same = λ n. more_holds n m ∙ (ap (λ (t : Bool). eqb arm.number n || t) (a.holds_same n) ∙ sym (more_holds n k));
      pick_same = λ n. more_pick n m e ∙ (ap (λ (t : Arm). cond (eqb arm.number n) arm t) (a.pick_same n) ∙ sym (more_pick n k (sym (a.holds_same arm.number) ∙ e)));
    }

pub absent : (n : ℕ) (xs : List Arm) → holds n xs ≡ false → pick n xs ≡ numbered 0 zeros_39
unfolding holds pick
absent n [] e = refl
absent n (x ∷ xs) e = rw (or_false_left (eqb x.number n) _ e) (absent n xs (or_false_right (eqb x.number n) _ e))

module _ {arm : Arm} {xs ys ps qs : List Arm} (a : Alike ys qs) (m : More arm xs ys) (k : More arm ps qs) (d : Distinct ys) (d' : Distinct qs) where
  gone : (n : ℕ) → eqb arm.number n ≡ true → holds n xs ≡ false
  gone n e = rw (eqb-true arm.number n e) at (less_gone m d)

  gone' : (n : ℕ) → eqb arm.number n ≡ true → holds n ps ≡ false
  gone' n e = rw (eqb-true arm.number n e) at (less_gone k d')

  holds_less : (n : ℕ) (t : Bool) → eqb arm.number n ≡ t → holds n xs ≡ holds n ps
  holds_less n true e = gone n e ∙ sym (gone' n e)
  holds_less n false e = let h = rw e at (more_holds n m) in let h' = rw e at (more_holds n k) in sym h ∙ (a.holds_same n ∙ h')

  pick_less : (n : ℕ) (t : Bool) → eqb arm.number n ≡ t → pick n xs ≡ pick n ps
  pick_less n true e = absent n xs (gone n e) ∙ sym (absent n ps (gone' n e))
  pick_less n false e =
      let h = rw e at (more_pick n m (less_gone m d)) in
      let h' = rw e at (more_pick n k (less_gone k d')) in
      sym h ∙ (a.pick_same n ∙ h')

  pub alike_less : Alike xs ps
  alike_less =
      record {
        size = let e = more_size m in let e' = more_size k in let s = a.size in omega arith;
        holds_same = λ n. holds_less n (eqb arm.number n) refl;
        pick_same = λ n. pick_less n (eqb arm.number n) refl;
      }

pub alike_taken : (n : ℕ) {ys qs : List Arm} → Alike ys qs → Distinct ys → Distinct qs → holds n ys ≡ true → Alike (without n ys) (without n qs)
alike_taken n {ys} {qs} a d d' h =
    let k : More (pick n ys) (without n qs) qs = rw (a.pick_same n) (taken n qs (sym (a.holds_same n) ∙ h)) in
    alike_less a (taken n ys h) k d d'
