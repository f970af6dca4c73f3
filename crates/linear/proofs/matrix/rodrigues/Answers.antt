-- Entry by entry: what the code leaves out of the definition changes no bit.
use mathlib.Core.Path.{◌≡◌, refl, sym, subst}
use mathlib.Core.Bool.{Bool, false}
use lib.Dec.{T}
use lib.Ieee.{Float, binary64, mul, neg, fits, of_bits}
use lib.Ieee.Fits.{add-fits, sub-fits, mul-fits}
use lib.Ieee.Scale.{finite}
use Rattle.float.specs.Num.{◌⊕◌, ◌⊖◌, ◌⊗◌, nought, one}
use Rattle.linear.specs.Matrix.{array3, product, rodrigues}
use Rattle.linear.proofs.Zeros.{Near, same, Like, Null, add_left, add_right, near_add, near_mul, onto, takes_nought, takes_one, null_left, null_right, finite_neg, before, after, twice, entry}
use Rattle.linear.proofs.matrix.rodrigues.Goals as goal

threes : {A : Type 0} {a b c a' b' c' : A} → a ≡ a' → b ≡ b' → c ≡ c' → array3 a b c ≡ array3 a' b' c'
threes p q r = λ i. array3 (p i) (q i) (r i)

m-fits : (a b : Float) → T (fits binary64 (a ⊗ b))
m-fits a b = mul-fits binary64 a b

neg_left : (w : Float) → Null (finite w) (nought ⊗ neg w)
neg_left w = subst (λ (b : Bool). Null b (nought ⊗ neg w)) (finite_neg w) (null_left (neg w))

neg_right : (w : Float) → Null (finite w) (neg w ⊗ nought)
neg_right w = subst (λ (b : Bool). Null b (neg w ⊗ nought)) (finite_neg w) (null_right (neg w))

-- the product of two numbers as the last, the middle and the first term of a row times a column
module _ {b : Bool} (p q : Float) {n n' : Float} (h : Null b n) (h' : Null b n') where
  last : T (fits binary64 n) → Like b (n ⊕ n' ⊕ p ⊗ q) (p ⊗ q)
  last f = before (p ⊗ q) (m-fits p q) (twice (after n f h') h)

  middle : Like b (n ⊕ p ⊗ q ⊕ n') (p ⊗ q)
  middle = twice (after (n ⊕ p ⊗ q) (add-fits binary64 n (p ⊗ q)) h') (before (p ⊗ q) (m-fits p q) h)

  first : Like b (p ⊗ q ⊕ n ⊕ n') (p ⊗ q)
  first = twice (after (p ⊗ q ⊕ n) (add-fits binary64 (p ⊗ q) n) h') (after (p ⊗ q) (m-fits p q) h)

module _ (s c : Float) where
  -- an entry on the diagonal
  on : {x y : Float} → Near x y → one ⊕ nought ⊗ s ⊕ x ⊗ (one ⊖ c) ≡ one ⊕ nought ⊗ s ⊕ y ⊗ (one ⊖ c)
  on h = onto (one ⊕ nought ⊗ s) (takes_one s) (near_mul h (same refl))

  -- one off it, e being the entry of hat there and w the part of k that the zeros meet
  off : (e w : Float) {x p : Float} → Like (finite w) x p → nought ⊕ e ⊗ s ⊕ x ⊗ (one ⊖ c) ≡ nought ⊕ e ⊗ s ⊕ p ⊗ (one ⊖ c ⊕ nought ⊗ w)
  off e w h = entry (nought ⊕ e ⊗ s) w (one ⊖ c) (takes_nought (e ⊗ s) (m-fits e s)) (sub-fits binary64 one c) h

pub returns : goal.returns
unfolding rodrigues product mul of_bits
returns c₀ =
    let x = c₀.args.k.x in
    let y = c₀.args.k.y in
    let z = c₀.args.k.z in
    let s = c₀.args.s in
    let c = c₀.args.c in
    sym
    (threes
    (threes
    (on s c (near_add (y ⊗ neg y) (m-fits y (neg y)) (add_left false (neg z ⊗ z) (m-fits (neg z) z))))
    (off s c (neg z) z (last y x (neg_left z) (neg_right z) (m-fits nought (neg z))))
    (off s c y y (middle (neg z) (neg x) (null_left y) (null_right y))))
    (threes
    (off s c z z (last (neg x) (neg y) (null_right z) (null_left z) (m-fits z nought)))
    (on s c (near_add (neg x ⊗ x) (m-fits (neg x) x) (add_right false (z ⊗ neg z) (m-fits z (neg z)))))
    (off s c (neg x) x (first z y (neg_left x) (neg_right x))))
    (threes
    (off s c (neg y) y (middle x z (neg_right y) (neg_left y)))
    (off s c x x (first (neg y) (neg z) (null_right x) (null_left x)))
    (on s c (add_right false (neg y ⊗ y ⊕ x ⊗ neg x) (add-fits binary64 (neg y ⊗ y) (x ⊗ neg x))))))
