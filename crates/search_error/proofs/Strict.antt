-- Where component i of the error is finite at q1, q1 is finite and i is below the number of subproblem 6's answers there, for every arm and pose.
-- A q1 that is not finite has no sine, so the first entry of its rotation is a NaN, and so is every number that the error is made of. Assumes nothing.
use mathlib.Core.Logic.{◌≢◌}
use mathlib.Core.Path.{◌≡◌, refl, sym, ◌∙◌, ap}
use mathlib.Core.Bool.{Bool, true, false, true≢false}
use mathlib.Core.List.{List, [], ◌∷◌, map}
use Prim.Native.Nat.{ℕ, zero, suc, ◌+◌, ◌≤◌, ◌<◌}
use native.Mathlib.Omega.{arith}
use native.Mathlib.Decide.{ℕ_discrete, dec_lt}
use lib.Ieee.{Float, nan, inf, fin, add, sub, mul, div}
use lib.ListN.{length, get_or, set, replicate, length-map}
use lib.Seq.{sets, get_or-set_same, get_or-set_other, set_out}
use Rattle.float.specs.Num.{◌⊕◌, ◌⊖◌, ◌⊗◌, ◌⊘◌, infinity}
use Rattle.float.specs.Number.{is_finite}
use Rattle.root.specs.Root.{sqrt}
use Rattle.float.specs.Sine.{sin}
use Rattle.linear.specs.Vector.{norm}
use Rattle.linear.specs.Matrix.{Matrix, part, row, apply, transpose, rodrigues, rot_unit, rot}
use Rattle.linear.specs.declared.vector.Vector3.{Vector3}
use Rattle.solutionset.specs.SolutionSet4.{get_all}
use Rattle.solutionset.specs.declared.Pair.{Pair}
use Rattle.kinematics.specs.declared.Kinematics.{Kinematics}
use Rattle.search_definition.specs.Demand.{Strict}
use Rattle.families_shared.specs.Place.{p_16}
use Rattle.search_error.specs.Error.{t64_given_q1, answer_error, error_given_q1, error_i, t64_count}

-- ---- a NaN in an operation
add_nan : (x : Float) → nan ⊕ x ≡ nan
unfolding add
add_nan x = refl

sub_nan : (x : Float) → nan ⊖ x ≡ nan
unfolding sub add
sub_nan x = refl

mul_nan : (x : Float) → nan ⊗ x ≡ nan
unfolding mul
mul_nan x = refl

nan_mul : (x : Float) → x ⊗ nan ≡ nan
unfolding mul
nan_mul nan = refl
nan_mul (inf s) = refl
nan_mul (fin s m e) = refl

nan_add : (x : Float) → x ⊕ nan ≡ nan
unfolding add
nan_add nan = refl
nan_add (inf s) = refl
nan_add (fin s m e) = refl

div_nan : (x : Float) → nan ⊘ x ≡ nan
unfolding div
div_nan x = refl

-- ---- from the sine to the error
no_sine : (q1 : Float) → is_finite q1 ≡ false → sin q1 ≡ nan
unfolding sin
no_sine q1 e = rw e

-- the first entry of the rotation: 1 + 0 s + ..
rotation_nan : (k : Vector3) (s c : Float) → s ≡ nan → part (row (rodrigues k s c) 0) 0 ≡ nan
unfolding rodrigues
rotation_nan k s c e = rw (e, nan_mul, nan_add, add_nan)

norm_nan : (v : Vector3) → v.x ≡ nan → norm v ≡ nan
unfolding norm sqrt
norm_nan v h = rw (h, mul_nan, add_nan, add_nan)

less_nan : (a b c d e : Float) → a ≡ nan → a ⊖ b ⊖ c ⊖ d ⊖ e ≡ nan
less_nan a b c d e h = rw (h, sub_nan, sub_nan, sub_nan, sub_nan)

error_nan : (v : Vector3) (l : Float) → v.x ≡ nan → (norm v ⊖ l) ⊘ l ≡ nan
error_nan v l h = rw (norm_nan v h, sub_nan, div_nan)

module _ (kin : Kinematics) (r_06 : Matrix) (p_0t : Vector3) (q1 : Float) (e : is_finite q1 ≡ false) where
  -- the first part of r_01^T v
  moved_nan : (v : Vector3) → (apply (transpose (rot kin.h1 q1)) v).x ≡ nan
  unfolding apply transpose rot rot_unit
  moved_nan v = rw (rotation_nan _ (sin q1) _ (no_sine q1 e), mul_nan, add_nan, add_nan)

  answer_nan : (a : Pair) → answer_error kin r_06 p_0t q1 a ≡ nan
  unfolding answer_error
  answer_nan a = error_nan _ _ (less_nan _ _ _ _ _ (moved_nan (p_16 r_06 p_0t kin)))

-- ---- a component by its number
-- what is not set is infinite, or no component
unset : (l : List Float) (vs : List Float) (k i : ℕ) → k + length vs ≤ i → get_or (sets l k vs) i nan ≡ get_or l i nan
unset l [] k i h = refl
unset l (v ∷ vs) k i h = unset (set l k v) vs (suc k) i (omega arith) ∙ get_or-set_other l k i v nan (other k i h)
  where
    other : (k i : ℕ) → k + suc (length vs) ≤ i → i ≢ k
    other k i h = omega arith

four_infinite : (i : ℕ) → is_finite (get_or (replicate 4 infinity) i nan) ≡ false
four_infinite zero = refl
four_infinite (suc zero) = refl
four_infinite (suc (suc zero)) = refl
four_infinite (suc (suc (suc zero))) = refl
four_infinite (suc (suc (suc (suc i)))) = refl

-- what is set is one of the values, if the list has that place
all_nan : (l vs : List Float) (k i : ℕ) → ((j : ℕ) → is_finite (get_or l j nan) ≡ false) → ((j : ℕ) → is_finite (get_or vs j nan) ≡ false) → is_finite (get_or (sets l k vs) i nan) ≡ false
all_nan l [] k i a b = a i
all_nan l (v ∷ vs) k i a b = all_nan (set l k v) vs (suc k) i one_more (λ j. b (suc j))
  where
    one_more : (j : ℕ) → is_finite (get_or (set l k v) j nan) ≡ false
    one_more j = go (ℕ_discrete j k) (dec_lt k (length l))
      where
        go : Dec (j ≡ k) → Dec (k < length l) → is_finite (get_or (set l k v) j nan) ≡ false
        go (no d) h = ap (λ x. is_finite x) (get_or-set_other l k j v nan d) ∙ a j
        go (yes d) (yes h) = ap (λ (n : ℕ). is_finite (get_or (set l k v) n nan)) d ∙ ap (λ x. is_finite x) (get_or-set_same l k v nan h) ∙ b 0
        go (yes d) (no h) = ap (λ (m : List Float). is_finite (get_or m j nan)) (set_out l k v (outside h)) ∙ a j
          where
            outside : (k < length l → ⊥) → length l ≤ k
            outside h = omega arith

module _ (kin : Kinematics) (r_06 : Matrix) (p_0t : Vector3) where
  mapped_nan : (q1 : Float) → is_finite q1 ≡ false → (l : List Pair) (j : ℕ) → is_finite (get_or (map (answer_error kin r_06 p_0t q1) l) j nan) ≡ false
  mapped_nan q1 e [] j = refl
  mapped_nan q1 e (a ∷ l) zero = ap (λ x. is_finite x) (answer_nan kin r_06 p_0t q1 e a)
  mapped_nan q1 e (a ∷ l) (suc j) = mapped_nan q1 e l j

  nowhere : (i : ℕ) (q1 : Float) → is_finite q1 ≡ false → is_finite (error_i kin r_06 p_0t i q1) ≡ false
  unfolding error_i error_given_q1
  nowhere i q1 e =
      let l = get_all (t64_given_q1 kin r_06 p_0t q1) in
      all_nan (replicate 4 infinity) (map (answer_error kin r_06 p_0t q1) l) 0 i four_infinite (mapped_nan q1 e l)

  unanswered : (i : ℕ) (q1 : Float) → t64_count kin r_06 p_0t q1 ≤ i → is_finite (error_i kin r_06 p_0t i q1) ≡ false
  unfolding error_i error_given_q1
  unanswered i q1 h =
      let l = get_all (t64_given_q1 kin r_06 p_0t q1) in
      ap (λ x. is_finite x) (unset (replicate 4 infinity) (map (answer_error kin r_06 p_0t q1) l) 0 i (omega (arith, length-map l (answer_error kin r_06 p_0t q1)))) ∙ four_infinite i

  pub strict : Strict (error_i kin r_06 p_0t) (t64_count kin r_06 p_0t)
  strict = record { angle = at; answered = below }
    where
      at : (i : ℕ) (q1 : Float) → is_finite (error_i kin r_06 p_0t i q1) ≡ true → is_finite q1 ≡ true
      at i q1 h = go (is_finite q1) refl
        where
          go : (b : Bool) → is_finite q1 ≡ b → b ≡ true
          go true e = refl
          go false e = absurd (true≢false (sym h ∙ nowhere i q1 e))

      below : (i : ℕ) (q1 : Float) → is_finite (error_i kin r_06 p_0t i q1) ≡ true → i < t64_count kin r_06 p_0t q1
      below i q1 h = go (dec_lt i (t64_count kin r_06 p_0t q1))
        where
          go : Dec (i < t64_count kin r_06 p_0t q1) → i < t64_count kin r_06 p_0t q1
          go (yes l) = l
          go (no n) = absurd (true≢false (sym h ∙ unanswered i q1 (past n)))
            where
              past : (i < t64_count kin r_06 p_0t q1 → ⊥) → t64_count kin r_06 p_0t q1 ≤ i
              past n = omega arith
