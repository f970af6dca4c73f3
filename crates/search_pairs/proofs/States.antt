-- A part of the search after another: the state goes on. Assumes nothing.
use mathlib.Core.Path.{◌≡◌, sym, ◌∙◌, ap}
use mathlib.Core.List.{List, [], ◌∷◌, ◌++◌, map}
use Prim.Native.Nat.{ℕ, suc, ◌+◌, ◌≤◌}
use native.Mathlib.Nat.{add-zero}
use native.Mathlib.Omega.{arith}
use lib.ListN.{length, set, length-append}
use lib.Seq.{sets}
use lib.Ieee.{Float}
use Rattle.search_definition.specs.Found.{Origin, component, Out, nothing, asks, ◌then◌, Asked}
use Rattle.search_definition.specs.Refine.{refine_bracket}
use Rattle.search_definition.specs.Dip.{Point, entry, refined}
use Rattle.search_definition.proofs.Bounds.{refine_asks}
use Rattle.search_refine.specs.Counted.{Counted, with_count, total}
use Rattle.search_pairs.specs.State.{State, angle_of, component_of, afterwards}

module _ {A B : Type 0} (g : A → B) where
  sets_append : (l : List B) (i : ℕ) (a b : List A) → sets l i (map g (a ++ b)) ≡ sets (sets l i (map g a)) (i + length a) (map g b)
  sets_append l i [] b = ap (λ (n : ℕ). sets l n (map g b)) (sym (add-zero i))
  sets_append l i (x ∷ a) b = sets_append (set l i (g x)) (suc i) a b ∙ ap (λ (n : ℕ). sets (sets (set l i (g x)) (suc i) (map g a)) n (map g b)) (sym (shift i (length a)))
    where
      shift : (i n : ℕ) → i + suc n ≡ suc i + n
      shift i n = omega arith

-- `afterwards` is an action: of one part then another, and of nothing
pub after_both : (s : State) (a b : Out) → afterwards s (a then b) ≡ afterwards (afterwards s a) b
unfolding afterwards
after_both s a b =
    λ i. record {
      angles = sets_append angle_of s.angles s.pairs a.found b.found i;
      components = sets_append component_of s.components s.pairs a.found b.found i;
      pairs = place i;
      evals = count i;
      lists = s.lists;
    }
  where
    place : s.pairs + length (a.found ++ b.found) ≡ s.pairs + length a.found + length b.found
    place = omega (arith, length-append a.found b.found)

    count : s.evals + length (a.asked ++ b.asked) ≡ s.evals + length a.asked + length b.asked
    count = omega (arith, length-append a.asked b.asked)

pub after_nothing : (s : State) → afterwards s nothing ≡ s
unfolding afterwards
after_nothing s =
    λ i. record { angles = s.angles; components = s.components; pairs = add-zero s.pairs i; evals = add-zero s.evals i; lists = s.lists }

-- one part and then another, by the states between
pub after_two : (s : State) {t u : State} (a b : Out) → t ≡ afterwards s a → u ≡ afterwards t b → u ≡ afterwards s (a then b)
after_two s a b e d = d ∙ ap (λ (z : State). afterwards z b) e ∙ sym (after_both s a b)

-- n evaluations more
abbrev pub spend : State → ℕ → State
spend s n = record { angles = s.angles; components = s.components; pairs = s.pairs; evals = s.evals + n; lists = s.lists }

pub after_asks : (s : State) (l : List Float) → spend s (length l) ≡ afterwards s (asks l)
unfolding afterwards
after_asks s l =
    λ i. record { angles = s.angles; components = s.components; pairs = sym (add-zero s.pairs) i; evals = s.evals + length l; lists = s.lists }

-- one pair
pub after_entry : (s : State) (x : Float) (i : ℕ) {q : List Float} {c : List ℕ} → q ≡ set s.angles s.pairs x → c ≡ set s.components s.pairs i → (o : Origin) → component o ≡ i → ◌≡◌ {A = State} (record { angles = q; components = c; pairs = s.pairs + 1; evals = s.evals; lists = s.lists }) (afterwards s (entry x o))
unfolding afterwards entry
after_entry s x i {q} {c} eq ec o eo =
    let w : c ≡ set s.components s.pairs (component o) = ec ∙ ap (λ (z : ℕ). set s.components s.pairs z) (sym eo) in
    λ j. record { angles = eq j; components = w j; pairs = s.pairs + 1; evals = sym (add-zero s.evals) j; lists = s.lists }

-- the pair of a refinement is that of its angle, after its evaluations
module _ (f : Float → Float) (o : Origin) (p q : Point) (s : State) where
  abbrev root : Asked Float
  root = refine_bracket f p.x q.x p.y q.y

  refined_is : afterwards (spend s (length root.asked)) (entry root.value o) ≡ afterwards s (refined f o p q)
  unfolding afterwards entry refined
  refined_is =
      λ j. record {
        angles = set s.angles s.pairs root.value;
        components = set s.components s.pairs (component o);
        pairs = s.pairs + 1;
        evals = add-zero (s.evals + length root.asked) j;
        lists = s.lists;
      }

  pub after_refined : {t : State} {x : Float} {n : ℕ} → with_count x n ≡ total root → t ≡ afterwards (spend s n) (entry x o) → t ≡ afterwards s (refined f o p q)
  after_refined e d = d ∙ ap (λ (c : Counted Float). afterwards (spend s c.evals) (entry c.value o)) e ∙ refined_is

  pub refined_few : {t : State} → t ≡ afterwards s (refined f o p q) → (t.pairs ≤ s.pairs + 1) × (t.evals ≤ s.evals + 60)
  unfolding afterwards refined
  refined_few e =
      (omega (arith, ap (λ (z : State). z.pairs) e), omega (arith, ap (λ (z : State). z.evals) e, refine_asks f p.x q.x p.y q.y))
