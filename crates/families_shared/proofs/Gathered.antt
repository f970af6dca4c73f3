-- What a loop over a set gathers: for each member the answers that a definition has for it. One law for every family.
use Prim.Native.Nat.{ℕ, ◌*◌, ◌≤◌}
use mathlib.Core.Path.{◌≡◌}
use mathlib.Core.List.{List, [], ◌∷◌}
use native.Mathlib.Nat.{le_trans, mul-le-mul_left}
use native.Mathlib.Omega.{arith}
use lib.ListN.{length, take, length-append}
use lib.Seq.{take_all}
use Rattle.std.specs.Prelude.{flat_map}
use Rattle.answers.specs.declared.Answer.{Answer}

-- of the first i members of l, each of which gives at most so many
pub record Gathered {P : Type 0} (g : P → List Answer) (l : List P) (each i : ℕ) (all : List Answer) : Type 0 where
  pub so_far : all ≡ flat_map g (take i l)
  pub few : length all ≤ each * i

pub whole : {P : Type 0} (g : P → List Answer) (l : List P) (each : ℕ) {i : ℕ} {all : List Answer} → length l ≤ i → Gathered g l each i all → all ≡ flat_map g l
whole g l each {i} h t = rw (take_all i l h) at t.so_far

-- the number of answers
each_few : {P : Type 0} (g : P → List Answer) (each : ℕ) (l : List P) → ((x : P) → length (g x) ≤ each) → length (flat_map g l) ≤ each * length l
each_few g each [] small = omega arith
each_few g each (x ∷ l) small = rw length-append (omega (arith, small x, each_few g each l small))

pub at_most : {P : Type 0} (g : P → List Answer) (each m : ℕ) (l : List P) → ((x : P) → length (g x) ≤ each) → length l ≤ m → length (flat_map g l) ≤ each * m
at_most g each m l small h = le_trans (each_few g each l small) (mul-le-mul_left each h)
