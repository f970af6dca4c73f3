-- Any calls in any order: the machine gives what the card gives. And how soon a card is done.
use Prim.Native.Nat.{ℕ, ◌<◌}
use mathlib.Core.Path.{◌≡◌, refl, sym, ap, ap₂, ◌∙◌}
use mathlib.Core.Bool.{Bool, true, false, cond, true≢false}
use mathlib.Core.List.{List, [], ◌∷◌}
use native.Mathlib.Omega.{arith}
use lib.Dec.{eqb, ltb}
use Rattle.scalar.proofs.Order.{by_test}
use Rattle.answers.specs.Written.{room, written, flagged}
use Rattle.answers.specs.declared.Answer.{Answer}
use Rattle.search_steps.specs.Steps.{State}
use Rattle.search_steps.proofs.Run.{search_runs}
use Rattle.block.specs.Block as Block
use Rattle.solve.specs.Demand3.{err}
use Rattle.solve.specs.InNumbers.{Solved}
use Rattle.card.specs.Card.{Card, started, abandoned, command, with_mask, with_flag, with_byte, write}
use Rattle.card.specs.Calls.{Call, writes, reads, steps, Gave, given, after, run}
use Rattle.card.specs.Machine.{Machine, searches, Reached, fresh_machine, machine_given, machine_after, machine_run, RunsAsCard, EndsInTime}
use Rattle.card.proofs.Block.{so_many, one_step}
use Rattle.card.proofs.Steps.{agrees}

abbrev Kept : State → Card → Type 0
Kept s c = Reached (record { card = c; search = s })

by_cond_test : (P : Card → Type 0) (t : Bool) (a b : Card) → P a → (t ≡ false → P b) → P (cond t a b)
by_cond_test P true a b p q = p
by_cond_test P false a b p q = q refl

by_cond : (P : Card → Type 0) (t : Bool) (a b : Card) → P a → P b → P (cond t a b)
by_cond P true a b p q = p
by_cond P false a b p q = q

module _ (s : State) (c : Card) (k : Kept s c) where
  -- a card that is idle, or that has made no step, is in no search
  idle : (d : Card) → d.busy ≡ false → Kept s d
  idle d e b = absurd (true≢false (sym b ∙ e))

  unmade : (d : Card) → d.made ≡ 0 → Kept s d
  unmade d e b h = absurd (let z : 0 < 0 = rw e at h in omega arith)

  kept_command : (value : ℕ) → Kept s (command c value)
  unfolding command
  kept_command value =
      by_cond (Kept s) (eqb value 1) _ _ (by_cond (Kept s) c.busy _ _ k (unmade (started c) refl))
      (by_cond (Kept s) (eqb value 2) _ _ (idle (abandoned c) refl) k)

  -- the search goes by block and steps alone
  kept_mask : (value : ℕ) → Kept s (with_mask c value)
  kept_mask value b h = let u = k b h in record { searching = u.searching; at = u.at; left = u.left }

  kept_flag : (value : ℕ) → Kept s (with_flag c value)
  kept_flag value b h = let u = k b h in record { searching = u.searching; at = u.at; left = u.left }

  kept_byte : (place value : ℕ) → Kept s (cond c.busy c (with_byte c place value))
  kept_byte place value = by_cond_test (Kept s) c.busy c (with_byte c place value) k (idle (with_byte c place value))

  kept_write : (address value : ℕ) → Kept s (write c address value)
  unfolding write
  kept_write address value =
      by_cond (Kept s) (eqb address 0) _ _ (kept_command value)
      (by_cond (Kept s) (eqb address 1) _ _ k
      (by_cond (Kept s) (eqb address 2) _ _ (kept_mask value)
      (by_cond (Kept s) (eqb address 3) _ _ (by_cond (Kept s) (eqb value 1) _ _ (kept_flag 0) k)
      (by_cond (Kept s) (ltb address 516) _ _ (kept_byte _ value) k))))

module _ (m : Machine) (r : Reached m) where
  same_gave : (call : Call) → machine_given m call ≡ given m.card call
  unfolding machine_given given
  same_gave (writes address value) = refl
  same_gave (reads address) = refl
  same_gave (steps angles flags) =
      let a = agrees m (room angles flags) r in
      ap₂ (λ (g : Solved) (l : List Answer). record { byte = 0; solved = g; angles = written l angles flags; flags = flagged l angles flags }) a.gave a.answers

  same_card : (call : Call) → (machine_after m call).card ≡ after m.card call
  unfolding machine_after after
  same_card (writes address value) = refl
  same_card (reads address) = refl
  same_card (steps angles flags) = (agrees m (room angles flags) r).card

  again : (call : Call) → Reached (machine_after m call)
  unfolding machine_after
  again (writes address value) = kept_write m.search m.card r address value
  again (reads address) = r
  again (steps angles flags) = (agrees m (room angles flags) r).reached

same_run : (calls : List Call) (m : Machine) → Reached m → machine_run m calls ≡ run m.card calls
unfolding machine_run run
same_run [] m r = refl
same_run (call ∷ calls) m r =
    ap₂ (λ (g : Gave) (l : List Gave). g ∷ l) (same_gave m r call)
    (same_run calls (machine_after m call) (again m r call) ∙ ap (λ (c : Card). run c calls) (same_card m r call))

pub runs_as_card : RunsAsCard
runs_as_card s calls = same_run calls (fresh_machine s) (λ b. absurd (true≢false (sym b)))

pub ends_in_time : EndsInTime
ends_in_time block =
    by_test (searches block)
    (λ t. rw (so_many block t) (search_runs (err (Block.samples block) (Block.arm block) (Block.pose block)) (Block.samples block)).within)
    (λ t. rw (one_step block t) (omega arith))
