-- The motion card. Document 02, request 8: "The next controller has the solver behind a card with registers as bytes: 0 command (1 start, 2 abandon), 1 status (bit 0 busy,
-- bit 1 done, bit 2 refused), 2 interrupt mask, 3 interrupt flag, then one 512-byte pose block. [..] Each register write and each step does what is said here and nothing else".
-- The card knows the search through the solve call alone.
use Rattle.std.specs.Prelude.{ℕ, suc, ◌+◌, ◌-◌, ◌*◌, ◌%◌, max, Bool, true, false, cond, not, ◌&&◌, List, [], eqb, leb, ltb, get_or, set, replicate}
use Rattle.answers.specs.declared.Answer.{Answer}
use Rattle.solve.specs.InNumbers.{Solved}
use Rattle.solve_block.specs.SolveBlock.{solve_block, block_answers}

pub record Card : Type 0 where
  pub busy : Bool
  pub done : Bool
  pub refused : Bool
  pub mask : ℕ
  pub flag : ℕ
  pub block : List ℕ
  -- the steps made since the start
  pub made : ℕ

-- "A fresh card is all zero"
abbrev pub fresh : Card
fresh = record { busy = false; done = false; refused = false; mask = 0; flag = 0; block = replicate 512 0; made = 0 }

-- ---- reads
abbrev pub bit : Bool → ℕ
bit b = cond b 1 0

-- "status (bit 0 busy, bit 1 done, bit 2 refused)"
abbrev pub status : Card → ℕ
status c = bit c.busy + 2 * bit c.done + 4 * bit c.refused

-- "the command byte reads 0, and past byte 515 [..] a read gives 0"; "mask and block keep the bytes written"
unfoldable pub read : Card → ℕ → ℕ
read c address =
    cond (eqb address 0) 0
    (cond (eqb address 1)
    (status c)
    (cond (eqb address 2)
    c.mask
    (cond (eqb address 3) c.flag (cond (ltb address 516) (get_or c.block (address - 4) 0) 0))))

-- ---- writes
-- "A start clears done and refused and sets busy"
abbrev pub started : Card → Card
started c = record { busy = true; done = false; refused = false; mask = c.mask; flag = c.flag; block = c.block; made = 0 }

-- "abandon clears all three"
abbrev pub abandoned : Card → Card
abandoned c = record { busy = false; done = false; refused = false; mask = c.mask; flag = c.flag; block = c.block; made = 0 }

-- "A start [..] while busy is ignored, as are other commands"
unfoldable pub command : Card → ℕ → Card
command c value = cond (eqb value 1) (cond c.busy c (started c)) (cond (eqb value 2) (abandoned c) c)

abbrev pub with_mask : Card → ℕ → Card
with_mask c value = record { busy = c.busy; done = c.done; refused = c.refused; mask = value; flag = c.flag; block = c.block; made = c.made }

abbrev pub with_flag : Card → ℕ → Card
with_flag c value = record { busy = c.busy; done = c.done; refused = c.refused; mask = c.mask; flag = value; block = c.block; made = c.made }

abbrev pub with_byte : Card → ℕ → ℕ → Card
with_byte c place value =
    record { busy = c.busy; done = c.done; refused = c.refused; mask = c.mask; flag = c.flag; block = set c.block place value; made = c.made }

-- "A start or a write to the block while busy is ignored, as are other commands, writes to status and steps while idle"; "writing 1 to the flag clears it, another value does
-- nothing"; "past byte 515 a write does nothing"
unfoldable pub write : Card → ℕ → ℕ → Card
write c address value =
    cond (eqb address 0)
    (command c value)
    (cond (eqb address 1)
    c
    (cond (eqb address 2)
    (with_mask c value)
    (cond (eqb address 3)
    (cond (eqb value 1) (with_flag c 0) c)
    (cond (ltb address 516) (cond c.busy c (with_byte c (address - 4) value)) c))))

-- ---- steps
-- "Families 1 to 5 finish in one step; in family 6 each step makes one evaluation of the error"; "A block refused by 2 to 8 ends in one step": as many steps as evaluations, and
-- one where there is none
unfoldable pub steps_of : List ℕ → ℕ
steps_of block = max 1 (solve_block block [] 0).evals

unfoldable pub is_last : Card → Bool
is_last c = c.busy && leb (steps_of c.block) (suc c.made)

-- "its last step gives refusal, answers and evaluations as the solve call without limits does for the lists lent with it"
abbrev pub whole : Card → ℕ → Solved
whole c room = solve_block c.block [] room

-- "every other step gives zeros"
abbrev pub zeros : Solved
zeros = record { refusal = 0; answers = 0; evals = 0 }

-- "The end clears busy and sets done, and refused too after any refusal. That end alone sets the flag to 1, if mask bit 0 is then set"
unfoldable pub ended : Card → ℕ → Card
ended c refusal =
    record {
      busy = false;
      done = true;
      refused = not (eqb refusal 0);
      mask = c.mask;
      flag = cond (eqb (c.mask % 2) 1) 1 c.flag;
      block = c.block;
      made = 0;
    }

abbrev pub one_more : Card → Card
one_more c =
    record { busy = c.busy; done = c.done; refused = c.refused; mask = c.mask; flag = c.flag; block = c.block; made = suc c.made }

-- what a step gives that is lent lists with room for so many answers, and the card after it
pub record Stepped : Type 0 where
  pub gave : Solved
  pub card : Card

unfoldable pub step : Card → ℕ → Stepped
step c room =
    cond (is_last c)
    (record { gave = whole c room; card = ended c (whole c room).refusal })
    (record { gave = zeros; card = cond c.busy (one_more c) c })

-- the answers that it writes to the two lists lent with it: "the last also fills the two lists lent with it, in every family; no other step and no register write touches a list"
unfoldable pub step_answers : Card → List Answer
step_answers c = cond (is_last c) (block_answers c.block []) []
