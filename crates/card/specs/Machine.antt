-- The card as it runs: beside the registers it keeps the search of family 6 as it stands between two evaluations. proofs/Steps.antt and proofs/Run.antt show that it gives what the card gives.
use Rattle.std.specs.Prelude.{ℕ, suc, ◌+◌, ◌*◌, ◌≤◌, ◌<◌, ◌≡◌, Bool, true, cond, not, ◌&&◌, ◌||◌, List, [], ◌∷◌, map, eqb, length}
use Rattle.answers.specs.Written.{room, written, flagged}
use Rattle.answers.specs.declared.Answer.{Answer}
use Rattle.kinematics.specs.Kinematics.{from_numbers}
use Rattle.kinematics.specs.Pose.{pose_rotation, pose_place}
use Rattle.refusals.specs.Judge.{refusal_9}
use Rattle.search_definition.specs.Found.{pair_of}
use Rattle.search_steps.specs.Steps.{State, busy, start}
use Rattle.search_steps.specs.Run as Run
use Rattle.family6.specs.TwoParallel.{answer_of}
use Rattle.full_list.specs.Full.{tolerance}
use Rattle.block.specs.Block as Block
use Rattle.solve.specs.Solve.{refused}
use Rattle.solve.specs.Demand3.{err}
use Rattle.solve.specs.InNumbers.{Solved}
use Rattle.solve_block.specs.SolveBlock.{block_answers}
use Rattle.card.specs.Card.{Card, fresh, read, write, whole, zeros, ended, one_more, steps_of}
use Rattle.card.specs.Card as Card
use Rattle.card.specs.Calls.{Call, writes, reads, steps, Gave, nothing, run}

pub record Machine : Type 0 where
  pub card : Card
  pub search : State

-- refusals 1 to 8 of a block, the first that applies, or 0
abbrev pub block_refused : List ℕ → ℕ
block_refused block =
    let first = Block.refusal block in
    cond (eqb first 0) (refused (Block.family block) (Block.samples block) (Block.arm block) (Block.pose block) []) first

-- a block that is searched: accepted, and of family 6
unfoldable pub searches : List ℕ → Bool
searches block = eqb (block_refused block) 0 && eqb (Block.family block) 6

-- one evaluation more of the error of a block's arm and pose
abbrev pub one_evaluation : List ℕ → State → State
one_evaluation block s = Run.step (err (Block.samples block) (Block.arm block) (Block.pose block)) (Block.samples block) s

-- the search as it stands before a step: its start, at the first
abbrev pub stands : Machine → State
stands m = cond (eqb m.card.made 0) (start (Block.samples m.card.block)) m.search

-- the answers of the pairs that a search has found
abbrev pub found_answers : List ℕ → State → List Answer
found_answers block s =
    map (answer_of (pose_rotation (Block.pose block)) (pose_place (Block.pose block)) (from_numbers (Block.arm block)) tolerance) (map pair_of s.found)

-- what a step gives, the answers that it writes, and the machine after it
pub record Stepped : Type 0 where
  pub gave : Solved
  pub answers : List Answer
  pub machine : Machine

abbrev pub waits : Machine → Stepped
waits m = record { gave = zeros; answers = []; machine = m }

abbrev pub ends : Machine → State → Solved → List Answer → Stepped
ends m s gave answers = record { gave = gave; answers = answers; machine = record { card = ended m.card gave.refusal; search = s } }

-- s is the search after this step's evaluation
unfoldable pub search_step : Machine → ℕ → State → Stepped
search_step m room s =
    cond (busy s)
    (waits (record { card = one_more m.card; search = s }))
    (let count = length s.found in
    ends m s (record { refusal = refusal_9 count room; answers = count; evals = suc m.card.made }) (found_answers m.card.block s))

-- a block is judged at the first step alone: after it a search is under way
unfoldable pub machine_step : Machine → ℕ → Stepped
machine_step m room =
    let block = m.card.block in
    cond m.card.busy
    (cond (not (eqb m.card.made 0) || searches block)
    (search_step m room (one_evaluation block (stands m)))
    (ends m m.search (whole m.card room) (block_answers block [])))
    (waits m)

-- What holds of every machine that calls lead to: a search that is under way is the block's, has made so many evaluations, and is not over.
pub record UnderWay (m : Machine) : Type 0 where
  pub searching : searches m.card.block ≡ true
  pub at : m.search
      ≡ Run.steps (err (Block.samples m.card.block) (Block.arm m.card.block) (Block.pose m.card.block)) (Block.samples m.card.block) m.card.made
      (start (Block.samples m.card.block))
  pub left : m.card.made < steps_of m.card.block

abbrev pub Reached : Machine → Type 0
Reached m = m.card.busy ≡ true → 0 < m.card.made → UnderWay m

-- What the machine gives at a step is what the card gives, and it is again one that calls lead to.
pub record Agrees (m : Machine) (room : ℕ) : Type 0 where
  pub gave : (machine_step m room).gave ≡ (Card.step m.card room).gave
  pub answers : (machine_step m room).answers ≡ Card.step_answers m.card
  pub card : (machine_step m room).machine.card ≡ (Card.step m.card room).card
  pub reached : Reached (machine_step m room).machine

-- ---- calls in any order
-- "All-zero memory is a fresh card": no search is under way, so it does not matter what stands in its place
abbrev pub fresh_machine : State → Machine
fresh_machine s = record { card = fresh; search = s }

unfoldable pub machine_given : Machine → Call → Gave
machine_given m (writes address value) = nothing
machine_given m (reads address) = record { byte = read m.card address; solved = zeros; angles = []; flags = [] }
machine_given m (steps angles flags) =
    let done = machine_step m (room angles flags) in
    record { byte = 0; solved = done.gave; angles = written done.answers angles flags; flags = flagged done.answers angles flags }

unfoldable pub machine_after : Machine → Call → Machine
machine_after m (writes address value) = record { card = write m.card address value; search = m.search }
machine_after m (reads address) = m
machine_after m (steps angles flags) = (machine_step m (room angles flags)).machine

unfoldable pub machine_run : Machine → List Call → List Gave
machine_run m [] = []
machine_run m (call ∷ calls) = machine_given m call ∷ machine_run (machine_after m call) calls

-- The theorem: any calls in any order, on a fresh card.
abbrev pub RunsAsCard : Type 0
RunsAsCard = (s : State) (calls : List Call) → machine_run (fresh_machine s) calls ≡ run fresh calls

-- "A started card that isn't abandoned is done within n + 1 + 3,128 × n steps"
abbrev pub EndsInTime : Type 0
EndsInTime = (block : List ℕ) → steps_of block ≤ Block.samples block + 1 + 3128 * Block.samples block
