-- What the program prints for a block. Document 01: "The program reads blocks from standard input and solves each with space for 1,024 answers. It prints, for each block, its
-- place from 0, refusal, answers and evaluations, then one line for each answer written: six angles as 16 hexadecimal digits of their bits in lower case, then the flag, one
-- space between fields. Every NaN prints as 7ff8000000000000." Document 02, request 1, adds limits blocks: such a block "prints no line and isn't counted as a place unless
-- refused", and "A block's lines now also depend on the limits in force."
use Rattle.std.specs.Prelude.{ℕ, cond, Float, take}
use mathlib.Core.List.{List, [], ◌++◌, flat_map}
use Rattle.answers.specs.Answer.{six, byte}
use Rattle.answers.specs.declared.Answer.{Answer}
use Rattle.limits_block.specs.LimitsBlock.{is_limits, limits_refusal, accepted}
use Rattle.solve_block.specs.SolveBlock.{solve_block, block_answers}
use Rattle.text.specs.Text.{text, decimal}
use Rattle.text.specs.Lists.{head, angle}

unfoldable pub answer_line : Answer → List ℕ
answer_line q = flat_map angle (six q) ++ decimal (byte q) ++ text "\n"

-- a block that is no limits block, solved with the limits in force
unfoldable pub pose_lines : List ℕ → ℕ → List Float → List ℕ
pose_lines bytes place limits =
    let s = solve_block bytes limits 1024 in
    head place s.refusal s.answers s.evals ++ flat_map answer_line (take 1024 (block_answers bytes limits))

-- a limits block: "it prints no line [..] unless refused"; "10 and every later number report zeros", as 1 to 3 do
unfoldable pub limits_lines : List ℕ → ℕ → List ℕ
limits_lines bytes place = cond (accepted bytes) [] (head place (limits_refusal bytes) 0 0)

-- a block at a place, with the limits in force before it
unfoldable pub lines : List ℕ → ℕ → List Float → List ℕ
lines bytes place limits = cond (is_limits bytes) (limits_lines bytes place) (pose_lines bytes place limits)
