-- `pose_lines`: the first line, and those of the answers in the lists.
use Rattle.std.proofs.Common.{◌≡◌, ℕ, min, List, ◌++◌, length, ap, ◌∙◌}
use lib.Ieee.{Float}
use Rattle.answers.specs.Rows.{room_of}
use Rattle.answers.specs.Written.{room, written, flagged}
use Rattle.solve.specs.InNumbers.{Solved}
use Rattle.text.specs.Lists.{head, lines_of}
use Rattle.solve_block.specs.SolveBlock.{solve_block, block_answers}
use Rattle.solve_block.proofs.Counted.{counted}
use Rattle.lines.specs.Lines.{pose_lines}
use Rattle.lines.proofs.Printed.{printed}
use Rattle.lines.proofs.pose_lines.Goals as goal

space : (a : List Float) (f : List ℕ) → length a ≡ 6144 → length f ≡ 1024 → room a f ≡ 1024
unfolding room_of
space a f a-long f-long = rw (a-long, f-long)

met : (bytes : List ℕ) (place : ℕ) (l a : List Float) (f : List ℕ)
    {a' : List Float}
    {f' out1 out : List ℕ}
    {number answers evals refusal k : ℕ}
    → length a ≡ 6144
    → length f ≡ 1024
    → ◌≡◌ {A = Solved} (record { refusal = number; answers = answers; evals = evals }) (solve_block bytes l (room a f))
    → a' ≡ written (block_answers bytes l) a f
    → f' ≡ flagged (block_answers bytes l) a f
    → refusal ≡ number
    → out1 ≡ head place refusal answers evals
    → k ≡ min answers 1024
    → out ≡ out1 ++ lines_of a' f' k
    → out ≡ pose_lines bytes place l
unfolding pose_lines
met bytes place l a f {k = k} a-long f-long e-s e-a e-f e-r p e-k q =
    let e = rw (space a f a-long f-long) at e-s in
    let count = e-k ∙ ap (λ (x : Solved). min x.answers 1024) e ∙ ap (λ (x : ℕ). min x 1024) (counted bytes l 1024) in
    let q' = rw (e-a, e-f, printed (block_answers bytes l) a f {n = k} a-long f-long count) at q in
    rw (p, e-r, ap (λ (x : Solved). head place x.refusal x.answers x.evals) e) at q'

pub returns : goal.returns
returns c = search met
