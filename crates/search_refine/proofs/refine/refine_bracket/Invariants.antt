-- What is left of the definition's steps after those made.
use Rattle.std.proofs.Common.{◌≡◌, ◌-◌}
use Rattle.search_definition.specs.Found.{run}
use Rattle.search_definition.specs.Refine.{reached, refine_step, refine_bracket}
use Rattle.search_error.specs.Fixed.{branch_error}
use Rattle.search_refine.specs.Counted.{total, counted}
use Rattle.search_refine.specs.Bracket.{bracket_of}
use Rattle.search_refine.proofs.refine.refine_bracket.Given as goal

abbrev pub invariant-loop-evals : goal.invariant-loop-evals
invariant-loop-evals l =
    counted l.evals (run (refine_step (branch_error l.branch)) reached (60 - l.evals) (bracket_of l.bracket))
    ≡ total (refine_bracket (branch_error l.branch) l.fn.a.x l.fn.b.x l.fn.a.y l.fn.b.y)
