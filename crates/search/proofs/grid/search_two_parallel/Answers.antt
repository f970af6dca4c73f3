-- The error with its constants computed once is the definition's.
use Rattle.std.proofs.Common.{◌∙◌, ap}
use Rattle.search_error.specs.Fixed.{error_at}
use Rattle.search_error.proofs.SameError.{error_at_same}
use Rattle.search.proofs.Listed.{same_error}
use Rattle.search.proofs.grid.search_two_parallel.Goals as goal

pub returns : goal.returns
returns c =
    let a = c.args in
    same_error a.n a.list.now (ap error_at c.new.ensures ∙ error_at_same a.kin a.r_06 a.p_0t) c.search_1d_bracketed.ensures
