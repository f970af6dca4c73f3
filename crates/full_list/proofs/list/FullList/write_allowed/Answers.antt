-- Without limits every answer stays.
use Rattle.std.proofs.Common.{◌≡◌, ◌∙◌, sym, ap, length}
use borrow.Author.Tests.{eqb-true}
use Rattle.answers.proofs.Laws.{by_name}
use Rattle.limits.specs.Limits.{allowed}
use Rattle.limits.proofs.Filter.{no_limits}
use Rattle.full_list.specs.Listed.{listed}
use Rattle.full_list.proofs.list.FullList.write_allowed.Goals as goal

pub returns-in-Found : goal.returns-in-Found
returns-in-Found c =
    let stops = c.args.limits.stops.now in
    let none : length stops ≡ 0 = eqb-true (length stops) 0 (sym c.is_empty.ensures ∙ c.if-is_empty.true) in
    by_name (c.as_slice.ensures.value ∙ sym (ap (allowed stops) (ap listed c.in-Found.is) ∙ no_limits stops none _)) c.write.ensures
