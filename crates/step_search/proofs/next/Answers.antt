use Rattle.step_search.specs.Holds.{memory, values}
use Rattle.step_search.proofs.HoldsLaws.{holds_at, ended_stays}
use Rattle.step_search.proofs.next.Goals as goal

pub returns-in-Sampling : goal.returns-in-Sampling
returns-in-Sampling g c =
    let a = c.args in
    let m = memory a.samples.now.items a.row.now.items a.found.now.items in
    λ s h. c.sample_next.ensures a.row.now.items s (holds_at a.n g.row.N s a.phase m _ c.in-Sampling.is h)

pub returns-in-Ended : goal.returns-in-Ended
returns-in-Ended g c =
    let a = c.args in
    let m = memory a.samples.now.items a.row.now.items a.found.now.items in
    λ s h. ended_stays a.n g.row.N s a.phase m (values a.e) c.in-Ended.is h
