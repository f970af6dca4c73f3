use Rattle.std.proofs.Common.{◌≡◌, ◌∙◌, ap, ◌<◌, ◌≤◌, ℕ, List, length, arith}
use Rattle.search_definition.specs.Search.{angle, delta}
use Rattle.search_steps.specs.Steps.{components_way}
use Rattle.step_pairs.specs.Landed.{landed}
use Rattle.step_scan.specs.State.{samples_of}
use Rattle.search_pairs.specs.declared.row.Sample.{Sample}
use Rattle.step_search.specs.Holds.{memory}
use Rattle.step_search.proofs.HoldsLaws.{sample_goes, sample_ends}
use Rattle.step_search.proofs.sample_next.Goals as goal

pub returns-then-k-n : goal.returns-then-k-n
unfolding angle delta
returns-then-k-n g c =
    let a = c.args in
    let t = a.samples.now.items in
    let ex : c.angle-x.result ≡ angle a.n (length t) = c.angle-x.ensures ∙ ap (λ (k : ℕ). angle a.n k) c.len-k.ensures.value in
    let l : length t < a.n = omega (arith, c.if-k-n.true, c.len-k.ensures.value) in
    λ r s h. sample_goes a.n g.row.N s a.e (memory t r a.found.now.items) h c.push.new.self.items ex c.push.ensures.items r l

pub returns : goal.returns
unfolding angle delta
returns g c =
    let a = c.args in
    let t = a.samples.now.items in
    let ex : c.angle-x.result ≡ angle a.n (length t) = c.angle-x.ensures ∙ ap (λ (k : ℕ). angle a.n k) c.len-k.ensures.value in
    let l : a.n ≤ length t = omega (arith, c.if-k-n.false, c.len-k.ensures.value) in
    λ r s h.
    sample_ends a.n g.row.N s a.e (memory t r a.found.now.items) h c.push.new.self.items ex c.push.ensures.items r c.components_way.new.found.items c.components_way.result c.arrived.result l
    (c.components_way.ensures r ∙ ap (λ (v : List Sample). landed g.row.N a.found.now.items (components_way a.n (samples_of v) 4 0)) c.as_slice.ensures.value)
    (c.arrived.ensures a.n c.push.new.self.items r)
