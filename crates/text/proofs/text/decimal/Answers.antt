-- As many digits as the number has.
use Rattle.std.proofs.Common.{◌≡◌, refl, sym, ℕ, ◌≤◌, List, ◌++◌, length, take, arith, ◌∙◌, ap}
use lib.Seq.{sets, sets-eq, length-take-le, take_at}
use Rattle.text.specs.Text.{digits, places, decimal}
use Rattle.text.proofs.Long.{digits_long, places_few}
use Rattle.text.proofs.text.decimal.Goals as goal

few : (n : ℕ) {k : ℕ} → k ≡ places 19 n → k ≤ 20
few n e = omega (arith, places_few 19 n)

spelt : (n : ℕ) {k : ℕ} (z : List ℕ) {d : List ℕ} → k ≡ places 19 n → length z ≡ 20 → d ≡ sets z 0 (digits 10 k n) → take k d ≡ decimal n
unfolding decimal
spelt n {k} z e h w =
    let long = digits_long 10 k n in
    rw (w, sets-eq (digits 10 k n) z 0 (omega (arith, long, few n e)), ← e) (take_at (digits 10 k n) _ k long)

pub spell-requires : goal.spell-requires
spell-requires c = few c.args.n c.places-k.ensures

pub slice_bounds-digits-end : goal.slice_bounds-digits-end
slice_bounds-digits-end c = omega (arith, few c.args.n c.places-k.ensures, c.spell.auto.out)

pub slice_bounds-put-end : goal.slice_bounds-put-end
slice_bounds-put-end c = sym (length-take-le _ _ (omega (arith, few c.args.n c.places-k.ensures, c.spell.auto.out)))

pub returns-clause-items : goal.returns-clause-items
returns-clause-items c =
    c.put.ensures.items ∙ ap (λ (l : List ℕ). c.args.out.now.items ++ l) (spelt c.args.n _ c.places-k.ensures refl c.spell.ensures)
