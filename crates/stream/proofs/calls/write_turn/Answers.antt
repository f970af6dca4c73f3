-- `write_turn`: what is left of the lines was lent.
use Rattle.std.proofs.Common.{◌≡◌, length, refl, sym, rules}
use Rattle.stream.proofs.Steps.{turned_write}
use Rattle.stream.proofs.calls.write_turn.Goals as goal

pub returns : goal.returns
returns g c =
    let lent = c.as_slice.ensures.value in
    let gave = c.write_on-gave.ensures in
    let long : length c.args.p.now.block ≡ 512 = search rules in
    λ left. turned_write c.args.p.now long (sym c.requires) left _ _ c.write_on-gave.result refl c.after_write.ensures (rw lent at gave.bytes)
