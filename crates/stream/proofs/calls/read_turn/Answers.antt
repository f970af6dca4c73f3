-- `read_turn`: the bytes before those read stay.
use Rattle.std.proofs.Common.{◌≡◌, length, refl, sym, arith, rules}
use Rattle.stream.proofs.Steps.{turned_read}
use Rattle.stream.proofs.calls.read_turn.Goals as goal

pub returns : goal.returns
returns g c =
    let gave = c.read_on-gave.ensures in
    let long : length c.args.p.now.block ≡ 512 = search rules in
    let room = c.args.p.now.room_left in
    λ held.
    turned_read c.args.p.now long (sym c.requires.1) _ _ held c.read_on-gave.result c.read_on-gave.new.block refl gave.block_len_unchanged gave.block_unchanged gave.bytes
    (λ z. gave.end z (omega (arith, room, long))) c.after_read.ensures
