-- `card::registers::read` meets its contract. Assumes nothing.
use Rattle.card.proofs.RegisterLaws.{below, read_within, read_past}
use Rattle.card.proofs.registers.read.Goals as goal

pub bounds-registers-address : goal.bounds-registers-address
bounds-registers-address c = search below

pub returns-then-address-lt516 : goal.returns-then-address-lt516
returns-then-address-lt516 c = search read_within

pub returns : goal.returns
returns c = search read_past
