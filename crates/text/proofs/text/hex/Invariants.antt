-- `hex`: the first i digits are written.
use Rattle.std.proofs.Common.{◌≡◌, ◌+◌, ◌-◌, ◌*◌, ◌/◌, ◌^◌, ◌++◌}
use Rattle.array_vec.specs.ArrayVec.{array_vec_len}
use Rattle.text.specs.Text.{digits}
use Rattle.text.proofs.text.hex.Given as goal

abbrev pub invariant-loop-i : goal.invariant-loop-i
invariant-loop-i l = record {
  written : l.out.items ≡ l.initial.out.items ++ digits 16 l.i (l.bits / 2 ^ (64 - 4 * l.i));
  long : array_vec_len l.out ≡ array_vec_len l.initial.out + l.i;
}
