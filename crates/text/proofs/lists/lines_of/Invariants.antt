-- `lines_of`: the first i lines are written.
use Rattle.std.proofs.Common.{◌≡◌, ◌+◌, ◌*◌, ◌++◌}
use Rattle.array_vec.specs.ArrayVec.{array_vec_len}
use Rattle.text.specs.Lists.{lines_of}
use Rattle.text.proofs.lists.lines_of.Given as goal

abbrev pub invariant-loop-i : goal.invariant-loop-i
invariant-loop-i l = record {
  written : l.out.items ≡ l.initial.out.items ++ lines_of l.list l.flags l.i;
  long : array_vec_len l.out ≡ array_vec_len l.initial.out + 104 * l.i;
}
