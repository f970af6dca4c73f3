-- `angles`: the first of them are written.
use Rattle.std.proofs.Common.{◌≡◌, ◌+◌, ◌*◌, ◌++◌, take}
use mathlib.Core.List.{flat_map}
use Rattle.array_vec.specs.ArrayVec.{array_vec_len}
use Rattle.text.specs.Lists.{angle}
use Rattle.text.proofs.lists.angles.Given as goal

abbrev pub invariant-loop-x : goal.invariant-loop-x
invariant-loop-x l = record {
  written : l.out.items ≡ l.initial.out.items ++ flat_map angle (take l.x-index l.list);
  long : array_vec_len l.out ≡ array_vec_len l.initial.out + 17 * l.x-index;
}
