-- The digits found so far are the root's.
use Prim.Native.Nat.{◌*◌, ◌^◌}
use Rattle.root.proofs.Cubes.{Begun}
use Rattle.root.proofs.cube_root.Given as goal

abbrev pub invariant-loop-i : goal.invariant-loop-i
invariant-loop-i l = Begun (l.m * 2 ^ 107) l.r l.i
