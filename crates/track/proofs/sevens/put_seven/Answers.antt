-- A row of seven.
use Prim.Native.Nat.{ℕ, ◌≤◌}
use mathlib.Core.Path.{refl, ◌≡◌, sym, ap, ◌∙◌}
use native.Mathlib.Omega.{arith}
use lib.ListN.{length}
use Rattle.track.specs.Sevens.{sevens}
use Rattle.track.proofs.SevenRows.{seven_long}
use Rattle.track.proofs.sevens.put_seven.Goals as goal

pub returns : goal.returns
returns c =
    c.put_row.ensures (sevens c.args.lock.joint c.args.lock.angle) c.args.q (record {
      wide = sym (ap length c.seven.ensures ∙ seven_long c.args.lock.joint c.args.lock.angle c.args.q c.args.lock.seven_joints);
      some = omega arith;
      numbers = sym c.seven.ensures;
      ls = refl;
    })
