-- A row of six.
use Rattle.std.proofs.Common.{refl, arith}
use Rattle.answers.specs.Written.{sixes}
use Rattle.answers.proofs.put.Goals as goal

pub returns : goal.returns
returns c = c.put_row.ensures sixes c.args.q (record { wide = rw c.six.ensures; some = omega arith; numbers = cc; ls = refl })
