use Rattle.step_scan.proofs.RowLaws.{last_short, last_long}
use Rattle.step_scan.proofs.run.Run.last_pair.Goals as goal

pub returns-then-self-lt2 : goal.returns-then-self-lt2
returns-then-self-lt2 c = last_short c.args.self.from c.args.self.count c.if-self-lt2.true

pub returns : goal.returns
returns c = last_long c.args.self.from c.args.self.count c.if-self-lt2.false
