use Rattle.search_definition.specs.Scan.{alike, falls_to}
use Rattle.search_pairs.specs.Row.{points}
use Rattle.step_scan.specs.State.{last_of}
use Rattle.step_scan.proofs.ScanLaws.{last_dips, last_none}
use Rattle.step_scan.proofs.scan.last_way.Goals as goal

pub returns-then-falls_to : goal.returns-then-falls_to
unfolding falls_to alike
returns-then-falls_to c =
    λ o room h. last_dips room o h (points c.args.row) c.args.run.from (last_of c.args.run) c.last_pair-t.ensures c.at-p.ensures c.behind-q.ensures c.falls_to.ensures c.if-falls_to.true

pub returns : goal.returns
unfolding falls_to alike
returns c =
    λ o room h. last_none room o h (points c.args.row) c.args.run.from (last_of c.args.run) c.last_pair-t.ensures c.at-p.ensures c.behind-q.ensures c.falls_to.ensures c.if-falls_to.false (c.first_way.ensures o _ room h)
