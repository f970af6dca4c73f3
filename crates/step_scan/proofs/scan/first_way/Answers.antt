use Rattle.search_definition.specs.Scan.{alike, falls_back}
use Rattle.search_pairs.specs.Row.{points}
use Rattle.step_scan.proofs.ScanLaws.{first_dips, first_none}
use Rattle.step_scan.proofs.scan.first_way.Goals as goal

pub returns-then-falls_back : goal.returns-then-falls_back
unfolding falls_back alike
returns-then-falls_back c =
    λ o t room h. first_dips room o h (points c.args.row) c.args.run.from t c.at-p.ensures c.behind-q.ensures c.falls_back.ensures c.if-falls_back.true

pub returns : goal.returns
unfolding falls_back alike
returns c =
    λ o t room h. first_none room o h (points c.args.row) c.args.run.from t c.at-p.ensures c.behind-q.ensures c.falls_back.ensures c.if-falls_back.false
