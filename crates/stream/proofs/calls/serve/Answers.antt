-- `serve`: each turn is one call more.
use Rattle.stream.proofs.Reached.{none_made, one_more, served_out, served_all, copied}
use Rattle.stream.proofs.calls.serve.Goals as goal

pub loop-calls-init : goal.loop-calls-init
loop-calls-init g c = search none_made

pub returns-in-Stop-clause-served : goal.returns-in-Stop-clause-served
returns-in-Stop-clause-served g c = search served_all

pub returns-in-Stop-clause-copied : goal.returns-in-Stop-clause-copied
returns-in-Stop-clause-copied g c = search copied

pub loop-calls-preserved : goal.loop-calls-preserved
loop-calls-preserved g c = search one_more

pub returns-clause-served : goal.returns-clause-served
returns-clause-served g c = search served_out

pub returns-clause-copied : goal.returns-clause-copied
returns-clause-copied g c = search copied
