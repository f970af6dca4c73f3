-- Each turn is one call more.
use Rattle.stream.proofs.Reached.{Reached}
use Rattle.stream.proofs.calls.serve.Given as goal

abbrev pub invariant-loop-calls : goal.invariant-loop-calls
invariant-loop-calls g l =
    Reached l.p l._calls (g.I.Read.remaining l.fn.input) (g.I.Read.remaining l.input) (g.O.Write.contents l.fn.output) (g.O.Write.contents l.output)
