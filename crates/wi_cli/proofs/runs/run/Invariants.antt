use Rattle.wi_cli.proofs.Vocabulary.{◌≡◌, ◌-◌, ◌≤◌, false, vec_capacity, CanRead, stage_of}
use Rattle.wi_cli.proofs.OutcomeLemmas.{IsGoing}
use Rattle.wi_cli.proofs.runs.run.Given as goal

abbrev pub invariant-turns : goal.invariant-turns
invariant-turns g l =
    let left = g.R.Source.remaining in
    let given = g.W.Sink.contents in
    record {
      going : IsGoing (left l.fn.reader) l.fn.book.state (given l.fn.writer) (stage_of left given l.buffers.script l.reader l.writer l.book.state);
      few : l.buffers.script.lines ≤ 1000000;
      reads : CanRead (g.R.Source.has_failed l.reader) (vec_capacity l.buffers.script.line);
      writes : g.W.Sink.has_failed l.writer ≡ false;
    }

abbrev pub decreases-turns : goal.decreases-turns
decreases-turns g l = 1000001 - l.buffers.script.lines
