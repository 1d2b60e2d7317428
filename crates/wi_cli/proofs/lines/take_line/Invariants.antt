use Rattle.wi_cli.proofs.Vocabulary.{◌≡◌, ◌<◌, ◌≤◌, true, false, length, vec_capacity, budget}
use Rattle.wi_cli.proofs.ReadingLemmas.{IsWithin}
use Rattle.wi_cli.proofs.lines.take_line.Given as goal

abbrev pub invariant-loop-chunk : goal.invariant-loop-chunk
invariant-loop-chunk g l =
    let left = g.R.Source.remaining in
    record {
      within : IsWithin l.allowed l.fn.chunk (left l.fn.source) l.chunk (left l.source) l.line.items;
      some : 0 < length l.chunk;
      works : g.R.Source.has_failed l.source ≡ false;
      headroom : 65537 ≤ vec_capacity l.line;
      may : l.allowed ≡ true;
    }

abbrev pub decreases-loop-chunk : goal.decreases-loop-chunk
decreases-loop-chunk g l = budget l.chunk (g.R.Source.reads_left l.source)
