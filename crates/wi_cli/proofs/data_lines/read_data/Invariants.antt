use Rattle.wi_cli.proofs.Vocabulary.{◌≡◌, ◌+◌, ◌≤◌, cond, vec_capacity, wants, TookData, CanRead, place_of}
use Rattle.wi_cli.proofs.data_lines.read_data.Given as goal

abbrev pub invariant-taking : goal.invariant-taking
invariant-taking g l =
    let place = place_of g.R.Source.remaining in
    record {
      taken : TookData l.csv.lines l.data_lines l.fn.whole l.whole (place l.fn.script l.fn.source) (place l.script l.source);
      wanted : l.data_lines.wanted ≡ wants l.csv;
      few : l.script.lines ≤ 1000000;
      reads : CanRead (g.R.Source.has_failed l.source) (vec_capacity l.script.line);
      book : l.book ≡ l.fn.book;
    }

abbrev pub decreases-taking : goal.decreases-taking
decreases-taking g l = cond l.whole (l.data_lines.missing + 1) 0
