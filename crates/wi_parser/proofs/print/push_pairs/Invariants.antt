use Rattle.wi_parser.proofs.Words.{◌≡◌, ◌++◌, drop, string_bytes, StartsWith, pairs_text}
use Rattle.wi_parser.proofs.print.push_pairs.Given as goal

-- what is written and the text of the pairs that are left
abbrev pub invariant-loop-pair : goal.invariant-loop-pair
invariant-loop-pair l =
    record {
      written : string_bytes l.out ++ pairs_text (drop l.pair-index l.pairs) ≡ string_bytes l.fn.out ++ pairs_text l.pairs;
      kept : StartsWith (string_bytes l.out) (string_bytes l.fn.out);
    }
