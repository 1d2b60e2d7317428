use Rattle.wi_parser.proofs.Words.{◌≡◌, ◌++◌, ◌∷◌, [], length, string_bytes, Utf8, shadow, StartsWith, flat_map, doubled}
use Rattle.wi_parser.proofs.print.push_quoted.Given as goal

-- what is written and the rest of the content are the whole
abbrev pub invariant-loop-piece : goal.invariant-loop-piece
invariant-loop-piece l =
    record {
      utf8 : shadow (Utf8 l.rest);
      written : string_bytes l.out ++ flat_map doubled l.rest ≡ (string_bytes l.fn.out ++ 34 ∷ []) ++ flat_map doubled l.content;
      kept : StartsWith (string_bytes l.out) (string_bytes l.fn.out);
    }

abbrev pub decreases-loop-piece : goal.decreases-loop-piece
decreases-loop-piece l = length l.rest
