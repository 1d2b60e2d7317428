use Rattle.wi_parser.proofs.Words.{◌≡◌, ◌++◌, drop, string_bytes, Utf8, shadow, StartsWith, all_of, spelling_of_all, symbols_text}
use Rattle.wi_parser.proofs.PrintLemmas.{parameters_from}
use Rattle.wi_parser.proofs.print.+print.Given as goal

-- what is written and the text of the parameters that are left
abbrev pub invariant-push_parameters-loop-parameter : goal.invariant-push_parameters-loop-parameter
invariant-push_parameters-loop-parameter l =
    record {
      utf8 : shadow (Utf8 l.separator);
      written : string_bytes l.out ++ parameters_from l.separator (all_of (drop l.parameter-index l.parameters)) ≡ string_bytes l.fn.out ++ symbols_text (spelling_of_all (all_of l.parameters));
      kept : StartsWith (string_bytes l.out) (string_bytes l.fn.out);
    }
