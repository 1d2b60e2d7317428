use Rattle.std.proofs.Common.{◌≡◌, ◌++◌, ◌∷◌, [], take}
use Rattle.std.specs.List.{flat_map}
use Rattle.std.specs.Io.{StartsWith}
use Rattle.wi_lexer.specs.Quoted.{doubled}
use Rattle.wi_csv.proofs.row.push_field.Given as goal

-- the separator, the first quote and the bytes so far are there
abbrev pub invariant-loop-byte : goal.invariant-loop-byte
invariant-loop-byte l =
    record {
      written : l.out.items ≡ (l.fn.out.items ++ l.separator ++ 34 ∷ []) ++ flat_map doubled (take l.byte-index l.field);
      kept : StartsWith l.out.items l.fn.out.items;
    }
