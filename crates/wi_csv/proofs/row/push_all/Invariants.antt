use Rattle.std.proofs.Common.{◌≡◌, ◌++◌, take, map}
use Rattle.std.specs.List.{join_with_byte}
use Rattle.std.specs.Io.{StartsWith}
use Rattle.wi_lexer.specs.Quoted.{quoted}
use Rattle.wi_csv.proofs.Joined.{comma}
use Rattle.wi_csv.proofs.row.push_all.Given as goal

-- the fields so far are there, and a comma follows them if there are any
abbrev pub invariant-loop-field : goal.invariant-loop-field
invariant-loop-field g l =
    let done = map quoted (map g.F.AsSlice.items (take l.field-index l.fields)) in
    record {
      written : l.out.items ≡ l.fn.out.items ++ join_with_byte 44 done;
      separator : l.separator ≡ comma done;
      kept : StartsWith l.out.items l.fn.out.items;
    }
