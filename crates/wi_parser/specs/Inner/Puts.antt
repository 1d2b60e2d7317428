-- Parts of what is put into a sheet, by names of their own.
use Rattle.std.specs.Prelude.{ℕ, ◌==◌, not, filter}
use Rattle.wi_values.specs.declared.value.Value.{Value}
use Rattle.wi_parser.specs.Sheet.{Sheet, constant, with_content}

abbrev pub without : Sheet → ℕ → Sheet
without s c = filter (λ e. not (e.0 == c)) s

abbrev pub put : Sheet → ℕ → Value → Sheet
put s c v = with_content s c (constant v)
