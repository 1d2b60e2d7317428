-- A sheet, and what is put into it.
use Rattle.std.specs.Prelude.{◌==◌, ℕ, Bool, true, false, not, List, [], ◌∷◌, filter, Option, Some, None}
use Rattle.std.specs.Ordering.{nat_cmp}
use Rattle.std.specs.Map.{lookup, keys_of}
use Rattle.std.specs.BTreeMap.{is_at, insert_entry}
use Rattle.wi_values.specs.declared.value.Value.{Value}
use Rattle.wi_values.specs.declared.value.Value.TheVariants.{Empty}
use Rattle.wi_values.specs.declared.replacement.Replacement.{Replacement}
use Rattle.wi_parser.specs.declared.content.Content.{Content}
use Rattle.wi_parser.specs.declared.content.Content.TheVariants.{Constant, Formula}

-- The cells that have a content, in row-major order. A content is never the constant Empty.
abbrev pub Sheet : Type 0
Sheet = List (ℕ × Content)

abbrev pub content_of : Sheet → ℕ → Option Content
content_of s c = lookup (is_at (nat_cmp c)) s

abbrev pub constant : Value → Option Content
constant Empty = None
constant v = Some (Constant v)

abbrev pub with_content : Sheet → ℕ → Option Content → Sheet
with_content s c None = filter (λ e. not (e.0 == c)) s
with_content s c (Some x) = insert_entry nat_cmp s c x

abbrev pub put_all : Sheet → List Replacement → Sheet
put_all s [] = s
put_all s (r ∷ rs) = put_all (with_content s r.at (constant r.value)) rs

abbrev pub has_formula : Option Content → Bool
has_formula (Some (Formula t)) = true
has_formula o = false

abbrev pub cells_with_formula : Sheet → List ℕ
cells_with_formula s = filter (λ c. has_formula (content_of s c)) (keys_of s)
