-- What stands in a cell under replacements, as it is found.
use Rattle.std.specs.Prelude.{Option, Some, None}
use Rattle.wi_parser.specs.declared.content.Content as stored
use Rattle.wi_engine.specs.declared.content_ref.ContentRef.{ContentRef}
use Rattle.wi_engine.specs.declared.content_ref.ContentRef.TheVariants.{Nothing, Constant, Formula}

-- as a sheet has it
abbrev pub as_content : ContentRef → Option stored.Content
as_content Nothing = None
as_content (Constant v) = Some (stored.TheVariants.Constant v.now)
as_content (Formula f) = Some (stored.TheVariants.Formula f.now)
