-- Commands of a few lines.
use Rattle.std.specs.Prelude.{◌≡◌, false, true, Some, None, [], ◌∷◌, refl, codes}
use Rattle.std.specs.Str.{is_utf8, chars}
use Rattle.wi_cli.proofs.Vocabulary.{Cell, Csv, csv_line, line_command, spelled_cell, spelled_command, commands_of}

abbrev below : Cell
below = record { row = 1048576; column = 0 }

bad_cells : commands_of true (codes "csv A0 1\n" ∷ codes "1\n" ∷ codes "csv A1048577 1\n" ∷ codes "1\n" ∷ codes "csv A1048577 1\n" ∷ [])
    ≡ Csv false None 1 (codes "1\n" ∷ []) ∷ Csv false (Some below) 1 (codes "1\n" ∷ []) ∷ Csv false (Some below) 1 [] ∷ []
unfolding csv_line line_command spelled_cell spelled_command is_utf8 chars lib.Utf8.encode
bad_cells = refl
