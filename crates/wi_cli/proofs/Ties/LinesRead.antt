-- Lines have the commands that they are read as.
use Rattle.wi_cli.proofs.Vocabulary.{◌≡◌, ℕ, ◌+◌, ◌-◌, Bool, true, false, ◌==◌, List, [], ◌∷◌, ◌++◌, length, refl, sym, subst, arith, nat_tests, Block, blocks_from, blocks, begun, Bytes, Splits, none, a_line, cut_short, asked, line_block, length-append, append-nil, append_assoc, ◌<◌, not, ◌||◌, nat_lt, cond, filter, filter_map, Option, Some, None, if◌then◌else◌, ap, ap₂, ◌∙◌, list_all, cons_option, byte, is_utf8, IsUtf8-from_is_utf8, is_utf8-from_IsUtf8, or_parts, not-false, ltb-false, le-ltb, both_ways, nil_from_length, or-true, or-false, without_lf, max_line, is_space, is_all_spaces, CsvLine, csv_line, lines_of, is_complete, is_comment, text_command, line_command, command_with, block_command, spelled_command, Cell, IsWritten, Command, Csv, Unknown, Unreadable, form, line_text, IsWithin, IsGood, is_passed_over, IsCommand, spelled_cell, blocks_that_count, commands_of, AreCommands, option_to_list, without_cr}
use Rattle.wi_cli.specs.Script.{none as no_commands, a_line as line_with, cut_short as line_cut}
use Rattle.wi_cli.proofs.Ties.Texts.{IsCsvLine, AsksOrNot, it_asks, it_asks_none, asks_or_not, it_is_read, no_asks, takes, asks, is_plain, said, Reads, spells, spells_none, reads}

pub same_block : (line : Bytes) (taken : List Bytes) (m : ℕ) → m ≡ asked line - length taken → ◌≡◌ {A = Block} (record { line = line; data_lines = taken; missing = m }) (line_block line taken)
same_block line taken m e = cc

-- at the end of the lines
ends : (line : Bytes) (taken : List Bytes) (m : ℕ) (b : Bool) → (m == 0) ≡ b → asked line ≡ length taken + m → Splits (line ∷ taken) (line_block line taken ∷ [])
ends line taken m true z e =
    subst (λ (ls : List Bytes). Splits (line ∷ ls) (line_block line taken ∷ [])) (append-nil taken)
    (a_line line taken [] [] (grind (arith, nat_tests)) none)
ends line taken m false z e = cut_short line taken (grind (arith, nat_tests))

from : (ls : List Bytes) (line : Bytes) (taken : List Bytes) (m : ℕ) → asked line ≡ length taken + m → Splits (line ∷ taken ++ ls) (blocks_from (record { line = line; data_lines = taken; missing = m }) ls)
from [] line taken m e =
    let same = same_block line taken m (omega (arith, e)) in
    let split = ends line taken m (m == 0) refl e in
    subst (λ (x : Block). Splits (line ∷ taken ++ []) (x ∷ [])) (sym same) (subst (λ (ls : List Bytes). Splits (line ∷ ls) (line_block line taken ∷ [])) (sym (append-nil taken)) split)
from (l ∷ ls) line taken m e = by (m == 0) refl (from ls l [] (asked l) (omega arith)) (λ k f. from ls line (taken ++ l ∷ []) k f)
  where
    by : (b : Bool) → (m == 0) ≡ b → Splits (l ∷ [] ++ ls) (blocks_from (begun l) ls)
        → ((k : ℕ) → asked line ≡ length (taken ++ l ∷ []) + k → Splits (line ∷ (taken ++ l ∷ []) ++ ls) (blocks_from (record { line = line; data_lines = taken ++ l ∷ []; missing = k }) ls))
        → Splits (line ∷ taken ++ l ∷ ls) (blocks_from (record { line = line; data_lines = taken; missing = m }) (l ∷ ls))
    by true z next more =
        let same = same_block line taken m (omega (arith, e)) in
        rw z (subst (λ (x : Block). Splits (line ∷ taken ++ l ∷ ls) (x ∷ blocks_from (begun l) ls)) (sym same) (a_line line taken (l ∷ ls) (blocks_from (begun l) ls) (grind (arith, nat_tests)) next))
    by false z next more =
        let longer : length (taken ++ l ∷ []) ≡ length taken + 1 = length-append taken (l ∷ []) in
        let some : asked line ≡ length (taken ++ l ∷ []) + (m - 1) = grind (arith, nat_tests) in
        rw z (subst (λ (xs : List Bytes). Splits (line ∷ xs) (blocks_from (record { line = line; data_lines = taken ++ l ∷ []; missing = m - 1 }) ls)) (append_assoc taken (l ∷ []) ls) (more (m - 1) some))

pub blocks_split : (lines : List Bytes) → Splits lines (blocks lines)
blocks_split [] = none
blocks_split (l ∷ ls) = from ls l [] (asked l) (omega arith)

-- ---- lines have the commands that they are read as

-- ---- a text

passed_is : (text : Bytes) → (is_all_spaces text || is_comment text) ≡ is_passed_over text
passed_is [] = refl
passed_is (b ∷ bs) = by (b == byte "#") (is_all_spaces (b ∷ bs))
  where
    by : (v x : Bool) → (x || v) ≡ (if v then true else x)
    by true x = or-true x
    by false x = or-false x

-- a text of spaces alone is passed over
spaces_pass : (text : Bytes) → list_all is_space text ≡ true → is_passed_over text ≡ true
spaces_pass text e = sym (passed_is text) ∙ ap (λ (b : Bool). b || is_comment text) e

pub text_is : (text : Bytes) (b : Bool) → is_passed_over text ≡ b → text_command text ≡ (if b then None else Some (spelled_command text))
text_is text b e = ap (λ (v : Bool). if v then None else Some (spelled_command text)) (passed_is text ∙ e)

-- ---- a line

pub line_by : (content : Bytes) (b : Bool) → (nat_lt max_line (length content) || not (is_utf8 (without_cr content))) ≡ b
    → line_command content ≡ (if b then Some Unreadable else text_command (without_cr content))
unfolding line_command
line_by content b e = ap (λ (v : Bool). if v then Some Unreadable else text_command (without_cr content)) e

pub good : (line : Bytes) → (nat_lt max_line (length (without_lf line)) || not (is_utf8 (line_text line))) ≡ false → IsGood line
good line e = (ltb-false _ _ (or_parts _ _ e).0, IsUtf8-from_is_utf8 (line_text line) (not-false _ (or_parts _ _ e).1))

pub good_is : (line : Bytes) → IsGood line → (nat_lt max_line (length (without_lf line)) || not (is_utf8 (line_text line))) ≡ false
good_is line h =
    let long : nat_lt max_line (length (without_lf line)) ≡ false = le-ltb _ _ h.0 in
    let text : is_utf8 (line_text line) ≡ true = is_utf8-from_IsUtf8 (line_text line) h.1 in
    ap₂ ◌||◌ long (ap not text)

as_command : (line : Bytes) (taken : List Bytes) (c : Command) → is_plain c ≡ true → IsGood line → IsWritten (line_text line) (form c) → taken ≡ [] → IsCommand line taken (Some c)
as_command line taken (Csv force at n lines) p g h e = absurd (both_ways false refl p)
as_command line taken Unknown p g h e = absurd (both_ways false refl p)
as_command line taken Unreadable p g h e = absurd (both_ways false refl p)
as_command line taken c p g h e = (g, h, sym e)

-- a line that asks for no data lines
pub plain_line : (line : Bytes) (taken : List Bytes) → csv_line (without_lf line) ≡ None → block_command (line_block line taken) ≡ line_command (without_lf line)
plain_line line taken e = ap (λ (x : Option CsvLine). command_with x (line_block line taken)) e

-- one that does
pub csv_line_is : (line : Bytes) (taken : List Bytes) (force : Bool) (o : Option Cell) (n : ℕ) → IsCsvLine force o n (csv_line (without_lf line)) → (b : Bool) → is_utf8 (line_text line) ≡ b
    → block_command (line_block line taken) ≡ Some (if b then Csv force o n taken else Unreadable)
csv_line_is line taken force o n r b e =
    ap (λ (x : Option CsvLine). command_with x (line_block line taken)) r.1
    ∙ ap (λ (v : Bool). Some (if v then Csv force (spelled_cell r.0) n taken else Unreadable)) e
    ∙ ap (λ (c : Option Cell). Some (if b then Csv force c n taken else Unreadable)) r.2

module _ (line : Bytes) (taken : List Bytes) where
  -- the line with what it takes has the command that it is read as
  abbrev pub HasCommand : Type 0
  HasCommand = IsCommand line taken (block_command (line_block line taken))

  is_so : (o : Option Command) → IsCommand line taken o → block_command (line_block line taken) ≡ o → HasCommand
  is_so o h e = subst (λ (p : Option Command). IsCommand line taken p) (sym e) h

  -- a line that asks for data lines
  csv_has : (force : Bool) (o : Option Cell) (n : ℕ) → IsWithin line → IsWritten (line_text line) (form (Csv force o n [])) → HasCommand
  csv_has force o n within h = by (is_utf8 (line_text line)) refl (it_is_read line force o n within h)
    where
      by : (b : Bool) → is_utf8 (line_text line) ≡ b → IsCsvLine force o n (csv_line (without_lf line)) → HasCommand
      by true e r = is_so (Some (Csv force o n taken)) ((within, IsUtf8-from_is_utf8 (line_text line) e), h, refl) (csv_line_is line taken force o n r true e)
      by false e r = is_so (Some Unreadable) (λ g. both_ways _ e (is_utf8-from_IsUtf8 (line_text line) g.1)) (csv_line_is line taken force o n r false e)

  module _ (plain : csv_line (without_lf line) ≡ None) (fits : taken ≡ []) where
    no_form : IsGood line → is_passed_over (line_text line) ≡ false → spelled_command (line_text line) ≡ Unknown → (c : Command) → IsWritten (line_text line) (form c) → ⊥
    no_form g p unread (Csv force o n lines) h = no_asks line plain force o n g.0 h
    no_form g p unread Unknown h = both_ways _ p (spaces_pass (line_text line) h)
    no_form g p unread Unreadable h = both_ways _ p (spaces_pass (line_text line) h)
    no_form g p unread c h = both_ways (is_plain Unknown) refl (ap is_plain (sym unread ∙ (said (line_text line) c refl h).same))

    text_has : IsGood line → is_passed_over (line_text line) ≡ false → block_command (line_block line taken) ≡ Some (spelled_command (line_text line)) → Reads (line_text line) → HasCommand
    text_has g p e (spells c is h same) = is_so (Some c) (as_command line taken c is g h fits) (e ∙ ap (λ (x : Command). Some x) same)
    text_has g p e (spells_none unread) = is_so (Some Unknown) (g, p, no_form g p unread) (e ∙ ap (λ (x : Command). Some x) unread)

    by_line : (b : Bool) → (nat_lt max_line (length (without_lf line)) || not (is_utf8 (line_text line))) ≡ b → (p : Bool) → is_passed_over (line_text line) ≡ p → HasCommand
    by_line true e p f = is_so (Some Unreadable) (λ h. both_ways _ (good_is line h) e) (plain_line line taken plain ∙ line_by (without_lf line) true e)
    by_line false e true f = is_so None (good line e, f) (plain_line line taken plain ∙ line_by (without_lf line) false e ∙ text_is (line_text line) true f)
    by_line false e false f = text_has (good line e) f (plain_line line taken plain ∙ line_by (without_lf line) false e ∙ text_is (line_text line) false f) (reads (line_text line))

  has_command : (csv_line (without_lf line) ≡ None → taken ≡ []) → HasCommand
  has_command fits = by (asks_or_not line)
    where
      by : AsksOrNot line → HasCommand
      by (it_asks force o n within h) = csv_has force o n within h
      by (it_asks_none e) = by_line e (fits e) (nat_lt max_line (length (without_lf line)) || not (is_utf8 (line_text line))) refl (is_passed_over (line_text line)) refl

-- ---- lines

pub onto : (o : Option Command) (cs : List Command) → cons_option o cs ≡ option_to_list o ++ cs
onto None cs = refl
onto (Some c) cs = refl

pub alone : (o : Option Command) → cons_option o [] ≡ option_to_list o
alone o = onto o [] ∙ append-nil (option_to_list o)

none_taken : (line : Bytes) (taken : List Bytes) → asked line ≡ length taken → csv_line (without_lf line) ≡ None → taken ≡ []
none_taken line taken e plain = nil_from_length taken (sym e ∙ ap (λ (x : Option CsvLine). lines_of x) plain)

none_short : (line : Bytes) (taken : List Bytes) → length taken < asked line → csv_line (without_lf line) ≡ None → taken ≡ []
none_short line taken h plain =
    let nothing : asked line ≡ 0 = ap (λ (x : Option CsvLine). lines_of x) plain in
    absurd (omega (arith, h, nothing))

pub complete : (line : Bytes) (taken : List Bytes) → asked line ≡ length taken → is_complete (line_block line taken) ≡ true
complete line taken e = grind (arith, nat_tests)

pub not_complete : (line : Bytes) (taken : List Bytes) → length taken < asked line → is_complete (line_block line taken) ≡ false
not_complete line taken h = grind (arith, nat_tests)

pub kept_one : (ended : Bool) (b : Block) (bs : List Block) → is_complete b ≡ true → blocks_that_count ended (b ∷ bs) ≡ b ∷ blocks_that_count ended bs
kept_one true b bs e = refl
kept_one false b bs e = ap (λ (v : Bool). cond v (b ∷ filter is_complete bs) (filter is_complete bs)) e

abbrev commands_in : Bool → List Block → List Command
commands_in ended bs = filter_map block_command (blocks_that_count ended bs)

has_blocks : (ended : Bool) (lines : List Bytes) (bs : List Block) → Splits lines bs → AreCommands ended lines (commands_in ended bs)
has_blocks true lines bs none = no_commands
has_blocks false lines bs none = no_commands
has_blocks ended lines bs (a_line line taken more cs same rest) =
    let as_list : commands_in ended (line_block line taken ∷ cs) ≡ option_to_list (block_command (line_block line taken)) ++ commands_in ended cs =
    ap (filter_map block_command) (kept_one ended (line_block line taken) cs (complete line taken same)) ∙ onto (block_command (line_block line taken)) (commands_in ended cs) in
    subst (λ (ds : List Command). AreCommands ended (line ∷ taken ++ more) ds) (sym as_list)
    (line_with line taken more (block_command (line_block line taken)) (commands_in ended cs) (takes line taken same) (has_command line taken (none_taken line taken same)) (has_blocks ended more cs rest))
has_blocks true lines bs (cut_short line taken short) =
    subst (λ (ds : List Command). AreCommands true (line ∷ taken) ds) (sym (alone (block_command (line_block line taken))))
    (line_cut line taken (asked line) (block_command (line_block line taken)) (asks line (length taken) short) short (has_command line taken (none_short line taken short)))
has_blocks false lines bs (cut_short line taken short) =
    subst (λ (ds : List Command). AreCommands false (line ∷ taken) ds) (sym (ap (λ (b : Bool). filter_map block_command (cond b (line_block line taken ∷ []) [])) (not_complete line taken short)))
    (line_cut line taken (asked line) (block_command (line_block line taken)) (asks line (length taken) short) short (has_command line taken (none_short line taken short)))

-- ---- the commands of lines

pub has_commands : (ended : Bool) (lines : List Bytes) → AreCommands ended lines (commands_of ended lines)
has_commands ended lines = has_blocks ended lines (blocks lines) (blocks_split lines)

pub are_commands : (ended : Bool) (lines : List Bytes) (cs : List Command) → commands_of ended lines ≡ cs → AreCommands ended lines cs
are_commands ended lines cs same = subst (AreCommands ended lines) same (has_commands ended lines)
