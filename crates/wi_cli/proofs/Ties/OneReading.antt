-- Lines have no other commands than those that they are read as.
use Rattle.wi_cli.proofs.Vocabulary.{◌≡◌, ℕ, ◌-◌, ◌<◌, Bool, true, false, cond, List, [], ◌∷◌, ◌++◌, length, filter, filter_map, inl, inr, Option, Some, None, if◌then◌else◌, refl, sym, ap, ap₂, ◌∙◌, subst, arith, codes, cons_option, IsUtf8-from_is_utf8, is_utf8-from_IsUtf8, le-ltb, both_ways, false_from_ne_true, true_from_ne_false, without_lf, Bytes, csv_text, Block, lines_of, blocks, is_complete, block_command, spelled_command, Cell, IsWritten, Command, Csv, Unknown, Unreadable, form, line_text, IsGood, is_passed_over, IsCommand, asked, line_block, blocks_that_count, commands_of, AreCommands}
use Rattle.wi_cli.specs.Script.{none as no_commands, a_line as line_with, cut_short as line_cut}
use Rattle.wi_cli.proofs.LineLemmas.{whole_block, one_block}
use Rattle.wi_cli.proofs.Ties.Texts.{Takes, AsksOrNot, it_asks, it_asks_none, asks_or_not, asked_is, csv_line_by, it_is_read, TextReads, text_or, is_plain, said, not_passed, Reads, spells, spells_none, reads}
use Rattle.wi_cli.proofs.Ties.LinesRead.{same_block, plain_line, csv_line_is, line_by, text_is, good, good_is, onto, alone, complete, not_complete, kept_one}

-- ---- how many data lines

is_asked : (line : Bytes) (taken : List Bytes) → Takes line taken → asked line ≡ length taken
is_asked line taken (inl h) = asked_is line (length taken) h
is_asked line taken (inr h) = by (asks_or_not line)
  where
    by : AsksOrNot line → asked line ≡ length taken
    by (it_asks force o m within w) = absurd (h.1 m (within, (force, o, w)))
    by (it_asks_none e) = ap lines_of e ∙ sym (ap (λ (ls : List Bytes). length ls) h.0)

-- ---- a line with its data lines

csv_apart : (text : Bytes) (force : Bool) (o : Option Cell) (n : ℕ) → IsWritten text (form (Csv force o n [])) → is_passed_over text ≡ false
csv_apart text true o n h = not_passed text (codes "force") h.0 refl
csv_apart text false o n h = not_passed text (codes "csv") h.0 refl

module _ (line : Bytes) (taken : List Bytes) where
  abbrev read : Option Command
  read = block_command (line_block line taken)

  -- one that asks for none, by whether it is passed over
  plain_is : IsGood line → csv_text (line_text line) ≡ None → (p : Bool) → is_passed_over (line_text line) ≡ p → read ≡ (if p then None else Some (spelled_command (line_text line)))
  plain_is g e p f = plain_line line taken (csv_line_by (without_lf line) false (le-ltb _ _ g.0) ∙ e) ∙ line_by (without_lf line) false (good_is line g) ∙ text_is (line_text line) p f

  is_none : IsGood line → is_passed_over (line_text line) ≡ true → TextReads (line_text line) → read ≡ None
  is_none g p (inl f) = absurd (both_ways _ (csv_apart (line_text line) f.0 f.1 f.2 f.3) p)
  is_none g p (inr bad) = plain_is g bad true p

  is_unknown : IsGood line → is_passed_over (line_text line) ≡ false → ((c : Command) → IsWritten (line_text line) (form c) → ⊥) → TextReads (line_text line) → Reads (line_text line) → read ≡ Some Unknown
  is_unknown g p nothing (inl f) r = absurd (nothing (Csv f.0 f.1 f.2 []) f.3)
  is_unknown g p nothing (inr bad) (spells c is h same) = absurd (nothing c h)
  is_unknown g p nothing (inr bad) (spells_none unread) = plain_is g bad false p ∙ ap (λ (x : Command). Some x) unread

  is_unreadable : (IsGood line → ⊥) → AsksOrNot line → read ≡ Some Unreadable
  is_unreadable bad (it_asks force o n within h) =
      csv_line_is line taken force o n (it_is_read line force o n within h) false (false_from_ne_true _ (λ e. bad (within, IsUtf8-from_is_utf8 (line_text line) e)))
  is_unreadable bad (it_asks_none e) = plain_line line taken e ∙ line_by (without_lf line) true (true_from_ne_false _ (λ f. bad (good line f)))

  is_csv : (force : Bool) (o : Option Cell) (n : ℕ) (lines : List Bytes) → IsGood line → IsWritten (line_text line) (form (Csv force o n [])) → lines ≡ taken → read ≡ Some (Csv force o n lines)
  is_csv force o n lines g h e =
      csv_line_is line taken force o n (it_is_read line force o n g.0 h) true (is_utf8-from_IsUtf8 (line_text line) g.1)
      ∙ ap (λ (ls : List Bytes). Some (Csv force o n ls)) (sym e)

  is_plain_one : (c : Command) → is_plain c ≡ true → IsGood line → IsWritten (line_text line) (form c) → read ≡ Some c
  is_plain_one c p g h =
      let a = said (line_text line) c p h in
      plain_is g a.no_csv false a.kept ∙ ap (λ (x : Command). Some x) a.same

  pub one_command : (o : Option Command) → IsCommand line taken o → read ≡ o
  one_command None h = is_none h.0 h.1 (text_or (line_text line))
  one_command (Some Unreadable) h = is_unreadable h (asks_or_not line)
  one_command (Some Unknown) h = is_unknown h.0 h.1 h.2 (text_or (line_text line)) (reads (line_text line))
  one_command (Some (Csv force o n lines)) h = is_csv force o n lines h.0 h.1 h.2
  one_command (Some c) h = is_plain_one c refl h.0 h.1

-- ---- blocks

block_filled : (line : Bytes) (taken lines : List Bytes) → asked line ≡ length taken → blocks (line ∷ (taken ++ lines)) ≡ line_block line taken ∷ blocks lines
block_filled line taken lines e =
    (whole_block line taken (omega (arith, e))).first lines ∙ ap (λ (b : Block). b ∷ blocks lines) (same_block line taken 0 (omega (arith, e)))

block_short : (line : Bytes) (taken : List Bytes) → length taken < asked line → blocks (line ∷ taken) ≡ line_block line taken ∷ []
block_short line taken h = one_block line taken (asked line - length taken) (omega (arith, h))

-- ---- lines

pub same_commands : (ended : Bool) (lines : List Bytes) (cs : List Command) → AreCommands ended lines cs → commands_of ended lines ≡ cs
same_commands true lines cs no_commands = refl
same_commands false lines cs no_commands = refl
same_commands ended lines cs (line_with line taken more o ds takes is rest) =
    let many : asked line ≡ length taken = is_asked line taken takes in
    ap (λ (bs : List Block). filter_map block_command (blocks_that_count ended bs)) (block_filled line taken more many)
    ∙ ap (filter_map block_command) (kept_one ended (line_block line taken) (blocks more) (complete line taken many))
    ∙ ap₂ cons_option (one_command line taken o is) (same_commands ended more ds rest) ∙ onto o ds
same_commands true lines cs (line_cut line taken n o asks short is) =
    let less : length taken < asked line = subst (λ (k : ℕ). length taken < k) (sym (asked_is line n asks)) short in
    ap (filter_map block_command) (block_short line taken less) ∙ ap (λ (x : Option Command). cons_option x []) (one_command line taken o is) ∙ alone o
same_commands false lines cs (line_cut line taken n o asks short is) =
    let less : length taken < asked line = subst (λ (k : ℕ). length taken < k) (sym (asked_is line n asks)) short in
    ap (λ (bs : List Block). filter_map block_command (filter is_complete bs)) (block_short line taken less)
    ∙ ap (λ (v : Bool). filter_map block_command (cond v (line_block line taken ∷ []) [])) (not_complete line taken less)
