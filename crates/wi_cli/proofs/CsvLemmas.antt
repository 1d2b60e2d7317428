-- What is told of data lines.
use Rattle.wi_cli.proofs.Vocabulary.{◌≡◌, Bool, Err, List, None, Ok, Option, Result, Some, [], ap, arith, false, if◌then◌else◌, inl, inr, length, nat_lt, refl, subst, sym, true, ℕ, ◌&&◌, ◌+◌, ◌<◌, ◌==◌, ◌∙◌, ◌≤◌, nat_tests, concat, list_any, is_long, HoldsLines, IsTarget, command_of_csv, target_of, wants, read_any, read_by, RefusedAs, Told, max_line, without_lf, DataLines, Held, BadCommand, BadLine, CutShort, Holds, Command, Csv, Unreadable, Cell, is_outside, IsImportStep, IsStep, State, Refusal, AddressFault, address, is_ok, All, All-weaker, each_fails, outside_first, csv_outside, cond_both, long_lines, no_long_line, ReadCsv}
use Rattle.std.specs.List.{All as Each}
use Rattle.wi_scenarios.specs.declared.refusal.Refusal.TheVariants as refusal
use Rattle.wi_scenarios.specs.Answer as answer
use Rattle.wi_cli.specs.Inner.Data.{Holds as HoldsData}
use Rattle.wi_cli.specs.declared.data_lines.Held.TheVariants.{TooLong}
use Rattle.wi_cli.specs.declared.reply.Reply.TheVariants as told
use Rattle.wi_cli.proofs.Ties.Operands.{cell_again}
use Rattle.wi_cli.proofs.Ties.Readings.{unreadable}

all_short : (lines : List (List ℕ)) → list_any is_long lines ≡ false → Each (λ line. length (without_lf line) ≤ max_line) lines
all_short lines e = All-weaker (λ line. is_long line ≡ false) (λ line. length (without_lf line) ≤ max_line) (λ line h. within (length (without_lf line)) h) lines (each_fails is_long lines e)
  where
    within : (n : ℕ) → nat_lt max_line n ≡ false → n ≤ max_line
    within n h = grind (arith, nat_tests)

is_less : (k m n : ℕ) → (m == 0) ≡ false → k + m ≡ n → k < n
is_less k m n e h = grind (arith, nat_tests)

not_less : (k m n : ℕ) → (m == 0) ≡ true → k + m ≡ n → k < n → ⊥
not_less k m n e h l = grind (arith, nat_tests)

all_come : (k m n : ℕ) → (m == 0) ≡ true → k + m ≡ n → n ≤ k
all_come k m n e h = grind (arith, nat_tests)

module _ (force : Bool) (n : ℕ) (lines : List (List ℕ)) (bytes : List ℕ) where
  long : (o : Option Cell) → list_any is_long lines ≡ true → IsTarget (Csv force o n lines) force bytes (Err refusal.BadLine)
  long o e s = (BadLine, inl ((long_lines lines).0 e, refl), refl)

  module _ (short : list_any is_long lines ≡ false) (missing : ℕ) (count : length lines + missing ≡ n) where
    line : (s : State) (o : Option Cell) → Holds s BadLine (Csv force o n lines) → ⊥
    line s o h = no_long_line lines short h

    is_cut : (c : Cell) → (missing == 0) ≡ false → IsTarget (Csv force (Some c) n lines) force bytes (Err refusal.CutShort)
    is_cut c m s = (CutShort, inr (line s (Some c), inr (λ h. h, inl (is_less (length lines) missing n m count, refl))), refl)

    is_out : (c : Cell) → (missing == 0) ≡ true → is_outside c ≡ true → IsTarget (Csv force (Some c) n lines) force bytes (Err refusal.OutOfSheet)
    is_out c m o s = outside_first s (Csv force (Some c) n lines) (line s (Some c)) (λ h. h) (λ h. not_less (length lines) missing n m count h) (csv_outside force c n lines ∙ o)

    -- the cell is that of its address, and the data lines are those of their text
    is_put : (c : Cell) → (missing == 0) ≡ true → is_outside c ≡ false → bytes ≡ concat lines → IsTarget (Csv force (Some c) n lines) force bytes (Ok (address c))
    is_put c m o joined s = (
      o,
      λ a step. subst (λ (x : Cell). IsStep s (Csv force (Some x) n lines) a) (cell_again c o)
          (step n lines (record { joined = sym joined; short = all_short lines short; come = all_come (length lines) missing n m count })),
    )

    or_cut : (c : Cell) (r : Result ℕ Refusal) → ((missing == 0) ≡ true → IsTarget (Csv force (Some c) n lines) force bytes r)
        → IsTarget (Csv force (Some c) n lines) force bytes (if missing == 0 then r else Err refusal.CutShort)
    or_cut c r is = cond_both (missing == 0) r (Err refusal.CutShort) (IsTarget (Csv force (Some c) n lines) force bytes) is (is_cut c)

    all : (o : Option Cell) → (is_ok (read_any o) ≡ true → bytes ≡ concat lines) → IsTarget (Csv force o n lines) force bytes (target_of (read_any o) missing)
    all None joined = λ s. (BadCommand, inr (line s None, inl (tt, refl)), refl)
    all (Some c) joined = by (is_outside c) refl joined
      where
        by : (b : Bool) → is_outside c ≡ b → (is_ok (read_by b (address c)) ≡ true → bytes ≡ concat lines) → IsTarget (Csv force (Some c) n lines) force bytes (target_of (read_by b (address c)) missing)
        by true e j = or_cut c (Err refusal.OutOfSheet) (λ m. is_out c m e)
        by false e j = or_cut c (Ok (address c)) (λ m. is_put c m e (j refl))

module _ (csv : ReadCsv) (o : Option Cell) (lines : List (List ℕ)) (d : DataLines) (at : csv.at ≡ read_any o) (wanted : d.wanted ≡ wants csv) (held : HoldsLines d lines) (count : length lines + d.missing ≡ csv.lines) where
  -- by whether its line is UTF-8, and what is held
  pub unread : csv.is_text ≡ false → IsTarget (command_of_csv csv o lines) csv.force d.bytes.items (Err refusal.BadLine)
  unread e = subst (λ (b : Bool). IsTarget (if b then Csv csv.force o csv.lines lines else Unreadable) csv.force d.bytes.items (Err refusal.BadLine)) (sym e) unreadable

  module _ (text : csv.is_text ≡ true) where
    as_text : (r : Result ℕ Refusal) → IsTarget (Csv csv.force o csv.lines lines) csv.force d.bytes.items r → IsTarget (command_of_csv csv o lines) csv.force d.bytes.items r
    as_text r h = subst (λ (b : Bool). IsTarget (if b then Csv csv.force o csv.lines lines else Unreadable) csv.force d.bytes.items r) (sym text) h

    are_held : (h : Held) → d.held ≡ h → HoldsData d.wanted h d.bytes.items lines
    are_held h e = subst (λ (x : Held). HoldsData d.wanted x d.bytes.items lines) e held

    is_wanted : is_ok (read_any o) ≡ true → d.wanted ≡ true
    is_wanted e = wanted ∙ ap (λ (b : Bool). b && is_ok csv.at) text ∙ ap (λ (x : Result ℕ AddressFault). is_ok x) at ∙ e

    pub too_long : d.held ≡ TooLong → IsTarget (command_of_csv csv o lines) csv.force d.bytes.items (Err refusal.BadLine)
    too_long e = as_text (Err refusal.BadLine) (long csv.force csv.lines lines d.bytes.items o (are_held TooLong e))

    pub are_all : d.held ≡ All → (r : Result ℕ Refusal) → r ≡ target_of csv.at d.missing → IsTarget (command_of_csv csv o lines) csv.force d.bytes.items r
    are_all e r same =
        let k = are_held All e in
        as_text r (subst (λ (x : Result ℕ Refusal). IsTarget (Csv csv.force o csv.lines lines) csv.force d.bytes.items x) (sym (same ∙ ap (λ (x : Result ℕ AddressFault). target_of x d.missing) at))
        (all csv.force csv.lines lines d.bytes.items k.0 d.missing count o (λ some. k.1 (is_wanted some))))

-- ---- what is told

module _ (c : Command) (force : Bool) (bytes : List ℕ) (s t : State) where
  pub told_put : (at : ℕ) → IsTarget c force bytes (Ok at) → answer.ServesData (IsImportStep s force at bytes) (Ok tt) s t → Told (Some c) told.Done s t []
  told_put at h k = (h s).1 (Ok (t, [])) k

  pub told_not_put : (at : ℕ) (e : Refusal) → IsTarget c force bytes (Ok at) → answer.ServesData (IsImportStep s force at bytes) (Err e) s t → Told (Some c) (told.Refused e) s t []
  told_not_put at e h k = (k.1, by e k.0)
    where
      by : (e : Refusal) → answer.MayRefuseData e (IsImportStep s force at bytes) → RefusedAs e s c
      by refusal.Memory k = (h s).0
      by e k = (h s).1 (Err e) k
