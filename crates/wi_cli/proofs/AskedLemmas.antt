-- What a line asks for, by its name and its words.
use Rattle.wi_cli.proofs.Vocabulary.{◌≡◌, ℕ, Bool, true, false, cond, List, refl, sym, ap, ◌∙◌, subst, bytes_eq, bytes_eq-Decides, Refusal, first_word, after_word, is_all_spaces, named_command, Err, suc, ◌+◌, ◌<◌, ◌≤◌, ◌||◌, not, [], ◌∷◌, length, take, ⊎_elim, Option, None, Some, position_or_len, before_first, after_first, is_utf8, IsUtf8, or_cases, eqb-true, le-ltb, lt-ltb, false_from_ne_true, arith, is_utf8-from_IsUtf8, IsUtf8-from_is_utf8, is_space, without_cr, is_comment, CsvLine, csv_by_name, csv_text, csv_line, spelled_command, text_command, line_command, IsAsked, IsRead, Command, Unknown, Unreadable, Line, ap₂}
use Rattle.wi_scenarios.specs.declared.refusal.Refusal.TheVariants.{BadCommand, Memory, BadLine}
use Rattle.wi_cli.specs.declared.line.Line.TheVariants as read
use Rattle.wi_cli.proofs.Ties.Words.{no_skip}
use Rattle.wi_cli.proofs.Ties.Texts.{csv_line_by}
use Rattle.wi_cli.proofs.Ties.LinesRead.{line_by}
use Rattle.wi_cli.proofs.Ties.Readings.{unknown, unreadable}

-- a word that is none of the names
pub not_name : (w name : List ℕ) → (w ≡ name → ⊥) → bytes_eq w name ≡ false
not_name w name apart = false_from_ne_true (bytes_eq w name) (λ e. apart ((bytes_eq-Decides w name).0 e))

-- ---- what a line asks for, by its name and its words

pub asked_same : (a b : Option CsvLine) (t u : Bool) (o p : Option Command) (r : Line) → a ≡ b → t ≡ u → o ≡ p → IsAsked b u p r → IsAsked a t o r
asked_same a b t u o p r e f g h =
    subst (λ x. IsAsked x t o r) (sym e) (subst (λ x. IsAsked b x o r) (sym f) (subst (λ x. IsAsked b u x r) (sym g) h))

-- one that is refused as it is read
pub asked_refused : (a : Option CsvLine) (t : Bool) (o : Option Command) (c : Command) (e : Refusal) → a ≡ None → o ≡ Some c → IsRead c (Err e) → IsAsked a t o (read.Command (Err e))
asked_refused a t o c e none is r = (none, (c, is, r))

pub no_command : IsRead Unknown (Err BadCommand)
unfolding IsRead
no_command = (unknown, λ (e : BadCommand ≡ Memory). cc)

pub bad_line : IsRead Unreadable (Err BadLine)
unfolding IsRead
bad_line = (unreadable, λ (e : BadLine ≡ Memory). cc)

-- a text with this name and these operands
pub text_asked : (text word operands : List ℕ) (r : Line) → word ≡ first_word text → operands ≡ after_word text
    → IsAsked (csv_by_name word operands) true (Some (named_command word operands)) r → IsAsked (csv_text text) true (Some (spelled_command text)) r
unfolding spelled_command
text_asked text word operands r first behind h =
    subst (λ w. IsAsked (csv_by_name w (after_word text)) true (Some (named_command w (after_word text))) r) first
    (subst (λ os. IsAsked (csv_by_name word os) true (Some (named_command word os)) r) behind h)

-- ---- a text that is passed over

spaces_ask_none : (text : List ℕ) → is_all_spaces text ≡ true → csv_text text ≡ None
spaces_ask_none text h = ap (λ s. csv_by_name (before_first is_space s) (after_first is_space s)) (no_skip text h)

comment_asks_none : (text : List ℕ) → is_comment text ≡ true → csv_text text ≡ None
comment_asks_none [] h = refl
comment_asks_none (b ∷ bs) h =
    let more : 1 + position_or_len is_space bs ≡ suc (position_or_len is_space bs) = omega arith in
    ap (λ c. csv_text (c ∷ bs)) (eqb-true b 35 h) ∙ ap (λ k. csv_by_name (take k (35 ∷ bs)) (after_word (35 ∷ bs))) more

pub passed_asked : (text : List ℕ) → (is_all_spaces text || is_comment text) ≡ true → IsAsked (csv_text text) true (text_command text) read.Passed
passed_asked text h = (
  ⊎_elim (spaces_ask_none text) (comment_asks_none text) (or_cases (is_all_spaces text) (is_comment text) h),
  ap (λ b. cond b None (Some (spelled_command text))) h,
)

pub kept_asked : (text : List ℕ) (r : Line) → (is_all_spaces text || is_comment text) ≡ false → IsAsked (csv_text text) true (Some (spelled_command text)) r → IsAsked (csv_text text) true (text_command text) r
kept_asked text r h asked = asked_same _ _ true true _ _ r refl refl (ap (λ b. cond b None (Some (spelled_command text))) h) asked

-- ---- a line

pub long_asked : (line : List ℕ) → 65536 < length line → IsAsked (csv_line line) (is_utf8 (without_cr line)) (line_command line) (read.Command (Err BadLine))
long_asked line l =
    let long = lt-ltb 65536 (length line) l in
    asked_refused (csv_line line) (is_utf8 (without_cr line)) (line_command line) Unreadable BadLine (csv_line_by line true long) (line_by line true (ap (λ b. b || not (is_utf8 (without_cr line))) long)) bad_line

-- one that is UTF-8
pub good_asked : (line bytes text : List ℕ) (r : Line) → length line ≤ 65536 → bytes ≡ without_cr line → text ≡ bytes → IsUtf8 bytes
    → IsAsked (csv_text text) true (text_command text) r → IsAsked (csv_line line) (is_utf8 (without_cr line)) (line_command line) r
good_asked line bytes text r few e t u h =
    let good : is_utf8 (without_cr line) ≡ true = is_utf8-from_IsUtf8 (without_cr line) (subst IsUtf8 e u) in
    let short = le-ltb 65536 (length line) few in
    let same : without_cr line ≡ text = sym (t ∙ e) in
    asked_same _ _ _ true _ _ r (csv_line_by line false short ∙ ap csv_text same) good (line_by line false (ap₂ ◌||◌ short (ap not good)) ∙ ap text_command same) h

-- one that isn't
pub bad_asked : (line bytes : List ℕ) (r : Line) → length line ≤ 65536 → bytes ≡ without_cr line → (IsUtf8 bytes → ⊥)
    → IsAsked (csv_text bytes) false (Some Unreadable) r → IsAsked (csv_line line) (is_utf8 (without_cr line)) (line_command line) r
bad_asked line bytes r few e bad h =
    let none : is_utf8 (without_cr line) ≡ false = false_from_ne_true (is_utf8 (without_cr line)) (λ u. bad (subst IsUtf8 (sym e) (IsUtf8-from_is_utf8 (without_cr line) u))) in
    let short = le-ltb 65536 (length line) few in
    asked_same _ _ _ false _ _ r (csv_line_by line false short ∙ ap csv_text (sym e)) none (line_by line true (ap₂ ◌||◌ short (ap not none))) h
