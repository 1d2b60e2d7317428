-- The command that a text spells, and the form that it has.
use Rattle.wi_cli.proofs.Vocabulary.{◌≡◌, Bool, List, None, Option, Some, [], ap, arith, bytes_eq, codes, cond, false, if◌then◌else◌, not, option_map, refl, subst, suc, sym, true, ℕ, ◌+◌, ◌==◌, ◌∙◌, ◌∷◌, both_ways, nat_tests, before_first, prefix_len, csv_named, csv_text, AND, A_CELL, A_NAME, A_RECT, END, MAYBE, Values, named_command, named_in, read_words, spelled_command, is_all_spaces, Bytes, after_word, first_word, is_space, skip_spaces, is_passed_over, IsWritten, Command, Csv, Unknown, Unreadable, may_force, ADDR, Cell, CornerCells, NAME, Operand, RECT, WORD, take, byte, made, spelled, form, inl, inr, length, nat_lt, ◌<◌, ◌⊎◌, le-ltb, ltb-false, lines_of, CsvLine, csv_of, csv_operands, read_lines, csv_line, spelled_cell, max_line, without_lf, Asks, IsWithin, line_text, IsSpelled, ANY, LINES, asked, none-some, nil_from_length, Verb, edits, form_of, verbs, without_cr}
use Rattle.wi_scenarios.specs.Commands.Command.{Set, Clear, Fill, Scenario, Drop, Base, Use, As, Show, Export, Changes, Compare, Table, Formula}
use Rattle.wi_cli.specs.Inner.Forms.{SET, CLEAR, FILL, SCENARIO, DROP, BASE, USE, AS, SHOW, EXPORT, CHANGES, COMPARE, TABLE, FORMULA}
use Rattle.wi_cli.proofs.Ties.Words.{no_word, is_word, operands, words_read, are_written, lines_read, lines_or, none_behind}
use Rattle.wi_cli.proofs.Ties.Addresses.{same_addr}

-- a command that a text may spell without data lines
abbrev pub is_plain : Command → Bool
is_plain (Csv force at n lines) = false
is_plain Unknown = false
is_plain Unreadable = false
is_plain c = true

-- ---- a text that spells a command isn't passed over

abbrev may_begin : Bytes → Bool
may_begin [] = false
may_begin (b ∷ bs) = not (b == byte "#")

-- a text that begins with no space begins as its first word does
same_begin : (b : ℕ) (bs : Bytes) → is_space b ≡ false → may_begin (first_word (b ∷ bs)) ≡ not (b == byte "#")
same_begin b bs s =
    let skip : skip_spaces (b ∷ bs) ≡ b ∷ bs = ap (λ (v : Bool). if v then skip_spaces bs else b ∷ bs) s in
    let one : 1 + prefix_len (λ x. not (is_space x)) bs ≡ suc (prefix_len (λ x. not (is_space x)) bs) = omega arith in
    ap (λ (t : Bytes). may_begin (before_first is_space t)) skip
    ∙ ap (λ (v : Bool). may_begin (take (cond (not v) (1 + prefix_len (λ x. not (is_space x)) bs) 0) (b ∷ bs))) s
    ∙ ap (λ (k : ℕ). may_begin (take k (b ∷ bs))) one

no_hash : (b : ℕ) → (b == byte "#") ≡ true → is_space b ≡ false
no_hash b e = grind (arith, nat_tests)

pub not_passed : (text name : Bytes) → first_word text ≡ name → may_begin name ≡ true → is_passed_over text ≡ false
not_passed [] name e h = absurd (both_ways (may_begin []) refl (ap may_begin e ∙ h))
not_passed (b ∷ bs) name e h = by (b == byte "#") refl (is_all_spaces (b ∷ bs)) refl
  where
    by : (v : Bool) → (b == byte "#") ≡ v → (x : Bool) → is_all_spaces (b ∷ bs) ≡ x → is_passed_over (b ∷ bs) ≡ false
    by true f x g =
        let hash : not (b == byte "#") ≡ false = ap not f in
        absurd (both_ways _ hash (sym (same_begin b bs (no_hash b f)) ∙ ap may_begin e ∙ h))
    by false f true g = absurd (both_ways (may_begin []) refl (ap may_begin (sym (no_word (b ∷ bs) g) ∙ e) ∙ h))
    by false f false g = rw (f, g) refl

-- ---- what is written is what is spelled

-- the text spells the command, asks for no data lines, and isn't passed over
pub record Said (text : Bytes) (c : Command) : Type 0 where
  pub same : spelled_command text ≡ c
  pub no_csv : csv_text text ≡ None
  pub kept : is_passed_over text ≡ false

spelled_as : (d : Verb) (text : Bytes) (v : Values (form_of d).words) → IsWritten text (operands (form_of d).words v) → spelled d text ≡ (form_of d).make v
unfolding spelled
spelled_as d text v h = ap (λ (o : Option (Values (form_of d).words)). made o (form_of d).make) (words_read (form_of d).words text v h)

module _ (text : Bytes) (d : Verb) (v : Values (form_of d).words) where
  abbrev its_name : Bytes
  its_name = (form_of d).name

  behind : named_command its_name (after_word text) ≡ spelled d (after_word text) → bytes_eq its_name (codes "force") ≡ false → bytes_eq its_name (codes "csv") ≡ false → may_begin its_name ≡ true
      → first_word text ≡ its_name → IsWritten (after_word text) (operands (form_of d).words v) → Said text ((form_of d).make v)
  unfolding spelled_command
  behind named no_force no_csv begins e h = record {
    same = ap (λ (w : Bytes). named_command w (after_word text)) e ∙ named ∙ spelled_as d (after_word text) v h;
    no_csv =
        ap (λ (w : Bytes). if bytes_eq w (codes "force") then csv_named true (first_word (after_word text)) (after_word (after_word text)) else csv_named false w (after_word text)) e
        ∙ rw (no_force, no_csv) refl;
    kept = not_passed text its_name e begins;
  }

  abbrev edited : Bytes
  edited = after_word (after_word text)

  forced : named_in (edits true) its_name edited ≡ spelled d edited → bytes_eq its_name (codes "csv") ≡ false → first_word text ≡ codes "force" → first_word (after_word text) ≡ its_name
      → IsWritten edited (operands (form_of d).words v) → Said text ((form_of d).make v)
  unfolding spelled_command
  forced named no_csv e g h = record {
    same =
        ap (λ (w : Bytes). named_command w (after_word text)) e ∙ ap (λ (w : Bytes). named_in (edits true) w edited) g ∙ named
        ∙ spelled_as d edited v h;
    no_csv =
        ap (λ (w : Bytes). if bytes_eq w (codes "force") then csv_named true (first_word (after_word text)) edited else csv_named false w (after_word text)) e
        ∙ ap (λ (w : Bytes). csv_named true w edited) g ∙ rw no_csv refl;
    kept = not_passed text (codes "force") e refl;
  }

pub said : (text : Bytes) (c : Command) → is_plain c ≡ true → IsWritten text (form c) → Said text c
said text (Set false at t) p h = behind text (SET false) (at, t) refl refl refl refl h.0 h.1
said text (Set true at t) p h = forced text (SET true) (at, t) refl refl h.0 h.1.0 h.1.1
said text (Clear false r) p h = behind text (CLEAR false) (r, tt) refl refl refl refl h.0 h.1
said text (Clear true r) p h = forced text (CLEAR true) (r, tt) refl refl h.0 h.1.0 h.1.1
said text (Fill false at r) p h = behind text (FILL false) (at, (r, tt)) refl refl refl refl h.0 h.1
said text (Fill true at r) p h = forced text (FILL true) (at, (r, tt)) refl refl h.0 h.1.0 h.1.1
said text (Csv force at n lines) p h = absurd (both_ways false refl p)
said text (Scenario name at t) p h = behind text SCENARIO (name, (at, t)) refl refl refl refl h.0 h.1
said text (Drop name) p h = behind text DROP (name, tt) refl refl refl refl h.0 h.1
said text (Base name None) p h = behind text BASE (name, None) refl refl refl refl h.0 h.1
said text (Base name (Some other)) p h = behind text BASE (name, Some (other, tt)) refl refl refl refl h.0 h.1
said text (Use None) p h = behind text USE None refl refl refl refl h.0 h.1
said text (Use (Some name)) p h = behind text USE (Some (name, tt)) refl refl refl refl h.0 h.1
said text (As name) p h = behind text AS (name, tt) refl refl refl refl h.0 h.1
said text (Show r) p h = behind text SHOW (r, tt) refl refl refl refl h.0 h.1
said text (Export r) p h = behind text EXPORT (r, tt) refl refl refl refl h.0 h.1
said text (Compare s t r) p h = behind text COMPARE (s, (t, (r, tt))) refl refl refl refl h.0 h.1
said text (Table f r xs None) p h = behind text TABLE (f, (r, (xs, None))) refl refl refl refl h.0 h.1
said text (Table f r xs (Some y)) p h = behind text TABLE (f, (r, (xs, Some (y.0, (y.1, tt))))) refl refl refl refl h.0 h.1
said text (Formula at) p h = behind text FORMULA (at, tt) refl refl refl refl h.0 h.1
said text Changes p h = behind text CHANGES tt refl refl refl refl h.0 h.1
said text Unknown p h = absurd (both_ways false refl p)
said text Unreadable p h = absurd (both_ways false refl p)

-- ---- what is spelled is written

-- a form of commands is the one that they are written in, behind words that stand in front, and none has data lines
abbrev IsForm : (List Operand → List Operand) → Verb → Type 0
IsForm front d =
    ((v : Values (form_of d).words) → form ((form_of d).make v) ≡ front (WORD (form_of d).name ∷ operands (form_of d).words v)) × ((v : Values (form_of d).words) → is_plain ((form_of d).make v) ≡ true)

abbrev AreForms : (List Operand → List Operand) → List Verb → Type 0
AreForms front [] = Unit {0}
AreForms front (d ∷ ds) = IsForm front d × AreForms front ds

base_is : (name : Bytes) (o : Option (Bytes × Unit {0})) → form (Base name (option_map (λ x. x.0) o)) ≡ WORD (codes "base") ∷ NAME name ∷ operands (MAYBE A_NAME END) o
base_is name None = refl
base_is name (Some x) = refl

use_is : (o : Option (Bytes × Unit {0})) → form (Use (option_map (λ x. x.0) o)) ≡ WORD (codes "use") ∷ operands (MAYBE A_NAME END) o
use_is None = refl
use_is (Some x) = refl

table_is : (f r : Cell) (xs : CornerCells) (o : Option (Cell × (CornerCells × Unit {0})))
    → form (Table f r xs (option_map (λ y. (y.0, y.1.0)) o)) ≡ WORD (codes "table") ∷ ADDR f ∷ ADDR r ∷ RECT xs ∷ operands (MAYBE A_CELL (AND A_RECT END)) o
table_is f r xs None = refl
table_is f r xs (Some y) = refl

edits_are : (force : Bool) → AreForms (may_force force) (edits force)
edits_are force = ((λ v. refl, λ v. refl), ((λ v. refl, λ v. refl), ((λ v. refl, λ v. refl), tt)))

all_are : AreForms (may_force false) verbs
all_are =
    ((λ v. refl, λ v. refl), ((λ v. refl, λ v. refl), ((λ v. base_is v.0 v.1, λ v. refl), ((λ v. use_is v, λ v. refl), ((λ v. refl, λ v. refl), ((λ v. refl, λ v. refl), ((λ v. refl, λ v. refl), ((λ v. refl, λ v. refl), ((λ v. refl, λ v. refl), ((λ v. table_is v.0 v.1.0 v.1.1.0 v.1.1.1, λ v. refl), ((λ v. refl, λ v. refl), edits_are false)))))))))))

-- a name and operands behind it spell a command, or none
data Says (front : List Operand → List Operand) (name rest : Bytes) (c : Command) : Type 0 where
  says : (d : Verb) (v : Values (form_of d).words) → IsForm front d → name ≡ (form_of d).name → IsWritten rest (operands (form_of d).words v) → c ≡ (form_of d).make v → Says front name rest c
  says_none : c ≡ Unknown → Says front name rest c

found : (front : List Operand → List Operand) (ds : List Verb) → AreForms front ds → (name rest : Bytes) → Says front name rest (named_in ds name rest)
unfolding spelled
found front [] are name rest = says_none refl
found front (d ∷ ds) are name rest = by (bytes_eq name (form_of d).name) refl (read_words (form_of d).words rest) refl (found front ds are.1 name rest)
  where
    by : (b : Bool) → bytes_eq name (form_of d).name ≡ b → (o : Option (Values (form_of d).words)) → read_words (form_of d).words rest ≡ o → Says front name rest (named_in ds name rest)
        → Says front name rest (if b then made o (form_of d).make else named_in ds name rest)
    by true e (Some v) r more = says d v are.0 (is_word _ _ e) (are_written (form_of d).words rest v r) refl
    by true e None r more = says_none refl
    by false e o r more = more

-- the text spells a command, or none
pub data Reads (text : Bytes) : Type 0 where
  spells : (c : Command) → is_plain c ≡ true → IsWritten text (form c) → spelled_command text ≡ c → Reads text
  spells_none : spelled_command text ≡ Unknown → Reads text

module _ (text : Bytes) where
  abbrev rest : Bytes
  rest = after_word text

  abbrev chosen : Bool → Command
  chosen b = if b then named_in (edits true) (first_word rest) (after_word rest) else named_in verbs (first_word text) rest

  pub reads : Reads text
  unfolding spelled_command
  reads = by (bytes_eq (first_word text) (codes "force")) refl (found (may_force true) (edits true) (edits_are true) (first_word rest) (after_word rest))
      (found (may_force false) verbs all_are (first_word text) rest)
    where
      by : (b : Bool) → bytes_eq (first_word text) (codes "force") ≡ b → Says (may_force true) (first_word rest) (after_word rest) (chosen true) → Says (may_force false) (first_word text) rest (chosen false) → Reads text
      by true e (says d v is n w c) more =
          spells ((form_of d).make v) (is.1 v) (subst (λ (os : List Operand). IsWritten text os) (sym (is.0 v)) (is_word _ _ e, (n, w))) (ap chosen e ∙ c)
      by true e (says_none c) more = spells_none (ap chosen e ∙ c)
      by false e other (says d v is n w c) =
          spells ((form_of d).make v) (is.1 v) (subst (λ (os : List Operand). IsWritten text os) (sym (is.0 v)) (n, w)) (ap chosen e ∙ c)
      by false e other (says_none c) = spells_none (ap chosen e ∙ c)

-- ---- lines that ask for data lines

-- ---- the second word

any_read : (word : Bytes) (o : Option Cell) → IsSpelled word (ANY o) → spelled_cell word ≡ o
any_read word (Some c) h = (same_addr word).spelled c h
any_read word None h = by (spelled_cell word) refl
  where
    by : (p : Option Cell) → spelled_cell word ≡ p → spelled_cell word ≡ None
    by None e = e
    by (Some c) e = absurd (h.1 c ((same_addr word).spells c e))

some_any : (word : Bytes) → (word ≡ [] → ⊥) → (o : Option Cell) → spelled_cell word ≡ o → IsSpelled word (ANY o)
some_any word some (Some c) e = (same_addr word).spells c e
some_any word some None e = (some, λ c h. none-some c (sym e ∙ (same_addr word).spelled c h))

-- where a third word spells LINES, there is a second one
has_word : (text : Bytes) (n : ℕ) → IsSpelled (first_word (after_word text)) (LINES n) → first_word text ≡ [] → ⊥
has_word text n h e = h.0 (ap first_word (none_behind text e))

-- ---- the operands

-- as what a line is read that asks for data lines
abbrev pub IsCsvLine : Bool → Option Cell → ℕ → Option CsvLine → Type 0
IsCsvLine force o n line = (word : Bytes) × (line ≡ Some (record { force = force; address = word; lines = n })) × (spelled_cell word ≡ o)

operands_read : (force : Bool) (text : Bytes) (o : Option Cell) (n : ℕ) → IsWritten text (ANY o ∷ LINES n ∷ []) → IsCsvLine force o n (csv_operands force text)
operands_read force text o n h = (
  first_word text,
  ap (λ (b : Bool). if b then csv_of force (first_word text) (read_lines (first_word (after_word text))) else None) h.1.1
      ∙ ap (csv_of force (first_word text)) (lines_read (first_word (after_word text)) n h.1.0),
  any_read (first_word text) o h.0,
)

abbrev Operands : Bool → Bytes → Type 0
Operands force text = ((o : Option Cell) × (n : ℕ) × IsWritten text (ANY o ∷ LINES n ∷ [])) ⊎ (csv_operands force text ≡ None)

operands_or : (force : Bool) (text : Bytes) → Operands force text
operands_or force text = by (is_all_spaces (after_word (after_word text))) refl (lines_or (first_word (after_word text)))
  where
    by : (b : Bool) → is_all_spaces (after_word (after_word text)) ≡ b
        → ((n : ℕ) × IsSpelled (first_word (after_word text)) (LINES n)) ⊎ (read_lines (first_word (after_word text)) ≡ None) → Operands force text
    by false e k = inr (ap (λ (b : Bool). if b then csv_of force (first_word text) (read_lines (first_word (after_word text))) else None) e)
    by true e (inr bad) =
        inr (ap (λ (b : Bool). if b then csv_of force (first_word text) (read_lines (first_word (after_word text))) else None) e ∙ ap (csv_of force (first_word text)) bad)
    by true e (inl n) = inl (spelled_cell (first_word text), n.0, (some_any (first_word text) (has_word text n.0 n.1) _ refl, (n.1, e)))

-- ---- the names

pub text_read : (text : Bytes) (force : Bool) (o : Option Cell) (n : ℕ) → IsWritten text (form (Csv force o n [])) → IsCsvLine force o n (csv_text text)
text_read text false o n h =
    let p = operands_read false (after_word text) o n h.1 in
    (p.0, ap (λ (w : Bytes). if bytes_eq w (codes "force") then csv_named true (first_word (after_word text)) (after_word (after_word text)) else csv_named false w (after_word text)) h.0 ∙ p.1, p.2)
text_read text true o n h =
    let p = operands_read true (after_word (after_word text)) o n h.1.1 in (
      p.0,
      ap (λ (w : Bytes). if bytes_eq w (codes "force") then csv_named true (first_word (after_word text)) (after_word (after_word text)) else csv_named false w (after_word text)) h.0
          ∙ ap (λ (w : Bytes). csv_named true w (after_word (after_word text))) h.1.0 ∙ p.1,
      p.2,
    )

abbrev pub TextReads : Bytes → Type 0
TextReads text = ((force : Bool) × (o : Option Cell) × (n : ℕ) × IsWritten text (form (Csv force o n []))) ⊎ (csv_text text ≡ None)

pub text_or : (text : Bytes) → TextReads text
text_or text =
    by (bytes_eq (first_word text) (codes "force")) refl (bytes_eq (first_word text) (codes "csv")) refl (bytes_eq (first_word (after_word text)) (codes "csv")) refl
    (operands_or true (after_word (after_word text))) (operands_or false (after_word text))
  where
    by : (a : Bool) → bytes_eq (first_word text) (codes "force") ≡ a → (b : Bool) → bytes_eq (first_word text) (codes "csv") ≡ b → (c : Bool) → bytes_eq (first_word (after_word text)) (codes "csv") ≡ c
        → Operands true (after_word (after_word text)) → Operands false (after_word text) → TextReads text
    by true ea b eb false ec p q = inr (rw (ea, ec) refl)
    by true ea b eb true ec (inr bad) q = inr (rw (ea, ec) bad)
    by true ea b eb true ec (inl found) q = inl (true, found.0, found.1, (is_word _ _ ea, (is_word _ _ ec, found.2)))
    by false ea false eb c ec p q = inr (rw (ea, eb) refl)
    by false ea true eb c ec p (inr bad) = inr (rw (ea, eb) bad)
    by false ea true eb c ec p (inl found) = inl (false, found.0, found.1, (is_word _ _ eb, found.2))

-- ---- lines

pub csv_line_by : (content : Bytes) (b : Bool) → nat_lt max_line (length content) ≡ b → csv_line content ≡ (if b then None else csv_text (without_cr content))
unfolding csv_line
csv_line_by content b e = ap (λ (v : Bool). if v then None else csv_text (without_cr content)) e

-- a line within the limit that asks for data lines is read as one that does
pub it_is_read : (line : Bytes) (force : Bool) (o : Option Cell) (n : ℕ) → IsWithin line → IsWritten (line_text line) (form (Csv force o n [])) → IsCsvLine force o n (csv_line (without_lf line))
it_is_read line force o n within h =
    let r = text_read (line_text line) force o n h in
    (r.0, csv_line_by (without_lf line) false (le-ltb _ _ within) ∙ r.1, r.2)

pub no_asks : (line : Bytes) → csv_line (without_lf line) ≡ None → (force : Bool) (o : Option Cell) (n : ℕ) → IsWithin line → IsWritten (line_text line) (form (Csv force o n [])) → ⊥
no_asks line e force o n within h = none-some _ (sym e ∙ (it_is_read line force o n within h).1)

-- a line asks for data lines, or is read as one that asks for none
pub data AsksOrNot (line : Bytes) : Type 0 where
  it_asks : (force : Bool) (o : Option Cell) (n : ℕ) → IsWithin line → IsWritten (line_text line) (form (Csv force o n [])) → AsksOrNot line
  it_asks_none : csv_line (without_lf line) ≡ None → AsksOrNot line

pub asks_or_not : (line : Bytes) → AsksOrNot line
asks_or_not line = by (nat_lt max_line (length (without_lf line))) refl (text_or (line_text line))
  where
    by : (b : Bool) → nat_lt max_line (length (without_lf line)) ≡ b → TextReads (line_text line) → AsksOrNot line
    by true e k = it_asks_none (csv_line_by (without_lf line) true e)
    by false e (inr bad) = it_asks_none (csv_line_by (without_lf line) false e ∙ bad)
    by false e (inl f) = it_asks f.0 f.1 f.2 (ltb-false _ _ e) f.3

pub asked_is : (line : Bytes) (n : ℕ) → Asks line n → asked line ≡ n
asked_is line n h = ap lines_of (it_is_read line h.1.0 h.1.1 n h.0 h.1.2).1

-- so many data lines stand behind a line; none where it asks for none
abbrev pub Takes : Bytes → List Bytes → Type 0
Takes line taken = Asks line (length taken) ⊎ ((taken ≡ []) × ((n : ℕ) → Asks line n → ⊥))

pub takes : (line : Bytes) (taken : List Bytes) → asked line ≡ length taken → Takes line taken
takes line taken e = by (asks_or_not line)
  where
    by : AsksOrNot line → Takes line taken
    by (it_asks force o n within h) =
        let same : n ≡ length taken = sym (asked_is line n (within, (force, o, h))) ∙ e in
        inl (within, (force, o, subst (λ (k : ℕ). IsWritten (line_text line) (form (Csv force o k []))) same h))
    by (it_asks_none plain) = inr (nil_from_length taken (sym e ∙ ap lines_of plain), λ k h. no_asks line plain h.1.0 h.1.1 k h.0 h.1.2)

pub asks : (line : Bytes) (k : ℕ) → k < asked line → Asks line (asked line)
asks line k some = by (asks_or_not line)
  where
    by : AsksOrNot line → Asks line (asked line)
    by (it_asks force o n within h) = subst (Asks line) (sym (asked_is line n (within, (force, o, h)))) (within, (force, o, h))
    by (it_asks_none plain) = let nothing : asked line ≡ 0 = ap lines_of plain in absurd (omega (arith, some, nothing))
