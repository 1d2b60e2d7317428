-- Data lines, as they are taken and held.
use Rattle.wi_cli.proofs.Vocabulary.{◌≡◌, ℕ, ◌+◌, ◌-◌, ◌<◌, ◌≤◌, Bool, true, false, ◌||◌, ◌&&◌, cond, ltb, List, [], ◌∷◌, ◌++◌, length, take, refl, sym, ap, ◌∙◌, subst, ⊎_elim, None, Some, append_assoc, append-nil, length-append, arith, concat, list_any, is_utf8, or-true, take_all, length-take, list_any-append, false≢true, true_from_ne_false, nil_from_length, ltb-false, lt-ltb, le-ltb, cases_lt, RunFault, Held, Lacking, DataLines, raw_lines, without_cr, is_whole, CsvLine, csv_line, is_long, raw, line_front, Place, IsOver, TookNext, BrokeNext, IsCsv, HoldsLines, AddedTo, TookData, BrokeData, All, ReadCsv}
use Rattle.wi_cli.specs.declared.data_lines.Held.TheVariants.{TooLong}
use Rattle.wi_cli.specs.Inner.Data.{Holds}
use Rattle.wi_cli.proofs.LineLemmas.{raw_lines-last, raw_lines-raw, without_lf-raw, concat_push}
use Rattle.wi_cli.proofs.Ties.Texts.{csv_line_by}
use Rattle.wi_cli.proofs.TakenLemmas.{IsCsvOf, no_last, none_taken, one_taken, taken_lines, TookLines-trans, one_broke}

-- ---- a line by its front

pub front_short : (line content : List ℕ) → line ≡ line_front content → length line ≤ 65536 → line ≡ content
unfolding line_front
front_short line content e l =
    let n : ℕ = 65537 in
    let fits : length content ≤ 65537 = omega (arith, ap length e, length-take 65537 content) in
    e ∙ take_all 65537 content fits

front_long : (line content : List ℕ) → line ≡ line_front content → 65536 < length line → 65536 < length content
unfolding line_front
front_long line content e l = omega (arith, ap length e, length-take 65537 content)

none_of_front : (n : ℕ) (content : List ℕ) → 0 < n → take n content ≡ [] → content ≡ []
none_of_front n [] l e = refl
none_of_front n (b ∷ bs) l e = absurd (omega (arith, length-take n (b ∷ bs), ap length e))

front_none : (content : List ℕ) → line_front content ≡ [] → content ≡ []
unfolding line_front
front_none content e = none_of_front 65537 content (omega arith) e

-- ---- a line that asks for data lines, by its front

csv_short : (line : List ℕ) (x : CsvLine) → csv_line line ≡ Some x → length line ≤ 65536
csv_short line x e = ⊎_elim
    (λ (l : 65536 < length line). let none = sym (csv_line_by line true (lt-ltb 65536 (length line) l)) ∙ e in absurd cc)
    (λ (l : length line ≤ 65536). l)
    (cases_lt 65536 (length line))

front_all : (line content : List ℕ) → line ≡ line_front content → length content ≤ 65536 → line ≡ content
unfolding line_front
front_all line content e l = e ∙ take_all 65537 content (omega arith)

pub csv_read : (line content : List ℕ) → line ≡ line_front content → (csv : ReadCsv) → IsCsv (csv_line line) (Some csv) → csv.is_text ≡ is_utf8 (without_cr line) → IsCsvOf content csv
csv_read line content e csv h t =
    let same : line ≡ content = front_short line content e (csv_short line _ h.1) in
    record { word = h.0; asked = ap csv_line (sym same) ∙ h.1; at = h.2; text = t ∙ ap (λ x. is_utf8 (without_cr x)) same }

pub no_csv : (line content : List ℕ) → line ≡ line_front content → csv_line line ≡ None → csv_line content ≡ None
no_csv line content e h = ⊎_elim
    (λ (l : 65536 < length content). csv_line_by content true (lt-ltb 65536 (length content) l))
    (λ (l : length content ≤ 65536). ap csv_line (sym (front_all line content e l)) ∙ h)
    (cases_lt 65536 (length content))

-- ---- one line more

is_long_raw : (whole : Bool) (content : List ℕ) → is_whole content ≡ false → is_long (raw whole content) ≡ ltb 65536 (length content)
is_long_raw whole content h = ap (λ x. ltb 65536 (length x)) (without_lf-raw whole content h)

pub added_long : (whole : Bool) (line content : List ℕ) (before : List (List ℕ)) → is_whole content ≡ false → line ≡ line_front content → 65536 < length line
    → list_any is_long (before ++ raw whole content ∷ []) ≡ true
added_long whole line content before h e l =
    list_any-append is_long before (raw whole content ∷ [])
    ∙ ap (λ v. list_any is_long before || (v || false)) (is_long_raw whole content h ∙ lt-ltb 65536 (length content) (front_long line content e l))
    ∙ or-true (list_any is_long before)

pub added_short : (whole : Bool) (line content : List ℕ) (before : List (List ℕ)) → is_whole content ≡ false → line ≡ line_front content → length line ≤ 65536
    → list_any is_long before ≡ false → list_any is_long (before ++ raw whole content ∷ []) ≡ false
added_short whole line content before h e l none =
    list_any-append is_long before (raw whole content ∷ [])
    ∙ ap (λ v. v || (is_long (raw whole content) || false)) none
    ∙ ap (λ v. v || false) (is_long_raw whole content h ∙ le-ltb 65536 (length content) (omega (arith, ap length (front_short line content e l))))

pub added_bytes : (whole : Bool) (line content bytes bytes' : List ℕ) (before : List (List ℕ)) → line ≡ line_front content → length line ≤ 65536
    → bytes' ≡ bytes ++ raw whole line → bytes ≡ concat before → bytes' ≡ concat (before ++ raw whole content ∷ [])
added_bytes whole line content bytes bytes' before e l grown h =
    grown ∙ ap (λ x. bytes ++ raw whole x) (front_short line content e l) ∙ ap (λ x. x ++ raw whole content) h ∙ sym (concat_push before (raw whole content))

-- where not all are held, that stays
pub held_on : (wanted : Bool) (held : Held) (bytes : List ℕ) (before more : List (List ℕ)) → (held ≡ All → ⊥) → Holds wanted held bytes before → Holds wanted held bytes (before ++ more)
held_on wanted All bytes before more f h = absurd (f refl)
held_on wanted Lacking bytes before more f h = h
held_on wanted TooLong bytes before more f h = list_any-append is_long before more ∙ ap (λ v. v || list_any is_long more) h

no_bytes : (line : List ℕ) → ltb 0 (length line) ≡ false → line ≡ []
no_bytes line h = nil_from_length line (omega (arith, ltb-false 0 (length line) h))

pub added_none : (d : DataLines) (whole : Bool) (line content : List ℕ) → line ≡ line_front content → (whole || ltb 0 (length line)) ≡ false → AddedTo d d (raw_lines (raw whole content))
added_none d true line content e h = absurd (false≢true (sym h))
added_none d false line content e h =
    let none : content ≡ [] = front_none content (sym e ∙ no_bytes line h) in
    let lines : raw_lines (raw false content) ≡ [] = ap (λ x. raw_lines (raw false x)) none in record {
      wanted = refl;
      missing = omega (arith, ap length lines);
      held = λ before k. subst (HoldsLines d) (sym (ap (λ x. before ++ x) lines ∙ append-nil before)) k;
    }

some_bytes : (content line : List ℕ) → line ≡ line_front content → ltb 0 (length line) ≡ true → (content ≡ [] → ⊥)
unfolding line_front
some_bytes content line e h none = let empty : line ≡ [] = e ∙ ap (λ x. take 65537 x) none in absurd (false≢true (ap (λ x. ltb 0 (length x)) (sym empty) ∙ h))

one_line : (whole : Bool) (line content : List ℕ) → is_whole content ≡ false → line ≡ line_front content → (whole || ltb 0 (length line)) ≡ true → raw_lines (raw whole content) ≡ raw whole content ∷ []
one_line true line content no_lf e h = raw_lines-raw content no_lf
one_line false line [] no_lf e h = absurd (some_bytes [] line e h refl)
one_line false line (b ∷ bs) no_lf e h =
    let same = append-nil (b ∷ bs) in ap raw_lines same ∙ raw_lines-last b bs no_lf ∙ ap (λ x. x ∷ []) (sym same)

pub added_one : (d d' : DataLines) (whole : Bool) (line content : List ℕ) → is_whole content ≡ false → line ≡ line_front content → (whole || ltb 0 (length line)) ≡ true
    → 0 < d.missing → d'.wanted ≡ d.wanted → d'.missing ≡ d.missing - 1
    → ((before : List (List ℕ)) → HoldsLines d before → HoldsLines d' (before ++ raw whole content ∷ [])) → AddedTo d d' (raw_lines (raw whole content))
added_one d d' whole line content no_lf e h some wanted missing held =
    let lines = one_line whole line content no_lf e h in record {
      wanted = wanted;
      missing = omega (arith, ap length lines);
      held = λ before k. subst (λ x. HoldsLines d' (before ++ x)) (sym lines) (held before k);
    }

-- ---- all that are taken

pub data_begun : (asked : ℕ) (d : DataLines) (whole : Bool) (p : Place) → p.lines ≤ 1000000 → (whole ≡ false → IsOver p) → d.missing ≡ asked → HoldsLines d [] → TookData asked d whole whole p p
data_begun asked d whole p most e missing held = record {
  took = none_taken whole p most e;
  none_taken = λ f. (f, refl, refl);
  missing = let none : length (raw_lines []) ≡ 0 = refl in omega (arith, missing);
  held = held;
}

pub data_more : (asked : ℕ) (d d' : DataLines) (before whole : Bool) (p q r : Place) (line : List ℕ) → q.lines ≤ 1000000 → TookData asked d before true p q → (k : TookNext whole q r line)
    → AddedTo d d' (raw_lines (raw whole k.took.content)) → TookData asked d' before whole p r
data_more asked d d' before whole p q r line most h k more =
    let one = one_taken whole q r line most k in
    let same : (h.took.lines ++ one.lines) ++ raw_lines one.last ≡ (h.took.lines ++ raw_lines h.took.last) ++ raw_lines (raw whole k.took.content) =
    append_assoc h.took.lines one.lines (raw_lines one.last) ∙ ap (λ x. h.took.lines ++ x) (taken_lines whole q r line most k)
    ∙ ap (λ x. x ++ raw_lines (raw whole k.took.content)) (sym (no_last h.took.lines (raw_lines h.took.last) (ap raw_lines (h.took.none_last refl)))) in record {
      took = TookLines-trans whole p q r h.took one;
      none_taken = λ f. absurd (false≢true (sym (h.none_taken f).0));
      missing = omega (arith, ap length same, length-append (h.took.lines ++ raw_lines h.took.last) (raw_lines (raw whole k.took.content)), more.missing, h.missing);
      held = subst (HoldsLines d') (sym same) (more.held _ h.held);
    }

pub data_stopped : (asked : ℕ) (d : DataLines) (before : Bool) (fault : RunFault) (p q r : Place) → q.lines ≤ 1000000 → TookData asked d before true p q → 0 < d.missing → BrokeNext fault q r
    → BrokeData asked before fault p r
data_stopped asked d before fault p q r most h some k =
    let broke = one_broke fault p q r h.took k most in
    record {
      came = true_from_ne_false before (λ f. false≢true (sym (h.none_taken f).0));
      broke = broke.0;
      some_missing = omega (arith, h.missing, ap length (no_last h.took.lines (raw_lines h.took.last) (ap raw_lines (h.took.none_last refl))), ap length broke.1);
    }

-- ---- the loop

pub still_few : {asked : ℕ} {d : DataLines} {before whole : Bool} {p q : Place} → TookData asked d before whole p q → q.lines ≤ 1000000
still_few h = let few = h.took.few in omega arith

-- what is missing and may still come
pub fewer : (whole whole' : Bool) (n n' : ℕ) (content : List ℕ) → is_whole content ≡ false → (whole && ltb 0 n) ≡ true → n' + length (raw_lines (raw whole' content)) ≡ n
    → cond whole' (n' + 1) 0 < cond whole (n + 1) 0
fewer false whole' n n' content no_lf h e = absurd (false≢true h)
fewer true false n n' content no_lf h e = omega arith
fewer true true n n' content no_lf h e = omega (arith, e, ap length (raw_lines-raw content no_lf))
