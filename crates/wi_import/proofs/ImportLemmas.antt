-- What imports of fields come to: what the function finds, and nothing else.
use Rattle.wi_import.proofs.Words.{◌≡◌, ◌↔◌, ℕ, nat_le, Bool, true, false, not, ◌||◌, List, [], ◌∷◌, map, get_or, Option, Some, None, is_some, option_map, Result, Ok, Err, refl, sym, ap, ◌∙◌, subst, arith, IsUtf8, All, AllZip, list_any, is_utf8, nat_tests, list_any_none, Any-from_list_any, list_any-from_Any, IsUtf8-from_is_utf8, is_utf8-from_IsUtf8, or_parts, not-false, Number as Numbers, read, rows, columns, IsImported, a_number, a_truth_value, a_text, imported, field_value, number_or, imported_exactly, each_fails, Any-weaker, Value, Content, Constant, ImportFault, Field, IsInside, IsFieldContent, IsChange, AreChanges, IsFault, bad_field, too_long, out_of_sheet, IsImport, is_bad, is_too_long, is_outside, content_for, content_of, change_of, first_fault, fault_among, unless_fault, import_of, field_cell, IsText}
use Rattle.wi_values.specs.Imported.{too_long as too_long_text}

abbrev Outcome : Type 0
Outcome = Result (List (ℕ × Option Content)) ImportFault

-- ---- tests

-- what follows of each follows of all
all_so : {X : Type 0} {P Q : X → Type 0} (xs : List X) → ((x : X) → P x → Q x) → All P xs → All Q xs
all_so xs f h = λ k d l. f (get_or xs k d) (h k d l)

-- ---- a field that isn't UTF-8

text_not_bad : (bytes : List ℕ) → IsUtf8 bytes → is_bad bytes ≡ false
text_not_bad bytes h = ap not (is_utf8-from_IsUtf8 bytes h)

pub not_bad_text : (bytes : List ℕ) → is_bad bytes ≡ false → IsUtf8 bytes
not_bad_text bytes e = IsUtf8-from_is_utf8 bytes (not-false (is_utf8 bytes) e)

bad_no_text : (bytes : List ℕ) → is_bad bytes ≡ true → IsUtf8 bytes → ⊥
bad_no_text bytes e h = let f = text_not_bad bytes h in cc

no_text_bad : (bytes : List ℕ) → (IsUtf8 bytes → ⊥) → (b : Bool) → is_utf8 bytes ≡ b → is_bad bytes ≡ true
no_text_bad bytes h true e = absurd (h (IsUtf8-from_is_utf8 bytes e))
no_text_bad bytes h false e = ap not e

-- ---- a field that is too long

always_some : (o : Option Numbers) (v : Value) → number_or o (Some v) ≡ None → ⊥
always_some None v e = cc e
always_some (Some x) v e = cc e

empty_is_short : imported [] ≡ None → ⊥
unfolding imported
empty_is_short e = always_some (read []) _ e

long_none : (bytes : List ℕ) → IsImported bytes None → field_value bytes ≡ None
long_none [] h = absurd (empty_is_short ((imported_exactly [] None).0 h))
long_none (b ∷ bs) h = (imported_exactly (b ∷ bs) None).0 h

none_long : (bytes : List ℕ) (o : Option Value) → field_value bytes ≡ o → not (is_some o) ≡ true → IsImported bytes None
none_long bytes (Some v) e t = cc t
none_long [] None e t = cc e
none_long (b ∷ bs) None e t = (imported_exactly (b ∷ bs) None).1 e

long_true : (bytes : List ℕ) → IsImported bytes None → is_too_long bytes ≡ true
long_true bytes h = ap (λ o. not (is_some o)) (long_none bytes h)

true_long : (bytes : List ℕ) → is_too_long bytes ≡ true → IsImported bytes None
true_long bytes e = none_long bytes (field_value bytes) refl e

false_short : (bytes : List ℕ) → is_too_long bytes ≡ false → IsImported bytes None → ⊥
false_short bytes e h = let f = long_true bytes h in cc

short_false : (bytes : List ℕ) → (IsImported bytes None → ⊥) → (b : Bool) → is_too_long bytes ≡ b → is_too_long bytes ≡ false
short_false bytes h true e = absurd (h (true_long bytes e))
short_false bytes h false e = e

-- ---- a field outside the sheet

inside_false : (f : Field) → IsInside f → is_outside f ≡ false
inside_false f (r, c) =
    let a : nat_le rows f.row ≡ false = grind (arith, nat_tests, r) in
    let b : nat_le columns f.column ≡ false = grind (arith, nat_tests, c) in
    rw (a, b)

pub false_inside : (f : Field) → is_outside f ≡ false → IsInside f
false_inside f e =
    let p = or_parts (nat_le rows f.row) (nat_le columns f.column) e in
    let row = p.0 in
    let column = p.1 in
    (grind (arith, nat_tests, row), grind (arith, nat_tests, column))

true_outside : (f : Field) → is_outside f ≡ true → IsInside f → ⊥
true_outside f e h = let g = inside_false f h in cc

outside_true : (f : Field) → (IsInside f → ⊥) → (b : Bool) → is_outside f ≡ b → is_outside f ≡ true
outside_true f h true e = e
outside_true f h false e = absurd (h (false_inside f e))

-- ---- what cells get

imported_content : (text : List ℕ) (o : Option Value) → IsImported text o → content_for o ≡ option_map Constant o
imported_content text o (a_number bs x s) = refl
imported_content text o (a_truth_value b) = refl
imported_content text o (a_text bs w short) = refl
imported_content text o (too_long_text bs w long) = refl

content_is : (bytes : List ℕ) (o : Option Content) → IsFieldContent bytes o → content_of bytes ≡ o
content_is [] o h = sym h
content_is (b ∷ bs) o h = ap content_for ((imported_exactly (b ∷ bs) (Some h.0)).0 h.1) ∙ imported_content (b ∷ bs) (Some h.0) h.1 ∙ sym h.2

content_short : (bytes : List ℕ) (o : Option Content) → IsFieldContent bytes o → is_too_long bytes ≡ false
content_short [] o h = refl
content_short (b ∷ bs) o h = ap (λ o. not (is_some o)) ((imported_exactly (b ∷ bs) (Some h.0)).0 h.1)

is_content : (bytes : List ℕ) (o : Option Value) → field_value bytes ≡ o → not (is_some o) ≡ false → IsFieldContent bytes (content_of bytes)
is_content bytes None e short = cc short
is_content [] (Some v) e short = refl
is_content (b ∷ bs) (Some v) e short =
    let h = (imported_exactly (b ∷ bs) (Some v)).1 e in
    (v, h, ap content_for e ∙ imported_content (b ∷ bs) (Some v) h)

pair_is : (a b : ℕ) (o p : Option Content) (rest others : List (ℕ × Option Content)) → a ≡ b → o ≡ p → rest ≡ others → (a, o) ∷ rest ≡ (b, p) ∷ others
pair_is a b o p rest others e f g = ap (λ x. (x, o) ∷ rest) e ∙ ap (λ y. (b, y) ∷ rest) f ∙ ap (λ z. (b, p) ∷ z) g

changes_are : (fields : List Field) (changes : List (ℕ × Option Content)) → AllZip IsChange fields changes → map change_of fields ≡ changes
changes_are [] [] h = refl
changes_are [] (c ∷ cs) h = absurd h
changes_are (f ∷ fs) [] h = absurd h
changes_are (f ∷ fs) ((a, o) ∷ cs) ((same, content), more) =
    pair_is (field_cell f) a (content_of f.bytes) o (map change_of fs) cs (sym same) (content_is f.bytes o content) (changes_are fs cs more)

pub one_list : (fields : List Field) (p q : List (ℕ × Option Content)) → AllZip IsChange fields p → AllZip IsChange fields q → p ≡ q
one_list fields p q h k = sym (changes_are fields p h) ∙ changes_are fields q k

none_too_long : (fields : List Field) (changes : List (ℕ × Option Content)) → AllZip IsChange fields changes → list_any (λ f. is_too_long f.bytes) fields ≡ false
none_too_long [] [] h = refl
none_too_long [] (c ∷ cs) h = absurd h
none_too_long (f ∷ fs) [] h = absurd h
none_too_long (f ∷ fs) ((a, o) ∷ cs) ((same, content), more) =
    ap (λ b. b || list_any (λ g. is_too_long g.bytes) fs) (content_short f.bytes o content) ∙ none_too_long fs cs more

each_change : (fields : List Field) → list_any (λ f. is_too_long f.bytes) fields ≡ false → AllZip IsChange fields (map change_of fields)
each_change [] e = tt
each_change (f ∷ fs) e =
    let p = or_parts (is_too_long f.bytes) (list_any (λ g. is_too_long g.bytes) fs) e in
    ((refl, is_content f.bytes (field_value f.bytes) refl p.0), each_change fs p.1)

-- ---- all of it

abbrev bad_in : List Field → Bool
bad_in fields = list_any (λ f. is_bad f.bytes) fields

abbrev long_in : List Field → Bool
long_in fields = list_any (λ f. is_too_long f.bytes) fields

abbrev outside_in : List Field → Bool
outside_in fields = list_any is_outside fields

texts_none : (fields : List Field) → All IsText fields → bad_in fields ≡ false
texts_none fields h = list_any_none (λ f. is_bad f.bytes) fields (all_so fields (λ f. text_not_bad f.bytes) h)

none_texts : (fields : List Field) → bad_in fields ≡ false → All IsText fields
none_texts fields e = all_so fields (λ f. not_bad_text f.bytes) (each_fails (λ f. is_bad f.bytes) fields e)

found : (fields : List Field) (a b c : Bool) → bad_in fields ≡ a → long_in fields ≡ b → outside_in fields ≡ c
    → IsImport fields (unless_fault (first_fault a b c) (map change_of fields))
found fields true b c e f g = bad_field fields (Any-weaker _ _ fields (λ x. bad_no_text x.bytes) (Any-from_list_any (λ x. is_bad x.bytes) fields e))
found fields false true c e f g =
    too_long fields (none_texts fields e) (Any-weaker _ _ fields (λ x. true_long x.bytes) (Any-from_list_any (λ x. is_too_long x.bytes) fields f))
found fields false false true e f g =
    out_of_sheet fields (none_texts fields e) (all_so fields (λ x. false_short x.bytes) (each_fails (λ x. is_too_long x.bytes) fields f))
    (Any-weaker _ _ fields true_outside (Any-from_list_any is_outside fields g))
found fields false false false e f g = record {
  texts = none_texts fields e;
  inside = all_so fields false_inside (each_fails is_outside fields g);
  each = each_change fields f;
}

abbrev by_tests : List Field → Bool → Bool → Bool → Outcome
by_tests fields a b c = unless_fault (first_fault a b c) (map change_of fields)

fault_is : (fields : List Field) (fault : ImportFault) → IsFault fields fault → import_of fields ≡ Err fault
fault_is fields fault (bad_field fs some) =
    let e = list_any-from_Any (λ f. is_bad f.bytes) fs (Any-weaker _ _ fs (λ f h. no_text_bad f.bytes h (is_utf8 f.bytes) refl) some) in
    ap (λ a. by_tests fs a (long_in fs) (outside_in fs)) e
fault_is fields fault (too_long fs texts some) =
    let e = list_any-from_Any (λ f. is_too_long f.bytes) fs (Any-weaker _ _ fs (λ f. long_true f.bytes) some) in
    ap (λ a. by_tests fs a (long_in fs) (outside_in fs)) (texts_none fs texts) ∙ ap (λ b. by_tests fs false b (outside_in fs)) e
fault_is fields fault (out_of_sheet fs texts short some) =
    let f = list_any_none (λ f. is_too_long f.bytes) fs (all_so fs (λ f h. short_false f.bytes h (is_too_long f.bytes) refl) short) in
    let e = list_any-from_Any is_outside fs (Any-weaker _ _ fs (λ f h. outside_true f h (is_outside f) refl) some) in
    ap (λ a. by_tests fs a (long_in fs) (outside_in fs)) (texts_none fs texts) ∙ ap (λ b. by_tests fs false b (outside_in fs)) f
    ∙ ap (by_tests fs false false) e

changes_found : (fields : List Field) (changes : List (ℕ × Option Content)) → AreChanges fields changes → import_of fields ≡ Ok changes
changes_found fields changes h =
    let e = list_any_none is_outside fields (all_so fields inside_false h.inside) in
    ap (λ a. by_tests fields a (long_in fields) (outside_in fields)) (texts_none fields h.texts)
    ∙ ap (λ b. by_tests fields false b (outside_in fields)) (none_too_long fields changes h.each)
    ∙ ap (by_tests fields false false) e ∙ ap Ok (changes_are fields changes h.each)

import_is : (fields : List Field) (r : Outcome) → IsImport fields r → import_of fields ≡ r
import_is fields (Ok changes) h = changes_found fields changes h
import_is fields (Err fault) h = fault_is fields fault h

is_import : (fields : List Field) → IsImport fields (import_of fields)
is_import fields = found fields (bad_in fields) (long_in fields) (outside_in fields) refl refl refl

pub import_exactly : (fields : List Field) (r : Outcome) → IsImport fields r ↔ (import_of fields ≡ r)
import_exactly fields r = (import_is fields r, λ e. subst (IsImport fields) e (is_import fields))

pub some_import : (fields : List Field) → (r : Outcome) × IsImport fields r
some_import fields = (import_of fields, is_import fields)

pub no_other : (fields : List Field) (r s : Outcome) → IsImport fields r → IsImport fields s → r ≡ s
no_other fields r s h k = sym (import_is fields r h) ∙ import_is fields s k

-- ---- what the code answers

pub refused : (fields : List Field) (fault : ImportFault) → fault_among fields ≡ Some fault → IsFault fields fault
refused fields fault e = (import_exactly fields (Err fault)).1 (ap (λ o. unless_fault o (map change_of fields)) e)

pub all_changed : (fields : List Field) (changes : List (ℕ × Option Content)) → fault_among fields ≡ None → changes ≡ map change_of fields → AreChanges fields changes
all_changed fields changes e f = (import_exactly fields (Ok changes)).1 (ap (λ o. unless_fault o (map change_of fields)) e ∙ ap Ok (sym f))
