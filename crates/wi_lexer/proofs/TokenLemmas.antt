-- What `token_at` finds is the longest token, and it finds one wherever one begins.
use Rattle.wi_lexer.proofs.Words.{◌≡◌, ℕ, ◌<◌, ◌≤◌, Bool, true, false, cond, ◌==◌, List, [], ◌∷◌, ◌++◌, length, take, drop, Option, Some, None, refl, sym, ap, ◌∙◌, subst, arith, length-append, nat_lt, slice_index, option_or, ltb-true, lt-ltb, take-append-drop, length-take-le, same_Some, take-append_seam, IsDecimalText, quoted, Kind, Number, Reference, Rectangle, Name, Text, Mark, NotEqual, Less, LessOrEqual, Greater, GreaterOrEqual, decimals_len, decimal_len, number_len, IsReference, one_cell, reference_len, IsRectangle, two_cells, rectangle_len, WrittenCell, IsCell, cell_text, IsName, is_name_start, name_len, IsText, of_content, text_len, mark_text, two_byte_mark, one_byte_mark, mark_at, IsToken, IsLongest, NoToken, of_length, mark_token, brackets_at, token_at}
use Rattle.wi_lexer.specs.declared.token.Mark as mark
use Rattle.wi_lexer.proofs.NumberLemmas.{number_some, number_more, number_within, number_sound}
use Rattle.wi_lexer.proofs.BracketLemmas.{bracketed}
use Rattle.wi_lexer.proofs.ReferenceLemmas.{reference_sound, reference_complete, no_reference}
use Rattle.wi_lexer.proofs.RectangleLemmas.{beside, rectangle_is, rectangle_sound, rectangle_complete, no_rectangle, no_reference_len}
use Rattle.wi_lexer.proofs.MarkLemmas.{BeginsWith, mark_sound}
use Rattle.wi_lexer.proofs.NameLemmas.{name_some, name_more, name_sound, no_number, no_mark, no_bracket}
use Rattle.wi_lexer.proofs.QuoteLemmas.{inside_of, text_some, text_more, text_within, text_sound}

-- What is found at a text that begins with a token of kind j: a token that is no shorter, and of that kind if it is as long.
record IsCovered (j : Kind) (text bs : List ℕ) : Type 0 where
  kind : Kind
  len : ℕ
  found : token_at bs ≡ Some (kind, len)
  longer : length text ≤ len
  same : len ≡ length text → kind ≡ j

-- ---- what each kind finds where the kinds before it find nothing

abbrev from_name : List ℕ → Option (Kind × ℕ)
from_name bs = option_or (of_length Name (name_len bs)) (of_length Text (text_len bs))

abbrev from_brackets : List ℕ → Option (Kind × ℕ)
from_brackets bs = option_or (brackets_at bs) (from_name bs)

abbrev from_mark : List ℕ → Option (Kind × ℕ)
from_mark bs = option_or (mark_token (mark_at bs)) (from_brackets bs)

last_found : (k : Kind) (n : ℕ) → 0 < n → of_length k n ≡ Some (k, n)
last_found k n h = ap (λ t. cond t (Some (k, n)) None) (lt-ltb 0 n h)

length_found : (k : Kind) (n : ℕ) (later : Option (Kind × ℕ)) → 0 < n → option_or (of_length k n) later ≡ Some (k, n)
length_found k n later h = ap (λ o. option_or o later) (last_found k n h)

length_passed : (k : Kind) (n : ℕ) (later : Option (Kind × ℕ)) → n ≡ 0 → option_or (of_length k n) later ≡ later
length_passed k n later h = ap (λ i. option_or (of_length k i) later) h

pub number_found : (bs : List ℕ) → 0 < number_len bs → token_at bs ≡ Some (Number, number_len bs)
unfolding token_at
number_found bs h = length_found Number (number_len bs) (from_mark bs) h

number_passed : (bs : List ℕ) → number_len bs ≡ 0 → token_at bs ≡ from_mark bs
unfolding token_at
number_passed bs h = length_passed Number (number_len bs) (from_mark bs) h

mark_passed : (bs : List ℕ) → number_len bs ≡ 0 → mark_at bs ≡ None → token_at bs ≡ from_brackets bs
mark_passed bs h k = number_passed bs h ∙ ap (λ o. option_or (mark_token o) (from_brackets bs)) k

-- a text that begins with `[` is no number and no mark
bracket_passed : (bs : List ℕ) → token_at (91 ∷ bs) ≡ from_brackets (91 ∷ bs)
unfolding number_len decimal_len decimals_len mark_at two_byte_mark one_byte_mark
bracket_passed bs = mark_passed (91 ∷ bs) refl refl

pub reference_found : (bs : List ℕ) → 0 < reference_len (91 ∷ bs) → token_at (91 ∷ bs) ≡ Some (Reference, reference_len (91 ∷ bs))
reference_found bs h =
    bracket_passed bs
    ∙ ap (λ o. option_or o (from_name (91 ∷ bs))) (length_found Reference (reference_len (91 ∷ bs)) (of_length Rectangle (rectangle_len (91 ∷ bs))) h)

pub rectangle_found : (bs : List ℕ) → reference_len (91 ∷ bs) ≡ 0 → 0 < rectangle_len (91 ∷ bs) → token_at (91 ∷ bs) ≡ Some (Rectangle, rectangle_len (91 ∷ bs))
rectangle_found bs none h =
    bracket_passed bs
    ∙ ap (λ o. option_or o (from_name (91 ∷ bs)))
    (length_passed Reference (reference_len (91 ∷ bs)) (of_length Rectangle (rectangle_len (91 ∷ bs))) none ∙ last_found Rectangle (rectangle_len (91 ∷ bs)) h)

-- no reference begins with another byte than `[`
brackets_passed : (bs : List ℕ) → (slice_index bs 0 ≡ 91 → ⊥) → from_brackets bs ≡ from_name bs
brackets_passed bs other =
    ap (λ o. option_or o (from_name bs))
    (length_passed Reference (reference_len bs) (of_length Rectangle (rectangle_len bs)) (no_reference bs other) ∙ ap (of_length Rectangle) (no_rectangle bs other))

pub name_found : (b : ℕ) (bs : List ℕ) → is_name_start b ≡ true → 0 < name_len (b ∷ bs) → token_at (b ∷ bs) ≡ Some (Name, name_len (b ∷ bs))
name_found b bs h some =
    mark_passed (b ∷ bs) (no_number b bs h) (no_mark (b ∷ bs) h)
    ∙ brackets_passed (b ∷ bs) (no_bracket b h)
    ∙ length_found Name (name_len (b ∷ bs)) (of_length Text (text_len (b ∷ bs))) some

-- a text that begins with a quote is no other token
pub text_found : (bs : List ℕ) → 0 < text_len (34 ∷ bs) → token_at (34 ∷ bs) ≡ Some (Text, text_len (34 ∷ bs))
unfolding number_len decimal_len decimals_len mark_at two_byte_mark one_byte_mark name_len
text_found bs some =
    mark_passed (34 ∷ bs) refl refl
    ∙ brackets_passed (34 ∷ bs) (λ e. omega (arith, e))
    ∙ length_passed Name (name_len (34 ∷ bs)) (of_length Text (text_len (34 ∷ bs))) refl
    ∙ last_found Text (text_len (34 ∷ bs)) some

-- ---- marks

abbrev pub MarkFound : mark.Mark → List ℕ → Type 0
MarkFound m bs = token_at bs ≡ Some (Mark m, length (mark_text m))

abbrev CoveredMark : mark.Mark → List ℕ → Type 0
CoveredMark m rest = IsCovered (Mark m) (mark_text m) (mark_text m ++ rest)

whole_mark : (m : mark.Mark) (rest : List ℕ) → MarkFound m (mark_text m ++ rest) → CoveredMark m rest
whole_mark m rest found = record { kind = Mark m; len = length (mark_text m); found = found; longer = omega arith; same = λ _. refl }

-- a mark of two bytes is longer than one of one
longer_mark : (m n : mark.Mark) (rest : List ℕ) → MarkFound n (mark_text m ++ rest) → length (mark_text m) < length (mark_text n) → CoveredMark m rest
longer_mark m n rest found longer =
    record { kind = Mark n; len = length (mark_text n); found = found; longer = omega arith; same = λ e. absurd (omega arith) }

pub mark_found : (bs : List ℕ) (m : mark.Mark) → number_len bs ≡ 0 → mark_at bs ≡ Some m → MarkFound m bs
mark_found bs m none h = number_passed bs none ∙ ap (λ o. option_or (mark_token o) (from_brackets bs)) h

covered_less : (rest : List ℕ) → CoveredMark Less rest
unfolding number_len decimal_len decimals_len mark_at two_byte_mark one_byte_mark
covered_less [] = whole_mark Less [] (mark_found (60 ∷ []) Less refl refl)
covered_less (b ∷ rest) = go (b == 62) (b == 61) refl refl
  where
    go : (greater equal : Bool) → (b == 62) ≡ greater → (b == 61) ≡ equal → CoveredMark Less (b ∷ rest)
    go true equal e f = longer_mark Less NotEqual (b ∷ rest) (mark_found (60 ∷ b ∷ rest) NotEqual refl (cc e)) (omega arith)
    go false true e f = longer_mark Less LessOrEqual (b ∷ rest) (mark_found (60 ∷ b ∷ rest) LessOrEqual refl (cc (e, f))) (omega arith)
    go false false e f = whole_mark Less (b ∷ rest) (mark_found (60 ∷ b ∷ rest) Less refl (cc (e, f)))

covered_greater : (rest : List ℕ) → CoveredMark Greater rest
unfolding number_len decimal_len decimals_len mark_at two_byte_mark one_byte_mark
covered_greater [] = whole_mark Greater [] (mark_found (62 ∷ []) Greater refl refl)
covered_greater (b ∷ rest) = go (b == 61) refl
  where
    go : (equal : Bool) → (b == 61) ≡ equal → CoveredMark Greater (b ∷ rest)
    go true e = longer_mark Greater GreaterOrEqual (b ∷ rest) (mark_found (62 ∷ b ∷ rest) GreaterOrEqual refl (cc e)) (omega arith)
    go false e = whole_mark Greater (b ∷ rest) (mark_found (62 ∷ b ∷ rest) Greater refl (cc e))

covered_mark : (m : mark.Mark) (rest : List ℕ) → CoveredMark m rest
unfolding number_len decimal_len decimals_len mark_at two_byte_mark one_byte_mark
covered_mark Less rest = covered_less rest
covered_mark Greater rest = covered_greater rest
covered_mark m rest = whole_mark m rest (mark_found (mark_text m ++ rest) m refl refl)

-- ---- every token is found, or a longer one

mark_some : (m : mark.Mark) → 0 < length (mark_text m)
mark_some NotEqual = omega arith
mark_some m = omega arith

reference_some : (text : List ℕ) → IsReference text → 0 < length text
reference_some text (one_cell c h) = omega arith

rectangle_some : (text : List ℕ) → IsRectangle text → 0 < length text
rectangle_some text (two_cells c d h k) = omega arith

-- no token is empty
pub token_some : (k : Kind) (text : List ℕ) → IsToken k text → 0 < length text
token_some Number text t = number_some text t
token_some Reference text t = reference_some text t
token_some Rectangle text t = rectangle_some text t
token_some Name text t = name_some text t
token_some Text text t = text_some text t
token_some (Mark m) text t = subst (λ x. 0 < length x) (sym t) (mark_some m)

covered_number : (text : List ℕ) → IsDecimalText text → (rest : List ℕ) → IsCovered Number text (text ++ rest)
covered_number text t rest =
    let more = number_more text t rest in
    record {
      kind = Number;
      len = number_len (text ++ rest);
      found = number_found (text ++ rest) (omega (arith, more, number_some text t));
      longer = more;
      same = λ _. refl;
    }

covered_reference : (text : List ℕ) → IsReference text → (rest : List ℕ) → IsCovered Reference text (text ++ rest)
covered_reference text (one_cell c h) rest =
    let whole = reference_complete c h rest in
    record {
      kind = Reference;
      len = reference_len ((91 ∷ 46 ∷ cell_text c ++ 93 ∷ []) ++ rest);
      found = reference_found (46 ∷ (cell_text c ++ 93 ∷ []) ++ rest) (omega (arith, whole));
      longer = omega (arith, whole);
      same = λ _. refl;
    }

covered_beside : (c d : WrittenCell) → IsCell c → IsCell d → (rest : List ℕ) → IsCovered Rectangle (bracketed (beside c d)) (bracketed (beside c d) ++ rest)
covered_beside c d h k rest =
    let whole = rectangle_complete c d h k rest in
    record {
      kind = Rectangle;
      len = rectangle_len (bracketed (beside c d) ++ rest);
      found = rectangle_found (46 ∷ (beside c d ++ 93 ∷ []) ++ rest) (no_reference_len c d h k rest) (omega (arith, whole));
      longer = omega (arith, whole);
      same = λ _. refl;
    }

covered_rectangle : (text : List ℕ) → IsRectangle text → (rest : List ℕ) → IsCovered Rectangle text (text ++ rest)
covered_rectangle text (two_cells c d h k) rest = subst (λ t. IsCovered Rectangle t (t ++ rest)) (rectangle_is c d) (covered_beside c d h k rest)

covered_name : (text : List ℕ) → IsName text → (rest : List ℕ) → IsCovered Name text (text ++ rest)
covered_name [] t rest = absurd (omega (arith, name_some [] t))
covered_name (b ∷ text) t rest =
    let longer = name_more (b ∷ text) t rest in
    record {
      kind = Name;
      len = name_len (b ∷ text ++ rest);
      found = name_found b (text ++ rest) t.start (omega (arith, longer));
      longer = longer;
      same = λ _. refl;
    }

covered_text : (text : List ℕ) → IsText text → (rest : List ℕ) → IsCovered Text text (text ++ rest)
covered_text text (of_content content) rest =
    let longer = text_more (quoted content) (of_content content) rest in
    record {
      kind = Text;
      len = text_len (quoted content ++ rest);
      found = text_found (inside_of content ++ rest) (omega (arith, longer));
      longer = longer;
      same = λ _. refl;
    }

covered : (j : Kind) (text : List ℕ) → IsToken j text → (rest : List ℕ) → IsCovered j text (text ++ rest)
covered Number text t rest = covered_number text t rest
covered Reference text t rest = covered_reference text t rest
covered Rectangle text t rest = covered_rectangle text t rest
covered Name text t rest = covered_name text t rest
covered Text text t rest = covered_text text t rest
covered (Mark m) text t rest = subst (λ x. IsCovered (Mark m) x (x ++ rest)) (sym t) (covered_mark m rest)

-- the token of kind j that is the first m bytes, at the front of them all
covered_front : (j : Kind) (m : ℕ) (bs : List ℕ) → IsToken j (take m bs) → IsCovered j (take m bs) bs
covered_front j m bs t = subst (λ x. IsCovered j (take m bs) x) (take-append-drop m bs) (covered j (take m bs) t (drop m bs))

-- ---- what is found stands there

record Stands (k : Kind) (n : ℕ) (bs : List ℕ) : Type 0 where
  within : n ≤ length bs
  token : IsToken k (take n bs)

abbrev pub found_token : Kind → ℕ → Option (Kind × ℕ)
found_token k n = Some (k, n)

same_token : (j k : Kind) (m n : ℕ) → found_token j m ≡ found_token k n → (j ≡ k) × (m ≡ n)
same_token j k m n h = let e = same_Some (j, m) (k, n) h in (ap (λ p. p.0) e, ap (λ p. p.1) e)

same_stands : (j k : Kind) (m n : ℕ) (bs : List ℕ) → found_token j m ≡ found_token k n → Stands j m bs → Stands k n bs
same_stands j k m n bs h s =
    let e = same_token j k m n h in
    subst (λ i. Stands i n bs) e.0 (subst (λ i. Stands j i bs) e.1 s)

-- what stands there if it has a length, or what later kinds find
stands_or : (j k : Kind) (m n : ℕ) (bs : List ℕ) (later : Option (Kind × ℕ)) → (0 < m → Stands j m bs) → (later ≡ found_token k n → Stands k n bs) → option_or (of_length j m) later ≡ found_token k n → Stands k n bs
stands_or j k m n bs later here next h = go (nat_lt 0 m) refl h
  where
    go : (t : Bool) → nat_lt 0 m ≡ t → option_or (cond t (found_token j m) None) later ≡ found_token k n → Stands k n bs
    go true e f = same_stands j k m n bs f (here (ltb-true 0 m e))
    go false e f = next f

last_stands : (j k : Kind) (m n : ℕ) (bs : List ℕ) → (0 < m → Stands j m bs) → of_length j m ≡ found_token k n → Stands k n bs
last_stands j k m n bs here h = stands_or j k m n bs None here (λ none. cc) (or_none (of_length j m) ∙ h)
  where
    or_none : (o : Option (Kind × ℕ)) → option_or o None ≡ o
    or_none None = refl
    or_none (Some t) = refl

mark_stands : (m : mark.Mark) (bs : List ℕ) → BeginsWith m bs → Stands (Mark m) (length (mark_text m)) bs
mark_stands m bs b = subst (Stands (Mark m) (length (mark_text m))) b.is record {
  within = omega (arith, length-append (mark_text m) b.after);
  token = take-append_seam (mark_text m) b.after;
}

mark_or : (k : Kind) (n : ℕ) (bs : List ℕ) (later : Option (Kind × ℕ)) → (later ≡ found_token k n → Stands k n bs) → option_or (mark_token (mark_at bs)) later ≡ found_token k n → Stands k n bs
mark_or k n bs later next h = go (mark_at bs) refl h
  where
    go : (o : Option mark.Mark) → mark_at bs ≡ o → option_or (mark_token o) later ≡ found_token k n → Stands k n bs
    go (Some m) e f = same_stands (Mark m) k (length (mark_text m)) n bs f (mark_stands m bs (mark_sound bs m e))
    go None e f = next f

-- what is found first, or what later kinds find
found_or : (k : Kind) (n : ℕ) (bs : List ℕ) (first later : Option (Kind × ℕ)) → (first ≡ found_token k n → Stands k n bs) → (later ≡ found_token k n → Stands k n bs) → option_or first later ≡ found_token k n → Stands k n bs
found_or k n bs (Some t) later here next h = here h
found_or k n bs None later here next h = next h

found_stands : (bs : List ℕ) (k : Kind) (n : ℕ) → token_at bs ≡ Some (k, n) → Stands k n bs
unfolding token_at
found_stands bs k n =
    stands_or Number k (number_len bs) n bs (from_mark bs) number
    (mark_or k n bs (from_brackets bs)
    (found_or k n bs (brackets_at bs) (from_name bs)
    (stands_or Reference k (reference_len bs) n bs (of_length Rectangle (rectangle_len bs)) reference (last_stands Rectangle k (rectangle_len bs) n bs rectangle))
    (stands_or Name k (name_len bs) n bs (of_length Text (text_len bs)) name
    (last_stands Text k (text_len bs) n bs text))))
  where
    number : 0 < number_len bs → Stands Number (number_len bs) bs
    number h = record { within = number_within bs; token = number_sound bs h }

    reference : 0 < reference_len bs → Stands Reference (reference_len bs) bs
    reference h = let s = reference_sound bs h in record { within = s.within; token = s.is }

    rectangle : 0 < rectangle_len bs → Stands Rectangle (rectangle_len bs) bs
    rectangle h = let s = rectangle_sound bs h in record { within = s.within; token = s.is }

    name : 0 < name_len bs → Stands Name (name_len bs) bs
    name h = let s = name_sound bs h in record { within = s.within; token = s.is }

    text : 0 < text_len bs → Stands Text (text_len bs) bs
    text h = record { within = text_within bs; token = text_sound bs h }

-- ---- the laws

pub token_sound : (bs : List ℕ) (k : Kind) (n : ℕ) → token_at bs ≡ Some (k, n) → IsLongest k n bs
token_sound bs k n h =
    let s = found_stands bs k n h in
    record { within = s.within; token = s.token; longest = no_longer }
  where
    no_longer : (j : Kind) (m : ℕ) → m ≤ length bs → IsToken j (take m bs) → m ≤ n
    no_longer j m w t =
        let c = covered_front j m bs t in
        let e = same_token c.kind k c.len n (sym c.found ∙ h) in
        omega (arith, c.longer, e.1, length-take-le m bs w)

pub token_complete : (bs : List ℕ) (k : Kind) (n : ℕ) → IsLongest k n bs → token_at bs ≡ Some (k, n)
token_complete bs k n h =
    let c = covered_front k n bs h.token in
    let s = found_stands bs c.kind c.len c.found in
    let short = h.longest c.kind c.len s.within s.token in
    let size = length-take-le n bs h.within in
    let len : c.len ≡ n = omega (arith, short, c.longer, size) in
    let kind = c.same (len ∙ sym size) in
    c.found ∙ ap (λ i. found_token i c.len) kind ∙ ap (λ i. found_token k i) len

pub none_begins : (bs : List ℕ) → token_at bs ≡ None → NoToken bs
none_begins bs h j m t = let c = covered_front j m bs t in cc (sym c.found ∙ h)

pub none_found : (bs : List ℕ) → NoToken bs → token_at bs ≡ None
none_found bs none = go (token_at bs) refl
  where
    go : (o : Option (Kind × ℕ)) → token_at bs ≡ o → o ≡ None
    go None e = refl
    go (Some t) e = absurd (none t.0 t.1 ((found_stands bs t.0 t.1 e).token))
