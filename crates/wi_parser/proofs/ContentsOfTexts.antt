-- What a text is taken for, and nothing else: the tree that is parsed, the content that is read.
use Rattle.wi_parser.proofs.Words.{◌≡◌, ◌↔◌, ℕ, ◌+◌, Bool, true, false, nat_lt, List, [], ◌∷◌, ◌++◌, length, Option, Some, None, is_some, option_map, unwrap_or, Result, Ok, Err, ok_or, if◌then◌else◌, refl, sym, ap, ◌∙◌, subst, inl, inr, drop, arith, nat_tests, list_any, ltb-false, IsTrue, ◌≤◌, ◌<◌, Value, max_text, imported, IsImported, imported_exactly, tokens, Content, Constant, Formula, ParseFault, TooLong, OutOfSheet, NumberRange, TooDeep, Syntax, Memory, IsFormulaText, IsNoFormulaText, IsTextOf, AreJudged, at_fault, a_tree, no_tree, IsParsed, too_long, as_judged, IsConstantText, IsContent, a_formula, a_constant, HasSymbols, IsTooLong, a_long_formula, a_long_text, a_long_constant, HasFault, faults, IsFirstFault, IsAnsweredAs, IsSpelling, bad_token, is_out_of_sheet, is_unfit, is_too_deep, symbols_of, symbols_by, after, after_prefix, after_equals, formula_symbols, Spells, loosest, max_depth, whole, max_formula, refusal_of, unless_refused, judged, parsed, as_content, taken_as_text, constant_read, content_read, Symbol, AreSymbols, Tree}
use Rattle.std.specs.Prelude.{codes}
use Rattle.std.specs.List.{Contains}
use Rattle.std.proofs.lemmas.List.Folds.{Any-from_list_any, list_any_at}
use Rattle.wi_values.specs.declared.value.Value.TheVariants.{Text}
use Rattle.wi_parser.specs.Contents.{plain, prefixed, a_text}
use Rattle.wi_parser.proofs.Complete.{whole_complete, one_tree}
use Rattle.wi_parser.proofs.Depth.{depth-deepest}
use Rattle.wi_parser.proofs.TooDeep.{few_open}
use Rattle.wi_parser.proofs.Fronts.{after-append, after-some}
use Rattle.wi_parser.proofs.Grammatical.{spelling_exactly}
use Rattle.wi_parser.proofs.Parses.{by_depth, parsed_exactly, parsed_long, parsed_short, no_refused_first, shallow}
use Rattle.wi_parser.proofs.Sound.{whole_sound}
use Rattle.wi_parser.proofs.SymbolsOfTexts.{symbols_exactly}

-- ---- symbols

-- what is spelled is read, where it is not refused
spelled_read : (ts : List Symbol) (t : Tree) → refusal_of ts ≡ None → Spells loosest t ts → whole (max_depth + 1) ts ≡ Some t
spelled_read ts t h s = whole_complete max_depth ts t s (omega (arith, depth-deepest t ts s, few_open ts (shallow ts h)))

nothing_read : (ts : List Symbol) → ((t : Tree) → Spells loosest t ts → ⊥) → (o : Option Tree) → whole (max_depth + 1) ts ≡ o → whole (max_depth + 1) ts ≡ None
nothing_read ts none None e = e
nothing_read ts none (Some t) e = absurd (none t (whole_sound (max_depth + 1) ts t e))

judged_holds : (ts : List Symbol) → AreJudged ts (judged ts)
judged_holds ts = by_refusal (refusal_of ts) refl
  where
    by_tree : refusal_of ts ≡ None → (o : Option Tree) → whole (max_depth + 1) ts ≡ o → AreJudged ts (ok_or o Syntax)
    by_tree h (Some t) e = a_tree ts t h ((spelling_exactly t ts).1 (whole_sound (max_depth + 1) ts t e))
    by_tree h None e = no_tree ts h (λ t s. let f = spelled_read ts t h ((spelling_exactly t ts).0 s) in cc)

    by_refusal : (o : Option ParseFault) → refusal_of ts ≡ o → AreJudged ts (unless_refused o (whole (max_depth + 1) ts))
    by_refusal (Some e) h = at_fault ts e h
    by_refusal None h = by_tree h (whole (max_depth + 1) ts) refl

judged_is : (ts : List Symbol) (r : Result Tree ParseFault) → AreJudged ts r → judged ts ≡ r
judged_is ts r (at_fault us e h) = ap (λ o. unless_refused o (whole (max_depth + 1) us)) h
judged_is ts r (a_tree us t h s) = ap (λ o. unless_refused o (whole (max_depth + 1) us)) h ∙ ap (λ o. ok_or o Syntax) (spelled_read us t h ((spelling_exactly t us).0 s))
judged_is ts r (no_tree us h none) =
    ap (λ o. unless_refused o (whole (max_depth + 1) us)) h ∙ ap (λ o. ok_or o Syntax) (nothing_read us (λ t s. none t ((spelling_exactly t us).1 s)) (whole (max_depth + 1) us) refl)

-- ---- the text of a formula

body_symbols : (text body : List ℕ) → IsFormulaText text body → formula_symbols text ≡ symbols_of (tokens body)
unfolding formula_symbols
body_symbols text body (plain bs) = refl
body_symbols text body (prefixed bs) = refl

pub formula_symbols_exactly : (text body : List ℕ) (ts : List Symbol) → IsFormulaText text body → AreSymbols body ts ↔ (formula_symbols text ≡ ts)
formula_symbols_exactly text body ts f =
    let is = body_symbols text body f in
    let both = symbols_exactly body ts in
    (λ h. is ∙ both.0 h, λ e. both.1 (sym is ∙ e))

parsed_holds : (text body : List ℕ) → IsFormulaText text body → IsParsed text (parsed text)
unfolding parsed
parsed_holds text body f = by_length (nat_lt max_formula (length text)) refl
  where
    by_length : (b : Bool) → nat_lt max_formula (length text) ≡ b → IsParsed text (if b then Err TooLong else judged (formula_symbols text))
    by_length true e = too_long text body f (grind (arith, nat_tests, e))
    by_length false e =
        let symbols = (formula_symbols_exactly text body (formula_symbols text) f).1 refl in
        as_judged text body (formula_symbols text) (judged (formula_symbols text)) f (grind (arith, nat_tests, e)) symbols (judged_holds (formula_symbols text))

parsed_is : (text : List ℕ) (r : Result Tree ParseFault) → IsParsed text r → parsed text ≡ r
parsed_is text r (too_long bs body f long) = parsed_long bs long
parsed_is text r (as_judged bs body ts s f short h j) = parsed_short bs short ∙ ap judged ((formula_symbols_exactly bs body ts f).0 h) ∙ judged_is ts s j

pub parsed_is_one : (text body : List ℕ) (r : Result Tree ParseFault) → IsFormulaText text body → IsParsed text r ↔ (parsed text ≡ r)
parsed_is_one text body r f = (parsed_is text r, λ e. subst (IsParsed text) e (parsed_holds text body f))

-- ---- how a text begins

formula_text : (text body : List ℕ) → after_equals text ≡ Some body → IsFormulaText text body
formula_text text body e = by_prefix (after (codes "of:") text) refl e
  where
    by_prefix : (o : Option (List ℕ)) → after (codes "of:") text ≡ o → after (codes "=") (unwrap_or o text) ≡ Some body → IsFormulaText text body
    by_prefix None f g = subst (λ t. IsFormulaText t body) (sym (after-some (codes "=") text body g)) (plain body)
    by_prefix (Some rest) f g =
        let is : text ≡ codes "of:=" ++ body = after-some (codes "of:") text rest f ∙ ap (λ t. codes "of:" ++ t) (after-some (codes "=") rest body g) in
        subst (λ t. IsFormulaText t body) (sym is) (prefixed body)

body_after : (text body : List ℕ) → IsFormulaText text body → after_equals text ≡ Some body
body_after text body (plain bs) = refl
body_after text body (prefixed bs) = refl

-- ---- no text has two trees, and one that is no formula's has none

symbols_have : (text : List ℕ) (P : List Symbol → Type 0) → HasSymbols text P → P (formula_symbols text)
symbols_have text P h = subst P (sym ((formula_symbols_exactly text h.0 h.1 h.2).0 h.3)) h.4

spelled_by : (text : List ℕ) (t : Tree) → IsTextOf text t → Spells loosest t (formula_symbols text)
spelled_by text t a = (spelling_exactly t (formula_symbols text)).0 (symbols_have text (IsSpelling t) a)

pub one_tree_of_text : (text : List ℕ) (t u : Tree) → IsTextOf text t → IsTextOf text u → t ≡ u
one_tree_of_text text t u a b = one_tree t u (formula_symbols text) (spelled_by text t a) (spelled_by text u b)

nothing_spelled : (text : List ℕ) → IsNoFormulaText text → (t : Tree) → Spells loosest t (formula_symbols text) → ⊥
unfolding formula_symbols
nothing_spelled text none t s = by_equals (after_equals text) refl s
  where
    by_equals : (o : Option (List ℕ)) → after_equals text ≡ o → Spells loosest t (symbols_by (after_prefix text) o) → ⊥
    by_equals (Some body) e u = none body (formula_text text body e)
    by_equals None e u = no_refused_first Syntax _ t u

pub no_formula_is_refused : (text : List ℕ) → IsNoFormulaText text → (e : ParseFault) × (parsed text ≡ Err e)
no_formula_is_refused text none = by_result (parsed text) refl
  where
    by_result : (r : Result Tree ParseFault) → parsed text ≡ r → (e : ParseFault) × (parsed text ≡ Err e)
    by_result (Err e) h = (e, h)
    by_result (Ok t) h = absurd (nothing_spelled text none t ((parsed_exactly text t).0 h).1)

constant_text : (text : List ℕ) → after_equals text ≡ None → after (codes "'") text ≡ None → IsConstantText text
constant_text text e f = record {
  no_formula = λ body h. let g = body_after text body h in cc;
  no_apostrophe = λ rest is. let g = ap (after (codes "'")) is ∙ after-append (codes "'") rest in cc;
}

no_body : (text : List ℕ) → IsConstantText text → (o : Option (List ℕ)) → after_equals text ≡ o → after_equals text ≡ None
no_body text h None e = e
no_body text h (Some body) e = absurd (h.no_formula body (formula_text text body e))

no_rest : (text : List ℕ) → IsConstantText text → (o : Option (List ℕ)) → after (codes "'") text ≡ o → after (codes "'") text ≡ None
no_rest text h None e = e
no_rest text h (Some rest) e = absurd (h.no_apostrophe rest (after-some (codes "'") text rest e))

-- ---- texts that are too long

no_formula : (text : List ℕ) → after_equals text ≡ None → (body : List ℕ) → IsFormulaText text body → ⊥
no_formula text e body f = let g = body_after text body f in cc

long_formula : (text : List ℕ) → IsTooLong text → (body : List ℕ) → IsFormulaText text body → max_formula < length text
long_formula text (a_long_formula bs b g long) body f = long
long_formula text (a_long_text rest long) body f = absurd (no_formula (codes "'" ++ rest) refl body f)
long_formula text (a_long_constant bs c h) body f = absurd (c.no_formula body f)

long_text : (text : List ℕ) → IsTooLong text → (rest : List ℕ) → text ≡ codes "'" ++ rest → max_text < length rest
long_text text (a_long_formula bs b g long) rest e = absurd (no_formula bs (ap after_equals e) b g)
long_text text (a_long_text other long) rest e = subst (λ t. max_text < length t) (ap (drop 1) e) long
long_text text (a_long_constant bs c h) rest e = absurd (c.no_apostrophe rest e)

long_constant : (text : List ℕ) → IsTooLong text → IsConstantText text → IsImported text None
long_constant text (a_long_formula bs b g long) c = absurd (c.no_formula b g)
long_constant text (a_long_text other long) c = absurd (c.no_apostrophe other refl)
long_constant text (a_long_constant bs d h) c = h

-- ---- the faults of a formula

only_outside : (s : Symbol) → is_out_of_sheet s ≡ true → s ≡ bad_token OutOfSheet
only_outside (bad_token OutOfSheet) h = refl
only_outside s h = cc

only_unfit : (s : Symbol) → is_unfit s ≡ true → s ≡ bad_token NumberRange
only_unfit (bad_token NumberRange) h = refl
only_unfit s h = cc

has_bad : (p : Symbol → Bool) (e : ParseFault) → ((s : Symbol) → p s ≡ true → s ≡ bad_token e) → (ts : List Symbol) → list_any p ts ≡ true → Contains ts (bad_token e)
has_bad p e only ts h =
    let a = Any-from_list_any p ts h in
    subst (Contains ts) (only a.1 a.4) (a.0, a.2, a.3)

none_bad : (p : Symbol → Bool) (e : ParseFault) → p (bad_token e) ≡ true → (ts : List Symbol) → list_any p ts ≡ false → Contains ts (bad_token e) → ⊥
none_bad p e passes ts h c = let k = list_any_at p ts c.0 (bad_token e) c.1 (ap p c.2 ∙ passes) in cc

module _ (text body : List ℕ) (f : IsFormulaText text body) (short : IsTooLong text → ⊥) where
  has : (P : List Symbol → Type 0) → P (formula_symbols text) → HasSymbols text P
  has P p = (body, formula_symbols text, f, (formula_symbols_exactly text body (formula_symbols text) f).1 refl, p)

  inside : list_any is_out_of_sheet (formula_symbols text) ≡ false → HasFault text OutOfSheet → ⊥
  inside p h = none_bad is_out_of_sheet OutOfSheet refl (formula_symbols text) p (symbols_have text (λ ts. Contains ts (bad_token OutOfSheet)) h)

  fits : list_any is_unfit (formula_symbols text) ≡ false → HasFault text NumberRange → ⊥
  fits p h = none_bad is_unfit NumberRange refl (formula_symbols text) p (symbols_have text (λ ts. Contains ts (bad_token NumberRange)) h)

  is_shallow : is_too_deep (formula_symbols text) ≡ false → HasFault text TooDeep → ⊥
  is_shallow p h = let k = symbols_have text (λ ts. IsTrue (is_too_deep ts)) h in cc

  -- by the three tests before a tree is read, and what is read
  judged_answered : (a b c : Bool) → list_any is_out_of_sheet (formula_symbols text) ≡ a → list_any is_unfit (formula_symbols text) ≡ b → is_too_deep (formula_symbols text) ≡ c
      → (o : Option Tree) → whole (max_depth + 1) (formula_symbols text) ≡ o
      → IsAnsweredAs text (as_content (unless_refused (if a then Some OutOfSheet else (if b then Some NumberRange else (if c then Some TooDeep else None))) o))
  judged_answered true b c p q r o e = inr (short, inl (has (λ ts. Contains ts (bad_token OutOfSheet)) (has_bad is_out_of_sheet OutOfSheet only_outside _ p), refl))
  judged_answered false true c p q r o e =
      inr (short, inr (inside p, inl (has (λ ts. Contains ts (bad_token NumberRange)) (has_bad is_unfit NumberRange only_unfit _ q), refl)))
  judged_answered false false true p q r o e = inr (short, inr (inside p, inr (fits q, inl (has (λ ts. IsTrue (is_too_deep ts)) r, refl))))
  judged_answered false false false p q r None e =
      inr (short, inr (inside p, inr (fits q, inr (is_shallow r, inl (has (λ ts. (t : Tree) → IsSpelling t ts → ⊥) none, refl)))))
    where
      none : (t : Tree) → IsSpelling t (formula_symbols text) → ⊥
      none t s =
          let k = spelled_read (formula_symbols text) t (by_depth (formula_symbols text) p q ∙ ap (λ x. if x then Some TooDeep else None) r) ((spelling_exactly t (formula_symbols text)).0 s) in
          cc
  judged_answered false false false p q r (Some t) e = (a_formula text t (has (IsSpelling t) spelled), no_fault)
    where
      spelled : IsSpelling t (formula_symbols text)
      spelled = (spelling_exactly t (formula_symbols text)).1 (whole_sound (max_depth + 1) (formula_symbols text) t e)

      no_fault : (x : ParseFault) → HasFault text x → ⊥
      no_fault TooLong h = short h
      no_fault OutOfSheet h = inside p h
      no_fault NumberRange h = fits q h
      no_fault TooDeep h = is_shallow r h
      no_fault Syntax h = symbols_have text (λ ts. (u : Tree) → IsSpelling u ts → ⊥) h t spelled
      no_fault Memory h = h

-- ---- what is answered

formula_answered : (text body : List ℕ) → IsFormulaText text body → IsAnsweredAs text (as_content (parsed text))
unfolding parsed
formula_answered text body f = by_length (nat_lt max_formula (length text)) refl
  where
    by_length : (b : Bool) → nat_lt max_formula (length text) ≡ b → IsAnsweredAs text (as_content (if b then Err TooLong else judged (formula_symbols text)))
    by_length true e = inl (a_long_formula text body f (grind (arith, nat_tests, e)), refl)
    by_length false e =
        judged_answered text body f (λ h. omega (arith, ltb-false max_formula (length text) e, long_formula text h body f)) _ _ _ refl refl refl (whole (max_depth + 1) (formula_symbols text)) refl

only_long : (text : List ℕ) → after_equals text ≡ None → (IsTooLong text → ⊥) → (x : ParseFault) → HasFault text x → ⊥
only_long text e short TooLong h = short h
only_long text e short OutOfSheet h = no_formula text e h.0 h.2
only_long text e short NumberRange h = no_formula text e h.0 h.2
only_long text e short TooDeep h = no_formula text e h.0 h.2
only_long text e short Syntax h = no_formula text e h.0 h.2
only_long text e short Memory h = h

text_answered : (rest : List ℕ) (b : Bool) → nat_lt max_text (length rest) ≡ b → IsAnsweredAs (codes "'" ++ rest) (if b then Err TooLong else Ok (Constant (Text rest)))
text_answered rest true e = inl (a_long_text rest (grind (arith, nat_tests, e)), refl)
text_answered rest false e =
    (a_text rest, only_long (codes "'" ++ rest) refl (λ h. omega (arith, ltb-false max_text (length rest) e, long_text (codes "'" ++ rest) h rest refl)))

constant_answered : (text : List ℕ) (o : Option Value) → after_equals text ≡ None → IsConstantText text → IsImported text o
    → IsAnsweredAs text (ok_or (option_map Constant o) TooLong)
constant_answered text (Some v) e c h = (a_constant text v c h, only_long text e short)
  where
    short : IsTooLong text → ⊥
    short l =
        let long = (imported_exactly text None).0 (long_constant text l c) in
        let some = (imported_exactly text (Some v)).0 h in
        cc
constant_answered text None e c h = inl (a_long_constant text c h, refl)

content_answered : (text : List ℕ) → IsAnsweredAs text (content_read text)
unfolding content_read
content_answered text = by_equals (after_equals text) refl
  where
    by_apostrophe : after_equals text ≡ None → (o : Option (List ℕ)) → after (codes "'") text ≡ o → IsAnsweredAs text (constant_read text o)
    by_apostrophe e None f = constant_answered text (imported text) e (constant_text text e f) ((imported_exactly text (imported text)).1 refl)
    by_apostrophe e (Some rest) f =
        subst (λ t. IsAnsweredAs t (taken_as_text rest)) (sym (after-some (codes "'") text rest f)) (text_answered rest (nat_lt max_text (length rest)) refl)

    by_equals : (o : Option (List ℕ)) → after_equals text ≡ o → IsAnsweredAs text (if is_some o then as_content (parsed text) else constant_read text (after (codes "'") text))
    by_equals (Some body) e = formula_answered text body (formula_text text body e)
    by_equals None e = by_apostrophe e (after (codes "'") text) refl

-- ---- and nothing else

formula_is : (text : List ℕ) (c : Content) → IsContent text c → (t : Tree) → IsTextOf text t → c ≡ Formula t
formula_is text c (a_formula bs u h) t k = ap Formula (one_tree_of_text bs u t h k)
formula_is text c (a_text rest) t k = absurd (no_formula (codes "'" ++ rest) refl k.0 k.2)
formula_is text c (a_constant bs v d h) t k = absurd (d.no_formula k.0 k.2)

text_is : (text : List ℕ) (c : Content) → IsContent text c → (rest : List ℕ) → text ≡ codes "'" ++ rest → c ≡ Constant (Text rest)
text_is text c (a_formula bs u h) rest e = absurd (no_formula bs (ap after_equals e) h.0 h.2)
text_is text c (a_text other) rest e = ap (λ t. Constant (Text (drop 1 t))) e
text_is text c (a_constant bs v d h) rest e = absurd (d.no_apostrophe rest e)

constant_is : (text : List ℕ) (c : Content) → IsContent text c → IsConstantText text → (v : Value) → IsImported text (Some v) → c ≡ Constant v
constant_is text c (a_formula bs u h) d v k = absurd (d.no_formula h.0 h.2)
constant_is text c (a_text rest) d v k = absurd (d.no_apostrophe rest refl)
constant_is text c (a_constant bs w b h) d v k =
    let same = sym ((imported_exactly bs (Some w)).0 h) ∙ (imported_exactly bs (Some v)).0 k in
    cc

pub one_content : (text : List ℕ) (c d : Content) → IsContent text c → IsContent text d → d ≡ c
one_content text c d (a_formula bs t h) k = formula_is bs d k t h
one_content text c d (a_text rest) k = text_is (codes "'" ++ rest) d k rest refl
one_content text c d (a_constant bs v b h) k = constant_is bs d k b v h

pub is_fault : (text : List ℕ) (xs : List ParseFault) (e : ParseFault) → IsFirstFault text xs e → HasFault text e
is_fault text [] e h = absurd h
is_fault text (x ∷ xs) e (inl h) = subst (HasFault text) (sym h.1) h.0
is_fault text (x ∷ xs) e (inr h) = is_fault text xs e h.1

one_first : (text : List ℕ) (xs : List ParseFault) (e g : ParseFault) → IsFirstFault text xs e → IsFirstFault text xs g → e ≡ g
one_first text [] e g h k = absurd h
one_first text (x ∷ xs) e g (inl h) (inl k) = h.1 ∙ sym k.1
one_first text (x ∷ xs) e g (inl h) (inr k) = absurd (k.0 h.0)
one_first text (x ∷ xs) e g (inr h) (inl k) = absurd (h.0 k.0)
one_first text (x ∷ xs) e g (inr h) (inr k) = one_first text xs e g h.1 k.1

one_answer : (text : List ℕ) (r q : Result Content ParseFault) → IsAnsweredAs text r → IsAnsweredAs text q → r ≡ q
one_answer text (Ok c) (Ok d) h k = ap Ok (one_content text d c k.0 h.0)
one_answer text (Ok c) (Err e) h k = absurd (h.1 e (is_fault text faults e k))
one_answer text (Err e) (Ok d) h k = absurd (k.1 e (is_fault text faults e h))
one_answer text (Err e) (Err g) h k = ap Err (one_first text faults e g h k)

pub content_is_one : (text : List ℕ) (r : Result Content ParseFault) → IsAnsweredAs text r ↔ (content_read text ≡ r)
content_is_one text r = (one_answer text (content_read text) r (content_answered text), λ e. subst (IsAnsweredAs text) e (content_answered text))
