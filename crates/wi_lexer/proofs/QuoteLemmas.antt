-- The text in quotes found at the front is one, and no such text there is longer; its content.
use Rattle.wi_lexer.proofs.Words.{◌≡◌, ℕ, zero, suc, ◌+◌, ◌<◌, ◌≤◌, Bool, true, false, cond, not, ◌==◌, List, [], ◌∷◌, ◌++◌, length, take, drop, get_or, refl, sym, ap, ◌∙◌, subst, arith, append_assoc, append-nil, length-append, Option, Some, None, Bor, MatchOption, unwrap_or, nat_lt, flat_map, position_or_len, before_first, after_first, eqb-true, ne_eqb, ltb-true, ltb-false, lt-ltb, at_drop_more, drop_all, IsSplitOnceResult, split_once_first, doubled, quoted, one_longer, IsText, of_content, quoted_len, text_len, content_from, text_content}
use Rattle.wi_lexer.proofs.RunLemmas.{one_longer_some, one_longer_back, one_longer_within}

-- ---- a loop that looks for the last quote

-- what is found: n bytes from place i on, or the length found before where that is none
abbrev pub longest : ℕ → ℕ → ℕ → ℕ
longest len i n = cond (nat_lt 0 n) (i + n) len

longest_some : (len i n : ℕ) → 0 < n → longest len i n ≡ i + n
longest_some len i n h = ap (λ t. cond t (i + n) len) (lt-ltb 0 n h)

longest_more : (len i n : ℕ) → longest len i (one_longer n) ≡ longest len (i + 1) n
longest_more len i zero = refl
longest_more len i (suc k) =
    ap (longest len i) (one_longer_some (suc k) (omega arith))
    ∙ longest_some len i (suc (suc k)) (omega arith)
    ∙ omega arith
    ∙ sym (longest_some len (i + 1) (suc k) (omega arith))

longest_closed : (len i n : ℕ) → longest len i (1 + n) ≡ longest (i + 1) (i + 1) n
longest_closed len i zero = longest_some len i (1 + zero) (omega arith) ∙ omega arith
longest_closed len i (suc k) =
    longest_some len i (1 + suc k) (omega arith)
    ∙ omega arith
    ∙ sym (longest_some (i + 1) (i + 1) (suc k) (omega arith))

-- what is found in the whole is found from place i on, or was found before it
abbrev pub IsReached : Bool → ℕ → ℕ → List ℕ → Type 0
IsReached inside len i text = longest len i (quoted_len inside (drop i text)) ≡ text_len text

at_place : (inside : Bool) (i : ℕ) (text : List ℕ) → i < length text → quoted_len inside (drop i text) ≡ quoted_len inside (get_or text i 0 ∷ drop (i + 1) text)
at_place inside i text h = at_drop_more (quoted_len inside) text i 0 h

-- a quote closes the text, if it is the last
pub reached_close : (len i : ℕ) (text : List ℕ) → i < length text → get_or text i 0 ≡ 34 → IsReached true len i text → IsReached false (i + 1) (i + 1) text
unfolding quoted_len
reached_close len i text h quote r =
    let rest = drop (i + 1) text in
    let step : quoted_len true (drop i text) ≡ 1 + quoted_len false rest = at_place true i text h ∙ ap (λ b. quoted_len true (b ∷ rest)) quote in
    sym (longest_closed len i (quoted_len false rest)) ∙ ap (longest len i) (sym step) ∙ r

-- a quote opens the text, or goes with the one before it
pub reached_open : (len i : ℕ) (text : List ℕ) → i < length text → get_or text i 0 ≡ 34 → IsReached false len i text → IsReached true len (i + 1) text
unfolding quoted_len
reached_open len i text h quote r =
    let rest = drop (i + 1) text in
    let step : quoted_len false (drop i text) ≡ one_longer (quoted_len true rest) = at_place false i text h ∙ ap (λ b. quoted_len false (b ∷ rest)) quote in
    sym (longest_more len i (quoted_len true rest)) ∙ ap (longest len i) (sym step) ∙ r

-- any other byte inside the quotes
pub reached_more : (len i : ℕ) (text : List ℕ) → i < length text → (get_or text i 0 ≡ 34 → ⊥) → IsReached true len i text → IsReached true len (i + 1) text
unfolding quoted_len
reached_more len i text h other r =
    let rest = drop (i + 1) text in
    let step : quoted_len true (drop i text) ≡ one_longer (quoted_len true rest) =
    at_place true i text h ∙ ap (λ t. cond t (1 + quoted_len false rest) (one_longer (quoted_len true rest))) (ne_eqb (get_or text i 0) 34 other) in
    sym (longest_more len i (quoted_len true rest)) ∙ ap (longest len i) (sym step) ∙ r

-- any other byte after a quote
pub reached_end : (len i : ℕ) (text : List ℕ) → i < length text → (get_or text i 0 ≡ 34 → ⊥) → IsReached false len i text → len ≡ text_len text
unfolding quoted_len
reached_end len i text h other r =
    let rest = drop (i + 1) text in
    let step : quoted_len false (drop i text) ≡ 0 = at_place false i text h ∙ ap (λ t. cond t (one_longer (quoted_len true rest)) 0) (ne_eqb (get_or text i 0) 34 other) in
    ap (longest len i) (sym step) ∙ r

-- the end of all bytes
pub reached_all : (inside : Bool) (len i : ℕ) (text : List ℕ) → length text ≤ i → IsReached inside len i text → len ≡ text_len text
unfolding quoted_len
reached_all inside len i text end r = ap (λ bs. longest len i (quoted_len inside bs)) (sym (drop_all i text end)) ∙ r

-- ---- a loop that collects the content

-- the content so far and that of what is left are the content of the whole
abbrev pub IsRead : List ℕ → List ℕ → List ℕ → Type 0
IsRead content rest text = content ++ content_from true rest ≡ text_content text

abbrev is_quote : ℕ → Bool
is_quote b = b == 34

-- a function that gives each byte up to the first quote as it is, and goes on as another after that
module _ (f g : List ℕ → List ℕ) (none : f [] ≡ []) (step : (b : ℕ) (bs : List ℕ) → f (b ∷ bs) ≡ cond (b == 34) (g bs) (b ∷ f bs)) where
  cut_at_quote : (bs : List ℕ) → position_or_len is_quote bs < length bs → f bs ≡ before_first is_quote bs ++ g (after_first is_quote bs)
  cut_at_quote [] h = absurd (omega (arith, h))
  cut_at_quote (b ∷ bs) h = step b bs ∙ go (b == 34) (cut_at_quote bs) h
    where
      place : Bool → ℕ
      place t = cond (not t) (1 + position_or_len is_quote bs) 0

      go : (t : Bool) → (position_or_len is_quote bs < length bs → f bs ≡ before_first is_quote bs ++ g (after_first is_quote bs)) → place t < length (b ∷ bs)
          → cond t (g bs) (b ∷ f bs) ≡ take (place t) (b ∷ bs) ++ g (drop (place t + 1) (b ∷ bs))
      go true again k = refl
      go false again k =
          let n = position_or_len is_quote bs in
          let next : suc n ≡ 1 + n = omega arith in
          let after : suc (n + 1) ≡ 1 + n + 1 = omega arith in
          ap (λ x. b ∷ x) (again (omega (arith, k)))
          ∙ ap (λ i. take i (b ∷ bs) ++ g (drop (n + 1) bs)) next
          ∙ ap (λ i. take (1 + n) (b ∷ bs) ++ g (drop i (b ∷ bs))) after

  no_quote : (bs : List ℕ) → position_or_len is_quote bs ≡ length bs → f bs ≡ bs
  no_quote [] h = none
  no_quote (b ∷ bs) h = step b bs ∙ go (b == 34) (no_quote bs) h
    where
      go : (t : Bool) → (position_or_len is_quote bs ≡ length bs → f bs ≡ bs) → cond (not t) (1 + position_or_len is_quote bs) 0 ≡ length (b ∷ bs) → cond t (g bs) (b ∷ f bs) ≡ b ∷ bs
      go true again k = absurd (omega (arith, k))
      go false again k = ap (λ x. b ∷ x) (again (omega (arith, k)))

  -- what `split_once` at a quote tells of it
  pub piece_before : (bs : List ℕ) (r : Option (Bor (List ℕ) × Bor (List ℕ))) (x : Bor (List ℕ) × Bor (List ℕ)) → IsSplitOnceResult 34 bs r → r ≡ Some x → f bs ≡ x.0.now ++ g x.1.now
  piece_before bs r x h is =
      let (inside, front, back) = rw is at (split_once_first 34 bs r h (omega arith)) in
      cut_at_quote bs inside ∙ ap (λ y. y ++ g (after_first is_quote bs)) (sym front) ∙ ap (λ y. x.0.now ++ g y) (sym back)

  pub no_quote_left : (bs : List ℕ) (r : Option (Bor (List ℕ) × Bor (List ℕ))) → IsSplitOnceResult 34 bs r → r ≡ None → f bs ≡ bs
  no_quote_left bs r h is = no_quote bs (rw is at (split_once_first 34 bs r h (omega arith)))

content_step : (b : ℕ) (bs : List ℕ) → content_from true (b ∷ bs) ≡ cond (b == 34) (content_from false bs) (b ∷ content_from true bs)
unfolding content_from
content_step b bs = refl

no_content : content_from true [] ≡ []
unfolding content_from
no_content = refl

-- what `split_once` at a quote tells of the content
pub piece_is : (bs : List ℕ) (r : Option (Bor (List ℕ) × Bor (List ℕ))) (x : Bor (List ℕ) × Bor (List ℕ)) → IsSplitOnceResult 34 bs r → r ≡ Some x → content_from true bs ≡ x.0.now ++ content_from false x.1.now
piece_is = piece_before (content_from true) (content_from false) no_content content_step

pub rest_is : (bs : List ℕ) (r : Option (Bor (List ℕ) × Bor (List ℕ))) → IsSplitOnceResult 34 bs r → r ≡ None → content_from true bs ≡ bs
rest_is = no_quote_left (content_from true) (content_from false) no_content content_step

-- what `strip_prefix` of a quote tells
abbrev pub IsStripped : List ℕ → Option (Bor (List ℕ)) → Type 0
IsStripped bs r = MatchOption r ((rest : List ℕ) → bs ≡ 34 ∷ rest → ⊥) (λ x. bs ≡ 34 ∷ x.now)

no_more : (bs : List ℕ) → ((rest : List ℕ) → bs ≡ 34 ∷ rest → ⊥) → (content_from false bs ≡ []) × (text_content bs ≡ [])
unfolding content_from text_content
no_more [] h = (refl, refl)
no_more (b ∷ bs) h =
    let other : (b == 34) ≡ false = ne_eqb b 34 (λ e. h bs (ap (λ x. x ∷ bs) e)) in
    (ap (λ t. cond t (34 ∷ content_from true bs) []) other, ap (λ t. cond t (content_from true bs) []) other)

pub read_first : (text : List ℕ) (r : Option (Bor (List ℕ))) (default : Bor (List ℕ)) → IsStripped text r → default.now ≡ [] → IsRead [] (unwrap_or r default).now text
unfolding content_from text_content
read_first text None default h none = ap (content_from true) none ∙ sym ((no_more text h).1)
read_first text (Some x) default h none = sym (ap text_content h)

-- a quote that is doubled
pub read_more : (content rest text piece after next : List ℕ) → IsRead content rest text → content_from true rest ≡ piece ++ content_from false after → after ≡ 34 ∷ next → IsRead ((content ++ piece) ++ 34 ∷ []) next text
unfolding content_from
read_more content rest text piece after next r cut quote =
    append_assoc (content ++ piece) (34 ∷ []) (content_from true next)
    ∙ append_assoc content piece (34 ∷ content_from true next)
    ∙ ap (λ x. content ++ (piece ++ x)) (sym (ap (content_from false) quote))
    ∙ ap (λ x. content ++ x) (sym cut)
    ∙ r

-- the quote that closes the text
pub read_last : (content rest text piece after : List ℕ) → IsRead content rest text → content_from true rest ≡ piece ++ content_from false after → ((next : List ℕ) → after ≡ 34 ∷ next → ⊥) → content ++ piece ≡ text_content text
read_last content rest text piece after r cut none =
    ap (λ x. content ++ x) (sym (append-nil piece))
    ∙ ap (λ x. content ++ (piece ++ x)) (sym ((no_more after none).0))
    ∙ ap (λ x. content ++ x) (sym cut)
    ∙ r

-- ---- what is found at the front

-- what follows the first quote
abbrev pub inside_of : List ℕ → List ℕ
inside_of content = flat_map doubled content ++ 34 ∷ []

pub text_some : (text : List ℕ) → IsText text → 0 < length text
text_some text (of_content content) = omega arith

-- what follows the first quote is found up to its last one, and on where another follows that
inside_len : (content rest : List ℕ) → quoted_len true (inside_of content ++ rest) ≡ length (inside_of content) + quoted_len false rest
unfolding quoted_len
inside_len [] rest = omega arith
inside_len (b ∷ content) rest = go (b == 34) refl (inside_len content rest)
  where
    later : List ℕ
    later = flat_map doubled content

    go : (t : Bool) → (b == 34) ≡ t → quoted_len true (inside_of content ++ rest) ≡ length (inside_of content) + quoted_len false rest
        → quoted_len true (((cond t (34 ∷ 34 ∷ []) (b ∷ []) ++ later) ++ 34 ∷ []) ++ rest) ≡ length ((cond t (34 ∷ 34 ∷ []) (b ∷ []) ++ later) ++ 34 ∷ []) + quoted_len false rest
    go true e again =
        let n = quoted_len true (inside_of content ++ rest) in
        let size = length-append later (34 ∷ []) in
        omega (arith, again, size, one_longer_some n (omega (arith, again, size)))
    go false e again =
        let n = quoted_len true (inside_of content ++ rest) in
        let size = length-append later (34 ∷ []) in
        let step : quoted_len true (b ∷ inside_of content ++ rest) ≡ one_longer n = ap (λ t. cond t (1 + quoted_len false (inside_of content ++ rest)) (one_longer n)) e in
        omega (arith, again, size, step, one_longer_some n (omega (arith, again, size)))

-- a text at the front is found up to its end, and on where a quote follows
text_found : (text : List ℕ) → IsText text → (rest : List ℕ) → text_len (text ++ rest) ≡ length text + text_len rest
unfolding quoted_len
text_found text (of_content content) rest =
    let n = quoted_len true (inside_of content ++ rest) in
    let inside = inside_len content rest in
    let size = length-append (flat_map doubled content) (34 ∷ []) in
    omega (arith, inside, size, one_longer_some n (omega (arith, inside, size)))

pub text_more : (text : List ℕ) → IsText text → (rest : List ℕ) → length text ≤ text_len (text ++ rest)
text_more text t rest = omega (arith, text_found text t rest)

-- it is found whole where no quote follows
pub text_exact : (text : List ℕ) → IsText text → (rest : List ℕ) → text_len rest ≡ 0 → text_len (text ++ rest) ≡ length text
text_exact text t rest none = omega (arith, text_found text t rest, none)

quoted_within : (inside : Bool) (bs : List ℕ) → quoted_len inside bs ≤ length bs
unfolding quoted_len
quoted_within inside [] = omega arith
quoted_within true (b ∷ bs) = go (b == 34) (quoted_within true bs) (quoted_within false bs)
  where
    go : (t : Bool) → quoted_len true bs ≤ length bs → quoted_len false bs ≤ length bs → cond t (1 + quoted_len false bs) (one_longer (quoted_len true bs)) ≤ suc (length bs)
    go true h k = omega arith
    go false h k = omega (arith, one_longer_within (quoted_len true bs))
quoted_within false (b ∷ bs) = go (b == 34) (quoted_within true bs)
  where
    go : (t : Bool) → quoted_len true bs ≤ length bs → cond t (one_longer (quoted_len true bs)) 0 ≤ suc (length bs)
    go true h = omega (arith, one_longer_within (quoted_len true bs))
    go false h = omega arith

pub text_within : (bs : List ℕ) → text_len bs ≤ length bs
text_within bs = quoted_within false bs

-- the bytes are what follows the first quote of some content
record IsInside (bs : List ℕ) : Type 0 where
  content : List ℕ
  is : bs ≡ inside_of content

-- what is found stands there, inside the quotes and after one
record IsFound (bs : List ℕ) : Type 0 where
  inside : 0 < quoted_len true bs → IsInside (take (quoted_len true bs) bs)
  closed : 0 < quoted_len false bs → (rest : List ℕ) × (take (quoted_len false bs) bs ≡ 34 ∷ rest) × IsInside rest

more_inside : (b : ℕ) (bs : List ℕ) → (b == 34) ≡ false → IsInside bs → IsInside (b ∷ bs)
more_inside b bs e h = record {
  content = b ∷ h.content;
  is = ap (λ x. b ∷ x) h.is ∙ ap (λ t. (cond t (34 ∷ 34 ∷ []) (b ∷ []) ++ flat_map doubled h.content) ++ 34 ∷ []) (sym e);
}

take_one : (b : ℕ) (bs : List ℕ) (n : ℕ) → 0 < n → take (one_longer n) (b ∷ bs) ≡ b ∷ take n bs
take_one b bs n h = ap (λ i. take i (b ∷ bs)) (one_longer_some n h)

found_inside : (b : ℕ) (bs : List ℕ) → IsFound bs → 0 < quoted_len true (b ∷ bs) → IsInside (take (quoted_len true (b ∷ bs)) (b ∷ bs))
unfolding quoted_len
found_inside b bs again some = go (b == 34) refl some
  where
    m : ℕ
    m = quoted_len false bs

    n : ℕ
    n = quoted_len true bs

    closes : b ≡ 34 → (t : Bool) → nat_lt 0 m ≡ t → IsInside (take (1 + m) (b ∷ bs))
    closes is true e =
        let next : 1 + m ≡ suc m = omega arith in
        let more = again.closed (ltb-true 0 m e) in
        record {
          content = 34 ∷ more.2.content;
          is = ap (λ i. take i (b ∷ bs)) next ∙ ap (λ x. x ∷ take m bs) is ∙ ap (λ x. 34 ∷ x) (more.1 ∙ ap (λ x. 34 ∷ x) more.2.is);
        }
    closes is false e =
        let last : 1 + m ≡ 1 = omega (arith, ltb-false 0 m e) in
        record { content = []; is = ap (λ i. take i (b ∷ bs)) last ∙ ap (λ x. x ∷ []) is }

    go : (t : Bool) → (b == 34) ≡ t → 0 < cond t (1 + m) (one_longer n) → IsInside (take (cond t (1 + m) (one_longer n)) (b ∷ bs))
    go true e h = closes (eqb-true b 34 e) (nat_lt 0 m) refl
    go false e h =
        let more = one_longer_back n h in
        subst IsInside (sym (take_one b bs n more)) (more_inside b (take n bs) e (again.inside more))

found_closed : (b : ℕ) (bs : List ℕ) → IsFound bs → 0 < quoted_len false (b ∷ bs) → (rest : List ℕ) × (take (quoted_len false (b ∷ bs)) (b ∷ bs) ≡ 34 ∷ rest) × IsInside rest
unfolding quoted_len
found_closed b bs again some = go (b == 34) refl some
  where
    n : ℕ
    n = quoted_len true bs

    go : (t : Bool) → (b == 34) ≡ t → 0 < cond t (one_longer n) 0 → (rest : List ℕ) × (take (cond t (one_longer n) 0) (b ∷ bs) ≡ 34 ∷ rest) × IsInside rest
    go true e h =
        let more = one_longer_back n h in
        (take n bs, take_one b bs n more ∙ ap (λ x. x ∷ take n bs) (eqb-true b 34 e), again.inside more)
    go false e h = absurd (omega (arith, h))

found : (bs : List ℕ) → IsFound bs
unfolding quoted_len
found [] = record { inside = λ h. absurd (omega (arith, h)); closed = λ h. absurd (omega (arith, h)) }
found (b ∷ bs) =
    let again = found bs in
    record { inside = found_inside b bs again; closed = found_closed b bs again }

pub text_sound : (bs : List ℕ) → 0 < text_len bs → IsText (take (text_len bs) bs)
text_sound bs some =
    let t = (found bs).closed some in
    subst IsText (sym (t.1 ∙ ap (λ x. 34 ∷ x) t.2.is)) (of_content t.2.content)

-- ---- the content

inside_content : (content : List ℕ) → content_from true (inside_of content) ≡ content
unfolding content_from
inside_content [] = refl
inside_content (b ∷ content) = go (b == 34) refl (inside_content content)
  where
    go : (t : Bool) → (b == 34) ≡ t → content_from true (inside_of content) ≡ content → content_from true ((cond t (34 ∷ 34 ∷ []) (b ∷ []) ++ flat_map doubled content) ++ 34 ∷ []) ≡ b ∷ content
    go true e again = ap (λ x. 34 ∷ x) again ∙ ap (λ x. x ∷ content) (sym (eqb-true b 34 e))
    go false e again = ap (λ t. cond t (content_from false (inside_of content)) (b ∷ content_from true (inside_of content))) e ∙ ap (λ x. b ∷ x) again

pub text_reads_back : (content : List ℕ) → text_content (quoted content) ≡ content
unfolding text_content
text_reads_back content = inside_content content
