-- Spaces before a word and behind it, and the CR at the end of a line.
use Rattle.wi_cli.proofs.Vocabulary.{◌≡◌, ℕ, zero, suc, ◌+◌, ◌-◌, ◌<◌, ◌≤◌, Bool, true, false, cond, eqb, nat_eq, List, [], ◌∷◌, ◌++◌, length, take, drop, get_or, refl, sym, ap, ◌∙◌, subst, ⊎_elim, Option, None, Some, arith, ◌&&◌, pointwise, IfSome, FindsCharPrefix, CutsPrefixes, IsTrimStartMatches, IsCharBoundary, IsCharBoundary-before_ascii, IsCharBoundary-end, drop_at_char, drop_all, drop_more, take_rest, prefix_len, position_or_len, passes_at_first, after_first, cases_lt, false≢true, eqb-true, encode_ascii, is_space, skip_spaces, without_cr}

-- what is cut off are spaces
cut : (s : List ℕ) (ns : List ℕ) (r : List ℕ) → CutsPrefixes (FindsCharPrefix 32) s ns r → skip_spaces s ≡ skip_spaces r
cut s [] r h = ap skip_spaces (sym h)
cut s (n ∷ ns) r h =
    let m = h.0 in
    let begins : m ≡ 32 ∷ r = drop_at_char 32 m 0 n h.2 (omega arith) ∙ ap (λ x. 32 ∷ x) (sym h.3) in
    cut s ns m h.1 ∙ ap skip_spaces begins

-- a text that begins with no space
bare : (r : List ℕ) (o : Option ℕ) → FindsCharPrefix 32 r o → IfSome o (λ n. n ≡ 0) → skip_spaces r ≡ r
bare [] o h k = refl
bare (b ∷ bs) None h k = go (eqb b 32) refl where
  go : (v : Bool) → eqb b 32 ≡ v → skip_spaces (b ∷ bs) ≡ b ∷ bs
  go true e = absurd (h bs (ap (λ x. x ∷ bs) (eqb-true b 32 e) ∙ ap (λ x. x ++ bs) (sym (encode_ascii 32 (omega arith)))))
  go false e = ap (λ v. cond v (skip_spaces bs) (b ∷ bs)) e
bare (b ∷ bs) (Some n) h k = let e = h.ends in absurd (omega arith)

pub trimmed : (s r : List ℕ) → IsTrimStartMatches (FindsCharPrefix 32) s r → r ≡ skip_spaces s
trimmed s r h = sym (cut s h.0.0 r h.0.1 ∙ bare r h.1.0 h.1.1 h.1.2)

-- ---- the same of bytes

dropped : (bs : List ℕ) → drop (prefix_len is_space bs) bs ≡ skip_spaces bs
dropped [] = refl
dropped (b ∷ bs) = go (eqb b 32) (dropped bs) where
  go : (v : Bool) → drop (prefix_len is_space bs) bs ≡ skip_spaces bs → drop (cond v (1 + prefix_len is_space bs) 0) (b ∷ bs) ≡ cond v (skip_spaces bs) (b ∷ bs)
  go true h = let n : 1 + prefix_len is_space bs ≡ suc (prefix_len is_space bs) = omega arith in ap (λ k. drop k (b ∷ bs)) n ∙ h
  go false h = refl

pub spaces_off : (bs : List ℕ) (n : ℕ) → n ≡ prefix_len is_space bs → take (length bs - n) (drop n bs) ≡ skip_spaces bs
spaces_off bs n e = take_rest bs n ∙ ap (λ k. drop k bs) e ∙ dropped bs

-- ---- where a word ends

at_space : (text : List ℕ) (n : ℕ) → n ≡ position_or_len is_space text → n < length text → get_or text n 0 ≡ 32
at_space text n e l =
    ap (λ k. get_or text k 0) e ∙ eqb-true _ 32 (passes_at_first is_space text 0 (subst (λ k. k < length text) e l))

pub cut_at_word : (text : List ℕ) (n : ℕ) → n ≡ position_or_len is_space text → n ≤ length text → IsCharBoundary text n
cut_at_word text n e most = ⊎_elim
    (λ (l : n < length text). let space = at_space text n e l in IsCharBoundary-before_ascii text n l (omega (arith, space)))
    (λ (l : length text ≤ n). let end : length text ≡ n = omega arith in subst (IsCharBoundary text) end (IsCharBoundary-end text))
    (cases_lt n (length text))

-- a space follows it
pub space_follows : (text rest behind : List ℕ) (n : ℕ) → n ≡ position_or_len is_space text → rest ≡ drop n text → rest ≡ 32 ∷ behind → behind ≡ after_first is_space text
space_follows text rest behind n e r s = ⊎_elim
    (λ (l : n < length text). ap (drop 1) (sym s ∙ r ∙ drop_more text n 0 l) ∙ ap (λ k. drop (k + 1) text) e)
    (λ (l : length text ≤ n). let none : 32 ∷ behind ≡ [] = sym s ∙ r ∙ drop_all n text l in absurd cc)
    (cases_lt n (length text))

-- or nothing does
pub nothing_follows : (text rest : List ℕ) (n : ℕ) → n ≡ position_or_len is_space text → rest ≡ drop n text → ((behind : List ℕ) → rest ≡ 32 ∷ behind → ⊥) → rest ≡ after_first is_space text
nothing_follows text rest n e r none = ⊎_elim
    (λ (l : n < length text).
    absurd (none (drop (n + 1) text) (r ∙ drop_more text n 0 l ∙ ap (λ b. b ∷ drop (n + 1) text) (at_space text n e l))))
    (λ (l : length text ≤ n).
    let m : length text ≤ position_or_len is_space text + 1 = omega (arith, e) in
    r ∙ drop_all n text l ∙ sym (drop_all (position_or_len is_space text + 1) text m))
    (cases_lt n (length text))

-- ---- the CR at the end

cr_at : (k : ℕ) (line : List ℕ) → length line ≡ suc k → pointwise nat_eq (drop k line) (13 ∷ []) ≡ true → take k line ≡ without_cr line
cr_at k [] e h = absurd (omega arith)
cr_at zero (b ∷ []) e h = go (eqb b 13) h where
  go : (v : Bool) → (v && true) ≡ true → [] ≡ cond v [] (b ∷ [])
  go true p = refl
  go false p = absurd (false≢true p)
cr_at zero (b ∷ c ∷ bs) e h = absurd (omega arith)
cr_at (suc k) (b ∷ []) e h = absurd (omega arith)
cr_at (suc k) (b ∷ c ∷ bs) e h = let shorter : length (c ∷ bs) ≡ suc k = omega arith in ap (λ x. b ∷ x) (cr_at k (c ∷ bs) shorter h)

no_cr_at : (k : ℕ) (line : List ℕ) → length line ≡ suc k → pointwise nat_eq (drop k line) (13 ∷ []) ≡ false → line ≡ without_cr line
no_cr_at k [] e h = refl
no_cr_at zero (b ∷ []) e h = go (eqb b 13) h where
  go : (v : Bool) → (v && true) ≡ false → b ∷ [] ≡ cond v [] (b ∷ [])
  go true p = absurd (false≢true (sym p))
  go false p = refl
no_cr_at zero (b ∷ c ∷ bs) e h = absurd (omega arith)
no_cr_at (suc k) (b ∷ []) e h = absurd (omega arith)
no_cr_at (suc k) (b ∷ c ∷ bs) e h = let shorter : length (c ∷ bs) ≡ suc k = omega arith in ap (λ x. b ∷ x) (no_cr_at k (c ∷ bs) shorter h)

pub cr_off : (line : List ℕ) → pointwise nat_eq (drop (length line - 1) line) (13 ∷ []) ≡ true → take (length line - 1) line ≡ without_cr line
cr_off [] h = absurd (false≢true h)
cr_off (b ∷ bs) h = cr_at (length (b ∷ bs) - 1) (b ∷ bs) (omega arith) h

pub no_cr : (line : List ℕ) → pointwise nat_eq (drop (length line - 1) line) (13 ∷ []) ≡ false → line ≡ without_cr line
no_cr [] h = refl
no_cr (b ∷ bs) h = no_cr_at (length (b ∷ bs) - 1) (b ∷ bs) (omega arith) h
