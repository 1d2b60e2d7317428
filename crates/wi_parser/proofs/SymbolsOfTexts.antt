-- The symbols of a text are those of its tokens.
use Rattle.wi_parser.proofs.Words.{◌≡◌, ◌↔◌, ℕ, suc, ◌+◌, ◌<◌, ◌≤◌, Bool, true, false, cond, List, [], ◌∷◌, ◌++◌, length, take, drop, Option, Some, None, refl, sym, ap, ap₂, ◌∙◌, subst, arith, length-append, length-take-le, take-append-drop, take-append_seam, Kind, is_blank, blanks_len, IsToken, IsLongest, NoToken, after_blanks, token_at, tokens_from, tokens_ahead, tokens, tokens_are, token_shortens, found_ahead, token_no_blank, no_blanks, run_stops, token_some, token_sound, token_complete, none_begins, none_found, by_length, symbol_of, symbols_of, Symbol, NoneLonger, AreSymbols, at_the_end, white_space, a_token, no_token, Means, ◌≢◌}
use Rattle.wi_parser.proofs.Meanings.{token_means, means_token}

-- ---- the token at the front

front_taken : (token rest bytes : List ℕ) → token ++ rest ≡ bytes → token ≡ take (length token) bytes
front_taken token rest bytes e = sym (ap (take (length token)) (sym e) ∙ take-append_seam token rest)

none_longer : (k : Kind) (n : ℕ) (bytes : List ℕ) → IsLongest k n bytes → NoneLonger (take n bytes) bytes
none_longer k n bytes h other rest s m e =
    let t = means_token other s m in
    let within : length other ≤ length bytes = omega (arith, ap length e, length-append other rest) in
    omega (arith, h.longest t.0 (length other) within (subst (IsToken t.0) (front_taken other rest bytes e) t.1), length-take-le n bytes h.within)

longest : (k : Kind) (token rest : List ℕ) → IsToken k token → NoneLonger token (token ++ rest) → IsLongest k (length token) (token ++ rest)
longest k token rest t h =
    let bytes = token ++ rest in
    record {
      within = omega (arith, length-append token rest);
      token = subst (IsToken k) (front_taken token rest bytes refl) t;
      longest = λ j m within is. let shorter = h (take m bytes) (drop m bytes) (symbol_of j (take m bytes)) (token_means j (take m bytes) is) (take-append-drop m bytes) in omega (arith, shorter, length-take-le m bytes within);
    }

-- no token begins the bytes
abbrev NoneBegins : List ℕ → Type 0
NoneBegins bytes = (token rest : List ℕ) (s : Symbol) → Means token s → token ++ rest ≢ bytes

none_begin : (bytes : List ℕ) → NoToken bytes → NoneBegins bytes
none_begin bytes h token rest s m e = let t = means_token token s m in h t.0 (length token) (subst (IsToken t.0) (front_taken token rest bytes e) t.1)

no_token_begins : (bytes : List ℕ) → NoneBegins bytes → NoToken bytes
no_token_begins bytes h k n is = h (take n bytes) (drop n bytes) (symbol_of k (take n bytes)) (token_means k (take n bytes) is) (take-append-drop n bytes)

-- ---- white space

after_blank : (b : ℕ) (text : List ℕ) → is_blank b ≡ true → after_blanks (b ∷ text) ≡ after_blanks text
after_blank b text e =
    let n = blanks_len text in
    let next : 1 + n ≡ suc n = omega arith in
    ap (λ t. drop (cond t (1 + n) 0) (b ∷ text)) e ∙ ap (λ m. drop m (b ∷ text)) next

tokens_after_blank : (b : ℕ) (text : List ℕ) → is_blank b ≡ true → tokens (b ∷ text) ≡ tokens text
tokens_after_blank b text e = tokens_are (b ∷ text) ∙ ap (tokens_ahead tokens) (after_blank b text e) ∙ sym (tokens_are text)

no_blank : (b : ℕ) (text : List ℕ) → is_blank b ≡ false → after_blanks (b ∷ text) ≡ b ∷ text
no_blank b text e = ap (λ n. drop n (b ∷ text)) (run_stops is_blank b text e)

tokens_here : (b : ℕ) (text : List ℕ) → is_blank b ≡ false → tokens (b ∷ text) ≡ tokens_from tokens (b ∷ text) (token_at (b ∷ text))
tokens_here b text e = tokens_are (b ∷ text) ∙ ap (tokens_ahead tokens) (no_blank b text e)

-- ---- what the tokens stand for are symbols of the text

abbrev Hold : List ℕ → Type 0
Hold text = AreSymbols text (symbols_of (tokens text))

here_hold : (b : ℕ) (text : List ℕ) → is_blank b ≡ false → ((ys : List ℕ) → length ys < length (b ∷ text) → Hold ys) → (o : Option (Kind × ℕ)) → token_at (b ∷ text) ≡ o → AreSymbols (b ∷ text) (symbols_of (tokens_from tokens (b ∷ text) o))
here_hold b text first again None e = no_token b text first (none_begin (b ∷ text) (none_begins (b ∷ text) e))
here_hold b text first again (Some t) e =
    let bytes = b ∷ text in
    let token = take t.1 bytes in
    let rest = drop t.1 bytes in
    let is = token_sound bytes t.0 t.1 e in
    let parts = take-append-drop t.1 bytes in
    let none = subst (NoneLonger token) (sym parts) (none_longer t.0 t.1 bytes is) in
    subst (λ bs. AreSymbols bs (symbol_of t.0 token ∷ symbols_of (tokens rest))) parts
    (a_token token rest (symbol_of t.0 token) (symbols_of (tokens rest)) (token_means t.0 token is.token) none (again rest (token_shortens bytes t.0 t.1 e)))

text_hold : (text : List ℕ) → ((ys : List ℕ) → length ys < length text → Hold ys) → Hold text
text_hold [] again = subst (AreSymbols []) (sym (ap symbols_of (tokens_are []))) at_the_end
text_hold (b ∷ text) again = by_blank (is_blank b) refl
  where
    by_blank : (t : Bool) → is_blank b ≡ t → Hold (b ∷ text)
    by_blank true e =
        subst (AreSymbols (b ∷ text)) (sym (ap symbols_of (tokens_after_blank b text e)))
        (white_space b text (symbols_of (tokens text)) e (again text (omega arith)))
    by_blank false e =
        subst (AreSymbols (b ∷ text)) (sym (ap symbols_of (tokens_here b text e)))
        (here_hold b text e again (token_at (b ∷ text)) refl)

pub symbols_hold : (text : List ℕ) → Hold text
symbols_hold text = by_length Hold text_hold text

-- ---- and the text has no others

tokens_first : (k : Kind) (token rest : List ℕ) → IsToken k token → NoneLonger token (token ++ rest) → symbols_of (tokens (token ++ rest)) ≡ symbol_of k token ∷ symbols_of (tokens rest)
tokens_first k token rest t h =
    let bytes = token ++ rest in
    let some = token_some k token t in
    ap symbols_of (
    tokens_are bytes
    ∙ ap (tokens_ahead tokens) (no_blanks token rest some (token_no_blank k token t))
    ∙ found_ahead tokens bytes k token rest refl some (token_complete bytes k (length token) (longest k token rest t h))
    )

pub symbols_are : (text : List ℕ) (ts : List Symbol) → AreSymbols text ts → symbols_of (tokens text) ≡ ts
symbols_are text ts at_the_end = ap symbols_of (tokens_are [])
symbols_are text ts (white_space b bs us e h) = ap symbols_of (tokens_after_blank b bs e) ∙ symbols_are bs us h
symbols_are text ts (a_token token rest s us m none h) =
    let t = means_token token s m in
    tokens_first t.0 token rest t.1 none ∙ ap₂ (λ x xs. x ∷ xs) t.2 (symbols_are rest us h)
symbols_are text ts (no_token b bs first none) =
    ap symbols_of (tokens_here b bs first ∙ ap (tokens_from tokens (b ∷ bs)) (none_found (b ∷ bs) (no_token_begins (b ∷ bs) none)))

pub symbols_exactly : (text : List ℕ) (ts : List Symbol) → AreSymbols text ts ↔ (symbols_of (tokens text) ≡ ts)
symbols_exactly text ts = (symbols_are text ts, λ e. subst (AreSymbols text) e (symbols_hold text))
