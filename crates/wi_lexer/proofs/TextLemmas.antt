-- What a reader finds in a whole text are its tokens.
use Rattle.wi_lexer.proofs.Words.{◌≡◌, ◌≢◌, ◌↔◌, ℕ, zero, suc, ◌<◌, List, [], ◌∷◌, length, take, drop, Option, Some, None, refl, sym, ap, ◌∙◌, subst, arith, length-take-le, Kind, IsLongest, after_blanks, token_at, Tokens, then_tokens, AreTokens, ended, bad, more, tokens_from, tokens_ahead, tokens}
use Rattle.wi_lexer.proofs.TokenLemmas.{token_some, token_sound, token_complete, none_begins, none_found}
use Rattle.wi_lexer.proofs.CallerLemmas.{tokens_are, token_shortens, after_blanks_within, none_ahead}

some_ahead : (f : List ℕ → Tokens) (bs : List ℕ) (k : Kind) (n : ℕ) → IsLongest k n bs → tokens_ahead f bs ≡ then_tokens ((k, take n bs) ∷ []) (f (drop n bs))
some_ahead f [] k n h = absurd (omega (arith, token_some k (take n []) h.token, length-take-le {A = ℕ} n [] h.within, h.within))
some_ahead f (b ∷ bs) k n h = ap (λ o. tokens_from f (b ∷ bs) o) (token_complete (b ∷ bs) k n h)

pub tokens_found : (text : List ℕ) (ts : Tokens) → AreTokens text ts → tokens text ≡ ts
tokens_found text ts (ended bs none) = tokens_are bs ∙ ap (λ x. tokens_ahead tokens x) none
tokens_found text ts (bad bs some none) = tokens_are bs ∙ none_ahead tokens (after_blanks bs) some (none_found (after_blanks bs) none)
tokens_found text ts (more bs k n later longest tail) =
    tokens_are bs
    ∙ some_ahead tokens (after_blanks bs) k n longest
    ∙ ap (λ x. then_tokens ((k, take n (after_blanks bs)) ∷ []) x) (tokens_found (drop n (after_blanks bs)) later tail)

-- ---- and what is found are tokens

abbrev Hold : List ℕ → Type 0
Hold text = AreTokens text (tokens text)

ahead_from : (f : List ℕ → Tokens) (bs : List ℕ) → bs ≢ [] → tokens_ahead f bs ≡ tokens_from f bs (token_at bs)
ahead_from f [] some = absurd (some refl)
ahead_from f (b ∷ bs) some = refl

from_holds : (text : List ℕ) → after_blanks text ≢ [] → ((ys : List ℕ) → length ys < length text → Hold ys) → (o : Option (Kind × ℕ)) → token_at (after_blanks text) ≡ o → AreTokens text (tokens_from tokens (after_blanks text) o)
from_holds text some again None e = bad text some (none_begins (after_blanks text) e)
from_holds text some again (Some t) e =
    let ahead = after_blanks text in
    let shorter = token_shortens ahead t.0 t.1 e in
    more text t.0 t.1 (tokens (drop t.1 ahead)) (token_sound ahead t.0 t.1 e)
    (again (drop t.1 ahead) (omega (arith, shorter, after_blanks_within text)))

text_holds : (text : List ℕ) → ((ys : List ℕ) → length ys < length text → Hold ys) → Hold text
text_holds text again = go (after_blanks text) refl
  where
    go : (bs : List ℕ) → after_blanks text ≡ bs → Hold text
    go [] e = subst (AreTokens text) (sym (tokens_are text ∙ ap (λ x. tokens_ahead tokens x) e)) (ended text e)
    go (b ∷ bs) e =
        let some : after_blanks text ≢ [] = λ empty. cc in
        let is = tokens_are text ∙ ahead_from tokens (after_blanks text) some in
        subst (AreTokens text) (sym is) (from_holds text some again (token_at (after_blanks text)) refl)

-- what holds of a text where it holds of each shorter one, holds of every text
pub by_length : (P : List ℕ → Type 0) → ((text : List ℕ) → ((ys : List ℕ) → length ys < length text → P ys) → P text) → (text : List ℕ) → P text
by_length P step text = below (suc (length text)) text (omega arith)
  where
    below : (n : ℕ) (xs : List ℕ) → length xs < n → P xs
    below zero xs h = absurd (omega arith)
    below (suc n) xs h = step xs (λ ys shorter. below n ys (omega arith))

pub tokens_hold : (text : List ℕ) → Hold text
tokens_hold text = by_length Hold text_holds text

pub tokens_of_text : (text : List ℕ) (ts : Tokens) → AreTokens text ts ↔ (ts ≡ tokens text)
tokens_of_text text ts = (λ h. sym (tokens_found text ts h), λ e. subst (AreTokens text) (sym e) (tokens_hold text))
