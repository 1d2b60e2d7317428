-- What a loop over `next_token` collects: the tokens of the text.
use Rattle.wi_lexer.proofs.Words.{◌≡◌, ℕ, zero, suc, ◌<◌, ◌≤◌, List, [], ◌∷◌, ◌++◌, length, take, drop, Option, Some, None, refl, ap, ◌∙◌, subst, arith, length-append, length-drop, length-take-le, drop-append_seam, take-append_seam, Kind, Token, blanks_len, IsToken, NoToken, after_blanks, token_at, Scan, ahead, IsNextToken, Tokens, no_tokens, bad_token, then_tokens, tokens_from, tokens_ahead, tokens_within, tokens}
use Rattle.wi_lexer.proofs.TokenLemmas.{token_some, token_sound, token_complete, none_found}

-- ---- the bound on the number of tokens is never felt

-- what follows a token is shorter
pub token_shortens : (bs : List ℕ) (k : Kind) (n : ℕ) → token_at bs ≡ Some (k, n) → length (drop n bs) < length bs
token_shortens bs k n h =
    let s = token_sound bs k n h in
    omega (arith, token_some k (take n bs) s.token, length-take-le n bs s.within, s.within, length-drop n bs)

from_same : (f g : List ℕ → Tokens) (bs : List ℕ) (o : Option (Kind × ℕ)) → token_at bs ≡ o → ((ys : List ℕ) → length ys < length bs → f ys ≡ g ys) → tokens_from f bs o ≡ tokens_from g bs o
from_same f g bs None e same = refl
from_same f g bs (Some t) e same = ap (λ more. then_tokens ((t.0, take t.1 bs) ∷ []) more) (same (drop t.1 bs) (token_shortens bs t.0 t.1 e))

ahead_same : (f g : List ℕ → Tokens) (bs : List ℕ) → ((ys : List ℕ) → length ys < length bs → f ys ≡ g ys) → tokens_ahead f bs ≡ tokens_ahead g bs
ahead_same f g [] same = refl
ahead_same f g (b ∷ bs) same = from_same f g (b ∷ bs) (token_at (b ∷ bs)) refl same

pub after_blanks_within : (bs : List ℕ) → length (after_blanks bs) ≤ length bs
after_blanks_within bs = omega (arith, length-drop (blanks_len bs) bs)

any_bound : (n m : ℕ) (bs : List ℕ) → length bs ≤ n → length bs ≤ m → tokens_within n bs ≡ tokens_within m bs
unfolding tokens_within
any_bound zero zero bs h k = refl
any_bound zero (suc m) [] h k = refl
any_bound zero (suc m) (b ∷ bs) h k = absurd (omega arith)
any_bound (suc n) zero [] h k = refl
any_bound (suc n) zero (b ∷ bs) h k = absurd (omega arith)
any_bound (suc n) (suc m) bs h k =
    ahead_same (tokens_within n) (tokens_within m) (after_blanks bs)
    (λ ys shorter. let within = after_blanks_within bs in any_bound n m ys (omega arith) (omega arith))

-- the tokens of a text are the one after white space and the tokens of what follows it
pub tokens_are : (bs : List ℕ) → tokens bs ≡ tokens_ahead tokens (after_blanks bs)
unfolding tokens tokens_within
tokens_are [] = refl
tokens_are (b ∷ bs) =
    let within = after_blanks_within (b ∷ bs) in
    ahead_same (tokens_within (length bs)) tokens (after_blanks (b ∷ bs))
    (λ ys shorter. any_bound (length bs) (length ys) ys (omega arith) (omega arith))

-- ---- what each answer of `next_token` tells

-- a token, as the tokens of a text list it
abbrev pub listed : Token → Kind × List ℕ
listed t = (t.kind, t.text.now)

pub found_ahead : (f : List ℕ → Tokens) (bs : List ℕ) (k : Kind) (text rest : List ℕ) → bs ≡ text ++ rest → 0 < length text → token_at bs ≡ Some (k, length text) → tokens_ahead f bs ≡ then_tokens ((k, text) ∷ []) (f rest)
found_ahead f [] k text rest front some h = absurd (omega (arith, ap length front, length-append text rest))
found_ahead f (b ∷ bs) k text rest front some h =
    let whole = b ∷ bs in
    let taken : take (length text) whole ≡ text = ap (λ x. take (length text) x) front ∙ take-append_seam text rest in
    let left : drop (length text) whole ≡ rest = ap (λ x. drop (length text) x) front ∙ drop-append_seam text rest in
    ap (λ o. tokens_from f whole o) h
    ∙ ap (λ x. then_tokens ((k, x) ∷ []) (f (drop (length text) whole))) taken
    ∙ ap (λ x. then_tokens ((k, text) ∷ []) (f x)) left

next_is_some : (old : Scan) (t : Token) (new : Scan) → IsNextToken old t new → 0 < length t.text.now
next_is_some old t new h =
    let s = token_some t.kind (take (length t.text.now) (ahead old)) h.longest.token in
    omega (arith, s, length-take-le (length t.text.now) (ahead old) h.longest.within)

pub tokens_next : (old : Scan) (t : Token) (new : Scan) → IsNextToken old t new → tokens old.rest ≡ then_tokens (listed t ∷ []) (tokens new.rest)
tokens_next old t new h =
    tokens_are old.rest
    ∙ found_ahead tokens (ahead old) t.kind t.text.now new.rest h.front (next_is_some old t new h) (token_complete (ahead old) t.kind (length t.text.now) h.longest)

pub none_ahead : (f : List ℕ → Tokens) (bs : List ℕ) → (bs ≡ [] → ⊥) → token_at bs ≡ None → tokens_ahead f bs ≡ bad_token
none_ahead f [] some h = absurd (some refl)
none_ahead f (b ∷ bs) some h = ap (λ o. tokens_from f (b ∷ bs) o) h

pub tokens_bad : (s : Scan) → (ahead s ≡ [] → ⊥) → NoToken (ahead s) → tokens s.rest ≡ bad_token
tokens_bad s some none = tokens_are s.rest ∙ none_ahead tokens (ahead s) some (none_found (ahead s) none)

pub tokens_end : (s : Scan) → ahead s ≡ [] → tokens s.rest ≡ no_tokens
tokens_end s none = tokens_are s.rest ∙ ap (λ bs. tokens_ahead tokens bs) none

-- the text of a token is one of its kind
pub token_is : (old : Scan) (t : Token) (new : Scan) → IsNextToken old t new → IsToken t.kind t.text.now
token_is old t new h =
    let text = t.text.now in
    subst (IsToken t.kind) (ap (take (length text)) h.front ∙ take-append_seam text new.rest) h.longest.token

-- each token leaves less
pub next_shortens : (old : Scan) (t : Token) (new : Scan) → IsNextToken old t new → length new.rest < length old.rest
next_shortens old t new h =
    omega (arith, next_is_some old t new h, ap length h.front, length-append t.text.now new.rest, after_blanks_within old.rest)
