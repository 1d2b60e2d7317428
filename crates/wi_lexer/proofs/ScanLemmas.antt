-- What a lexer cuts off is the next token, and the slice of the source at its span.
use Rattle.wi_lexer.proofs.Words.{Bool, false, true, ◌==◌, eq-eqb, ◌≡◌, ◌≢◌, ℕ, ◌+◌, ◌-◌, ◌≤◌, List, [], ◌++◌, length, take, drop, Some, None, sym, ap, ◌∙◌, subst, arith, length-drop, take-append-drop, drop-drop, nil_from_length, length-take, true≢false, nat_tests, Kind, blanks_len, IsLongest, NoToken, token_at, Scan, ahead}
use Rattle.wi_lexer.proofs.TokenLemmas.{token_sound, none_begins}

abbrev scan : List ℕ → List ℕ → Scan
scan source rest = record { source = source; rest = rest }

-- what is left after white space was cut off
pub ahead_is : (old : Scan) (source rest bytes a : List ℕ) (n : ℕ) → scan source rest ≡ old → bytes ≡ rest → n ≡ blanks_len bytes → a ≡ drop n rest → a ≡ ahead old
ahead_is old source rest bytes a n view same blanks cut =
    cut ∙ ap (λ i. drop i rest) (blanks ∙ ap blanks_len same) ∙ ap ahead view

pub longest_is : (old : Scan) (a bytes : List ℕ) (k : Kind) (n m : ℕ) → token_at bytes ≡ Some (k, n) → bytes ≡ a → a ≡ ahead old → m ≡ n → IsLongest k m (ahead old)
longest_is old a bytes k n m found same here size =
    subst (λ i. IsLongest k i (ahead old)) (sym size) (subst (IsLongest k n) here (subst (IsLongest k n) same (token_sound bytes k n found)))

pub front_is : (old : Scan) (a text after : List ℕ) (n : ℕ) → a ≡ ahead old → text ≡ take n a → after ≡ drop n a → ahead old ≡ text ++ after
front_is old a text after n here front back =
    sym here ∙ sym (take-append-drop n a) ∙ ap (λ x. x ++ drop n a) (sym front) ∙ ap (λ x. text ++ x) (sym back)

pub none_is : (old : Scan) (a bytes : List ℕ) → token_at bytes ≡ None → bytes ≡ a → a ≡ ahead old → NoToken (ahead old)
none_is old a bytes none same here = subst NoToken here (subst NoToken same (none_begins bytes none))

-- the end of the source that is n bytes shorter
pub tail_is : (source rest a : List ℕ) (n : ℕ) → length rest ≤ length source → drop (length source - length rest) source ≡ rest → a ≡ drop n rest → n ≤ length rest → drop (length source - length a) source ≡ a
tail_is source rest a n short is cut within =
    let size : length a ≡ length rest - n = ap length cut ∙ length-drop n rest in
    let place : length source - length a ≡ length source - length rest + n = omega (arith, size) in
    ap (λ i. drop i source) place ∙ sym (drop-drop n (length source - length rest) source) ∙ ap (λ x. drop n x) is ∙ sym cut

-- what is left of an end of the source n bytes on is an end of the source too
pub later_end : (source rest a : List ℕ) (n : ℕ) → length rest ≤ length source → drop (length source - length rest) source ≡ rest → a ≡ drop n rest → n ≤ length rest
    → (length a ≤ length source) × (drop (length source - length a) source ≡ a)
later_end source rest a n short is cut within =
    let size : length a ≡ length rest - n = ap length cut ∙ length-drop n rest in
    (omega (arith, size, short), tail_is source rest a n short is cut within)

-- nothing is left after all bytes
pub nothing_is : (a nothing : List ℕ) → nothing ≡ drop (length a) a → nothing ≡ []
nothing_is a nothing cut = let size : length nothing ≡ length a - length a = ap length cut ∙ length-drop (length a) a in nil_from_length nothing (omega (arith, size))

pub within_front : (a front : List ℕ) (n : ℕ) → front ≡ take n a → length front ≡ n → n ≤ length a
within_front a front n cut size = let least = length-take n a in omega (arith, ap length cut, least, size)

pub no_bytes : (a : List ℕ) (t : Bool) → t ≡ (length a == 0) → t ≡ true → a ≡ []
no_bytes a t test is = let tested : true ≡ (length a == 0) = sym is ∙ test in nil_from_length a (grind (arith, nat_tests, tested))

pub some_bytes : (old : Scan) (a : List ℕ) (t : Bool) → t ≡ (length a == 0) → t ≡ false → a ≡ ahead old → ahead old ≢ []
some_bytes old a t test is here empty = true≢false (sym (eq-eqb (length a) 0 (ap length (here ∙ empty))) ∙ sym test ∙ is)

pub span_is : (old : Scan) (source a : List ℕ) → length a ≤ length source → a ≡ ahead old → source ≡ old.source → length source - length a + length (ahead old) ≡ length old.source
span_is old source a short here same = omega (arith, ap length here, ap length same)

pub slice_is : (old : Scan) (source a text : List ℕ) (start n : ℕ) → drop start source ≡ a → source ≡ old.source → text ≡ take n a → length text ≡ n → take (length text) (drop start old.source) ≡ text
slice_is old source a text start n tail same front size =
    ap (λ s. take (length text) (drop start s)) (sym same) ∙ ap (λ x. take (length text) x) tail ∙ ap (λ i. take i a) size ∙ sym front
