-- Where there is nothing to find no memory is taken: an error tells that there is something.
use Rattle.wi_sessions.proofs.Words.{◌≡◌, ◌≢◌, ◌<◌, ◌+◌, ◌∙◌, ℕ, zero, suc, Bool, true, false, cond, not, List, [], ◌∷◌, ◌++◌, length, get_or, filter, refl, sym, ap, arith, Result, Ok, Err, IfOk, OnErr, MatchResult, IsErrAnd, is_ok, keys_of, IsStrictlySortedBy, nat_cmp, is_one_of, AllPending, list_at, has_bit, is_in, is_staged, cells_with, cells_in, vacant_in, pending_in}
use Rattle.wi_sessions.proofs.WordLemmas.{Words, listed_with}
use Rattle.wi_sessions.proofs.ViewLemmas.{list_there}

-- ---- results

module _ {T E : Type 0} where
  -- what holds of any error
  pub fails_so : (P : T → Type 0) (Q R : E → Type 0) (r : Result T E) → IsErrAnd r R → ((e : E) → Q e) → MatchResult r P Q
  fails_so P Q R (Ok x) k q = absurd k
  fails_so P Q R (Err e) k q = q e

  pub both_ends : (P : T → Type 0) {X Y : Type 0} (r : Result T E) → (X → Y) → IfOk r P → OnErr r X → MatchResult r P (λ e. Y)
  both_ends P (Ok x) f h k = h
  both_ends P (Err e) f h k = f k

  pub match_weaker : {P P' : T → Type 0} {X Y : Type 0} (r : Result T E) → ((x : T) → P x → P' x) → (X → Y) → MatchResult r P (λ e. X) → MatchResult r P' (λ e. Y)
  match_weaker (Ok x) f g h = f x h
  match_weaker (Err e) f g h = g h

  pub match_ok : (P : T → Type 0) (Q : E → Type 0) (r : Result T E) → MatchResult r P Q → IfOk r P
  match_ok P Q (Ok x) h = h
  match_ok P Q (Err e) h = tt

  pub match_err : (P : T → Type 0) {X Y : Type 0} (r : Result T E) → (X → Y) → MatchResult r P (λ e. X) → OnErr r Y
  match_err P (Ok x) g h = tt
  match_err P (Err e) g h = g h

  pub ok_where_not : {X : Type 0} (r : Result T E) → OnErr r X → (X → ⊥) → is_ok r ≡ true
  ok_where_not (Ok x) h k = refl
  ok_where_not (Err e) h k = absurd (k h)

-- ---- lists

not_nil : {X : Type 0} (xs : List X) (y : X) (ys : List X) → (xs ++ y ∷ ys) ≢ []
not_nil [] y ys e = let l : length (y ∷ ys) ≡ 0 = ap length e in omega (arith, l)
not_nil (x ∷ xs) y ys e = let l : length (x ∷ (xs ++ y ∷ ys)) ≡ 0 = ap length e in omega (arith, l)

pub some_at : {X : Type 0} (xs : List X) (k : ℕ) → k < length xs → xs ≢ []
some_at [] k l e = omega (arith, l)
some_at (x ∷ xs) k l e = not_nil [] x xs e

pub nil_front : (xs ys : List ℕ) → xs ++ ys ≡ [] → xs ≡ []
nil_front [] ys e = refl
nil_front (x ∷ xs) ys e = absurd (not_nil [] x (xs ++ ys) e)

pub nil_end : (xs ys : List ℕ) → xs ++ ys ≡ [] → ys ≡ []
nil_end xs ys e = ap (λ (zs : List ℕ). zs ++ ys) (sym (nil_front xs ys e)) ∙ e

pub nil_both : (xs ys : List ℕ) → xs ≡ [] → ys ≡ [] → xs ++ ys ≡ []
nil_both xs ys e f = ap (λ (zs : List ℕ). zs ++ ys) e ∙ f

nil_rest : (b : Bool) (y : ℕ) (ys : List ℕ) → cond b (y ∷ ys) ys ≡ [] → ys ≡ []
nil_rest true y ys e = absurd (not_nil [] y ys e)
nil_rest false y ys e = e

-- one that passes the test is found
pub filter_finds : (p : ℕ → Bool) (xs : List ℕ) (k x : ℕ) → k < length xs → x ≡ get_or xs k x → p x ≡ true → filter p xs ≢ []
filter_finds p [] k x l is t none = omega (arith, l)
filter_finds p (y ∷ ys) zero x l is t none =
    not_nil [] y (filter p ys) (sym (ap (λ b. cond b (y ∷ filter p ys) (filter p ys)) (ap p (sym is) ∙ t)) ∙ none)
filter_finds p (y ∷ ys) (suc k) x l is t none = filter_finds p ys k x (omega (arith, l)) is t (nil_rest (p y) y (filter p ys) none)

filter_nothing : (p : ℕ → Bool) (xs : List ℕ) → ((x : ℕ) → p x ≡ false) → filter p xs ≡ []
filter_nothing p [] h = refl
filter_nothing p (x ∷ xs) h = ap (λ b. cond b (x ∷ filter p xs) (filter p xs)) (h x) ∙ filter_nothing p xs h

-- what passes a test and what doesn't are all
filter_both : (p : ℕ → Bool) (xs : List ℕ) → filter (λ x. not (p x)) xs ≡ [] → filter p xs ≡ [] → xs ≡ []
filter_both p [] e f = refl
filter_both p (x ∷ xs) e f = by (p x) e f
  where
    by : (b : Bool) → cond (not b) (x ∷ filter (λ z. not (p z)) xs) (filter (λ z. not (p z)) xs) ≡ [] → cond b (x ∷ filter p xs) (filter p xs) ≡ [] → x ∷ xs ≡ []
    by true e f = absurd (not_nil [] x (filter p xs) f)
    by false e f = absurd (not_nil [] x (filter (λ z. not (p z)) xs) e)

-- ---- cells with a session's bit

-- a walk has come to one
pub walk_finds : (found : List ℕ) (e : ℕ × ℕ) (rest it all : Words) (i : ℕ) → has_bit i e.1 ≡ true → it ≡ e ∷ rest → found ++ cells_with it i ≡ cells_with all i → cells_with all i ≢ []
walk_finds found e rest it all i b s h none =
    let some : cells_with it i ≡ e.0 ∷ cells_with rest i =
    ap (λ (es : Words). cells_with es i) s ∙ ap (λ t. keys_of (cond t (e ∷ filter (λ d. has_bit i d.1) rest) (filter (λ d. has_bit i d.1) rest))) b in
    not_nil found e.0 (cells_with rest i) (ap (λ (xs : List ℕ). found ++ xs) (sym some) ∙ h ∙ none)

-- some were found among others
pub some_with : (words : Words) (i : ℕ) (xs ys : List ℕ) → IsStrictlySortedBy nat_cmp (keys_of words) → (filter (is_in words i) xs ++ filter (is_in words i) ys) ≢ [] → cells_with words i ≢ []
some_with words i xs ys order k none =
    k (nil_both (filter (is_in words i) xs) (filter (is_in words i) ys) (filter_nothing (is_in words i) xs no_bit) (filter_nothing (is_in words i) ys no_bit))
  where
    no_bit : (c : ℕ) → is_in words i c ≡ false
    no_bit c = sym (listed_with words i order c) ∙ ap (λ (zs : List ℕ). is_one_of zs c) none

-- then there are some that are pending or have room only
pub some_told : (words staged : Words) (n i : ℕ) (p : AllPending) → pending_in words staged n ≡ p → i < n → cells_with words i ≢ [] → (list_at p.pending i ++ list_at p.vacant i) ≢ []
some_told words staged n i p v l k none =
    k (filter_both (is_staged staged i) (cells_with words i)
    (sym (list_there (cells_in words staged) n i l) ∙ ap (λ (r : AllPending). list_at r.pending i) v ∙ nil_front (list_at p.pending i) (list_at p.vacant i) none)
    (sym (list_there (vacant_in words staged) n i l) ∙ ap (λ (r : AllPending). list_at r.vacant i) v ∙ nil_end (list_at p.pending i) (list_at p.vacant i) none))
