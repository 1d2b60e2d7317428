-- Laws of sessions and their pending cells, as lists of parts of each.
use Rattle.wi_sessions.proofs.Words.{◌≡◌, ◌<◌, ◌+◌, zero, suc, ◌||◌, ◌&&◌, ◌∙◌, ℕ, Bool, true, false, cond, not, List, [], ◌∷◌, ◌++◌, map, length, get_or, set, slice_get, nat_eq, Option, Some, None, refl, sym, ap, subst, arith, IfSome, nat_lt, is_some, option_map, option_to_list, list_all, list_any, position, position_or_len, position_from, pointwise, keys_of, values_of, lookup, rc_str_bytes, bytes_eq, RcStr, length-map, map-append, map-set, list_all_at, get_or_from_slice_get, slice_get-map, position_from-zero, IndexMap, insert_entry, set_value_at, insert_entry-new, has_session, index_of, AllPending, Roster, roster_in, session_in, Details}
use Rattle.std.proofs.Common.{true≢false}

-- a name, and what is held under it
abbrev pub Entry : Type 0 → Type 0
Entry Z = RcStr Z × Details

-- ---- a session found by its name

module _ {K : Type 0} (p : K → Bool) where
  some_from : (i : ℕ) (ks : List K) → is_some (position_from p i ks) ≡ list_any p ks
  some_from i [] = refl
  some_from i (k ∷ ks) = by (p k) (some_from (i + 1) ks)
    where
      by : (b : Bool) → is_some (position_from p (i + 1) ks) ≡ list_any p ks → is_some (cond b (Some i) (position_from p (i + 1) ks)) ≡ (b || list_any p ks)
      by true h = refl
      by false h = h

module _ {Z : Type 0} (name : List ℕ) where
  abbrev pub key_is : RcStr Z → Bool
  key_is k = bytes_eq name (rc_str_bytes k)

  any_session : (es : List (Entry Z)) → list_any key_is (keys_of es) ≡ has_session (map session_in es) name
  any_session [] = refl
  any_session (e ∷ es) = ap (λ (b : Bool). key_is e.0 || b) (any_session es)

  pub found_session : (es : List (Entry Z)) → is_some (position key_is (keys_of es)) ≡ has_session (map session_in es) name
  found_session es = ap is_some (position_from-zero key_is (keys_of es)) ∙ some_from key_is 0 (keys_of es) ∙ any_session es

  same_place : (es : List (Entry Z)) → position_or_len key_is (keys_of es) ≡ index_of (map session_in es) name
  same_place [] = refl
  same_place (e ∷ es) = ap (λ (n : ℕ). cond (not (key_is e.0)) (1 + n) 0) (same_place es)

  pub place_found : (es : List (Entry Z)) → IfSome (position key_is (keys_of es)) (λ i. i ≡ index_of (map session_in es) name)
  place_found es = by (nat_lt (position_or_len key_is (keys_of es)) (length (keys_of es)))
    where
      by : (b : Bool) → IfSome (cond b (Some (position_or_len key_is (keys_of es))) None) (λ i. i ≡ index_of (map session_in es) name)
      by true = same_place es
      by false = tt

-- ---- one session among all

module _ {Z : Type 0} where
  -- what is held at a place is held under a name
  pub entry_at : (es : List (Entry Z)) (i : ℕ) (x : Details) → slice_get (values_of es) i ≡ Some x → (k : RcStr Z) × (slice_get es i ≡ Some (k, x))
  entry_at [] i x h = cc
  entry_at (e ∷ es) zero x h = (e.0, ap (option_map (λ (y : Details). (e.0, y))) h)
  entry_at (e ∷ es) (suc i) x h = entry_at es i x h

  -- another in its place stands under the same name
  pub set_entry : (es : List (Entry Z)) (i : ℕ) (k : RcStr Z) (x y : Details) → slice_get es i ≡ Some (k, x) → set_value_at es i y ≡ set es i (k, y)
  set_entry [] i k x y h = refl
  set_entry (e ∷ es) zero k x y h =
      let same : e ≡ (k, x) = cc in
      ap (λ (d : Entry Z). set_value_at (d ∷ es) 0 y) same
  set_entry (e ∷ es) (suc i) k x y h = ap (λ (ds : List (Entry Z)). e ∷ ds) (set_entry es i k x y h)

  -- put back in its place, nothing has changed
  pub put_back : (es : List (Entry Z)) (i : ℕ) (x : Details) → slice_get (values_of es) i ≡ Some x → set_value_at es i x ≡ es
  put_back [] i x h = refl
  put_back (e ∷ es) zero x h =
      let same : x ≡ e.1 = cc in
      ap (λ (y : Details). set_value_at (e ∷ es) 0 y) same
  put_back (e ∷ es) (suc i) x h = ap (λ (ds : List (Entry Z)). e ∷ ds) (put_back es i x h)

module _ {Z Y : Type 0} (f : Entry Z → Y) (es : List (Entry Z)) (i : ℕ) (k : RcStr Z) (x : Details) (ys : List Y) (at : slice_get es i ≡ Some (k, x)) (v : map f es ≡ ys) where
  -- what is told of the i-th session
  pub part_at : (d : Y) → get_or ys i d ≡ f (k, x)
  part_at d = get_or_from_slice_get ys i (f (k, x)) d (ap (λ (zs : List Y). slice_get zs i) (sym v) ∙ slice_get-map f es i ∙ ap (option_map f) at)

  set_told : (y : Details) → map f (set_value_at es i y) ≡ set (map f es) i (f (k, y))
  set_told y = ap (λ (ds : List (Entry Z)). map f ds) (set_entry es i k x y at) ∙ map-set f es i (k, y)

  -- another in its place, of which w is told
  pub part_set : (y : Details) (w : Y) → f (k, y) ≡ w → map f (set_value_at es i y) ≡ set ys i w
  part_set y w e = set_told y ∙ ap (λ (z : Y). set (map f es) i z) e ∙ ap (λ (zs : List Y). set zs i w) v

-- it has its list
pub within_lists : {Z : Type 0} (es : List (Entry Z)) (p : AllPending) (r : Roster) (i : ℕ) → roster_in es p ≡ r → length p.pending ≡ length es → i < length r.sessions → i < length p.pending
within_lists es p r i v e l = subst (λ (n : ℕ). i < n) (ap (λ (q : Roster). length q.sessions) (sym v) ∙ length-map es session_in ∙ sym e) l

-- ---- a session added

-- one of a new name stands at the end
pub added : {Z S : Type 0} (m : IndexMap (RcStr Z) Details S) (k : RcStr Z) (x : Details) (name : List ℕ) → rc_str_bytes k ≡ name → is_some (lookup (key_is name) m.entries) ≡ false
    → insert_entry (λ a b. pointwise nat_eq (rc_str_bytes a) (rc_str_bytes b)) m.entries k x ≡ m.entries ++ (k, x) ∷ []
added m k x name e h =
    let absent = ap (λ (bs : List ℕ). lookup (key_is bs) m.entries) e ∙ none_from (lookup (key_is name) m.entries) h in
    insert_entry-new (λ a b. pointwise nat_eq (rc_str_bytes a) (rc_str_bytes b)) m k x absent
  where
    none_from : (o : Option Details) → is_some o ≡ false → o ≡ None
    none_from None h = refl
    none_from (Some y) h = absurd (true≢false h)

-- what is told of all sessions once one was added
pub told_more : {Z Y : Type 0} (f : Entry Z → Y) (es new : List (Entry Z)) (k : RcStr Z) (x : Details) (ys : List Y) (y : Y) → new ≡ es ++ (k, x) ∷ []
    → map f es ≡ ys → f (k, x) ≡ y → map f new ≡ ys ++ y ∷ []
told_more {Z} {Y} f es new k x ys y h v g =
    ap (λ (ds : List (Entry Z)). map f ds) h ∙ map-append f es ((k, x) ∷ []) ∙ ap (λ (zs : List Y). zs ++ f (k, x) ∷ []) v ∙ ap (λ (z : Y). ys ++ z ∷ []) g

same_front : {X : Type 0} (x y : X) (es less : List X) → less ++ y ∷ [] ≡ es ++ x ∷ [] → less ≡ es
same_front x y [] [] h = refl
same_front x y [] (l ∷ []) h = cc
same_front x y [] (l ∷ m ∷ less) h = cc
same_front x y (e ∷ []) [] h = cc
same_front x y (e ∷ d ∷ es) [] h = cc
same_front {X} x y (e ∷ es) (l ∷ less) h =
    let first : l ≡ e = cc in
    let rest : less ++ y ∷ [] ≡ es ++ x ∷ [] = cc in
    ap (λ (z : X). z ∷ less) first ∙ ap (λ (zs : List X). e ∷ zs) (same_front x y es less rest)

-- once the last is taken away
pub popped_again : {X : Type 0} (es more less : List X) (x : X) (o : Option X) → more ≡ es ++ x ∷ [] → more ≡ less ++ option_to_list o → is_some o ≡ true → less ≡ es
popped_again es more less x None e f s = absurd (true≢false (sym s))
popped_again es more less x (Some y) e f s = same_front x y es less (sym f ∙ e)

-- an empty list at the end is like none
pub empty_after : (xs : List (List ℕ)) (i : ℕ) → get_or (xs ++ [] ∷ []) i [] ≡ get_or xs i []
empty_after [] zero = refl
empty_after [] (suc i) = refl
empty_after (x ∷ xs) zero = refl
empty_after (x ∷ xs) (suc i) = empty_after xs i

-- ---- what each has

module _ (p : List ℕ → Bool) (xss : List (List ℕ)) where
  -- each has what all have
  pub one_of_all_has : (i : ℕ) → list_all p xss ≡ true → i < length xss → p (get_or xss i []) ≡ true
  one_of_all_has i h l = by (p (get_or xss i [])) refl
    where
      by : (b : Bool) → p (get_or xss i []) ≡ b → b ≡ true
      by true e = refl
      by false e = absurd (true≢false (sym h ∙ list_all_at p xss i [] l e))

-- all have what each has
pub all_have_so : (p : List ℕ → Bool) (xss : List (List ℕ)) → ((i : ℕ) → i < length xss → p (get_or xss i []) ≡ true) → list_all p xss ≡ true
all_have_so p [] h = refl
all_have_so p (xs ∷ xss) h = ap (λ (b : Bool). b && list_all p xss) (h 0 (omega arith)) ∙ all_have_so p xss (λ i l. h (suc i) (omega (arith, l)))
