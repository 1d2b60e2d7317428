-- Cells that go into a set, and out of one.
use Rattle.wi_graph.proofs.Words.{◌≡◌, ◌==◌, ◌&&◌, ◌||◌, ◌⊎◌, inl, inr, not, ℕ, ◌+◌, ◌<◌, Bool, true, false, cond, List, [], ◌∷◌, ◌++◌, length, take, get_or, refl, ap, sym, ◌∙◌, add-one, take-suc, or_cases, or_left, or_right, list_any-append, any-filter_same, list_any, nat_cmp, is_at, BTreeSet, contains, difference, IsUnchanged, is_one_of, less_these, has_taken, has_key}
use Rattle.wi_graph.proofs.Tests.{is_at-eq, is_itself, turn_test, at_same, at_itself, clash}
use Rattle.wi_graph.proofs.Walks.{same_cell}

-- ---- lists

pub in_last : (xs : List ℕ) (x a : ℕ) → is_one_of (xs ++ x ∷ []) a ≡ true → (is_one_of xs a ≡ true) ⊎ (x ≡ a)
in_last xs x a h = at (or_cases (is_one_of xs a) ((x == a) || false) (sym (list_any-append (λ (y : ℕ). y == a) xs (x ∷ [])) ∙ h))
  where
    last : (b : Bool) → (x == a) ≡ b → (b || false) ≡ true → x ≡ a
    last true e k = same_cell a x e
    last false e k = cc

    at : (is_one_of xs a ≡ true) ⊎ (((x == a) || false) ≡ true) → (is_one_of xs a ≡ true) ⊎ (x ≡ a)
    at (inl k) = inl k
    at (inr k) = inr (last (x == a) refl k)

pub in_front : (xs ys : List ℕ) (a : ℕ) → is_one_of xs a ≡ true → is_one_of (xs ++ ys) a ≡ true
in_front xs ys a h = list_any-append (λ (y : ℕ). y == a) xs ys ∙ or_left (is_one_of xs a) _ h

pub in_back : (xs ys : List ℕ) (a : ℕ) → is_one_of ys a ≡ true → is_one_of (xs ++ ys) a ≡ true
in_back xs ys a h = list_any-append (λ (y : ℕ). y == a) xs ys ∙ or_right (is_one_of xs a) _ h

-- the cells of a set that others are not
pub in_difference : (set others : BTreeSet ℕ) (c : ℕ) → is_one_of (difference nat_cmp set others) c ≡ (not (contains nat_cmp others c) && contains nat_cmp set c)
in_difference set others c =
    any-filter_same (λ x. x == c) (λ x. not (contains nat_cmp others x)) (not (contains nat_cmp others c)) (λ k h. ap (λ (y : ℕ). not (contains nat_cmp others y)) (same_cell c k h)) set.keys
    ∙ ap (λ (b : Bool). not (contains nat_cmp others c) && b) (sym (has_key set.keys c))

-- ---- cells are put in

-- the set has one cell more
abbrev pub Gains : BTreeSet ℕ → BTreeSet ℕ → ℕ → Type 0
Gains old new x = (q : ℕ) → contains nat_cmp new q ≡ cond (is_at (nat_cmp x) q) true (contains nat_cmp old q)

pub gained : (old new : BTreeSet ℕ) (x : ℕ) → ((q : ℕ) → contains nat_cmp new q ≡ (contains nat_cmp old q || q == x)) → Gains old new x
gained old new x h q = h q ∙ by (contains nat_cmp old q) (q == x) ∙ ap (λ (b : Bool). cond b true (contains nat_cmp old q)) (sym (is_at-eq x q ∙ turn_test x q))
  where
    by : (b d : Bool) → (b || d) ≡ cond d true b
    by true true = refl
    by true false = refl
    by false true = refl
    by false false = refl

pub gains : (old new : BTreeSet ℕ) (x : ℕ) → Gains old new x → (q : ℕ) → contains nat_cmp new q ≡ cond (x == q) true (contains nat_cmp old q)
gains old new x g q = g q ∙ ap (λ (b : Bool). cond b true (contains nat_cmp old q)) (is_at-eq x q)

pub gains_stays : (old new : BTreeSet ℕ) (x : ℕ) → Gains old new x → (c : ℕ) → contains nat_cmp old c ≡ true → contains nat_cmp new c ≡ true
gains_stays old new x g c h = gains old new x g c ∙ at (x == c)
  where
    at : (b : Bool) → cond b true (contains nat_cmp old c) ≡ true
    at true = refl
    at false = h

pub gains_one : (old new : BTreeSet ℕ) (x : ℕ) → Gains old new x → contains nat_cmp new x ≡ true
gains_one old new x g = gains old new x g x ∙ ap (λ (b : Bool). cond b true (contains nat_cmp old x)) (is_itself x)

pub gains_cases : (old new : BTreeSet ℕ) (x : ℕ) → Gains old new x → (c : ℕ) → contains nat_cmp new c ≡ true → (x ≡ c) ⊎ (contains nat_cmp old c ≡ true)
gains_cases old new x g c h = at (x == c) refl (sym (gains old new x g c) ∙ h)
  where
    at : (b : Bool) → (x == c) ≡ b → cond b true (contains nat_cmp old c) ≡ true → (x ≡ c) ⊎ (contains nat_cmp old c ≡ true)
    at true e k = inl (same_cell c x e)
    at false e k = inr k

pub taken : (cells : List ℕ) (i x c : ℕ) → i < length cells → x ≡ get_or cells i x → is_one_of (take (i + 1) cells) c ≡ (is_one_of (take i cells) c || ((x == c) || false))
taken cells i x c l e =
    ap (λ (n : ℕ). is_one_of (take n cells) c) (add-one i)
    ∙ ap (λ (xs : List ℕ). is_one_of xs c) (take-suc cells i x l)
    ∙ list_any-append (λ (y : ℕ). y == c) (take i cells) (get_or cells i x ∷ [])
    ∙ ap (λ (y : ℕ). is_one_of (take i cells) c || ((y == c) || false)) (sym e)

pub found_more : (cells : List ℕ) (i x : ℕ) (old mid new : BTreeSet ℕ) → i < length cells → x ≡ get_or cells i x → Gains mid new x → ((c : ℕ) → contains nat_cmp mid c ≡ (contains nat_cmp old c || is_one_of (take i cells) c)) →
    (c : ℕ) → contains nat_cmp new c ≡ (contains nat_cmp old c || is_one_of (take (i + 1) cells) c)
found_more cells i x old mid new l e g f c =
    gains mid new x g c ∙ ap (λ (b : Bool). cond (x == c) true b) (f c) ∙ by (x == c) (contains nat_cmp old c) (is_one_of (take i cells) c) ∙ ap (λ (b : Bool). contains nat_cmp old c || b) (sym (taken cells i x c l e))
  where
    by : (b o y : Bool) → cond b true (o || y) ≡ (o || (y || (b || false)))
    by true true y = refl
    by true false true = refl
    by true false false = refl
    by false true y = refl
    by false false true = refl
    by false false false = refl

pub insert_only : (cells : List ℕ) (i : ℕ) (first old : BTreeSet ℕ) → ((c : ℕ) → contains nat_cmp old c ≡ (contains nat_cmp first c || is_one_of (take i cells) c)) → (c : ℕ) → contains nat_cmp old c ≡ true → (contains nat_cmp first c || is_one_of cells c) ≡ true
insert_only cells i first old h c k = at (or_cases (contains nat_cmp first c) _ (sym (h c) ∙ k))
  where
    at : (contains nat_cmp first c ≡ true) ⊎ (is_one_of (take i cells) c ≡ true) → (contains nat_cmp first c || is_one_of cells c) ≡ true
    at (inl m) = or_left (contains nat_cmp first c) _ m
    at (inr m) = or_right (contains nat_cmp first c) _ (has_taken cells i c m)

pub unchanged_test : (old new : BTreeSet ℕ) → IsUnchanged old new → (f : ℕ → Bool) → ((c : ℕ) → contains nat_cmp old c ≡ f c) → (c : ℕ) → contains nat_cmp new c ≡ f c
unchanged_test old new e f h c = ap (λ (ks : List ℕ). list_any (is_at (nat_cmp c)) ks) e ∙ h c

-- ---- cells are taken out

abbrev pub Loses : BTreeSet ℕ → BTreeSet ℕ → ℕ → Type 0
Loses rest less cell = (q : ℕ) → contains nat_cmp less q ≡ cond (is_at (nat_cmp cell) q) false (contains nat_cmp rest q)

pub loses_others : (rest less : BTreeSet ℕ) (cell : ℕ) → Loses rest less cell → (c : ℕ) → contains nat_cmp less c ≡ true → (contains nat_cmp rest c ≡ true) × (cell ≡ c → ⊥)
loses_others rest less cell l c h = at (is_at (nat_cmp cell) c) refl (sym (l c) ∙ h)
  where
    at : (b : Bool) → is_at (nat_cmp cell) c ≡ b → cond b false (contains nat_cmp rest c) ≡ true → (contains nat_cmp rest c ≡ true) × (cell ≡ c → ⊥)
    at true e k = cc
    at false e k = (k, λ s. clash (is_at (nat_cmp cell) c) (ap (λ (x : ℕ). is_at (nat_cmp cell) x) (sym s) ∙ at_itself cell) e)

pub loses_one : (rest less : BTreeSet ℕ) (cell : ℕ) → Loses rest less cell → (c : ℕ) → contains nat_cmp less c ≡ false → (contains nat_cmp rest c ≡ false) ⊎ (cell ≡ c)
loses_one rest less cell l c h = at (is_at (nat_cmp cell) c) refl (sym (l c) ∙ h)
  where
    at : (b : Bool) → is_at (nat_cmp cell) c ≡ b → cond b false (contains nat_cmp rest c) ≡ false → (contains nat_cmp rest c ≡ false) ⊎ (cell ≡ c)
    at true e k = inr (sym (at_same cell c e))
    at false e k = inl k

pub keeps_others : (rest less : BTreeSet ℕ) (cell : ℕ) → Loses rest less cell → (c : ℕ) → (c == cell) ≡ false → contains nat_cmp rest c ≡ true → contains nat_cmp less c ≡ true
keeps_others rest less cell l c n h = l c ∙ at (is_at (nat_cmp cell) c) refl
  where
    at : (b : Bool) → is_at (nat_cmp cell) c ≡ b → cond b false (contains nat_cmp rest c) ≡ true
    at true e = clash (c == cell) (ap (λ (x : ℕ). x == cell) (at_same cell c e) ∙ is_itself cell) n
    at false e = h

-- ---- cells that are new in a set

abbrev pub AreNew : List ℕ → BTreeSet ℕ → Type 0
AreNew became set = (c : ℕ) → is_one_of became c ≡ true → contains nat_cmp set c ≡ false

-- they are taken back, also where only some are in
pub became_undone : (old new back : BTreeSet ℕ) (became : List ℕ) → AreNew became old → ((c : ℕ) → contains nat_cmp old c ≡ true → contains nat_cmp new c ≡ true) →
    ((c : ℕ) → contains nat_cmp new c ≡ true → (contains nat_cmp old c || is_one_of became c) ≡ true) → ((c : ℕ) → contains nat_cmp back c ≡ less_these new became c) →
    (c : ℕ) → contains nat_cmp back c ≡ contains nat_cmp old c
became_undone old new back became e s o b c = b c ∙ at (contains nat_cmp new c) (is_one_of became c) (contains nat_cmp old c) (e c) (s c) (o c)
  where
    at : (n w f : Bool) → (w ≡ true → f ≡ false) → (f ≡ true → n ≡ true) → (n ≡ true → (f || w) ≡ true) → (n && not w) ≡ f
    at true true true r s o = let z = r refl in cc
    at true true false r s o = refl
    at true false true r s o = refl
    at true false false r s o = let z = o refl in cc
    at false w true r s o = let z = s refl in cc
    at false w false r s o = refl

pub came_before : (old new : BTreeSet ℕ) (became : List ℕ) → AreNew became old → ((c : ℕ) → contains nat_cmp new c ≡ (contains nat_cmp old c || is_one_of became c)) →
    (c : ℕ) → less_these new became c ≡ contains nat_cmp old c
came_before old new became e n c = at (contains nat_cmp new c) (is_one_of became c) (contains nat_cmp old c) (e c) (n c)
  where
    at : (n w f : Bool) → (w ≡ true → f ≡ false) → n ≡ (f || w) → (n && not w) ≡ f
    at n true true r m = let z = r refl in cc
    at true true false r m = refl
    at false true false r m = cc
    at true false true r m = refl
    at false false true r m = cc
    at true false false r m = cc
    at false false false r m = refl
