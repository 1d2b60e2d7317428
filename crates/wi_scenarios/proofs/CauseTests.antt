-- The answer of a command that is refused for causes which tests decide.
use Rattle.wi_scenarios.proofs.Words.{◌≡◌, ◌↔◌, ◌∙◌, ◌<◌, ◌||◌, ◌&&◌, ℕ, nat_lt, nat_le, Bool, true, false, not, List, [], ◌∷◌, length, ◌⊎◌, inl, inr, Option, Some, None, is_some, Ok, Err, if◌then◌else◌, refl, sym, ap, subst, both_ways, ltb-true, lt-ltb, leb-true, le-leb, or_cases, or-true, Any, Any-weaker, Any-from_list_any, list_any, list_any-from_Any, bytes_eq, bytes_eq-Decides, IsImported, imported, imported_exactly, is_name_of, is_named, is_base, is_full, would_loop, chain, has_session, max_sessions, Session, Refusal, State, max_area, Kept, Command, Set, Clear, Fill, Csv, Scenario, Drop, Base, As, Table, Unknown, Unreadable, form, Cell, CornerCells, address, is_bent, is_missing, lies_outside, cells_asked, Put, Puts, Cause, BadLine, BadCommand, CutShort, Outside, TooLarge, NoScenario, InUse, TooMany, BadField, TooLong, OutOfSheet, NumberRange, TooDeep, Syntax, LeavesSheet, Stale, Loop, Full, EditLimit, Holds, stale_cell, Does, Tells, IsStep, causes, IsFirstOf, Answer, none-some, same_Some, ◌++◌}
use Rattle.wi_scenarios.specs.declared.refusal.Refusal.TheVariants as refusal

-- the first cause whose test holds
abbrev pub first_test : (Cause → Bool) → List Cause → Option Cause
first_test test [] = None
first_test test (x ∷ xs) = if test x then Some x else first_test test xs

-- ---- elements by a test

module _ {X : Type 0} (test : X → Bool) (P : X → Type 0) (decides : (x : X) → (test x ≡ true) ↔ P x) where
  pub any_is : (xs : List X) → (list_any test xs ≡ true) ↔ Any P xs
  any_is xs = (
    λ e. Any-weaker (λ x. test x ≡ true) P xs (λ x h. (decides x).0 h) (Any-from_list_any test xs e),
    λ h. list_any-from_Any test xs (Any-weaker P (λ x. test x ≡ true) xs (λ x k. (decides x).1 k) h),
  )

named_so : (name other : List ℕ) → (bytes_eq name other ≡ true) ↔ (other ≡ name)
named_so name other = (λ e. sym ((bytes_eq-Decides name other).0 e), λ h. (bytes_eq-Decides name other).1 (sym h))

-- there is none
pub none_there : {X : Type 0} (o : Option X) → (not (is_some o) ≡ true) ↔ (o ≡ None)
none_there None = (λ e. refl, λ h. refl)
none_there (Some x) = (λ e. absurd (both_ways false refl e), λ h. absurd (none-some x (sym h)))

-- ---- causes none of which holds

module _ (s : State) (c : Command) where
  abbrev pub NoneHolds : List Cause → Type 0
  NoneHolds [] = Unit {0}
  NoneHolds (x ∷ xs) = (Holds s x c → ⊥) × NoneHolds xs

  pub both_none : (xs ys : List Cause) → NoneHolds xs → NoneHolds ys → NoneHolds (xs ++ ys)
  both_none [] ys n m = m
  both_none (x ∷ xs) ys n m = (n.0, both_none xs ys n.1 m)

  -- what is the first behind them is the first of all
  pub behind_none : (xs ys : List Cause) (x : Cause) → NoneHolds xs → IsFirstOf s c ys x → IsFirstOf s c (xs ++ ys) x
  behind_none [] ys x n h = h
  behind_none (z ∷ zs) ys x n h = inr (n.0, behind_none zs ys x n.1 h)

  pub no_cause : NoneHolds causes → (x : Cause) → Holds s x c → ⊥
  no_cause n BadLine = n.0
  no_cause n BadCommand = n.1.0
  no_cause n CutShort = n.1.1.0
  no_cause n Outside = n.1.1.1.0
  no_cause n TooLarge = n.1.1.1.1.0
  no_cause n NoScenario = n.1.1.1.1.1.0
  no_cause n InUse = n.1.1.1.1.1.1.0
  no_cause n TooMany = n.1.1.1.1.1.1.1.0
  no_cause n BadField = n.1.1.1.1.1.1.1.1.0
  no_cause n TooLong = n.1.1.1.1.1.1.1.1.1.0
  no_cause n OutOfSheet = n.1.1.1.1.1.1.1.1.1.1.0
  no_cause n NumberRange = n.1.1.1.1.1.1.1.1.1.1.1.0
  no_cause n TooDeep = n.1.1.1.1.1.1.1.1.1.1.1.1.0
  no_cause n Syntax = n.1.1.1.1.1.1.1.1.1.1.1.1.1.0
  no_cause n LeavesSheet = n.1.1.1.1.1.1.1.1.1.1.1.1.1.1.0
  no_cause n Stale = n.1.1.1.1.1.1.1.1.1.1.1.1.1.1.1.0
  no_cause n Loop = n.1.1.1.1.1.1.1.1.1.1.1.1.1.1.1.1.0
  no_cause n Full = n.1.1.1.1.1.1.1.1.1.1.1.1.1.1.1.1.1.0
  no_cause n EditLimit = n.1.1.1.1.1.1.1.1.1.1.1.1.1.1.1.1.1.1.0

  pub first_holds : (xs : List Cause) (x : Cause) → IsFirstOf s c xs x → Holds s x c
  first_holds [] x h = absurd h
  first_holds (z ∷ zs) x (inl h) = subst (λ (y : Cause). Holds s y c) (sym h.1) h.0
  first_holds (z ∷ zs) x (inr h) = first_holds zs x h.1

-- ---- a command that edits nothing

abbrev pub EditsNone : Command → Type 0
EditsNone (Set force at text) = ⊥
EditsNone (Clear force rect) = ⊥
EditsNone (Fill force at rect) = ⊥
EditsNone (Csv force at n lines) = ⊥
EditsNone c = Unit {0}

edits_none : (s : State) (c : Command) → EditsNone c → (stale_cell s c ≡ None) × ((puts : List Put) → Puts s c puts → ⊥)
edits_none s (Set force at text) u = absurd u
edits_none s (Clear force rect) u = absurd u
edits_none s (Fill force at rect) u = absurd u
edits_none s (Csv force at n lines) u = absurd u
edits_none s c u = (refl, λ q h. h)

-- a scenario is used by a session, or another is based on it
abbrev pub is_in_use : State → List ℕ → Bool
is_in_use s name = list_any (λ x. is_name_of name x.scenario) s.sessions || is_base s.scenarios name

-- the column isn't one, or the row, where there is one
abbrev pub is_misshaped : CornerCells → Option (Cell × CornerCells) → Bool
is_misshaped xs None = is_bent (λ c. c.column) xs
is_misshaped xs (Some y) = is_bent (λ c. c.column) xs || is_bent (λ c. c.row) y.1

-- the test that finds a cause of such a command
abbrev pub is_found : State → Cause → Command → Bool
is_found s BadLine Unreadable = true
is_found s BadCommand Unknown = true
is_found s BadCommand (Table f r xs second) = is_misshaped xs second
is_found s Outside c = list_any lies_outside (form c)
is_found s TooLarge c = nat_lt max_area (cells_asked (form c))
is_found s NoScenario (Scenario name at (b ∷ bs)) = false
is_found s NoScenario c = list_any (is_missing s) (form c)
is_found s InUse (Drop name) = is_in_use s name
is_found s TooMany (Scenario name at (b ∷ bs)) = is_full s.scenarios name (address at)
is_found s TooMany (As name) = not (has_session s.sessions name) && nat_le max_sessions (length s.sessions)
is_found s TooLong (Scenario name at (b ∷ bs)) = not (is_some (imported (b ∷ bs)))
is_found s Loop (Base name other) = would_loop s.scenarios name other
is_found s x c = false

never : {A : Type 0} → (A → ⊥) → (false ≡ true) ↔ A
never none = (λ e. absurd (both_ways false refl e), λ h. absurd (none h))

always : (true ≡ true) ↔ Unit {0}
always = (λ e. tt, λ h. refl)

itself : {A : Type 0} → A ↔ A
itself = (λ h. h, λ h. h)

pub is_large : (n : ℕ) → (nat_lt max_area n ≡ true) ↔ (max_area < n)
is_large n = (λ e. ltb-true _ _ e, λ h. lt-ltb _ _ h)

named_is : (name : List ℕ) (o : Option (List ℕ)) → (is_name_of name o ≡ true) ↔ (o ≡ Some name)
named_is name None = (λ e. absurd (both_ways false refl e), λ h. cc)
named_is name (Some other) = (
  λ e. ap (λ (x : List ℕ). Some x) (sym ((bytes_eq-Decides name other).0 e)),
  λ h. ap (is_name_of name) h ∙ (bytes_eq-Decides name name).1 refl,
)

any_named : {X : Type 0} (given : X → Option (List ℕ)) (name : List ℕ) (xs : List X) → (list_any (λ x. is_name_of name (given x)) xs ≡ true) ↔ Any (λ x. given x ≡ Some name) xs
any_named given name xs = any_is (λ x. is_name_of name (given x)) (λ x. given x ≡ Some name) (λ x. named_is name (given x)) xs

module _ (s : State) where
  used : (name : List ℕ) → (is_in_use s name ≡ true) ↔ Holds s InUse (Drop name)
  used name = (λ e. by (or_cases (list_any (λ x. is_name_of name x.scenario) s.sessions) (is_base s.scenarios name) e), back)
    where
      by : (list_any (λ x. is_name_of name x.scenario) s.sessions ≡ true) ⊎ (is_base s.scenarios name ≡ true) → Holds s InUse (Drop name)
      by (inl h) = inl ((any_named (λ (x : Session). x.scenario) name s.sessions).0 h)
      by (inr h) = inr ((any_named (λ (x : Kept). x.base) name s.scenarios).0 h)

      back : Holds s InUse (Drop name) → is_in_use s name ≡ true
      back (inl h) = ap (λ (b : Bool). b || is_base s.scenarios name) ((any_named (λ (x : Session). x.scenario) name s.sessions).1 h)
      back (inr h) = ap (λ (b : Bool). list_any (λ x. is_name_of name x.scenario) s.sessions || b) ((any_named (λ (x : Kept). x.base) name s.scenarios).1 h) ∙ or-true _

  full : (there many : Bool) → ((not there && many) ≡ true) ↔ ((there ≡ false) × (many ≡ true))
  full true many = (λ e. absurd (both_ways false refl e), λ h. absurd (both_ways true h.0 refl))
  full false many = (λ e. (refl, e), λ h. h.1)

  too_many : (name : List ℕ) → (is_found s TooMany (As name) ≡ true) ↔ Holds s TooMany (As name)
  too_many name =
      let both = full (has_session s.sessions name) (nat_le max_sessions (length s.sessions)) in
      (λ e. ((both.0 e).0, leb-true _ _ (both.0 e).1), λ h. both.1 (h.0, le-leb _ _ h.1))

  too_long : (text : List ℕ) → (not (is_some (imported text)) ≡ true) ↔ IsImported text None
  too_long text =
      let none = none_there (imported text) in
      let is = imported_exactly text None in
      (λ e. is.1 (none.0 e), λ h. none.1 (is.0 h))

  pub tested : (x : Cause) (c : Command) → EditsNone c → (is_found s x c ≡ true) ↔ Holds s x c
  tested x (Set force at text) u = absurd u
  tested x (Clear force rect) u = absurd u
  tested x (Fill force at rect) u = absurd u
  tested x (Csv force at n lines) u = absurd u
  tested BadLine Unreadable u = always
  tested BadCommand Unknown u = always
  tested BadCommand (Table f r xs None) u = itself
  tested BadCommand (Table f r xs (Some y)) u = itself
  tested Outside c u = itself
  tested TooLarge c u = is_large _
  tested NoScenario (Scenario name at (b ∷ bs)) u = never (λ h. h)
  tested NoScenario c u = itself
  tested InUse (Drop name) u = used name
  tested TooMany (Scenario name at (b ∷ bs)) u = itself
  tested TooMany (As name) u = too_many name
  tested TooLong (Scenario name at (b ∷ bs)) u = too_long (b ∷ bs)
  tested Stale c u = never (λ h. h.1 (edits_none s c u).0)
  tested Loop (Base name (Some other)) u = any_is (is_named name) (λ x. x.name ≡ name) (λ x. named_so name x.name) (chain s.scenarios (Some other))
  tested Full c u = never (λ h. (edits_none s c u).1 h.0 h.1)
  tested EditLimit c u = never (λ h. (edits_none s c u).1 h.0 h.1)
  tested x c u = never (λ h. h)

-- ---- its step

-- the first cause that is found
abbrev pub first_found : State → Command → Option Cause
first_found s c = first_test (λ x. is_found s x c) causes

module _ (s : State) (c : Command) (u : EditsNone c) where
  first_is : (xs : List Cause) (x : Cause) → first_test (λ y. is_found s y c) xs ≡ Some x → IsFirstOf s c xs x
  first_is [] x e = absurd (none-some x e)
  first_is (y ∷ ys) x e = by (is_found s y c) refl e (λ k. first_is ys x k)
    where
      by : (b : Bool) → is_found s y c ≡ b → (if b then Some y else first_test (λ z. is_found s z c) ys) ≡ Some x
          → (first_test (λ z. is_found s z c) ys ≡ Some x → IsFirstOf s c ys x) → IsFirstOf s c (y ∷ ys) x
      by true t e more = inl ((tested s y c u).0 t, sym (same_Some y x e))
      by false t e more = inr (λ h. both_ways _ t ((tested s y c u).1 h), more e)

  none_is : (xs : List Cause) → first_test (λ y. is_found s y c) xs ≡ None → NoneHolds s c xs
  none_is [] e = tt
  none_is (y ∷ ys) e = by (is_found s y c) refl e (λ k. none_is ys k)
    where
      by : (b : Bool) → is_found s y c ≡ b → (if b then Some y else first_test (λ z. is_found s z c) ys) ≡ None
          → (first_test (λ z. is_found s z c) ys ≡ None → NoneHolds s c ys) → NoneHolds s c (y ∷ ys)
      by true t e more = absurd (none-some y (sym e))
      by false t e more = (λ h. both_ways _ t ((tested s y c u).1 h), more e)

  pub refused_for : {e : Refusal} (x : Cause) → Tells s c x e → first_found s c ≡ Some x → IsStep s c (Err e)
  refused_for x told h = (x, first_is causes x h, told)

  told : (x : Cause) → Holds s x c → (e : Refusal) × Tells s c x e
  told Stale h = absurd (h.1 (edits_none s c u).0)
  told x h = (_, refl)

  pub refused_by : (x : Cause) → first_found s c ≡ Some x → (a : Answer) × IsStep s c a
  refused_by x h =
      let first = first_is causes x h in
      let e = told x (first_holds s c causes x first) in
      (Err e.0, (x, first, e.1))

  pub free : first_found s c ≡ None → (x : Cause) → Holds s x c → ⊥
  free e = no_cause s c (none_is causes e)

  pub accepted : first_found s c ≡ None → (done : State × List ℕ) → Does s c done → IsStep s c (Ok done)
  accepted e done does = (free e, does)

-- ---- the first cause that holds is one, and so a step has one answer

module _ (s : State) (c : Command) where
  pub one_first : (xs : List Cause) (x y : Cause) → IsFirstOf s c xs x → IsFirstOf s c xs y → x ≡ y
  one_first [] x y h k = absurd h
  one_first (z ∷ zs) x y (inl h) (inl k) = h.1 ∙ sym k.1
  one_first (z ∷ zs) x y (inl h) (inr k) = absurd (k.0 h.0)
  one_first (z ∷ zs) x y (inr h) (inl k) = absurd (h.0 k.0)
  one_first (z ∷ zs) x y (inr h) (inr k) = one_first zs x y h.1 k.1

  one_told : (x : Cause) (d e : Refusal) → Tells s c x d → Tells s c x e → d ≡ e
  one_told Stale d e h k =
      let same : Some h.0 ≡ Some k.0 = sym h.1 ∙ k.1 in
      let at : h.0 ≡ k.0 = cc in
      h.2 ∙ ap refusal.Stale at ∙ sym k.2
  one_told x d e h k = h ∙ sym k

  abbrev pub DoesOne : Type 0
  DoesOne = (x y : State × List ℕ) → Does s c x → Does s c y → x ≡ y

  pub one_answer : DoesOne → (a b : Answer) → IsStep s c a → IsStep s c b → a ≡ b
  one_answer one (Ok x) (Ok y) h k = ap (λ (z : State × List ℕ). let a : Answer = Ok z in a) (one x y h.1 k.1)
  one_answer one (Ok x) (Err e) h k = absurd (h.0 k.0 (first_holds s c causes k.0 k.1))
  one_answer one (Err d) (Ok y) h k = absurd (k.0 h.0 (first_holds s c causes h.0 h.1))
  one_answer one (Err d) (Err e) h k =
      let same : k.0 ≡ h.0 = one_first causes k.0 h.0 k.1 h.1 in
      ap (λ (r : Refusal). let a : Answer = Err r in a) (one_told h.0 d e h.2 (subst (λ (x : Cause). Tells s c x e) same k.2))
