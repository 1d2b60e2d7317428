-- When an edit is refused for a stale cell.
use Rattle.wi_scenarios.proofs.Words.{◌≡◌, ◌≢◌, ◌∙◌, ℕ, zero, suc, ◌+◌, ◌<◌, ◌≤◌, ◌⊎◌, inl, inr, Bool, true, false, ◌&&◌, List, [], ◌∷◌, ◌++◌, map, max, Option, Some, None, Ok, Err, refl, sym, ap, subst, arith, and_parts, and_from, both_ways, cases_Bool, cases_eq, ⊎_elim, cases_lt, or_cases, false≢true, none-some, Area, is_within, within_between, Entry, is_within_one, first_stale, IsFirst, entries_in, is_wanted_of_others, only_first, stale_is_first, Refusal, State, Answer, Event, MayHappen, MayFollow, state_after, IsCoherent, is_changes, named_by, edits_since, unseen, is_newer, IsFirstNewer, counts_before, is_refused_before, StaleIsNewer, ForcedIsNotStale, Command, named, is_forced, Cause, Stale, Loop, Full, EditLimit, Holds, stale_cell, Tells, IsStep, causes, IsFirstOf, ◌↔◌, list_all, same_Some}
use Rattle.wi_edit_log.specs.declared.edit.Edit.{Edit}
use Rattle.wi_scenarios.specs.declared.refusal.Refusal.TheVariants as refusal
use Rattle.wi_scenarios.proofs.CauseTests.{first_holds}
use Rattle.wi_scenarios.proofs.EditLemmas.{front}
use Rattle.wi_scenarios.proofs.EventLemmas.{TellsAndLogs, log_grows}
use Rattle.wi_scenarios.proofs.RunLemmas.{tells_and_logs}

-- ---- the first stale cell

-- there is a first below a bound, or none
first_below : (test : ℕ → Bool) (n : ℕ) → ((a : ℕ) × IsFirst test (Some a)) ⊎ ((b : ℕ) → b < n → test b ≡ false)
first_below test zero = inr (λ b l. absurd (omega (arith, l)))
first_below test (suc n) = next (first_below test n)
  where
    next : ((a : ℕ) × IsFirst test (Some a)) ⊎ ((b : ℕ) → b < n → test b ≡ false) → ((a : ℕ) × IsFirst test (Some a)) ⊎ ((b : ℕ) → b < suc n → test b ≡ false)
    next (inl f) = inl f
    next (inr none) = ⊎_elim
        (λ (t : test n ≡ true). inl (n, record { passes = t; least = λ b u. ⊎_elim (λ (l : b < n). absurd (both_ways (test b) (none b l) u)) (λ (l : n ≤ b). l) (cases_lt b n) }))
        (λ (t : test n ≡ false). inr (λ b l. ⊎_elim (λ (e : b ≡ n). ap test e ∙ t) (λ (m : b ≡ n → ⊥). none b (omega (arith, l, m))) (cases_eq b n)))
        (cases_Bool (test n))

-- cells in rectangles are below a bound
bound : List Area → ℕ
bound [] = 0
bound (r ∷ rs) = max (r.last + 1) (bound rs)

is_below : (areas : List Area) (a : ℕ) → is_within_one areas a ≡ true → a < bound areas
unfolding bound
is_below [] a h = absurd (false≢true h)
is_below (r ∷ rs) a h = elim (or_cases (is_within r a) (is_within_one rs a) h) [
  | inl t ↦ let k : a ≤ r.last = (within_between r a t).1 in omega (arith, k)
  | inr t ↦ let k : a < bound rs = is_below rs a t in omega (arith, k)
]

-- an edit that is kept as the entry
kept : Entry → Edit
kept e = record { named = e.areas; session = e.session; run = 0 }

kept_entries : (log : List Entry) → entries_in (map kept log) ≡ log
unfolding kept
kept_entries [] = refl
kept_entries (e ∷ es) = ap (λ (xs : List Entry). e ∷ xs) (kept_entries es)

-- a cell that is named, and named by others
abbrev is_wanted : List Entry → ℕ → List Area → ℕ → Bool
is_wanted edits i named a = is_within_one named a && is_newer edits i a

some_first : (edits : List Entry) (i : ℕ) (named : List Area) → (o : Option ℕ) × IsFirst (is_wanted edits i named) o
some_first edits i named = elim (first_below (is_wanted edits i named) (bound named)) [
  | inl f ↦ (Some f.0, f.1)
  | inr none ↦ (None, record { passes = tt; least = λ a t. both_ways (is_wanted edits i named a) (none a (is_below named a (and_parts (is_within_one named a) (is_newer edits i a) t).0)) t })
]

least_stale : (edits : List Entry) (i : ℕ) (named : List Area) → IsFirst (is_wanted edits i named) (first_stale edits i 0 named)
least_stale edits i named =
    let some = some_first edits i named in
    let same = kept_entries edits in
    let first : IsFirst (is_wanted_of_others (map kept edits) i named) some.0 = subst (λ (es : List Entry). IsFirst (is_wanted es i named) some.0) (sym same) some.1 in
    subst (IsFirst (is_wanted edits i named)) (stale_is_first edits (map kept edits) i 0 0 named some.0 same (omega arith) first) some.1

stale_exactly : (edits : List Entry) (i : ℕ) (named : List Area) (a : ℕ) → (first_stale edits i 0 named ≡ Some a) ↔ IsFirstNewer edits i named a
stale_exactly edits i named a = (there, back)
  where
    there : first_stale edits i 0 named ≡ Some a → IsFirstNewer edits i named a
    there e =
        let f = subst (IsFirst (is_wanted edits i named)) e (least_stale edits i named) in
        let p = and_parts (is_within_one named a) (is_newer edits i a) f.passes in
        record {
          is_named = p.0;
          by_others = p.1;
          none_before = λ b h k. f.least b (and_from (is_within_one named b) (is_newer edits i b) h k);
        }

    back : IsFirstNewer edits i named a → first_stale edits i 0 named ≡ Some a
    back h = only_first (is_wanted edits i named) (first_stale edits i 0 named) (Some a) (least_stale edits i named) (record {
      passes = and_from (is_within_one named a) (is_newer edits i a) h.is_named h.by_others;
      least = λ b t. let p = and_parts (is_within_one named b) (is_newer edits i b) t in h.none_before b p.0 p.1;
    })

module _ {C : Type 0} (IsStep : State → C → Answer → Type 0) (is_changes : C → Bool) (named_by : C → Option (List Area))
    (does : (s : State) (e : Event C) → IsCoherent s → MayHappen IsStep s e → TellsAndLogs is_changes named_by s e) where
  -- after commands, of those that other sessions' edits name since the session was last told a list
  pub stale_since : (s : State) (es : List (Event C)) (i : ℕ) (named : List Area) (a : ℕ) → IsCoherent s → MayFollow IsStep s es
      → (first_stale (unseen (state_after s es) i) i 0 named ≡ Some a) ↔ IsFirstNewer (edits_since is_changes named_by i (unseen s i) s es) i named a
  stale_since s es i named a settled run =
      subst (λ (edits : List Entry). (first_stale (unseen (state_after s es) i) i 0 named ≡ Some a) ↔ IsFirstNewer edits i named a)
      (log_grows IsStep is_changes named_by does s es i settled run).behind (stale_exactly (unseen (state_after s es) i) i named a)

-- ---- the order of causes

module _ (s : State) (c : Command) where
  -- no other cause is told so
  stale_only : (x : Cause) (a : ℕ) → Tells s c x (refusal.Stale a) → x ≡ Stale
  stale_only Stale a t = refl
  stale_only x a t = cc

  -- the cause stands before that of a stale cell
  abbrev is_before : Cause → Bool
  is_before Stale = false
  is_before Loop = false
  is_before Full = false
  is_before EditLimit = false
  is_before x = true

  counts : (x : Cause) → is_before x ≡ true → (e : Refusal) → Tells s c x e → counts_before e ≡ true
  counts Stale b e t = absurd (false≢true b)
  counts Loop b e t = absurd (false≢true b)
  counts Full b e t = absurd (false≢true b)
  counts EditLimit b e t = absurd (false≢true b)
  counts x b e t = ap counts_before t

  -- where the cause y holds, the first that holds is in front of it, or is y
  at_most : (xs : List Cause) (y : Cause) (rest : List Cause) → list_all is_before xs ≡ true → Holds s y c → (x : Cause) → IsFirstOf s c (xs ++ y ∷ rest) x
      → (is_before x ≡ true) ⊎ (x ≡ y)
  at_most [] y rest all h x (inl k) = inr k.1
  at_most [] y rest all h x (inr k) = absurd (k.0 h)
  at_most (z ∷ zs) y rest all h x (inl k) = inl (ap is_before k.1 ∙ (and_parts (is_before z) (list_all is_before zs) all).0)
  at_most (z ∷ zs) y rest all h x (inr k) = at_most zs y rest (and_parts (is_before z) (list_all is_before zs) all).1 h x k.1

  is_stale : (b : Answer) (a : ℕ) → IsStep s c b → b ≡ Err (refusal.Stale a) → stale_cell s c ≡ Some a
  is_stale b a h e =
      let k = subst (IsStep s c) e h in
      let t = subst (λ (x : Cause). Tells s c x (refusal.Stale a)) (stale_only k.0 a k.2) k.2 in
      let told = t.2 in
      let at : t.0 ≡ a = cc in t.1 ∙ ap Some at

  told_stale : (b : Answer) (a : ℕ) → IsStep s c b → is_forced c ≡ false → is_refused_before b ≡ false → stale_cell s c ≡ Some a → b ≡ Err (refusal.Stale a)
  told_stale (Ok done) a h free f e = absurd (h.0 Stale (free, λ n. none-some a (sym n ∙ e)))
  told_stale (Err d) a h free f e = by (at_most front Stale (Loop ∷ Full ∷ EditLimit ∷ []) refl (free, λ n. none-some a (sym n ∙ e)) h.0 h.1)
    where
      by : (is_before h.0 ≡ true) ⊎ (h.0 ≡ Stale) → ◌≡◌ {A = Answer} (Err d) (Err (refusal.Stale a))
      by (inl k) = absurd (both_ways (counts_before d) f (counts h.0 k d h.2))
      by (inr k) =
          let t = subst (λ (x : Cause). Tells s c x d) k h.2 in
          ap (λ (x : Refusal). let z : Answer = Err x in z) (t.2 ∙ ap refusal.Stale (same_Some t.0 a (sym t.1 ∙ e)))

  forced_not : (b : Answer) (a : ℕ) → IsStep s c b → is_forced c ≡ true → b ≢ Err (refusal.Stale a)
  forced_not b a h forced e =
      let k = subst (IsStep s c) e h in
      let held = subst (λ (x : Cause). Holds s x c) (stale_only k.0 a k.2) (first_holds s c causes k.0 k.1) in
      both_ways (is_forced c) held.0 forced

pub stale_is_newer : (s : State) (es : List (Event Command)) (e : Event Command) → IsCoherent s → MayFollow IsStep s es
    → StaleIsNewer IsStep is_changes named_by is_forced s es e (named e.command)
stale_is_newer s es e settled run h free f a = by h
  where
    t : State
    t = state_after s es

    exactly : (stale_cell t e.command ≡ Some a) ↔ IsFirstNewer (edits_since is_changes named_by t.current (unseen s t.current) s es) t.current (named e.command) a
    exactly = stale_since IsStep is_changes named_by tells_and_logs s es t.current (named e.command) a settled run

    by : MayHappen IsStep t e → (e.answer ≡ Err (refusal.Stale a)) ↔ IsFirstNewer (edits_since is_changes named_by t.current (unseen s t.current) s es) t.current (named e.command) a
    by (inl k) = (λ x. exactly.0 (is_stale t e.command e.answer a k x), λ y. told_stale t e.command e.answer a k free f (exactly.1 y))
    by (inr k) = absurd (both_ways (is_refused_before e.answer) f (ap is_refused_before k))

pub forced_is_not_stale : (s : State) (e : Event Command) → ForcedIsNotStale IsStep is_forced s e
forced_is_not_stale s e (inl h) forced a x = forced_not s e.command e.answer a h forced x
forced_is_not_stale s e (inr h) forced a x = let n : ⊥ = cc in n
