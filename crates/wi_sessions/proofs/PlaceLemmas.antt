-- Laws of the places where each session's cells stand.
use Rattle.wi_sessions.proofs.Words.{◌≡◌, ◌==◌, ◌<◌, ◌≤◌, ◌+◌, ◌||◌, ◌&&◌, ◌∙◌, ℕ, Bool, true, false, not, List, [], ◌∷◌, ◌++◌, length, get_or, set, drop, refl, sym, ap, subst, arith, ⊎_elim, and-true, nat_cmp, keys_of, cases_eq, cases_lt, both_ways, or_cases, or_left, or_right, and_parts, true≢false, false_from_ne_true, get_or-set_same, get_or-set_other, get_or_append_left, get_or_push, length-append, length-set, drop_all, drop-append-le, list_any-append, is_one_of, Unread, is_in, is_staged, SamePending, HasMade, HasCleared, is_unread, HasPlace, HavePlaces, AreKept, AreLookedAt}
use Rattle.std.specs.List.Sorted.{IsStrictlySortedBy}
use Rattle.wi_sessions.proofs.BitLemmas.{none_in_zero}
use Rattle.wi_sessions.proofs.WordLemmas.{Words}

-- ---- one session's place

module _ (changed : List ℕ) (u : Unread) (c : ℕ) where
  abbrev pub behind : Bool
  behind = is_one_of (drop u.from changed) c

  abbrev pub own : Bool
  own = is_one_of u.own.items c

  pub unread_anywhere : u.anywhere ≡ true → is_unread changed u c ≡ true
  unread_anywhere e = or_left u.anywhere (behind || own) e

  pub unread_behind : behind ≡ true → is_unread changed u c ≡ true
  unread_behind e = or_right u.anywhere (behind || own) (or_left behind own e)

  pub unread_own : own ≡ true → is_unread changed u c ≡ true
  unread_own e = or_right u.anywhere (behind || own) (or_right behind own e)

  pub unread_cases : {P : Type 0} → is_unread changed u c ≡ true → (u.anywhere ≡ true → P) → (behind ≡ true → P) → (own ≡ true → P) → P
  unread_cases h f g k = ⊎_elim f (λ r. ⊎_elim g k (or_cases behind own r)) (or_cases u.anywhere (behind || own) h)

-- where the list grows, each cell that was looked at is, and those that came
module _ (changed cells : List ℕ) (u : Unread) (c : ℕ) (l : u.from ≤ length changed) where
  longer : behind (changed ++ cells) u c ≡ (behind changed u c || is_one_of cells c)
  longer = ap (λ (xs : List ℕ). is_one_of xs c) (drop-append-le u.from changed cells l) ∙ list_any-append (λ d. d == c) (drop u.from changed) cells

  pub unread_longer : is_unread changed u c ≡ true → is_unread (changed ++ cells) u c ≡ true
  unread_longer h =
      unread_cases changed u c h (unread_anywhere (changed ++ cells) u c)
      (λ s. unread_behind (changed ++ cells) u c (longer ∙ or_left (behind changed u c) (is_one_of cells c) s)) (unread_own (changed ++ cells) u c)

  pub unread_new : is_one_of cells c ≡ true → is_unread (changed ++ cells) u c ≡ true
  unread_new h = unread_behind (changed ++ cells) u c (longer ∙ or_right (behind changed u c) (is_one_of cells c) h)

-- own cells noted
pub unread_tracked : (changed cells : List ℕ) (u v : Unread) → v.anywhere ≡ u.anywhere → v.from ≡ u.from → v.own.items ≡ u.own.items ++ cells
    → (c : ℕ) → (is_unread changed u c || is_one_of cells c) ≡ true → is_unread changed v c ≡ true
unread_tracked changed cells u v a f o c h =
    ⊎_elim (λ k. unread_cases changed u c k (λ t. unread_anywhere changed v c (a ∙ t))
    (λ s. unread_behind changed v c (ap (λ (n : ℕ). is_one_of (drop n changed) c) f ∙ s))
    (λ t. unread_own changed v c (more ∙ or_left (own changed u c) (is_one_of cells c) t)))
    (λ k. unread_own changed v c (more ∙ or_right (own changed u c) (is_one_of cells c) k))
    (or_cases (is_unread changed u c) (is_one_of cells c) h)
  where
    more : own changed v c ≡ (own changed u c || is_one_of cells c)
    more = ap (λ (xs : List ℕ). is_one_of xs c) o ∙ list_any-append (λ d. d == c) u.own.items cells

-- the list begins anew: who had read all looks at its own cells alone
pub unread_anew : (changed : List ℕ) (u v : Unread) → u.from ≡ length changed → v.anywhere ≡ u.anywhere → v.own.items ≡ u.own.items
    → (c : ℕ) → is_unread changed u c ≡ true → is_unread [] v c ≡ true
unread_anew changed u v all a o c h =
    unread_cases changed u c h (λ t. unread_anywhere [] v c (a ∙ t))
    (λ s. absurd (true≢false (sym s ∙ ap (λ (xs : List ℕ). is_one_of xs c) (drop_all u.from changed (omega (arith, all))))))
    (λ t. unread_own [] v c (ap (λ (xs : List ℕ). is_one_of xs c) o ∙ t))

-- ---- all places

module _ (words : Words) (changed : List ℕ) (unread : List Unread) where
  -- another in the place of the i-th
  pub places_set : (i : ℕ) (u : Unread) → i < length unread → HavePlaces words changed unread → HasPlace words changed i u → HavePlaces words changed (set unread i u)
  places_set i u l h k = λ j d m. ⊎_elim
      (λ e. subst (λ (n : ℕ). HasPlace words changed n (get_or (set unread i u) n d)) (sym e)
      (subst (λ (v : Unread). HasPlace words changed i v) (sym (get_or-set_same unread i u d l)) k))
      (λ apart. subst (λ (v : Unread). HasPlace words changed j v) (sym (get_or-set_other unread i j u d apart)) (h j d (subst (λ (n : ℕ). j < n) (length-set unread i u) m)))
      (cases_eq j i)

  -- the list grows
  pub places_longer : (cells : List ℕ) → HavePlaces words changed unread → HavePlaces words (changed ++ cells) unread
  places_longer cells h = λ j d m.
      let p : HasPlace words changed j (get_or unread j d) = h j d m in
      let l : (get_or unread j d).from ≤ length changed = p.within in
      record {
        within = subst (λ (n : ℕ). (get_or unread j d).from ≤ n) (sym (length-append changed cells)) (omega (arith, l));
        found = λ c s. unread_longer changed cells (get_or unread j d) c l (p.found c s);
      }

  pub places_looked : (cells : List ℕ) → HavePlaces words changed unread → AreLookedAt cells (changed ++ cells) unread
  places_looked cells h = λ i c d m s. unread_new changed cells (get_or unread i d) c (h i d m).within s

  -- fewer cells have bits
  pub places_fewer : (less : Words) → ((i c : ℕ) → is_in less i c ≡ true → is_in words i c ≡ true) → HavePlaces words changed unread → HavePlaces less changed unread
  places_fewer less f h = λ j d m.
      let p : HasPlace words changed j (get_or unread j d) = h j d m in
      record { within = p.within; found = λ c s. p.found c (f j c s) }

  -- more cells have bits, which are looked at
  pub places_more : (more : Words) (test : ℕ → ℕ → Bool) → ((i c : ℕ) → is_in more i c ≡ (is_in words i c || test i c))
      → ((i c : ℕ) (d : Unread) → i < length unread → test i c ≡ true → is_unread changed (get_or unread i d) c ≡ true) → HavePlaces words changed unread → HavePlaces more changed unread
  places_more more test f g h = λ j d m.
      let p : HasPlace words changed j (get_or unread j d) = h j d m in
      record { within = p.within; found = λ c s. ⊎_elim (p.found c) (g j c d m) (or_cases (is_in words j c) (test j c) (sym (f j c) ∙ s)) }

  -- one more session, of which no cell has the bit yet
  pub places_pushed : (u : Unread) → HavePlaces words changed unread → HasPlace words changed (length unread) u → HavePlaces words changed (unread ++ u ∷ [])
  places_pushed u h k = λ j d m. ⊎_elim
      (λ l. subst (λ (v : Unread). HasPlace words changed j v) (sym (get_or_append_left unread (u ∷ []) d j l)) (h j d l))
      (λ l. let e : j ≡ length unread = last j l (subst (λ (n : ℕ). j < n) (length-append unread (u ∷ [])) m) in
      subst (λ (n : ℕ). HasPlace words changed n (get_or (unread ++ u ∷ []) n d)) (sym e)
      (subst (λ (v : Unread). HasPlace words changed (length unread) v) (sym (get_or_push unread u d (length unread) refl)) k))
      (cases_lt j (length unread))
    where
      last : (j : ℕ) → length unread ≤ j → j < length unread + length (u ∷ []) → j ≡ length unread
      last j l m = omega (arith, l, m)

-- ---- the list of changed cells begins anew, for one session after another

-- those before the i-th have
abbrev pub HaveBegun : Words → List ℕ → List Unread → List Unread → ℕ → Type 0
HaveBegun words changed old now i = HavePlaces words changed old → (j : ℕ) (d : Unread) → j < i → j < length now → HasPlace words [] j (get_or now j d)

-- the others are as they were
abbrev pub LeftAsWere : (old now : List Unread) → ℕ → Type 0
LeftAsWere old now i = (j : ℕ) (d : Unread) → i ≤ j → get_or now j d ≡ get_or old j d

-- one session at an empty list
pub place_anew : (words : Words) (changed : List ℕ) (i : ℕ) (u v : Unread) → HasPlace words changed i u → v.from ≡ 0 → ((c : ℕ) → is_unread changed u c ≡ true → is_unread [] v c ≡ true) → HasPlace words [] i v
place_anew words changed i u v p z stay = record { within = omega (arith, z); found = λ c s. stay c (p.found c s) }

pub begun_more : (words : Words) (changed : List ℕ) (old now : List Unread) (i : ℕ) (u v : Unread) → i < length now → length now ≡ length old → u ≡ get_or now i u → v.from ≡ 0
    → ((c : ℕ) → is_unread changed u c ≡ true → is_unread [] v c ≡ true) → LeftAsWere old now i → HaveBegun words changed old now i → HaveBegun words changed old (set now i v) (i + 1)
begun_more words changed old now i u v l e is z stay left h = λ p j d m k. ⊎_elim
    (λ s. subst (λ (n : ℕ). HasPlace words [] n (get_or (set now i v) n d)) (sym s)
    (subst (λ (w : Unread). HasPlace words [] i w) (sym (get_or-set_same now i v d l))
    (place_anew words changed i u v
    (subst (λ (w : Unread). HasPlace words changed i w) (sym (left i u (let n : i ≤ i = omega arith in n)) ∙ sym is) (p i u (subst (λ (n : ℕ). i < n) e l))) z stay)))
    (λ apart. subst (λ (w : Unread). HasPlace words [] j w) (sym (get_or-set_other now i j v d apart)) (h p j d (omega (arith, m, apart)) (subst (λ (n : ℕ). j < n) (length-set now i v) k)))
    (cases_eq j i)

pub left_more : (old now : List Unread) (i : ℕ) (v : Unread) → LeftAsWere old now i → LeftAsWere old (set now i v) (i + 1)
left_more old now i v h = λ j d l. get_or-set_other now i j v d (λ s. let none : Prim.⊥ = omega (arith, l, s) in none) ∙ h j d (omega (arith, l))

-- a session that is alone and looks anywhere
pub alone_looks : (unread : List Unread) (u : Unread) → length unread ≡ 1 → u.anywhere ≡ true → (cells changed : List ℕ) → AreLookedAt cells changed (set unread 0 u)
alone_looks unread u one anywhere cells changed = λ i c d m s.
    let l : i < length unread = subst (λ (n : ℕ). i < n) (length-set unread 0 u) m in
    let e : i ≡ 0 = omega (arith, one, l) in
    subst (λ (j : ℕ). is_unread changed (get_or (set unread 0 u) j d) c ≡ true) (sym e)
    (subst (λ (v : Unread). is_unread changed v c ≡ true) (sym (get_or-set_same unread 0 u d (omega (arith, one)))) (unread_anywhere changed u c anywhere))

-- cells of its own noted
pub place_tracked : (words : Words) (changed : List ℕ) (i : ℕ) (u v : Unread) → HasPlace words changed i u → v.from ≡ u.from → ((c : ℕ) → is_unread changed u c ≡ true → is_unread changed v c ≡ true) → HasPlace words changed i v
place_tracked words changed i u v p f stay = record { within = subst (λ (n : ℕ). n ≤ length changed) (sym f) p.within; found = λ c s. stay c (p.found c s) }

-- that of the i-th, as the code reads it
pub place_read : (words : Words) (changed : List ℕ) (unread : List Unread) (i : ℕ) (u : Unread) → HavePlaces words changed unread → i < length unread → u ≡ get_or unread i u → HasPlace words changed i u
place_read words changed unread i u h l e = subst (λ (v : Unread). HasPlace words changed i v) (sym e) (h i u l)

-- ---- what always holds

module _ (words staged : Words) (changed : List ℕ) (unread : List Unread) (k : AreKept words staged changed unread) where
  -- other places
  pub kept_at : (grown : List ℕ) (read : List Unread) → length read ≡ length unread → HavePlaces words grown read → AreKept words staged grown read
  kept_at grown read e h = record {
    order = k.order;
    few = subst (λ (n : ℕ). n ≤ 64) (sym e) k.few;
    none = λ i c l. k.none i c (subst (λ (n : ℕ). n ≤ i) e l);
    bare = λ i c l. k.bare i c (subst (λ (n : ℕ). n ≤ i) e l);
    places = h;
  }

  -- room was made, for sessions that there are
  pub kept_made : (test : ℕ → ℕ → Bool) (more rooms : Words) → IsStrictlySortedBy nat_cmp (keys_of more) → HasMade test words staged more rooms
      → ((i c : ℕ) → length unread ≤ i → test i c ≡ false) → ((i c : ℕ) (d : Unread) → i < length unread → test i c ≡ true → is_unread changed (get_or unread i d) c ≡ true)
      → AreKept more rooms changed unread
  kept_made test more rooms order h none look = record {
    order = order;
    few = k.few;
    none = λ i c l. h.put i c ∙ ap (λ b. b || test i c) (k.none i c l) ∙ none i c l;
    bare = λ i c l. h.made i c ∙ ap (λ b. b || (test i c && not (is_in words i c))) (k.bare i c l) ∙ ap (λ b. b && not (is_in words i c)) (none i c l);
    places = places_more words changed unread more test h.put look k.places;
  }

  -- there are fewer bits
  pub kept_fewer : (less rooms : Words) → IsStrictlySortedBy nat_cmp (keys_of less) → ((i c : ℕ) → is_in less i c ≡ true → is_in words i c ≡ true)
      → ((i c : ℕ) → length unread ≤ i → is_staged rooms i c ≡ false) → AreKept less rooms changed unread
  kept_fewer less rooms order f bare = record {
    order = order;
    few = k.few;
    none = λ i c l. false_from_ne_true (is_in less i c) (λ t. both_ways (is_in words i c) (k.none i c l) (f i c t));
    bare = bare;
    places = places_fewer words changed unread less f k.places;
  }

  no_rooms : (none : Words) → none ≡ [] → (i c : ℕ) → length unread ≤ i → is_staged none i c ≡ false
  no_rooms none e i c l = ap (λ (rs : Words). is_staged rs i c) e

  -- what is pending is the same, and no room is left
  pub kept_given : (more none : Words) → IsStrictlySortedBy nat_cmp (keys_of more) → SamePending words staged more none → none ≡ [] → AreKept more none changed unread
  kept_given more none order h e =
      kept_fewer more none order (λ i c t. (and_parts (is_in words i c) (not (is_staged staged i c)) (sym (same i c) ∙ t)).0) (no_rooms none e)
    where
      same : (i c : ℕ) → is_in more i c ≡ (is_in words i c && not (is_staged staged i c))
      same i c = sym (ap (λ (rs : Words). is_in more i c && not (is_staged rs i c)) e ∙ and-true (is_in more i c)) ∙ h i c

  -- bits were taken away
  pub kept_cleared : (test : ℕ → ℕ → Bool) (less : Words) → IsStrictlySortedBy nat_cmp (keys_of less) → HasCleared test words less → AreKept less staged changed unread
  kept_cleared test less order h =
      kept_fewer less staged order (λ i c t. (and_parts (is_in words i c) (not (test i c)) (sym (h i c) ∙ t)).0) k.bare

  -- the rooms are taken
  pub kept_taken : (none : Words) → none ≡ [] → AreKept words none changed unread
  kept_taken none e = kept_fewer words none k.order (λ i c t. t) (no_rooms none e)

-- of no session
pub kept_none : (words staged : Words) (changed : List ℕ) (unread : List Unread) → words ≡ [] → staged ≡ [] → unread ≡ [] → AreKept words staged changed unread
unfolding IsStrictlySortedBy
kept_none words staged changed unread w s u = record {
  order = subst (λ (es : Words). IsStrictlySortedBy nat_cmp (keys_of es)) (sym w) tt;
  few = subst (λ (us : List Unread). length us ≤ 64) (sym u) (omega arith);
  none = λ i c l. ap (λ (es : Words). is_in es i c) w ∙ none_in_zero i;
  bare = λ i c l. ap (λ (rs : Words). is_staged rs i c) s;
  places = λ i d l. let none : Prim.⊥ = omega (arith, subst (λ (us : List Unread). i < length us) u l) in absurd none;
}
