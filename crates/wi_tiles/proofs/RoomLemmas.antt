-- Laws of rooms, whatever stands in them.
use Rattle.wi_tiles.proofs.Words.{◌≡◌, ◌==◌, ◌≤◌, ◌+◌, ◌⊎◌, ◌↔◌, ℕ, Bool, true, false, cond, not, IsTrue, List, [], ◌∷◌, filter, length, Option, Some, None, refl, sym, ap, subst, arith, ◌∙◌, ⊎_elim, inl, inr, unwrap_or, is_some, from_bool, nat_cmp, keys_of, set_value, remove_entry, is_at, cases_eq, eqb-true, list_any, is_some-lookup, keeps_few, Ascends, Ascends-from_order, ComeAfter, ComeAfter-filter, Ascends-filter, at_itself, at_same, at_other, is_at-eq, turn_test, lookup_after, room_of, RoomsAreInOrder, taken, with_one, held_at, HoldsTheSame, HasNoVacancy, HasRoomFor, AreBetweenEdits, first_there, same_entries}
use Rattle.wi_tiles.proofs.MapSteps.{with_new, found-with_new, found-replaced, replaced_nowhere, found-removed}

module _ {X : Type 0} where
  -- ---- some of the rooms

  -- what passes the test, if it does
  abbrev pub passing : (X → Bool) → Option X → Option X
  passing p None = None
  passing p (Some x) = cond (p x) (Some x) None

  -- a cell's room among those that pass a test
  pub room_of-filter : (p : X → Bool) (rooms : List (ℕ × X)) → Ascends rooms → (q : ℕ) → room_of (filter (λ e. p e.1) rooms) q ≡ passing p (room_of rooms q)
  room_of-filter p [] h q = refl
  room_of-filter p (e ∷ es) h q = by (p e.1) refl (is_at (nat_cmp q) e.0) refl (room_of-filter p es h.1 q)
    where
      by : (b : Bool) → p e.1 ≡ b → (d : Bool) → is_at (nat_cmp q) e.0 ≡ d → room_of (filter (λ e. p e.1) es) q ≡ passing p (room_of es q)
          → room_of (cond b (e ∷ filter (λ e. p e.1) es) (filter (λ e. p e.1) es)) q ≡ passing p (cond d (Some e.1) (room_of es q))
      by true s true t ih = rw (t, s) refl
      by true s false t ih = rw t ih
      by false s true t ih =
          rw s (lookup_after q (filter (λ e. p e.1) es) (subst (λ (z : ℕ). ComeAfter z (filter (λ e. p e.1) es)) (at_same q e.0 t) (ComeAfter-filter (λ e. p e.1) e.0 es h.0)))
      by false s false t ih = ih

  -- ---- which cells have a room

  no_more : (o p : Option X) → is_some p ≡ is_some o → p ≡ None → o ≡ None
  no_more None p e n = refl
  no_more (Some x) p e n = let z : true ≡ false = sym e ∙ ap is_some n in cc

  -- where the cells with a room are the same, so is whether one has none
  pub none_by_keys : (old new : List (ℕ × X)) → keys_of new ≡ keys_of old → (q : ℕ) → room_of new q ≡ None → room_of old q ≡ None
  none_by_keys old new e q n =
      no_more (room_of old q) (room_of new q)
      (is_some-lookup (is_at (nat_cmp q)) new ∙ ap (λ (ks : List ℕ). list_any (is_at (nat_cmp q)) ks) e ∙ sym (is_some-lookup (is_at (nat_cmp q)) old)) n

  -- a cell that has no room after one was made had none before
  pub none_kept : (b : Bool) (x y : Option X) (w : X) → x ≡ cond b (Some w) y → x ≡ None → y ≡ None
  none_kept true x y w e h = cc
  none_kept false x y w e h = sym e ∙ h

  -- a room that is not the first
  pub room_of-tail : (a : ℕ) (e : ℕ × X) (es : List (ℕ × X)) (x : X) → ComeAfter e.0 es → room_of es a ≡ Some x → room_of (e ∷ es) a ≡ Some x
  room_of-tail a e es x after h = by (is_at (nat_cmp a) e.0) refl
    where
      by : (b : Bool) → is_at (nat_cmp a) e.0 ≡ b → cond b (Some e.1) (room_of es a) ≡ Some x
      by true t = let n : room_of es a ≡ None = lookup_after a es (subst (λ (z : ℕ). ComeAfter z es) (at_same a e.0 t) after) in cc
      by false t = h

module _ {X : Type 0} (vacant : X) where
  abbrev or_vacant : Option X → X
  or_vacant o = unwrap_or o vacant

  -- where there is no room none is vacant
  pub no_rooms : (es : List (ℕ × X)) → es ≡ [] → HasNoVacancy vacant es
  no_rooms es e = λ q v. let none : None ≡ Some vacant = sym (ap (λ (ds : List (ℕ × X)). room_of ds q) e) ∙ v in cc

  -- ---- a room made

  -- one made with what its cell has already changes nothing
  pub held_made : (a q : ℕ) (w : X) (old new : List (ℕ × X)) → room_of new q ≡ cond (is_at (nat_cmp a) q) (Some w) (room_of old q)
      → w ≡ held_at vacant old a → held_at vacant new q ≡ held_at vacant old q
  held_made a q w old new e had = by (is_at (nat_cmp a) q) refl e
    where
      by : (b : Bool) → is_at (nat_cmp a) q ≡ b → room_of new q ≡ cond b (Some w) (room_of old q) → held_at vacant new q ≡ held_at vacant old q
      by true t f = ap or_vacant f ∙ had ∙ sym (ap (held_at vacant old) (at_same a q t))
      by false t f = ap or_vacant f

  -- one that is vacant after one was made is that one, or was so before
  pub vacancy_made : (a q : ℕ) (w : X) (x y : Option X) → x ≡ cond (is_at (nat_cmp a) q) (Some w) y → x ≡ Some vacant → (q ≡ a) ⊎ (y ≡ Some vacant)
  vacancy_made a q w x y e h = ⊎_elim (λ p. inl p) (λ apart. inr (sym (rw (at_other a q apart) at e) ∙ h)) (cases_eq q a)

  module _ (a : ℕ) (w : X) (old new : List (ℕ × X)) (is : new ≡ with_new old a w) (nothing : w ≡ vacant) where
    there : (q : ℕ) → room_of new q ≡ cond (is_at (nat_cmp a) q) (Some (held_at w old a)) (room_of old q)
    there q = found-with_new old new a w is q

    pub made_same : HoldsTheSame vacant old new
    made_same q = held_made a q (held_at w old a) old new (there q) (ap (λ (v : X). unwrap_or (room_of old a) v) nothing)

    pub made_vacant : (q : ℕ) → room_of new q ≡ Some vacant → (q ≡ a) ⊎ (room_of old q ≡ Some vacant)
    made_vacant q v = vacancy_made a q (held_at w old a) (room_of new q) (room_of old q) (there q) v

    pub made_kept : (q : ℕ) → room_of new q ≡ None → room_of old q ≡ None
    made_kept q n = none_kept (is_at (nat_cmp a) q) (room_of new q) (room_of old q) (held_at w old a) (there q) n

    pub made_room : (v : X) → HasRoomFor vacant new (a, v)
    made_room v n = let z : None ≡ Some (held_at w old a) = sym n ∙ there a ∙ ap (λ (b : Bool). cond b (Some (held_at w old a)) (room_of old a)) (at_itself a) in cc

  -- ---- something put into a cell's room

  -- where what it has had there
  pub held_put : (a q : ℕ) (v w : X) (old new : List (ℕ × X)) → room_of new q ≡ cond (is_at (nat_cmp a) q) (Some w) (room_of old q)
      → w ≡ v → held_at vacant new q ≡ cond (q == a) v (held_at vacant old q)
  held_put a q v w old new e f = ap or_vacant e ∙ by (is_at (nat_cmp a) q) (is_at-eq a q ∙ turn_test a q)
    where
      by : (b : Bool) → b ≡ (q == a) → or_vacant (cond b (Some w) (room_of old q)) ≡ cond (q == a) v (held_at vacant old q)
      by true t = f ∙ ap (λ (d : Bool). cond d v (held_at vacant old q)) t
      by false t = ap (λ (d : Bool). cond d v (held_at vacant old q)) t

  -- nothing put where there is no room
  held_nowhere : (a q : ℕ) (v : X) (old : List (ℕ × X)) → room_of old a ≡ None → v ≡ vacant → held_at vacant old q ≡ cond (q == a) v (held_at vacant old q)
  held_nowhere a q v old n e = by (q == a) refl
    where
      by : (b : Bool) → (q == a) ≡ b → held_at vacant old q ≡ cond b v (held_at vacant old q)
      by true t = ap (held_at vacant old) (eqb-true q a t) ∙ ap or_vacant n ∙ sym e
      by false t = refl

  pub exchanged : (a : ℕ) (v w : X) (old new : List (ℕ × X)) → HasRoomFor vacant old (a, v) → new ≡ set_value (is_at (nat_cmp a)) old w → w ≡ v
      → (q : ℕ) → held_at vacant new q ≡ with_one (held_at vacant old) (a, v) q
  exchanged a v w old new room is e q = by (room_of old a) refl
    where
      by : (o : Option X) → room_of old a ≡ o → held_at vacant new q ≡ with_one (held_at vacant old) (a, v) q
      by None n = ap (λ (es : List (ℕ × X)). held_at vacant es q) (is ∙ replaced_nowhere old a w n) ∙ held_nowhere a q v old n (room n)
      by (Some x) some = held_put a q v w old new (found-replaced old new a w is (ap is_some some) q) e

  -- a cell has a room still
  pub room_by_keys : (change : ℕ × X) (old new : List (ℕ × X)) → keys_of new ≡ keys_of old → HasRoomFor vacant old change → HasRoomFor vacant new change
  room_by_keys change old new e h n = h (none_by_keys old new e change.0 n)

  -- ---- a vacant room taken away

  -- one taken away changes nothing
  pub held_swept : (a q : ℕ) (old new : List (ℕ × X)) → room_of new q ≡ cond (is_at (nat_cmp a) q) None (room_of old q)
      → room_of old a ≡ Some vacant → held_at vacant new q ≡ held_at vacant old q
  held_swept a q old new e n = by (is_at (nat_cmp a) q) refl e
    where
      by : (b : Bool) → is_at (nat_cmp a) q ≡ b → room_of new q ≡ cond b None (room_of old q) → held_at vacant new q ≡ held_at vacant old q
      by true t f =
          let some : room_of old q ≡ Some vacant = ap (room_of old) (at_same a q t) ∙ n in
          ap or_vacant f ∙ sym (ap or_vacant some)
      by false t f = ap or_vacant f

  -- one that is vacant after one was taken away was so before
  pub vacancy_kept : (b : Bool) (x y : Option X) → x ≡ cond b None y → x ≡ Some vacant → y ≡ Some vacant
  vacancy_kept true x y e h = cc
  vacancy_kept false x y e h = sym e ∙ h

  module _ (a : ℕ) (old new : List (ℕ × X)) (order : RoomsAreInOrder old) (is : new ≡ remove_entry (is_at (nat_cmp a)) old) where
    left : (q : ℕ) → room_of new q ≡ cond (is_at (nat_cmp a) q) None (room_of old q)
    left q = found-removed old new a is order q

    pub swept_same : room_of old a ≡ Some vacant → HoldsTheSame vacant old new
    swept_same v q = held_swept a q old new (left q) v

    pub swept_room : room_of new a ≡ Some vacant → ⊥
    swept_room v = let z : None ≡ Some vacant = sym (left a ∙ ap (λ (b : Bool). cond b None (room_of old a)) (at_itself a)) ∙ v in cc

    pub swept_vacant : (q : ℕ) → room_of new q ≡ Some vacant → room_of old q ≡ Some vacant
    swept_vacant q v = vacancy_kept (is_at (nat_cmp a) q) (room_of new q) (room_of old q) (left q) v

  -- ---- where no room is vacant, what the cells have tells the rooms

  told_by_held : (o p : Option X) → (o ≡ Some vacant → ⊥) → (p ≡ Some vacant → ⊥) → or_vacant o ≡ or_vacant p → o ≡ p
  told_by_held None None m n h = refl
  told_by_held None (Some w) m n h = absurd (n (ap (λ (v : X). Some v) (sym h)))
  told_by_held (Some v) None m n h = absurd (m (ap (λ (v : X). Some v) h))
  told_by_held (Some v) (Some w) m n h = ap (λ (v : X). Some v) h

  pub same_filled : (es fs : List (ℕ × X)) → Ascends es → Ascends fs → HasNoVacancy vacant es → HasNoVacancy vacant fs → HoldsTheSame vacant es fs → es ≡ fs
  same_filled es fs a b m n h = same_entries es fs a b (λ q. told_by_held (room_of es q) (room_of fs q) (m q) (n q) (sym (h q)))

-- ---- how many rooms have something

module _ {X : Type 0} (vacant : X) (is_taken : X → Bool) (tells : (x : X) → (is_taken x ≡ false) ↔ (x ≡ vacant)) where
  -- 1 for something, and 0 for nothing
  abbrev pub one : X → ℕ
  one x = from_bool (is_taken x)

  nothing_counts : (x : X) → x ≡ vacant → one x ≡ 0
  nothing_counts x e = ap from_bool ((tells x).1 e)

  counts_one : (b : Bool) (e : ℕ × X) (es : List (ℕ × X)) → length (cond b (e ∷ es) es) ≡ length es + from_bool b
  counts_one true e es = omega arith
  counts_one false e es = omega arith

  taken-cons : (e : ℕ × X) (es : List (ℕ × X)) → length (taken is_taken (e ∷ es)) ≡ length (taken is_taken es) + one e.1
  taken-cons e es = counts_one (is_taken e.1) e (taken is_taken es)

  -- whether a cell's room is vacant
  pub vacant_there : (t : Bool) (x : X) (o : Option X) → t ≡ is_taken x → Some x ≡ o → IsTrue (not t) ↔ (o ≡ Some vacant)
  vacant_there t x o e k = (
    λ h. sym k ∙ ap (λ (v : X). Some v) ((tells x).0 (sym e ∙ off t h)),
    λ h. let z : Some x ≡ Some vacant = k ∙ h in let y : x ≡ vacant = cc in ap not (e ∙ (tells x).1 y),
  )
    where
      off : (b : Bool) → not b ≡ true → b ≡ false
      off true h = cc
      off false h = refl

  -- something put in the place of what stands
  abbrev one_there : Option X → ℕ
  one_there None = 0
  one_there (Some x) = one x

  abbrev one_where : Option X → X → ℕ
  one_where None w = 0
  one_where (Some x) w = one w

  counted_put : (a : ℕ) (w : X) (es : List (ℕ × X)) → length (taken is_taken (set_value (is_at (nat_cmp a)) es w)) + one_there (room_of es a) ≡ length (taken is_taken es) + one_where (room_of es a) w
  counted_put a w [] = refl
  counted_put a w (e ∷ es) = by (is_at (nat_cmp a) e.0) (counted_put a w es)
    where
      by : (b : Bool) → length (taken is_taken (set_value (is_at (nat_cmp a)) es w)) + one_there (room_of es a) ≡ length (taken is_taken es) + one_where (room_of es a) w
          → length (taken is_taken (cond b ((e.0, w) ∷ es) (e ∷ set_value (is_at (nat_cmp a)) es w))) + one_there (cond b (Some e.1) (room_of es a))
          ≡ length (taken is_taken (e ∷ es)) + one_where (cond b (Some e.1) (room_of es a)) w
      by true ih = omega (arith, taken-cons (e.0, w) es, taken-cons e es)
      by false ih = omega (arith, ih, taken-cons e (set_value (is_at (nat_cmp a)) es w), taken-cons e es)

  pub counted : (a : ℕ) (v w s : X) (old new : List (ℕ × X)) → HasRoomFor vacant old (a, v) → new ≡ set_value (is_at (nat_cmp a)) old w → w ≡ v → s ≡ held_at vacant old a
      → length (taken is_taken new) + one s ≡ length (taken is_taken old) + one v
  counted a v w s old new room is e stood =
      by (room_of old a) refl (ap (λ (es : List (ℕ × X)). length (taken is_taken es) + one_there (room_of old a)) is ∙ counted_put a w old)
    where
      by : (o : Option X) → room_of old a ≡ o → length (taken is_taken new) + one_there o ≡ length (taken is_taken old) + one_where o w
          → length (taken is_taken new) + one s ≡ length (taken is_taken old) + one v
      by None n h = omega (arith, h, nothing_counts s (stood ∙ ap (λ (o : Option X). unwrap_or o vacant) n), nothing_counts v (room n))
      by (Some x) some h = omega (arith, h, ap one (stood ∙ ap (λ (o : Option X). unwrap_or o vacant) some), ap one e)

  -- ---- where none is vacant, all

  one_here : (x : X) → (x ≡ vacant → ⊥) → one x ≡ 1
  one_here x n = by (is_taken x) refl
    where
      by : (b : Bool) → is_taken x ≡ b → from_bool b ≡ 1
      by true t = refl
      by false t = absurd (n ((tells x).0 t))

  pub all_taken : (rooms : List (ℕ × X)) → Ascends rooms → HasNoVacancy vacant rooms → length (taken is_taken rooms) ≡ length rooms
  all_taken [] h n = refl
  all_taken (e ∷ es) h n =
      let here : one e.1 ≡ 1 = one_here e.1 (λ p. n e.0 (first_there e es ∙ ap (λ (x : X). Some x) p)) in
      omega (arith, taken-cons e es, here, all_taken es h.1 (λ a v. n a (room_of-tail a e es vacant h.0 v)))

  -- where all have something, none is vacant
  first_vacant : (b : Bool) (x : X) (o : Option X) → (x ≡ vacant → ⊥) → (o ≡ Some vacant → ⊥) → cond b (Some x) o ≡ Some vacant → ⊥
  first_vacant true x o m n e = let z : x ≡ vacant = cc in m z
  first_vacant false x o m n e = n e

  pub no_vacancy : (rooms : List (ℕ × X)) → length rooms ≤ length (taken is_taken rooms) → HasNoVacancy vacant rooms
  no_vacancy [] l = λ a v. cc
  no_vacancy (e ∷ es) l =
      let few = keeps_few (λ (d : ℕ × X). is_taken d.1) es in
      λ a v. first_vacant (is_at (nat_cmp a) e.0) e.1 (room_of es a) (λ p. omega (arith, l, few, taken-cons e es, nothing_counts e.1 p))
      (no_vacancy es (omega (arith, l, taken-cons e es, at_most (is_taken e.1))) a) v
    where
      at_most : (b : Bool) → from_bool b ≤ 1
      at_most true = omega arith
      at_most false = omega arith

  -- ---- where each cell has the same, so do the rooms that have something

  passing_held : (o : Option X) → passing is_taken o ≡ cond (is_taken (unwrap_or o vacant)) (Some (unwrap_or o vacant)) None
  passing_held None = sym (ap (λ (b : Bool). cond b (Some vacant) None) ((tells vacant).1 refl))
  passing_held (Some x) = refl

  pub same_taken : (old new : List (ℕ × X)) → Ascends old → Ascends new → HoldsTheSame vacant old new → taken is_taken new ≡ taken is_taken old
  same_taken old new a b h =
      same_entries (taken is_taken new) (taken is_taken old) (Ascends-filter (λ (e : ℕ × X). is_taken e.1) new b) (Ascends-filter (λ (e : ℕ × X). is_taken e.1) old a)
      (λ q. room_of-filter is_taken new b q ∙ passing_held (room_of new q) ∙ ap (λ (x : X). cond (is_taken x) (Some x) None) (h q)
      ∙ sym (room_of-filter is_taken old a q ∙ passing_held (room_of old q)))

  -- so many have something after rooms were made as there were rooms
  pub made_taken : (old new : List (ℕ × X)) → AreBetweenEdits vacant old → RoomsAreInOrder new → HoldsTheSame vacant old new → length (taken is_taken new) ≡ length old
  made_taken old new a b h =
      let up = Ascends-from_order old a.order in
      ap length (same_taken old new up (Ascends-from_order new b) h) ∙ all_taken old up a.full
