-- Laws of lists of changes of rooms, for one step of a loop over them.
use Rattle.wi_tiles.proofs.Words.{◌≡◌, ◌==◌, ◌<◌, ◌≤◌, ◌+◌, ◌^◌, ◌++◌, ◌⊎◌, ℕ, Bool, true, false, cond, List, [], ◌∷◌, length, get_or, set, take, drop, Option, Some, None, refl, sym, ap, subst, ◌∙◌, arith, ⊎_elim, All-set, from_bool, keys_of, length-map, keeps_few, taken, cases_eq, eqb-true, or_cases, append_assoc, drop-set-lt, take-set, take_more, take_more_set, drop_more, drop_all, get_or_default, unwrap_or, nat_cmp, keys_of-set, is_named, is_one_of, room_of, RoomsAreInOrder, held_at, with_one, with_all, stood, with_all_back, VacantOnlyAt, HasRoomFor, AreBetweenEdits, AreInEdit, AreReadyFor}
use Rattle.std.specs.List.Sorted.{IsStrictlySortedBy}
use Rattle.wi_tiles.proofs.RoomLemmas.{none_by_keys, room_by_keys}

module _ {X : Type 0} where
  -- ---- what each cell has

  -- cells that have the same have the same after the same
  pub same_one : (f g : ℕ → X) (e : ℕ × X) → ((c : ℕ) → f c ≡ g c) → (c : ℕ) → with_one f e c ≡ with_one g e c
  same_one f g e h c = ap (λ (x : X). cond (c == e.0) e.1 x) (h c)

  pub same_all : (es : List (ℕ × X)) (f g : ℕ → X) → ((c : ℕ) → f c ≡ g c) → (c : ℕ) → with_all f es c ≡ with_all g es c
  same_all [] f g h c = h c
  same_all (e ∷ es) f g h c = same_all es (with_one f e) (with_one g e) (same_one f g e h) c

  pub same_stood : (es : List (ℕ × X)) (f g : ℕ → X) → ((c : ℕ) → f c ≡ g c) → stood f es ≡ stood g es
  same_stood [] f g h = refl
  same_stood (e ∷ es) f g h =
      ap (λ (x : X). (e.0, x) ∷ stood (with_one f e) es) (h e.0) ∙ ap (λ (xs : List (ℕ × X)). (e.0, g e.0) ∷ xs) (same_stood es (with_one f e) (with_one g e) (same_one f g e h))

  pub same_back : (es : List (ℕ × X)) (f g : ℕ → X) (c : ℕ) → f c ≡ g c → with_all_back f es c ≡ with_all_back g es c
  same_back [] f g c h = h
  same_back (e ∷ es) f g c h = ap (λ (x : X). cond (c == e.0) e.1 x) (same_back es f g c h)

  -- what stood, put back the last first, is what was
  pub taken_back : (es : List (ℕ × X)) (f : ℕ → X) (c : ℕ) → with_all_back (with_all f es) (stood f es) c ≡ f c
  taken_back [] f c = refl
  taken_back (e ∷ es) f c = ap (λ (x : X). cond (c == e.0) (f e.0) x) (taken_back es (with_one f e) c) ∙ by (c == e.0) refl
    where
      by : (b : Bool) → (c == e.0) ≡ b → cond b (f e.0) (cond b e.1 (f c)) ≡ f c
      by true t = ap f (sym (eqb-true c e.0 t))
      by false t = refl

  -- what is left to be put in gives the whole
  pub all_more : (t f g : ℕ → X) (cs : List (ℕ × X)) (i : ℕ) (d v : ℕ × X) → i < length cs
      → ((c : ℕ) → g c ≡ with_one f ((get_or cs i d).0, (get_or cs i d).1) c)
      → ((c : ℕ) → with_all f (drop i cs) c ≡ t c) → (c : ℕ) → with_all g (drop (i + 1) (set cs i v)) c ≡ t c
  all_more t f g cs i d v l e h c =
      ap (λ (xs : List (ℕ × X)). with_all g xs c) (drop-set-lt (i + 1) cs i v (omega arith))
      ∙ same_all (drop (i + 1) cs) g (with_one f (get_or cs i d)) e c
      ∙ ap (λ (xs : List (ℕ × X)). with_all f xs c) (sym (drop_more cs i d l)) ∙ h c

  pub stood_more : (f g : ℕ → X) (t cs : List (ℕ × X)) (i : ℕ) (d : ℕ × X) (x : X) → i < length cs
      → ((c : ℕ) → g c ≡ with_one f ((get_or cs i d).0, (get_or cs i d).1) c)
      → x ≡ f (get_or cs i d).0
      → take i cs ++ stood f (drop i cs) ≡ t
      → take (i + 1) (set cs i ((get_or cs i d).0, x)) ++ stood g (drop (i + 1) (set cs i ((get_or cs i d).0, x))) ≡ t
  stood_more f g t cs i d x l e s h =
      let v : ℕ × X = ((get_or cs i d).0, x) in
      ap (λ (xs : List (ℕ × X)). xs ++ stood g (drop (i + 1) (set cs i v))) (take_more_set cs i v l)
      ∙ append_assoc (take i cs) (v ∷ []) (stood g (drop (i + 1) (set cs i v)))
      ∙ ap (λ (xs : List (ℕ × X)). take i cs ++ v ∷ stood g xs) (drop-set-lt (i + 1) cs i v (omega arith))
      ∙ ap (λ (xs : List (ℕ × X)). take i cs ++ v ∷ xs) (same_stood (drop (i + 1) cs) g (with_one f (get_or cs i d)) e)
      ∙ ap (λ (y : X). take i cs ++ ((get_or cs i d).0, y) ∷ stood (with_one f (get_or cs i d)) (drop (i + 1) cs)) s
      ∙ ap (λ (xs : List (ℕ × X)). take i cs ++ stood f xs) (sym (drop_more cs i d l)) ∙ h

  back-push : (f : ℕ → X) (xs : List (ℕ × X)) (x : ℕ × X) (c : ℕ) → with_all_back f (xs ++ x ∷ []) c ≡ with_all_back (with_one f x) xs c
  back-push f [] x c = refl
  back-push f (y ∷ ys) x c = ap (λ (z : X). cond (c == y.0) y.1 z) (back-push f ys x c)

  pub back_more : (t f g : ℕ → X) (cs : List (ℕ × X)) (i : ℕ) (d v : ℕ × X) → i < length cs
      → ((c : ℕ) → g c ≡ with_one f ((get_or cs i d).0, (get_or cs i d).1) c)
      → ((c : ℕ) → with_all_back f (take (i + 1) cs) c ≡ t c) → (c : ℕ) → with_all_back g (take i (set cs i v)) c ≡ t c
  back_more t f g cs i d v l e h c =
      ap (λ (xs : List (ℕ × X)). with_all_back g xs c) (take-set cs i v)
      ∙ same_back (take i cs) g (with_one f (get_or cs i d)) c (e c)
      ∙ sym (back-push f (take i cs) (get_or cs i d) c)
      ∙ ap (λ (xs : List (ℕ × X)). with_all_back f xs c) (sym (take_more cs i d l)) ∙ h c

-- ---- how many rooms have something

-- something that comes, and something that goes
pub counted_more : (n m k x y : ℕ) (b c p q : Bool) → n ≡ m → x ≡ from_bool b → b ≡ p → y ≡ from_bool c → c ≡ q → k + from_bool q ≡ m + from_bool p → n + x ≡ k + y
counted_more n m k x y b c p q e xe be ye ce h = omega (arith, e, xe ∙ ap from_bool be, ye ∙ ap from_bool ce, h)

-- one more fits
pub counts_fit : {X : Type 0} (is_taken : X → Bool) (all rooms : List (ℕ × X)) (n x : ℕ) (b : Bool) → keys_of rooms ≡ keys_of all → length all ≤ 17179869184
    → n ≡ length (taken is_taken rooms) → x ≡ from_bool b → n + x < 2 ^ 64
counts_fit {X} is_taken all rooms n x b same small e f =
    let few = keeps_few (λ (d : ℕ × X). is_taken d.1) rooms in
    let long : length rooms ≡ length all = sym (length-map rooms (λ (d : ℕ × X). d.0)) ∙ ap length same ∙ length-map all (λ (d : ℕ × X). d.0) in
    omega (arith, few, long, small, e, f, at_most b)
  where
    at_most : (b : Bool) → from_bool b ≤ 1
    at_most true = omega arith
    at_most false = omega arith

module _ {X : Type 0} (vacant : X) where
  -- ---- rooms made

  -- before the first
  pub edit_begun : (cells : List ℕ) (rooms : List (ℕ × X)) → AreBetweenEdits vacant rooms → AreInEdit vacant cells rooms
  edit_begun cells rooms h = record { order = h.order; only = λ q v. absurd (h.full q v) }

  -- after that for the i-th change, x
  pub edit_more_made : (cs : List (ℕ × X)) (i : ℕ) (x : ℕ × X) (old new : List (ℕ × X)) → i < length cs → x ≡ get_or cs i x
      → (RoomsAreInOrder old → RoomsAreInOrder new)
      → ((q : ℕ) → room_of new q ≡ Some vacant → (q ≡ x.0) ⊎ (room_of old q ≡ Some vacant))
      → AreInEdit vacant (keys_of cs) old → AreInEdit vacant (keys_of cs) new
  edit_more_made cs i x old new l is order made h = record {
    order = order h.order;
    only = λ q v. ⊎_elim (λ p. is_named q cs i x l (p ∙ ap (λ (e : ℕ × X). e.0) is)) (λ w. h.only q w) (made q v);
  }

  -- so many of the changes have one
  abbrev pub HaveRooms : ℕ → List (ℕ × X) → List (ℕ × X) → Type 0
  HaveRooms n rooms cs = (k : ℕ) (d : ℕ × X) → k < n → HasRoomFor vacant rooms (get_or cs k d)

  -- after that for the i-th change, x
  pub room_more_made : (cs : List (ℕ × X)) (i : ℕ) (x : ℕ × X) (old new : List (ℕ × X)) → i < length cs → x ≡ get_or cs i x
      → ((q : ℕ) → room_of new q ≡ None → room_of old q ≡ None)
      → HasRoomFor vacant new (x.0, x.1)
      → HaveRooms i old cs → HaveRooms (i + 1) new cs
  room_more_made cs i x old new m is kept here h =
      λ k d l. ⊎_elim (λ p. subst (λ (j : ℕ). HasRoomFor vacant new (get_or cs j d)) (sym p) (subst (λ (y : ℕ × X). HasRoomFor vacant new y) (is ∙ get_or_default cs i x d m) here))
      (λ apart n. h k d (omega arith) (kept (get_or cs k d).0 n)) (cases_eq k i)

  -- ---- after the i-th change was exchanged

  pub ready_more : (cs : List (ℕ × X)) (i : ℕ) (d : ℕ × X) (v : X) (old new : List (ℕ × X)) → i < length cs → keys_of new ≡ keys_of old
      → v ≡ held_at vacant old (get_or cs i d).0
      → ((q : ℕ) → (q ≡ (get_or cs i d).0 → ⊥) → room_of new q ≡ room_of old q)
      → AreReadyFor vacant cs old → AreReadyFor vacant (set cs i ((get_or cs i d).0, v)) new
  ready_more cs i d v old new l same stood others h = record {
    edit = record {
      order = subst (λ (cells : List ℕ). IsStrictlySortedBy nat_cmp cells) (sym same) h.edit.order;
      only = subst (λ (cells : List ℕ). VacantOnlyAt vacant cells new) (sym (keys_of-set cs i d v))
          (λ q w. ⊎_elim (λ p. is_named q cs i d l p) (λ apart. h.edit.only q (sym (others q apart) ∙ w)) (cases_eq q (get_or cs i d).0));
    };
    room = All-set (HasRoomFor vacant new) cs i ((get_or cs i d).0, v)
        (λ n. stood ∙ ap (λ (o : Option X). unwrap_or o vacant) (none_by_keys old new same (get_or cs i d).0 n))
        (λ k e m. room_by_keys vacant (get_or cs k e) old new same (h.room k e m));
  }

  -- ---- vacant rooms taken away

  -- after that of the i-th change, x
  pub edit_less : (cs : List (ℕ × X)) (i : ℕ) (x : ℕ × X) (old new : List (ℕ × X)) → i < length cs → x ≡ get_or cs i x
      → RoomsAreInOrder new → (room_of new x.0 ≡ Some vacant → ⊥)
      → ((q : ℕ) → room_of new q ≡ Some vacant → room_of old q ≡ Some vacant)
      → AreInEdit vacant (keys_of (drop i cs)) old → AreInEdit vacant (keys_of (drop (i + 1) cs)) new
  edit_less cs i x old new l is order swept kept h = record {
    order = order;
    only = λ q v. ⊎_elim (λ t. absurd (swept (ap (λ (a : ℕ). room_of new a) (eqb-true _ q t) ∙ v))) (λ t. t)
        (or_cases (x.0 == q) _ (ap (λ (y : ℕ × X). is_one_of (keys_of (y ∷ drop (i + 1) cs)) q) is
        ∙ ap (λ (xs : List (ℕ × X)). is_one_of (keys_of xs) q) (sym (drop_more cs i x l)) ∙ h.only q (kept q v)));
  }

  -- after the last
  pub edit_done : (cs : List (ℕ × X)) (i : ℕ) (rooms : List (ℕ × X)) → length cs ≤ i → AreInEdit vacant (keys_of (drop i cs)) rooms → AreBetweenEdits vacant rooms
  edit_done cs i rooms l h = record {
    order = h.order;
    full = λ q v. let none : false ≡ true = ap (λ (xs : List (ℕ × X)). is_one_of (keys_of xs) q) (sym (drop_all i cs l)) ∙ h.only q v in cc;
  }
