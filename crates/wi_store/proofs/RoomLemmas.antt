-- Laws of rooms and of the sheet in them.
use Rattle.wi_store.proofs.Words.{◌≡◌, ℕ, ◌<◌, Bool, true, false, cond, List, [], ◌∷◌, filter, length, Option, Some, None, refl, sym, ap, ◌∙◌, subst, arith, ⊎_elim, unwrap_or, is_some, All, AllByRecursion, nat_cmp, lookup, keys_of, is_at, cases_order, All-cons, All-head, All-tail, at_itself, at_later, at_earlier, lookup_after, Sheet, content_of, cells_with_formula, has_formula, Content, Rooms, sheet_in, formula_cells, IsOccupied, HaveContents, tells_none, room_of, RoomsAreInOrder, taken, held_at, HoldsTheSame, HasNoVacancy, AreBetweenEdits, first_there, same_entries, room_of-tail, no_rooms, all_taken}
pub use Rattle.wi_values.proofs.Order.{ComeAfter, Ascends, Ascends-from_order, order-from_Ascends}

-- ---- the sheet in rooms

ComeAfter-one_more : (a c : ℕ) (o : Option Content) (es : Rooms) → a < c → ComeAfter a (sheet_in es) → ComeAfter a (sheet_in ((c, o) ∷ es))
ComeAfter-one_more a c None es l h = h
ComeAfter-one_more a c (Some x) es l h = (l, h)

pub ComeAfter-sheet_in : (a : ℕ) (rooms : Rooms) → ComeAfter a rooms → ComeAfter a (sheet_in rooms)
ComeAfter-sheet_in a [] h = tt
ComeAfter-sheet_in a (e ∷ es) h = ComeAfter-one_more a e.0 e.1 es h.0 (ComeAfter-sheet_in a es h.1)

Ascends-one_more : (c : ℕ) (o : Option Content) (es : Rooms) → ComeAfter c (sheet_in es) → Ascends (sheet_in es) → Ascends (sheet_in ((c, o) ∷ es))
Ascends-one_more c None es l h = h
Ascends-one_more c (Some x) es l h = (l, h)

pub Ascends-sheet_in : (rooms : Rooms) → Ascends rooms → Ascends (sheet_in rooms)
Ascends-sheet_in [] h = tt
Ascends-sheet_in (e ∷ es) h = Ascends-one_more e.0 e.1 es (ComeAfter-sheet_in e.0 es h.0) (Ascends-sheet_in es h.1)

-- the first room is the cell's
content_of-here : (c : ℕ) (o : Option Content) (es : Rooms) → ComeAfter c (sheet_in es) → content_of (sheet_in ((c, o) ∷ es)) c ≡ o
content_of-here c None es l = lookup_after c (sheet_in es) l
content_of-here c (Some x) es l = rw (at_itself c)

-- the first room is another cell's
content_of-later : (a c : ℕ) (o : Option Content) (es : Rooms) → is_at (nat_cmp a) c ≡ false → content_of (sheet_in ((c, o) ∷ es)) a ≡ content_of (sheet_in es) a
content_of-later a c None es t = refl
content_of-later a c (Some x) es t = rw t

abbrev Agrees : Rooms → ℕ → Type 0
Agrees rooms a = content_of (sheet_in rooms) a ≡ held_at None rooms a

agrees_here : (c : ℕ) (o : Option Content) (es : Rooms) → ComeAfter c (sheet_in es) → Agrees ((c, o) ∷ es) c
agrees_here c o es l = content_of-here c o es l ∙ sym (ap (λ (r : Option (Option Content)). unwrap_or r None) (first_there (c, o) es))

agrees_later : (a c : ℕ) (o : Option Content) (es : Rooms) → is_at (nat_cmp a) c ≡ false → Agrees es a → Agrees ((c, o) ∷ es) a
agrees_later a c o es t h = content_of-later a c o es t ∙ h ∙ sym (ap (λ (b : Bool). unwrap_or (cond b (Some o) (room_of es a)) None) t)

-- what stands in a cell is what its room has
pub content_of-sheet_in : (a : ℕ) (rooms : Rooms) → Ascends rooms → content_of (sheet_in rooms) a ≡ held_at None rooms a
content_of-sheet_in a [] h = refl
content_of-sheet_in a (e ∷ es) h =
    ⊎_elim (λ p. subst (λ (b : ℕ). Agrees (e ∷ es) b) (sym p) (agrees_here e.0 e.1 es (ComeAfter-sheet_in e.0 es h.0)))
    (⊎_elim (λ l. agrees_later a e.0 e.1 es (at_later a e.0 l) (content_of-sheet_in a es h.1))
    (λ l. agrees_later a e.0 e.1 es (at_earlier a e.0 l) (content_of-sheet_in a es h.1)))
    (cases_order a e.0)

-- the sheet whose cells have what the rooms have
pub sheet_in-is : (rooms : Rooms) (s : Sheet) → RoomsAreInOrder rooms → Ascends s → ((q : ℕ) → held_at None rooms q ≡ content_of s q) → sheet_in rooms ≡ s
sheet_in-is rooms s order up h =
    let asc : Ascends rooms = Ascends-from_order rooms order in
    same_entries (sheet_in rooms) s (Ascends-sheet_in rooms asc) up (λ q. content_of-sheet_in q rooms asc ∙ h q)

-- rooms with the same in each cell have the same sheet
pub sheet_in-same : (old new : Rooms) → RoomsAreInOrder old → RoomsAreInOrder new → HoldsTheSame None old new → sheet_in new ≡ sheet_in old
sheet_in-same old new a b h =
    let asc : Ascends old = Ascends-from_order old a in
    sheet_in-is new (sheet_in old) b (Ascends-sheet_in old asc) (λ q. h q ∙ sym (content_of-sheet_in q old asc))

-- ---- how many contents there are

pub length-taken : (rooms : Rooms) → length (taken is_some rooms) ≡ length (sheet_in rooms)
length-taken [] = refl
length-taken (e ∷ es) = by e.1 (length-taken es)
  where
    by : (o : Option Content) → length (taken is_some es) ≡ length (sheet_in es) → length (taken is_some ((e.0, o) ∷ es)) ≡ length (sheet_in ((e.0, o) ∷ es))
    by None h = h
    by (Some x) h = omega (arith, h)

-- ---- where no room is vacant

-- the sheet is as long as the rooms are
pub length-sheet_in : (rooms : Rooms) → AreBetweenEdits None rooms → length (sheet_in rooms) ≡ length rooms
length-sheet_in rooms b = sym (length-taken rooms) ∙ all_taken None is_some tells_none rooms (Ascends-from_order rooms b.order) b.full

keys-one_more : (c : ℕ) (o : Option Content) (es : Rooms) → (o ≡ None → ⊥) → keys_of (sheet_in es) ≡ keys_of es → keys_of (sheet_in ((c, o) ∷ es)) ≡ c ∷ keys_of es
keys-one_more c None es n h = absurd (n refl)
keys-one_more c (Some x) es n h = ap (λ (cs : List ℕ). c ∷ cs) h

-- and has their cells
pub keys-sheet_in : (rooms : Rooms) → Ascends rooms → HasNoVacancy None rooms → keys_of (sheet_in rooms) ≡ keys_of rooms
keys-sheet_in [] h n = refl
keys-sheet_in (e ∷ es) h n =
    let o : e.1 ≡ None → ⊥ = λ p. n e.0 (first_there e es ∙ ap (λ (o : Option Content). Some o) p) in
    keys-one_more e.0 e.1 es o (keys-sheet_in es h.1 (λ a v. n a (room_of-tail a e es None h.0 v)))

-- where there is no room
pub none_at_all : (rooms : Rooms) → rooms ≡ [] → AreBetweenEdits None rooms
none_at_all rooms e = record {
  order = subst (λ (r : Rooms). RoomsAreInOrder r) (sym e) (order-from_Ascends {X = Option Content} [] tt);
  full = no_rooms None rooms e;
}

-- each of them has a content
pub all_occupied : (rooms : Rooms) → Ascends rooms → HasNoVacancy None rooms → HaveContents rooms
all_occupied [] h n = tt
all_occupied (e ∷ es) h n = (by e.1 (λ p. n e.0 (first_there e es ∙ ap (λ (o : Option Content). Some o) p)), all_occupied es h.1 (λ a v. n a (room_of-tail a e es None h.0 v)))
  where
    by : (o : Option Content) → (o ≡ None → ⊥) → IsOccupied o
    by None n = n refl
    by (Some x) n = tt

-- ---- each room is of a cell of the sheet

within-one_more : (n c : ℕ) (o : Option Content) (es : Rooms) → c < n → All (λ a. a < n) (keys_of (sheet_in es)) → All (λ a. a < n) (keys_of (sheet_in ((c, o) ∷ es)))
within-one_more n c None es l h = h
within-one_more n c (Some x) es l h = All-cons (λ a. a < n) c (keys_of (sheet_in es)) l h

pub within-sheet_in : (n : ℕ) (rooms : Rooms) → All (λ e. e.0 < n) rooms → All (λ a. a < n) (keys_of (sheet_in rooms))
within-sheet_in n [] h = λ k d l. absurd (omega (arith, l))
within-sheet_in n (e ∷ es) h = within-one_more n e.0 e.1 es (All-head (λ d. d.0 < n) e es h) (within-sheet_in n es (All-tail (λ d. d.0 < n) e es h))

-- ---- formula cells

filter_same : (p q : ℕ → Bool) (cs : List ℕ) → AllByRecursion (λ c. p c ≡ q c) cs → filter p cs ≡ filter q cs
filter_same p q [] h = refl
filter_same p q (c ∷ cs) h = rw (h.0, filter_same p q cs h.1)

same_later : {X : Type 0} (f : Option X → Bool) (c : ℕ) (x : X) (all es : List (ℕ × X)) → ComeAfter c es
    → AllByRecursion (λ a. f (lookup (is_at (nat_cmp a)) ((c, x) ∷ all)) ≡ f (lookup (is_at (nat_cmp a)) all)) (keys_of es)
same_later f c x all [] h = tt
same_later f c x all (e ∷ es) h = (rw (at_earlier e.0 c h.0), same_later f c x all es h.1)

-- of a sheet in order, those that have a formula
pub formula_cells-all : (s : Sheet) → Ascends s → cells_with_formula s ≡ formula_cells s
formula_cells-all [] h = refl
formula_cells-all (e ∷ es) h =
    let later : filter (λ c. has_formula (content_of (e ∷ es) c)) (keys_of es) ≡ formula_cells es =
    filter_same _ _ (keys_of es) (same_later has_formula e.0 e.1 es es h.0) ∙ formula_cells-all es h.1 in
    rw (at_itself e.0, later) (by (has_formula (Some e.1)))
  where
    by : (b : Bool) → cond b (e.0 ∷ formula_cells es) (formula_cells es) ≡ keys_of (cond b (e ∷ filter (λ e. has_formula (Some e.1)) es) (filter (λ e. has_formula (Some e.1)) es))
    by true = refl
    by false = refl
