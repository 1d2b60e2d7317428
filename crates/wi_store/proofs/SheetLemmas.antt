-- The sheet in rooms after an edit, and after it was taken back.
use Rattle.wi_store.proofs.Words.{◌≡◌, ◌==◌, ℕ, cond, not, List, [], ◌∷◌, length, Option, Some, None, refl, sym, ap, ◌∙◌, is_some, found-insert, found-without, Ascends, Ascends-from_order, Ascends-filter, Ascends-insert, Sheet, content_of, with_content, Content, edited, Rooms, sheet_in, RoomsAreInOrder, taken, held_at, HoldsTheSame, AreBetweenEdits, with_one, with_all, with_all_back, stood, same_all, same_back, taken_back}
use Rattle.wi_store.proofs.RoomLemmas.{Ascends-sheet_in, content_of-sheet_in, sheet_in-is, sheet_in-same, length-taken, length-sheet_in}

-- ---- contents put into a sheet, one after another

content_of-with : (s : Sheet) (a : ℕ) (o : Option Content) (q : ℕ) → content_of (with_content s a o) q ≡ cond (q == a) o (content_of s q)
content_of-with s a None q = found-without s a q
content_of-with s a (Some x) q = found-insert s a x q

pub content_of-edited : (es : List (ℕ × Option Content)) (s : Sheet) (q : ℕ) → content_of (edited s es) q ≡ with_all (content_of s) es q
content_of-edited [] s q = refl
content_of-edited (e ∷ es) s q =
    content_of-edited es (with_content s e.0 e.1) q
    ∙ same_all es (content_of (with_content s e.0 e.1)) (with_one (content_of s) e) (λ c. content_of-with s e.0 e.1 c) q

-- a sheet stays in order
Ascends-with_content : (a : ℕ) (o : Option Content) (s : Sheet) → Ascends s → Ascends (with_content s a o)
Ascends-with_content a None s h = Ascends-filter (λ e. not (e.0 == a)) s h
Ascends-with_content a (Some x) s h = Ascends-insert a x s h

Ascends-edited : (es : List (ℕ × Option Content)) (s : Sheet) → Ascends s → Ascends (edited s es)
Ascends-edited [] s h = h
Ascends-edited (e ∷ es) s h = Ascends-edited es (with_content s e.0 e.1) (Ascends-with_content e.0 e.1 s h)

-- ---- in rooms, of which some were made before

module _ (old made new : Rooms) (es : List (ℕ × Option Content)) (order : RoomsAreInOrder old) (last : RoomsAreInOrder new) (same : HoldsTheSame None old made) where
  -- after the changes
  pub sheet_in-edited : ((q : ℕ) → held_at None new q ≡ with_all (held_at None made) es q) → sheet_in new ≡ edited (sheet_in old) es
  sheet_in-edited after =
      let up : Ascends old = Ascends-from_order old order in
      sheet_in-is new (edited (sheet_in old) es) last (Ascends-edited es (sheet_in old) (Ascends-sheet_in old up))
      (λ q. after q ∙ same_all es (held_at None made) (content_of (sheet_in old)) (λ c. same c ∙ sym (content_of-sheet_in c old up)) q ∙ sym (content_of-edited es (sheet_in old) q))

  -- so many have a content then
  pub count_edited : (n : ℕ) → n ≡ length (taken is_some new) → ((q : ℕ) → held_at None new q ≡ with_all (held_at None made) es q) → n ≡ length (edited (sheet_in old) es)
  count_edited n e after = e ∙ length-taken new ∙ ap length (sheet_in-edited after)

  -- after they were taken back
  pub sheet_in-back : (put : Rooms) (fs : List (ℕ × Option Content)) → ((q : ℕ) → held_at None put q ≡ with_all (held_at None made) es q)
      → fs ≡ stood (held_at None made) es → ((q : ℕ) → held_at None new q ≡ with_all_back (held_at None put) fs q) → sheet_in new ≡ sheet_in old
  sheet_in-back put fs after e back =
      sheet_in-same old new order last
      (λ q. back q ∙ ap (λ (xs : List (ℕ × Option Content)). with_all_back (held_at None put) xs q) e
      ∙ same_back (stood (held_at None made) es) (held_at None put) (with_all (held_at None made) es) q (after q)
      ∙ taken_back es (held_at None made) q ∙ same q)

-- how many have a content before
pub count_before : (n : ℕ) (old made : Rooms) → AreBetweenEdits None old → n ≡ length (sheet_in old) → length (taken is_some made) ≡ length old → n ≡ length (taken is_some made)
count_before n old made b e h = e ∙ length-sheet_in old b ∙ sym h
