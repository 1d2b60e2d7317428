-- Laws of cells with a bit for each session, and of rooms.
use Rattle.wi_sessions.proofs.Words.{◌≡◌, ◌==◌, ◌<◌, ◌≤◌, ◌+◌, ◌||◌, ◌&&◌, ◌∙◌, ℕ, Bool, true, false, cond, not, List, [], ◌∷◌, ◌++◌, length, take, get_or, filter, Option, Some, None, refl, sym, ap, subst, arith, and-false, and-true, or-false, or-true, unwrap_or, is_some, IsStrictlySortedBy, nat_cmp, keys_of, lookup, is_at, eqb-true, both_ways, take_all, append_assoc, append-nil, list_any-append, list_any_more, Ascends-filter, Ascends-from_order, is_at-eq, order-from_Ascends, is_one_of, has_bit, is_in, is_staged, cells_with, at_cells, SamePending, HasMade, HasCleared, or_assoc, and-or_distrib_right, or_new, Result, Ok, IsErr, AllocError, IfOk-from_err, MakesRooms}
use Rattle.wi_sessions.proofs.BitLemmas.{none_in_zero}
use Rattle.wi_sessions.proofs.CellLemmas.{Ascend, ascend, has_listed, same_listed}
use Rattle.wi_tiles.proofs.RoomLemmas.{passing, room_of-filter}

abbrev pub Words : Type 0
Words = List (ℕ × ℕ)

-- ---- the cells that have a session's bit

pub listed_with : (words : Words) (i : ℕ) → IsStrictlySortedBy nat_cmp (keys_of words) → (q : ℕ) → is_one_of (cells_with words i) q ≡ is_in words i q
listed_with words i h q =
    sym (has_listed (filter (λ e. has_bit i e.1) words) q)
    ∙ ap is_some (room_of-filter (has_bit i) words (Ascends-from_order words h) q) ∙ by (lookup (is_at (nat_cmp q)) words)
  where
    either : (b : Bool) (w : ℕ) → is_some (cond b (Some w) None) ≡ b
    either true w = refl
    either false w = refl

    by : (o : Option ℕ) → is_some (passing (has_bit i) o) ≡ has_bit i (unwrap_or o 0)
    by None = sym (none_in_zero i)
    by (Some w) = either (has_bit i w) w

pub ascend_with : (words : Words) (i : ℕ) → IsStrictlySortedBy nat_cmp (keys_of words) → Ascend (cells_with words i)
ascend_with words i h =
    ascend (cells_with words i) (order-from_Ascends (filter (λ e. has_bit i e.1) words) (Ascends-filter (λ e. has_bit i e.1) words (Ascends-from_order words h)))

-- a list in order that has just these cells is theirs
pub these_cells : (words : Words) (i : ℕ) (xs : List ℕ) → IsStrictlySortedBy nat_cmp (keys_of words) → Ascend xs → ((q : ℕ) → is_one_of xs q ≡ is_in words i q) → xs ≡ cells_with words i
these_cells words i xs h a e = same_listed xs (cells_with words i) a (ascend_with words i h) (λ q. e q ∙ sym (listed_with words i h q))

-- ---- one cell changed

-- after something else stands at a cell, what has which bit
pub bit_changed : (words more : Words) (at : ℕ) (o : Option ℕ) → ((q : ℕ) → lookup (is_at (nat_cmp q)) more ≡ cond (is_at (nat_cmp at) q) o (lookup (is_at (nat_cmp q)) words))
    → (i c : ℕ) → is_in more i c ≡ cond (at == c) (has_bit i (unwrap_or o 0)) (is_in words i c)
bit_changed words more at o h i c =
    ap (λ (p : Option ℕ). has_bit i (unwrap_or p 0)) (h c) ∙ by (is_at (nat_cmp at) c) (is_at-eq at c)
  where
    by : (b : Bool) → b ≡ (at == c) → has_bit i (unwrap_or (cond b o (lookup (is_at (nat_cmp c)) words)) 0) ≡ cond (at == c) (has_bit i (unwrap_or o 0)) (is_in words i c)
    by true e = ap (λ (t : Bool). cond t (has_bit i (unwrap_or o 0)) (is_in words i c)) e
    by false e = ap (λ (t : Bool). cond t (has_bit i (unwrap_or o 0)) (is_in words i c)) e

-- what the cell itself had
pub bit_there : (words : Words) (at : ℕ) (o : Option ℕ) → lookup (is_at (nat_cmp at)) words ≡ o → (i c : ℕ) → (at == c) ≡ true → is_in words i c ≡ has_bit i (unwrap_or o 0)
bit_there words at o h i c t = ap (is_in words i) (sym (eqb-true at c t)) ∙ ap (λ (p : Option ℕ). has_bit i (unwrap_or p 0)) h

pub bit_missing : (words : Words) (at : ℕ) → lookup (is_at (nat_cmp at)) words ≡ None → (i c : ℕ) → (at == c) ≡ true → is_in words i c ≡ false
bit_missing words at h i c t = bit_there words at None h i c t ∙ none_in_zero i

-- ---- room made

kept_pending : (s n t u v : Bool) → u ≡ (s || t) → v ≡ (n || (t && not s)) → (u && not v) ≡ (s && not n)
kept_pending s n t u v e f = ap (λ b. b && not v) e ∙ ap (λ b. (s || t) && not b) f ∙ by s n t
  where
    by : (s n t : Bool) → ((s || t) && not (n || (t && not s))) ≡ (s && not n)
    by true true t = refl
    by true false true = refl
    by true false false = refl
    by false n true = ap not (or-true n)
    by false n false = refl

pub pending_stay : (test : ℕ → ℕ → Bool) (words staged more rooms : Words) → HasMade test words staged more rooms → SamePending words staged more rooms
pending_stay test words staged more rooms h = λ i c. kept_pending (is_in words i c) (is_staged staged i c) (test i c) (is_in more i c) (is_staged rooms i c) (h.put i c) (h.made i c)

pub pending_then : (words staged more rooms wider tracked : Words) → SamePending words staged more rooms → SamePending more rooms wider tracked → SamePending words staged wider tracked
pending_then words staged more rooms wider tracked h k = λ i c. k i c ∙ h i c

-- a room listed once more
pub staged_more : (staged rooms : Words) (at more : ℕ) → rooms ≡ staged ++ (at, more) ∷ [] → (i c : ℕ) → is_staged rooms i c ≡ (is_staged staged i c || ((at == c) && has_bit i more))
staged_more staged rooms at more e i c =
    ap (λ (rs : Words). is_staged rs i c) e ∙ list_any-append (λ (r : ℕ × ℕ). (r.0 == c) && has_bit i r.1) staged ((at, more) ∷ [])
    ∙ ap (λ b. is_staged staged i c || b) (or-false ((at == c) && has_bit i more))

put_new : (t b s : Bool) → (t ≡ true → s ≡ false) → cond t b s ≡ (s || (t && b))
put_new true b s h = sym (ap (λ (x : Bool). x || b) (h refl))
put_new false b s h = sym (or-false s)

made_new : (t b s n : Bool) → (t ≡ true → s ≡ false) → (n || (t && b)) ≡ (n || ((t && b) && not s))
made_new true b s n h = ap (λ x. n || x) (sym (ap (λ x. b && not x) (h refl) ∙ and-true b))
made_new false b s n h = refl

-- a cell put in that didn't stand there
pub has_made_new : (words staged more rooms : Words) (at bits : ℕ) → lookup (is_at (nat_cmp at)) words ≡ None
    → ((q : ℕ) → lookup (is_at (nat_cmp q)) more ≡ cond (is_at (nat_cmp at) q) (Some bits) (lookup (is_at (nat_cmp q)) words))
    → rooms ≡ staged ++ (at, bits) ∷ [] → HasMade (λ i c. (at == c) && has_bit i bits) words staged more rooms
has_made_new words staged more rooms at bits none put made = record {
  put = λ i c. bit_changed words more at (Some bits) put i c ∙ put_new (at == c) (has_bit i bits) (is_in words i c) (bit_missing words at none i c);
  made = λ i c. staged_more staged rooms at bits made i c ∙ made_new (at == c) (has_bit i bits) (is_in words i c) (is_staged staged i c) (bit_missing words at none i c);
}

put_there : (t w m b s : Bool) → m ≡ (b && not w) → (t ≡ true → s ≡ w) → cond t (w || m) s ≡ (s || (t && b))
put_there true w m b s e h = ap (λ x. w || x) e ∙ or_new w b ∙ sym (ap (λ x. x || b) (h refl))
put_there false w m b s e h = sym (or-false s)

made_there : (t w m b s n : Bool) → m ≡ (b && not w) → (t ≡ true → s ≡ w) → (n || (t && m)) ≡ (n || ((t && b) && not s))
made_there true w m b s n e h = ap (λ x. n || x) (e ∙ sym (ap (λ x. b && not x) (h refl)))
made_there false w m b s n e h = refl

-- more bits put in the place of those of a cell
pub has_made_there : (words staged more rooms : Words) (at word new bits all : ℕ) → lookup (is_at (nat_cmp at)) words ≡ Some word
    → ((i : ℕ) → has_bit i new ≡ (has_bit i bits && not (has_bit i word))) → ((i : ℕ) → has_bit i all ≡ (has_bit i word || has_bit i new))
    → ((q : ℕ) → lookup (is_at (nat_cmp q)) more ≡ cond (is_at (nat_cmp at) q) (Some all) (lookup (is_at (nat_cmp q)) words))
    → rooms ≡ staged ++ (at, new) ∷ [] → HasMade (λ i c. (at == c) && has_bit i bits) words staged more rooms
has_made_there words staged more rooms at word new bits all there fresh both put made = record {
  put = λ i c.
      bit_changed words more at (Some all) put i c ∙ ap (λ b. cond (at == c) b (is_in words i c)) (both i)
      ∙ put_there (at == c) (has_bit i word) (has_bit i new) (has_bit i bits) (is_in words i c) (fresh i) (bit_there words at (Some word) there i c);
  made = λ i c.
      staged_more staged rooms at new made i c
      ∙ made_there (at == c) (has_bit i word) (has_bit i new) (has_bit i bits) (is_in words i c) (is_staged staged i c) (fresh i) (bit_there words at (Some word) there i c);
}

no_put : (t w m b s : Bool) → m ≡ (b && not w) → m ≡ false → (t ≡ true → s ≡ w) → s ≡ (s || (t && b))
no_put false w m b s e n h = sym (or-false s)
no_put true true m b s e n h = h refl ∙ sym (ap (λ x. x || b) (h refl))
no_put true false m true s e n h = absurd (both_ways m n e)
no_put true false m false s e n h = sym (or-false s)

no_made : (t w m b s n : Bool) → m ≡ (b && not w) → m ≡ false → (t ≡ true → s ≡ w) → n ≡ (n || ((t && b) && not s))
no_made false w m b s n e f h = sym (or-false n)
no_made true w m b s n e f h = sym (ap (λ x. n || x) (ap (λ x. b && not x) (h refl) ∙ sym e ∙ f) ∙ or-false n)

-- a cell that had all these bits
pub has_made_none : (words staged rooms : Words) (at word new bits : ℕ) → lookup (is_at (nat_cmp at)) words ≡ Some word
    → ((i : ℕ) → has_bit i new ≡ (has_bit i bits && not (has_bit i word))) → ((i : ℕ) → has_bit i new ≡ false)
    → rooms ≡ staged → HasMade (λ i c. (at == c) && has_bit i bits) words staged words rooms
has_made_none words staged rooms at word new bits there fresh bare same = record {
  put = λ i c. no_put (at == c) (has_bit i word) (has_bit i new) (has_bit i bits) (is_in words i c) (fresh i) (bare i) (bit_there words at (Some word) there i c);
  made = λ i c.
      ap (λ (rs : Words). is_staged rs i c) same
      ∙ no_made (at == c) (has_bit i word) (has_bit i new) (has_bit i bits) (is_in words i c) (is_staged staged i c) (fresh i) (bare i) (bit_there words at (Some word) there i c);
}

-- ---- room made for several cells

pub nothing_made : (words staged : Words) (bits : ℕ) → HasMade (at_cells [] bits) words staged words staged
nothing_made words staged bits = record { put = λ i c. sym (or-false (is_in words i c)); made = λ i c. sym (or-false (is_staged staged i c)) }

joined : (a v t x m r : Bool) → m ≡ (a || t) → r ≡ (v || (t && not a)) → (r || (x && not m)) ≡ (v || ((t || x) && not a))
joined a v t x m r e f = ap (λ b. b || (x && not m)) f ∙ ap (λ b. (v || (t && not a)) || (x && not b)) e ∙ by a v t x
  where
    by : (a v t x : Bool) → ((v || (t && not a)) || (x && not (a || t))) ≡ (v || ((t || x) && not a))
    by a true t x = refl
    by true false true x = and-false x
    by true false false x = refl
    by false false true x = refl
    by false false false x = refl

-- room for two groups of cells, one after the other
pub made_both : (t u v : ℕ → ℕ → Bool) (words staged more rooms wider tracked : Words) → ((i c : ℕ) → v i c ≡ (t i c || u i c))
    → HasMade t words staged more rooms → HasMade u more rooms wider tracked → HasMade v words staged wider tracked
made_both t u v words staged more rooms wider tracked e h k = record {
  put = λ i c.
      k.put i c ∙ ap (λ b. b || u i c) (h.put i c) ∙ or_assoc (is_in words i c) (t i c) (u i c) ∙ ap (λ b. is_in words i c || b) (sym (e i c));
  made = λ i c.
      k.made i c ∙ joined (is_in words i c) (is_staged staged i c) (t i c) (u i c) (is_in more i c) (is_staged rooms i c) (h.put i c) (h.made i c)
      ∙ ap (λ b. is_staged staged i c || (b && not (is_in words i c))) (sym (e i c));
}

-- the cells up to the k-th, at, and that one
pub one_more_cell : (cells : List ℕ) (k at bits : ℕ) → k < length cells → at ≡ get_or cells k at
    → (i c : ℕ) → at_cells (take (k + 1) cells) bits i c ≡ (at_cells (take k cells) bits i c || ((at == c) && has_bit i bits))
one_more_cell cells k at bits l is i c =
    ap (λ b. b && has_bit i bits) (list_any_more (λ d. d == c) cells k at l ∙ ap (λ d. is_one_of (take k cells) c || (d == c)) (sym is))
    ∙ and-or_distrib_right (is_one_of (take k cells) c) (at == c) (has_bit i bits)

pub made_more : (cells : List ℕ) (k at bits : ℕ) (words staged more rooms wider tracked : Words) → k < length cells → at ≡ get_or cells k at
    → HasMade (at_cells (take k cells) bits) words staged more rooms → HasMade (λ i c. (at == c) && has_bit i bits) more rooms wider tracked
    → HasMade (at_cells (take (k + 1) cells) bits) words staged wider tracked
made_more cells k at bits words staged more rooms wider tracked l is h m =
    made_both (at_cells (take k cells) bits) (λ i c. (at == c) && has_bit i bits) (at_cells (take (k + 1) cells) bits) words staged more rooms wider tracked
    (one_more_cell cells k at bits l is) h m

pub made_all : (cells : List ℕ) (k bits : ℕ) (words staged more rooms : Words) → length cells ≤ k → HasMade (at_cells (take k cells) bits) words staged more rooms
    → HasMade (at_cells cells bits) words staged more rooms
made_all cells k bits words staged more rooms l h = subst (λ xs. HasMade (at_cells xs bits) words staged more rooms) (take_all k cells l) h

-- the same, told by another test of sessions
pub has_made_same : (cells : List ℕ) (bits : ℕ) (has : ℕ → Bool) (words staged more rooms : Words) → ((i : ℕ) → has_bit i bits ≡ has i) → HasMade (at_cells cells bits) words staged more rooms
    → HasMade (λ i c. is_one_of cells c && has i) words staged more rooms
has_made_same cells bits has words staged more rooms e h = record {
  put = λ i c. h.put i c ∙ ap (λ b. is_in words i c || (is_one_of cells c && b)) (e i);
  made = λ i c. h.made i c ∙ ap (λ b. is_staged staged i c || ((is_one_of cells c && b) && not (is_in words i c))) (e i);
}

-- for sessions without a bit all is as it was
abbrev pub OthersStay : ℕ → (words staged more rooms : Words) → Type 0
OthersStay bits words staged more rooms = (i c : ℕ) → has_bit i bits ≡ false → (is_in more i c ≡ is_in words i c) × (is_staged rooms i c ≡ is_staged staged i c)

pub others_as_made : (bits : ℕ) (test : ℕ → Bool) (words staged more rooms : Words) → HasMade (λ i c. test c && has_bit i bits) words staged more rooms → OthersStay bits words staged more rooms
others_as_made bits test words staged more rooms h = λ i c n.
    let none : (test c && has_bit i bits) ≡ false = ap (λ b. test c && b) n ∙ and-false (test c) in (
      h.put i c ∙ ap (λ b. is_in words i c || b) none ∙ or-false (is_in words i c),
      h.made i c ∙ ap (λ b. is_staged staged i c || (b && not (is_in words i c))) none ∙ or-false (is_staged staged i c),
    )

pub others_then : (bits : ℕ) (words staged more rooms wider tracked : Words) → OthersStay bits words staged more rooms → OthersStay bits more rooms wider tracked → OthersStay bits words staged wider tracked
others_then bits words staged more rooms wider tracked h k = λ i c n. ((k i c n).0 ∙ (h i c n).0, (k i c n).1 ∙ (h i c n).1)

-- ---- rooms that one call makes

pub made_rooms : {u : Unit {0}} (test : ℕ → Bool) (bits : ℕ) (words staged more rooms : Words) → HasMade (λ i c. test c && has_bit i bits) words staged more rooms → MakesRooms test bits (Ok u) words staged more rooms
made_rooms test bits words staged more rooms h =
    record { pending = pending_stay (λ i c. test c && has_bit i bits) words staged more rooms h; room = h; others = others_as_made bits test words staged more rooms h }

-- memory ran out before any was made, and once some were
pub nothing_staged : {test : ℕ → Bool} {bits : ℕ} {words staged more rooms : Words} (r : Result (Unit {0}) AllocError) → IsErr r → more ≡ words → rooms ≡ staged → MakesRooms test bits r words staged more rooms
nothing_staged {test} {bits} {words} {staged} {more} {rooms} r k e f = record {
  pending = λ i c. ap (λ (ws : Words). is_in ws i c && not (is_staged rooms i c)) e ∙ ap (λ (rs : Words). is_in words i c && not (is_staged rs i c)) f;
  room = IfOk-from_err r _ k;
  others = λ i c n. (ap (λ (ws : Words). is_in ws i c) e, ap (λ (rs : Words). is_staged rs i c) f);
}

pub some_rooms : {test one : ℕ → Bool} {bits : ℕ} {y : Result (Unit {0}) AllocError} {words staged more rooms wider tracked : Words} (before : ℕ → Bool) (r : Result (Unit {0}) AllocError) → IsErr r
    → HasMade (λ i c. before c && has_bit i bits) words staged more rooms → MakesRooms one bits y more rooms wider tracked → MakesRooms test bits r words staged wider tracked
some_rooms {test} {one} {bits} {y} {words} {staged} {more} {rooms} {wider} {tracked} before r k h m = record {
  pending = pending_then words staged more rooms wider tracked (pending_stay (λ i c. before c && has_bit i bits) words staged more rooms h) m.pending;
  room = IfOk-from_err r _ k;
  others = others_then bits words staged more rooms wider tracked (others_as_made bits before words staged more rooms h) m.others;
}

-- ---- bits taken away

gone : (t b s : Bool) → (t ≡ true → s ≡ false) → s ≡ (s && not (t && b))
gone true b s h = h refl ∙ sym (ap (λ x. x && not b) (h refl))
gone false b s h = sym (and-true s)

-- from a cell that doesn't stand there
pub has_cleared_none : (words : Words) (at bits : ℕ) → lookup (is_at (nat_cmp at)) words ≡ None → HasCleared (λ i c. (at == c) && has_bit i bits) words words
has_cleared_none words at bits none = λ i c. gone (at == c) (has_bit i bits) (is_in words i c) (bit_missing words at none i c)

taken : (t l w b s : Bool) → l ≡ (w && not b) → (t ≡ true → s ≡ w) → cond t l s ≡ (s && not (t && b))
taken true l w b s e h = e ∙ sym (ap (λ x. x && not b) (h refl))
taken false l w b s e h = sym (and-true s)

-- from one that does, where others are left, or none is
pub has_cleared_put : (words less : Words) (at word bits : ℕ) (o : Option ℕ) → lookup (is_at (nat_cmp at)) words ≡ Some word
    → ((i : ℕ) → has_bit i (unwrap_or o 0) ≡ (has_bit i word && not (has_bit i bits)))
    → ((q : ℕ) → lookup (is_at (nat_cmp q)) less ≡ cond (is_at (nat_cmp at) q) o (lookup (is_at (nat_cmp q)) words))
    → HasCleared (λ i c. (at == c) && has_bit i bits) words less
has_cleared_put words less at word bits o there fresh put = λ i c.
    bit_changed words less at o put i c
    ∙ taken (at == c) (has_bit i (unwrap_or o 0)) (has_bit i word) (has_bit i bits) (is_in words i c) (fresh i) (bit_there words at (Some word) there i c)

pub nothing_cleared : (words : Words) (bits : ℕ) → HasCleared (at_cells [] bits) words words
nothing_cleared words bits = λ i c. sym (and-true (is_in words i c))

pub no_room_cleared : (words : Words) → HasCleared (is_staged []) words words
no_room_cleared words = λ i c. sym (and-true (is_in words i c))

taken_both : (s t x : Bool) → ((s && not t) && not x) ≡ (s && not (t || x))
taken_both true true x = refl
taken_both true false x = refl
taken_both false t x = refl

pub cleared_both : (t u v : ℕ → ℕ → Bool) (words less least : Words) → ((i c : ℕ) → v i c ≡ (t i c || u i c)) → HasCleared t words less → HasCleared u less least → HasCleared v words least
cleared_both t u v words less least e h k = λ i c.
    k i c ∙ ap (λ b. b && not (u i c)) (h i c) ∙ taken_both (is_in words i c) (t i c) (u i c) ∙ ap (λ b. is_in words i c && not b) (sym (e i c))

pub cleared_more : (cells : List ℕ) (k at bits : ℕ) (words less least : Words) → k < length cells → at ≡ get_or cells k at
    → HasCleared (at_cells (take k cells) bits) words less → HasCleared (λ i c. (at == c) && has_bit i bits) less least → HasCleared (at_cells (take (k + 1) cells) bits) words least
cleared_more cells k at bits words less least l is h m =
    cleared_both (at_cells (take k cells) bits) (λ i c. (at == c) && has_bit i bits) (at_cells (take (k + 1) cells) bits) words less least (one_more_cell cells k at bits l is) h m

pub cleared_all : (cells : List ℕ) (k bits : ℕ) (words less : Words) → length cells ≤ k → HasCleared (at_cells (take k cells) bits) words less → HasCleared (at_cells cells bits) words less
cleared_all cells k bits words less l h = subst (λ xs. HasCleared (at_cells xs bits) words less) (take_all k cells l) h

-- of rooms, the first k, and then the k-th, r
pub one_more_room : (staged : Words) (k : ℕ) (r : ℕ × ℕ) → k < length staged → r ≡ get_or staged k r
    → (i c : ℕ) → is_staged (take (k + 1) staged) i c ≡ (is_staged (take k staged) i c || ((r.0 == c) && has_bit i r.1))
one_more_room staged k r l is i c =
    list_any_more (λ (e : ℕ × ℕ). (e.0 == c) && has_bit i e.1) staged k r l
    ∙ ap (λ (e : ℕ × ℕ). is_staged (take k staged) i c || ((e.0 == c) && has_bit i e.1)) (sym is)

pub rooms_more : (staged : Words) (k : ℕ) (r : ℕ × ℕ) (words less least : Words) → k < length staged → r ≡ get_or staged k r
    → HasCleared (is_staged (take k staged)) words less → HasCleared (λ i c. (r.0 == c) && has_bit i r.1) less least → HasCleared (is_staged (take (k + 1) staged)) words least
rooms_more staged k r words less least l is h m =
    cleared_both (is_staged (take k staged)) (λ i c. (r.0 == c) && has_bit i r.1) (is_staged (take (k + 1) staged)) words less least (one_more_room staged k r l is) h m

pub rooms_all : (staged : Words) (k : ℕ) (words less : Words) → length staged ≤ k → HasCleared (is_staged (take k staged)) words less → HasCleared (is_staged staged) words less
rooms_all staged k words less l h = subst (λ (rs : Words). HasCleared (is_staged rs) words less) (take_all k staged l) h

-- and of one session alone
pub nothing_dropped : (words : Words) (bit : ℕ) → HasCleared (λ i c. is_staged [] i c && has_bit i bit) words words
nothing_dropped words bit = λ i c. sym (and-true (is_in words i c))

both_bits : (x t b m o : Bool) → m ≡ (b && o) → ((x || (t && b)) && o) ≡ ((x && o) || (t && m))
both_bits x t b m o e = by x t b o ∙ ap (λ y. (x && o) || (t && y)) (sym e)
  where
    by : (x t b o : Bool) → ((x || (t && b)) && o) ≡ ((x && o) || (t && (b && o)))
    by true true b true = refl
    by true true b false = sym (and-false b)
    by true false b true = refl
    by true false b false = refl
    by false true b o = refl
    by false false b o = refl

pub dropped_more : (staged : Words) (k : ℕ) (r : ℕ × ℕ) (bit m : ℕ) (words less least : Words) → k < length staged → r ≡ get_or staged k r → ((i : ℕ) → has_bit i m ≡ (has_bit i r.1 && has_bit i bit))
    → HasCleared (λ i c. is_staged (take k staged) i c && has_bit i bit) words less → HasCleared (λ i c. (r.0 == c) && has_bit i m) less least
    → HasCleared (λ i c. is_staged (take (k + 1) staged) i c && has_bit i bit) words least
dropped_more staged k r bit m words less least l is e h d =
    cleared_both (λ i c. is_staged (take k staged) i c && has_bit i bit) (λ i c. (r.0 == c) && has_bit i m) (λ i c. is_staged (take (k + 1) staged) i c && has_bit i bit) words less least
    (λ i c. ap (λ b. b && has_bit i bit) (one_more_room staged k r l is i c) ∙ both_bits (is_staged (take k staged) i c) (r.0 == c) (has_bit i r.1) (has_bit i m) (has_bit i bit) (e i)) h d

pub dropped_all : (staged : Words) (k bit : ℕ) (words less : Words) → length staged ≤ k → HasCleared (λ i c. is_staged (take k staged) i c && has_bit i bit) words less
    → HasCleared (λ i c. is_staged staged i c && has_bit i bit) words less
dropped_all staged k bit words less l h = subst (λ (rs : Words). HasCleared (λ i c. is_staged rs i c && has_bit i bit) words less) (take_all k staged l) h

-- once the bits of rooms are gone, what was pending is
pub given_back : (words staged less none : Words) → HasCleared (is_staged staged) words less → none ≡ [] → SamePending words staged less none
given_back words staged less none h e = λ i c. ap (λ (rs : Words). is_in less i c && not (is_staged rs i c)) e ∙ and-true (is_in less i c) ∙ h i c

-- ---- the cells listed

-- a cell appended to those found, if it has the bit
pub one_pushed : (found new : List ℕ) (at word i : ℕ) → new ≡ found ++ at ∷ [] → has_bit i word ≡ true → new ≡ found ++ cells_with ((at, word) ∷ []) i
one_pushed found new at word i e t =
    e ∙ ap (λ (xs : List ℕ). found ++ xs) (sym (ap (λ b. keys_of (cond b ((at, word) ∷ []) [])) t))

pub none_pushed : (found : List ℕ) (at word i : ℕ) → has_bit i word ≡ false → found ≡ found ++ cells_with ((at, word) ∷ []) i
none_pushed found at word i f =
    sym (append-nil found) ∙ ap (λ (xs : List ℕ). found ++ xs) (sym (ap (λ b. keys_of (cond b ((at, word) ∷ []) [])) f))

with_first : (e : ℕ × ℕ) (es : Words) (i : ℕ) → cells_with (e ∷ es) i ≡ cells_with (e ∷ []) i ++ cells_with es i
with_first e es i = by (has_bit i e.1)
  where
    by : (b : Bool) → keys_of (cond b (e ∷ filter (λ d. has_bit i d.1) es) (filter (λ d. has_bit i d.1) es)) ≡ keys_of (cond b (e ∷ []) []) ++ cells_with es i
    by true = refl
    by false = refl

pub walk_begins : (found : List ℕ) (it all : Words) (i : ℕ) → found ≡ [] → it ≡ all → found ++ cells_with it i ≡ cells_with all i
walk_begins found it all i e f = ap (λ (xs : List ℕ). xs ++ cells_with it i) e ∙ ap (λ (es : Words). cells_with es i) f

pub walk_more : (found new : List ℕ) (e : ℕ × ℕ) (rest it all : Words) (i : ℕ) → new ≡ found ++ cells_with (e ∷ []) i → it ≡ e ∷ rest
    → found ++ cells_with it i ≡ cells_with all i → new ++ cells_with rest i ≡ cells_with all i
walk_more found new e rest it all i n s h =
    ap (λ (xs : List ℕ). xs ++ cells_with rest i) n ∙ append_assoc found (cells_with (e ∷ []) i) (cells_with rest i)
    ∙ ap (λ (xs : List ℕ). found ++ xs) (sym (with_first e rest i)) ∙ ap (λ (es : Words). found ++ cells_with es i) (sym s) ∙ h

pub one_left : (e : ℕ × ℕ) (rest it : Words) (i n : ℕ) → it ≡ e ∷ rest → length it + i ≡ n → length rest + (i + 1) ≡ n
one_left e rest it i n is h =
    let one : length it ≡ length (e ∷ rest) = ap length is in
    omega (arith, one, h)

pub none_left : (it : Words) (i n : ℕ) → length it + i ≡ n → n ≤ i → it ≡ []
none_left [] i n h l = refl
none_left (e ∷ it) i n h l = let no_more : Prim.⊥ = omega (arith, h, l) in absurd no_more

pub walk_ends : (found : List ℕ) (it all : Words) (i : ℕ) → it ≡ [] → found ++ cells_with it i ≡ cells_with all i → found ≡ cells_with all i
walk_ends found it all i e h = sym (append-nil found) ∙ ap (λ (es : Words). found ++ cells_with es i) (sym e) ∙ h
