-- The occupied cells of a rectangle, handed over up to the first that is replaced.
use Rattle.wi_engine.proofs.Words.{◌≡◌, ℕ, ◌<◌, ◌≤◌, ◌+◌, Bool, true, false, ◌&&◌, cond, List, [], ◌∷◌, filter, Option, Some, None, IfSome, IfNone, refl, sym, ap, ◌∙◌, subst, arith, find, IsStrictlyIncreasing, keys_of, le-leb, lt-leb, and_from, sorted_from_strictly_increasing, Area, is_within, Value, Empty, Number, Text, Logical, Fault, Replacement, IsInOrder, as_map, replaced, ComeAfter, Ascends, Ascends-from_order, at_itself, at_earlier, Content, Sheet, constant, content_of, put_all, is_ahead, LookedUp, value_if_known, ComesBefore, is_known_empty, HasTaken, after_cells, PassesEmpty, enough, joined, moves_on, successor_to_come, over, content_in_order, cell_known, known_in, found_value, Findings}
use Rattle.wi_arguments.proofs.Walking.{reaches}
use Rattle.wi_engine.proofs.filled.FirstTouched.{ahead_means, found_passes, none_before, stands_ahead}

-- the occupied cells ahead in a rectangle, with what stands there
abbrev pub ahead_in : Area → ℕ → Sheet → Sheet
ahead_in r from s = filter (λ e. is_ahead r (Some from) e.0) s

ahead_is : (r : Area) (from a : ℕ) → is_within r a ≡ true → from ≤ a → is_ahead r (Some from) a ≡ true
ahead_is r from a w l = and_from _ _ (le-leb from a l) w

abbrev pub first_key : Sheet → Option ℕ
first_key [] = None
first_key (e ∷ es) = Some e.0

first_found : (p : ℕ → Bool) (s : Sheet) → find p (keys_of s) ≡ first_key (filter (λ e. p e.0) s)
first_found p [] = refl
first_found p (e ∷ es) = at (p e.0) (first_found p es)
  where
    at : (b : Bool) → find p (keys_of es) ≡ first_key (filter (λ e. p e.0) es) → cond b (Some e.0) (find p (keys_of es)) ≡ first_key (cond b (e ∷ filter (λ e. p e.0) es) (filter (λ e. p e.0) es))
    at true ih = refl
    at false ih = ih

-- ---- the first that is ahead

same_after : (r : Area) (start c : ℕ) (es : Sheet) → start ≤ c → ComeAfter c es → ahead_in r start es ≡ ahead_in r (c + 1) es
same_after r start c [] l h = refl
same_after r start c (e ∷ es) l h =
    ap (λ (b : Bool). cond (b && is_within r e.0) (e ∷ ahead_in r start es) (ahead_in r start es)) (le-leb start e.0 (omega (arith, l, h.0)) ∙ sym (le-leb (c + 1) e.0 (omega (arith, h.0))))
    ∙ ap (λ (xs : Sheet). cond (is_ahead r (Some (c + 1)) e.0) (e ∷ xs) xs) (same_after r start c es l h.1)

-- what is known of the first that is ahead, and of those after it
record IsFirstAhead (r : Area) (start c : ℕ) (x : Content) (s es : Sheet) : Type 0 where
  ahead : is_ahead r (Some start) c ≡ true
  content : content_of s c ≡ Some x
  rest : es ≡ ahead_in r (c + 1) s

key_after : (p : ℕ → Bool) (a c : ℕ) (x : Content) (s es : Sheet) → ComeAfter a s → filter (λ e. p e.0) s ≡ (c, x) ∷ es → a < c
key_after p a c x [] es h k = absurd (let z = k in cc)
key_after p a c x (e ∷ s) es h k = at (p e.0) k (key_after p a c x s es h.1)
  where
    at : (b : Bool) → cond b (e ∷ filter (λ e. p e.0) s) (filter (λ e. p e.0) s) ≡ (c, x) ∷ es → (filter (λ e. p e.0) s ≡ (c, x) ∷ es → a < c) → a < c
    at true f ih = let same : e.0 ≡ c = cc in subst (λ (n : ℕ). a < n) same h.0
    at false f ih = ih f

not_ahead : (r : Area) (c a : ℕ) → a ≤ c → is_ahead r (Some (c + 1)) a ≡ false
not_ahead r c a l = ap (λ (b : Bool). b && is_within r a) (lt-leb (c + 1) a (omega (arith, l)))

first_ahead : (r : Area) (start c : ℕ) (x : Content) (s es : Sheet) → Ascends s → ahead_in r start s ≡ (c, x) ∷ es → IsFirstAhead r start c x s es
first_ahead r start c x [] es asc h = absurd (let z = h in cc)
first_ahead r start c x (e ∷ s) es asc h = at (is_ahead r (Some start) e.0) refl h (first_ahead r start c x s es asc.1)
  where
    at : (b : Bool) → is_ahead r (Some start) e.0 ≡ b → cond b (e ∷ ahead_in r start s) (ahead_in r start s) ≡ (c, x) ∷ es → (ahead_in r start s ≡ (c, x) ∷ es → IsFirstAhead r start c x s es) → IsFirstAhead r start c x (e ∷ s) es
    at true k f ih =
        let key : e.0 ≡ c = cc in
        let value : e.1 ≡ x = cc in
        let tail : ahead_in r start s ≡ es = cc in
        let later : ComeAfter c s = subst (λ (n : ℕ). ComeAfter n s) key asc.0 in
        let lies : is_ahead r (Some start) c ≡ true = subst (λ (n : ℕ). is_ahead r (Some start) n ≡ true) key k in
        record {
          ahead = lies;
          content = subst (λ (n : ℕ). content_of (e ∷ s) n ≡ Some x) key (ap (λ (b : Bool). cond b (Some e.1) (content_of s e.0)) (at_itself e.0) ∙ ap (λ (y : Content). Some y) value);
          rest =
              sym tail ∙ same_after r start c s (ahead_means r start c lies).1 later
              ∙ sym (ap (λ (b : Bool). cond b (e ∷ ahead_in r (c + 1) s) (ahead_in r (c + 1) s)) (not_ahead r c e.0 (omega (arith, key))));
        }
    at false k f ih =
        let i = ih f in
        let l : e.0 < c = key_after (is_ahead r (Some start)) e.0 c x s es asc.0 f in
        record {
          ahead = i.ahead;
          content = ap (λ (b : Bool). cond b (Some e.1) (content_of s c)) (at_earlier c e.0 l) ∙ i.content;
          rest = i.rest ∙ sym (ap (λ (b : Bool). cond b (e ∷ ahead_in r (c + 1) s) (ahead_in r (c + 1) s)) (not_ahead r c e.0 (omega (arith, l))));
        }

none_up_to : (r : Area) (start a : ℕ) (s es : Sheet) → Ascends s → es ≡ ahead_in r start s → is_within r a ≡ true → start ≤ a → ComesBefore a (first_key es) → content_of s a ≡ None
none_up_to r start a s es asc h w l b =
    none_before (is_ahead r (Some start)) a s asc (ahead_is r start a w l) (subst (ComesBefore a) (ap first_key h ∙ sym (first_found (is_ahead r (Some start)) s)) b)

-- ---- what is known

-- a constant is known, Empty too
known_constant : (v : Value) (o : Option Value) → known_in (constant v) o ≡ Some v
known_constant Empty o = refl
known_constant (Number n) o = refl
known_constant (Text t) o = refl
known_constant (Logical b) o = refl
known_constant (Fault e) o = refl

-- no cell before the limit is replaced
abbrev pub StandsBefore : Sheet → List Replacement → Area → ℕ → Option ℕ → Type 0
StandsBefore s w r from limit = (a : ℕ) → is_ahead r (Some from) a ≡ true → ComesBefore a limit → content_of (put_all s w) a ≡ content_of s a

pub stands : (s : Sheet) (v w : List Replacement) (r : Area) (from : ℕ) (limit : Option ℕ) → IsInOrder w → v ≡ w → limit ≡ find (is_ahead r (Some from)) (keys_of (as_map v)) → StandsBefore s w r from limit
stands s v w r from limit order same h a t b = stands_ahead s w r from a order t (subst (ComesBefore a) (h ∙ ap (λ (rs : List Replacement). find (is_ahead r (Some from)) (keys_of (as_map rs))) same) b)

module _ {S : Type 0} (after : S → ℕ → Value → S) (passes_empty : PassesEmpty after) (s : Sheet) (w : List Replacement) (f : Findings) (r : Area) (from : ℕ) (limit : Option ℕ) where
  -- those before `start` were handed over, and these are to come
  pub record AreHanded (old new : S) (es : Sheet) : Type 0 where
    pub start : ℕ
    pub begins : from ≤ start
    pub within : IfSome limit (λ l. start ≤ l)
    pub rest : es ≡ ahead_in r start s
    pub taken : HasTaken after (cell_known s w f) r old (Some from) new (Some start)

  empty_there : StandsBefore s w r from limit → (start a : ℕ) → from ≤ start → is_within r a ≡ true → start ≤ a → ComesBefore a limit → content_of s a ≡ None → is_known_empty (cell_known s w f a) ≡ true
  empty_there stays start a l i m b none = ap (λ (o : Option Content). is_known_empty (known_in o (found_value f a))) (stays a (ahead_is r from a i (omega (arith, l, m))) b ∙ none)

  before_limit : (c a : ℕ) (o : Option ℕ) → a < c → ComesBefore c o → ComesBefore a o
  before_limit c a None l b = tt
  before_limit c a (Some d) l b = omega (arith, l, b)

  -- what is known of the next one
  known_here : StandsBefore s w r from limit → (start c : ℕ) (x : Content) (es : Sheet) → from ≤ start → IsFirstAhead r start c x s es → ComesBefore c limit → cell_known s w f c ≡ known_in (Some x) (found_value f c)
  known_here stays start c x es l h b =
      let p = ahead_means r start c h.ahead in
      ap (λ (o : Option Content). known_in o (found_value f c)) (stays c (ahead_is r from c p.0 (omega (arith, l, p.1))) b ∙ h.content)

  next_within : (c : ℕ) (o : Option ℕ) → ComesBefore c o → IfSome o (λ l. c + 1 ≤ l)
  next_within c None b = tt
  next_within c (Some d) b = omega (arith, b)

  first : (old new : S) (c : ℕ) (x : Content) (es fs : Sheet) → Ascends s → (h : AreHanded old new es) → es ≡ (c, x) ∷ fs → IsFirstAhead r h.start c x s fs
  first old new c x es fs asc h k = first_ahead r h.start c x s fs asc (sym h.rest ∙ k)

  -- the next one is handed over
  pub one_known : StandsBefore s w r from limit → (old new more : S) (c : ℕ) (x : Content) (v : Value) (es fs : Sheet) → IsStrictlyIncreasing (keys_of s) → AreHanded old new es → es ≡ (c, x) ∷ fs → ComesBefore c limit →
      Some v ≡ known_in (Some x) (found_value f c) → more ≡ after new c v → AreHanded old more fs
  one_known stays old new more c x v es fs order h k b e n =
      record {
        start = c + 1;
        begins = omega (arith, h.begins, lies.1);
        within = next_within c limit b;
        rest = here.rest;
        taken =
            joined after (cell_known s w f) r old new more (Some from) (Some h.start) (Some (c + 1)) h.taken
            (moves_on after passes_empty (cell_known s w f) r new more h.start c v lies.0 lies.1
            (λ a i m z. empty_there stays h.start a h.begins i m (before_limit c a limit z b) (none_up_to r h.start a s es asc h.rest i m (subst (λ (xs : Sheet). ComesBefore a (first_key xs)) (sym k) z)))
            (e ∙ sym (known_here stays h.start c x fs h.begins here b)) n);
      }
    where
      asc : Ascends s
      asc = Ascends-from_order s (sorted_from_strictly_increasing _ order)

      here : IsFirstAhead r h.start c x s fs
      here = first old new c x es fs asc h k

      lies : (is_within r c ≡ true) × (h.start ≤ c)
      lies = ahead_means r h.start c here.ahead

  pub one_more : StandsBefore s w r from limit → (old new more : S) (c : ℕ) (x : Content) (l : LookedUp) (v : Value) (es fs : Sheet) → IsStrictlyIncreasing (keys_of s) → AreHanded old new es → es ≡ (c, x) ∷ fs → ComesBefore c limit →
      value_if_known l ≡ known_in (Some x) (found_value f c) → value_if_known l ≡ Some v → more ≡ after new c v → AreHanded old more fs
  one_more stays old new more c x l v es fs order h k b e g n = one_known stays old new more c x v es fs order h k b (sym g ∙ e) n

  -- where nothing is left before the limit, all are
  pub all_handed : StandsBefore s w r from limit → (old new : S) (es : Sheet) → IsStrictlyIncreasing (keys_of s) → AreHanded old new es → ((a : ℕ) → ComesBefore a limit → ComesBefore a (first_key es)) → HasTaken after (cell_known s w f) r old (Some from) new limit
  all_handed stays old new es order h n =
      joined after (cell_known s w f) r old new new (Some from) (Some h.start) limit h.taken
      (reaches after passes_empty (cell_known s w f) r new h.start limit h.within
      (λ a i m b. empty_there stays h.start a h.begins i m b (none_up_to r h.start a s es (Ascends-from_order s (sorted_from_strictly_increasing _ order)) h.rest i m (n a b))))

  pub handed_to_end : StandsBefore s w r from limit → (old new : S) (es : Sheet) → IsStrictlyIncreasing (keys_of s) → AreHanded old new es → es ≡ [] → HasTaken after (cell_known s w f) r old (Some from) new limit
  handed_to_end stays old new es order h e = all_handed stays old new es order h (λ a b. subst (λ (xs : Sheet). ComesBefore a (first_key xs)) (sym e) tt)

  pub handed_to_limit : StandsBefore s w r from limit → (old new : S) (c : ℕ) (x : Content) (es fs : Sheet) → IsStrictlyIncreasing (keys_of s) → AreHanded old new es → es ≡ (c, x) ∷ fs → ((a : ℕ) → ComesBefore a limit → a < c) → HasTaken after (cell_known s w f) r old (Some from) new limit
  handed_to_limit stays old new c x es fs order h e n = all_handed stays old new es order h (λ a b. subst (λ (xs : Sheet). ComesBefore a (first_key xs)) (sym e) (n a b))

  -- or no other makes a difference
  pub handed_enough : StandsBefore s w r from limit → (old new more : S) (c : ℕ) (x : Content) (l : LookedUp) (v : Value) (es fs : Sheet) → IsStrictlyIncreasing (keys_of s) → AreHanded old new es → es ≡ (c, x) ∷ fs → ComesBefore c limit →
      value_if_known l ≡ known_in (Some x) (found_value f c) → value_if_known l ≡ Some v → more ≡ after new c v → ((d : ℕ) (u : Value) → after more d u ≡ more) → HasTaken after (cell_known s w f) r old (Some from) more limit
  handed_enough stays old new more c x l v es fs order h k b e g n same =
      let m = one_more stays old new more c x l v es fs order h k b e g n in
      enough after (cell_known s w f) r old more from (Some m.start) limit same m.taken

  -- the next one is missing
  pub missing_here : StandsBefore s w r from limit → (old new : S) (c : ℕ) (x : Content) (l : LookedUp) (es fs : Sheet) → IsStrictlyIncreasing (keys_of s) → AreHanded old new es → es ≡ (c, x) ∷ fs → ComesBefore c limit →
      value_if_known l ≡ known_in (Some x) (found_value f c) → value_if_known l ≡ None → cell_known s w f c ≡ None
  missing_here stays old new c x l es fs order h k b e g =
      known_here stays h.start c x fs h.begins (first old new c x es fs (Ascends-from_order s (sorted_from_strictly_increasing _ order)) h k) b ∙ sym e ∙ g

  pub inside_here : (old new : S) (c : ℕ) (x : Content) (es fs : Sheet) → IsStrictlyIncreasing (keys_of s) → AreHanded old new es → es ≡ (c, x) ∷ fs → is_within r c ≡ true
  inside_here old new c x es fs order h k =
      (ahead_means r h.start c (first old new c x es fs (Ascends-from_order s (sorted_from_strictly_increasing _ order)) h k).ahead).0

-- ---- a replaced cell

-- the first that is replaced lies ahead
pub replaced_ahead : (r : Area) (from d : ℕ) (w : List Replacement) → Some d ≡ find (is_ahead r (Some from)) (keys_of (as_map w)) → (is_within r d ≡ true) × (from ≤ d)
replaced_ahead r from d w h =
    ahead_means r from d (subst (λ (o : Option ℕ). IfSome o (λ c. is_ahead r (Some from) c ≡ true)) (sym h) (found_passes (is_ahead r (Some from)) (keys_of (as_map w))))

-- what is known of it is what its replacement says
known_replaced : (s : Sheet) (w : List Replacement) (f : Findings) (d : ℕ) (v : Value) → IsInOrder w → replaced w d ≡ Some v → Some v ≡ cell_known s w f d
known_replaced s w f d v order h =
    sym (ap (λ (o : Option Content). known_in o (found_value f d)) (content_in_order s w d order ∙ ap (λ (o : Option Value). over o (content_of s d)) h) ∙ known_constant v (found_value f d))

pub further : (r : Area) (from d last : ℕ) (w : List Replacement) (next : Option ℕ) → Some d ≡ find (is_ahead r (Some from)) (keys_of (as_map w)) → last ≡ r.last → IfSome next (λ n. (n ≡ d + 1) × (n ≤ last)) → IfSome next (λ n. (from < n) × (n ≤ r.last))
further r from d last w None h e some = tt
further r from d last w (Some n) h e some = let l = (replaced_ahead r from d w h).1 in (omega (arith, l, some.0), omega (arith, e, some.1))

module _ {S : Type 0} (after : S → ℕ → Value → S) (passes_empty : PassesEmpty after) (s : Sheet) (w v : List Replacement) (f : Findings) (r : Area) (from : ℕ) (order : IsInOrder w) (same : v ≡ w) where
  replaced_taken : (d : ℕ) (x : Value) → Some d ≡ find (is_ahead r (Some from)) (keys_of (as_map v)) → replaced v d ≡ Some x → (old mid more : S) → HasTaken after (cell_known s w f) r old (Some from) mid (Some d) → more ≡ after mid d x →
      HasTaken after (cell_known s w f) r old (Some from) more (Some (d + 1))
  replaced_taken d x h there old mid more k e =
      joined after (cell_known s w f) r old mid more (Some from) (Some d) (Some (d + 1)) k
      (moves_on after passes_empty (cell_known s w f) r mid more d d x (replaced_ahead r from d v h).0 (omega arith) (λ a i l m. absurd (omega (arith, l, m)))
      (known_replaced s w f d x order (ap (λ (rs : List Replacement). replaced rs d) (sym same) ∙ there)) e)

  -- it is taken, and the walk goes on after it
  pub replaced_on : (d last : ℕ) (x : Value) (next : Option ℕ) → Some d ≡ find (is_ahead r (Some from)) (keys_of (as_map v)) → replaced v d ≡ Some x → (old mid more : S) → HasTaken after (cell_known s w f) r old (Some from) mid (Some d) → more ≡ after mid d x →
      last ≡ r.last → IfSome next (λ n. (n ≡ d + 1) × (n ≤ last)) → IfNone next (last ≤ d) → HasTaken after (cell_known s w f) r old (Some from) more next
  replaced_on d last x next h there old mid more k e g some none =
      λ cells agrees. ap (λ (xs : List ℕ). after_cells after cells more xs) (successor_to_come r d last next g some none) ∙ replaced_taken d x h there old mid more k e cells agrees

  -- or stops with it
  pub replaced_last : (d : ℕ) (x : Value) → Some d ≡ find (is_ahead r (Some from)) (keys_of (as_map v)) → replaced v d ≡ Some x → (old mid more : S) → HasTaken after (cell_known s w f) r old (Some from) mid (Some d) → more ≡ after mid d x →
      ((c : ℕ) (u : Value) → after more c u ≡ more) → HasTaken after (cell_known s w f) r old (Some from) more None
  replaced_last d x h there old mid more k e stays = enough after (cell_known s w f) r old more from (Some (d + 1)) None stays (replaced_taken d x h there old mid more k e)
