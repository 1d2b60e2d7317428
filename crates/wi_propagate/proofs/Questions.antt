-- A question asked of a calculator that keeps values.
use Rattle.wi_propagate.proofs.Words.{◌≡◌, ◌≤◌, ◌<◌, ◌+◌, ◌-◌, ◌^◌, inl, inr, length, All, filter, not, is_some, ℕ, Bool, true, false, List, [], Option, refl, ap, sym, ◌∙◌, subst, arith, keys_of, cases_lt, true≢false, Value, Fault, Circular, Replacement, Sheet, content_of, put_all, has_formula, Counts, Stored, Key, KeptValues, kept, value_for, IfSome, circular, clash, Case, reaching, asks_circular, table_entry, IsWhatIfSettled, IsClosed, SpentOn, left_is_unkept, sum_ones, never_fall-same, spent_unkept, cells_open, entry_circular, none_circular, MayBeRead, KeepsFound, WhereSpace, TakesNoMore, GivesUpWhenFull, NeedsNoEvaluation, IsValuedAnew, IsSameBeside, Saved, SpendsAtMost, what_if_more, rests_more, none_went, Generations, generation_in, KeptSheet, key_in, stands, is_kept, unkept, gone, IsAtHand, HasSpaceFor, KeepsAll, KeepsNoMore, KeepsOld, KeepsWhileSpace, emptied, AreRight, IsKeptFor, AreKeptRight, Box, Carried, kept_sheet, values_in, Keeping, keeping, begun, state_in, ArePlaced, IsKeepingRight, Owes, flushed, or_none, Some, None, IsSome, Stamps, stamped_in, Staging, AreEdgesOf, AreDirty, AreCarriedCones, AreKeptUp, AreStamped, AreAllCones, ArePlans}
use Rattle.wi_engine.specs.Inner.Saving as saving
use Rattle.wi_propagate.specs.declared.plans.Plans.{Plans}
use Rattle.wi_propagate.proofs.StampSteps.{flushed_up}
use Rattle.wi_propagate.proofs.PlaceCounts.{all_stand}

-- ---- what is dirty is flushed first

-- where the numbers of edits are the same, so is the calculator
module _ {s : Stored} {old new : Generations} (e : new ≡ old) (o : Option (Box Carried)) (n : Counts) where
  pub flushed_view : (k : KeptSheet) → kept_sheet s (flushed s.sheet old) o n ≡ k → kept_sheet s (flushed s.sheet new) o n ≡ k
  flushed_view k h = ap (λ (ns : Generations). kept_sheet s (flushed s.sheet ns) o n) e ∙ h

  pub settled_right : AreKeptRight (kept_sheet s (flushed s.sheet old) o n) → AreKeptRight (kept_sheet s (flushed s.sheet new) o n)
  settled_right h = subst (λ (ns : Generations). AreKeptRight (kept_sheet s (flushed s.sheet ns) o n)) (sym e) h

-- ---- how it begins

-- with what was kept, which is no more than there is room for, each value under a key of its own
pub record Begins (k : KeptSheet) (q : Keeping) : Type 0 where
  pub is : q ≡ begun k
  pub placed : ArePlaced k.values

pub begins : (s : Stored) (gs : Generations) (o : Option (Box Carried)) (n : Counts) (v : KeptValues) (q : Keeping) → v ≡ values_in o → q ≡ keeping s.sheet s.edits gs [] v → ArePlaced v → Begins (kept_sheet s gs o n) q
begins s gs o n v q f e placed = record {
  is = e ∙ ap (λ (x : KeptValues). keeping s.sheet s.edits gs [] x) f;
  placed = subst (λ (x : KeptValues). ArePlaced x) f placed;
}

-- and what was kept is right
pub begun_right : (s : Stored) (gs : Generations) (o : Option (Box Carried)) (n : Counts) (v : KeptValues) → v ≡ values_in o → AreKeptRight (kept_sheet s gs o n) → IsKeepingRight (keeping s.sheet s.edits gs [] v)
begun_right s gs o n v f h = record {
  past = h.past;
  right = subst (λ (x : KeptValues). AreRight s.sheet s.edits (generation_in gs) x.entries) (sym f) h.right;
}

module _ {k : KeptSheet} {q : Keeping} (e : Begins k q) where
  -- at its beginning what is found is what is kept
  begun_found : (c : ℕ) (w : List Replacement) → (state_in q).found c w ≡ is_kept k c w
  begun_found c w = ap (λ (x : Keeping). (state_in x).found c w) e.is ∙ ap (λ (o : Option Value). is_some o) (or_none (value_for k.values.entries (key_in k.generations c w)))

  keeps_found : KeepsFound (state_in q)
  keeps_found c w h = ap (λ (x : Keeping). (state_in x).kept c w) e.is ∙ sym (begun_found c w) ∙ h

  space_left : (ks : List Case) → HasSpaceFor k ks → saving.not_kept (state_in q) ks ≤ (state_in q).space
  space_left ks h =
      let same = ap (λ (x : Keeping). saving.not_kept (state_in x) ks) e.is ∙ left_is_unkept (λ c. 1) (is_kept k) ks ∙ sum_ones (unkept k ks) in
      omega (arith, h, same, ap (λ (x : Keeping). (state_in x).space) e.is)

  -- its cell may be valued
  pub may_be_read : (a : ℕ) → circular k.stored.sheet a ≡ false → MayBeRead k.stored.sheet (state_in q) a
  may_be_read a o = subst (λ (x : Keeping). MayBeRead k.stored.sheet (state_in x) a) (sym e.is) (record { open_cell = o; covered = λ h. refl })

  -- what is so where there is room, for each closed list of cases that has what it is to have, is so of the cases, where there is room for them
  pub asked_where : (P : List Case → Type 0) (cases : List Case) (Has : List Case → Type 0) → WhereSpace k.stored.sheet Has (state_in q) P → IsClosed k.stored.sheet cases → Has cases → HasSpaceFor k cases → P cases
  asked_where P cases Has h closed has space = h cases closed has keeps_found (space_left cases space)

-- ---- what is kept when it ends

module _ {k : KeptSheet} {q : Keeping} (e : Begins k q) (last : Keeping) (values : KeptValues) (counts : Counts) (beside : IsSameBeside (state_in q) (state_in last)) (same : values ≡ last.values) where
  abbrev pub after : KeptSheet
  after = record { stored = k.stored; generations = k.generations; values = values; counts = counts }

  space_before : (state_in q).space ≡ k.values.capacity - length k.values.entries
  space_before = ap (λ (x : Keeping). (state_in x).space) e.is

  space_after : (state_in last).space ≡ values.capacity - length values.entries
  space_after = ap (λ (v : KeptValues). v.capacity - length v.entries) (sym same)

  pub same_capacity : values.capacity ≡ k.values.capacity
  same_capacity = ap (λ (v : KeptValues). v.capacity) same ∙ beside.capacity ∙ ap (λ (x : Keeping). x.values.capacity) e.is

  stood : (j : Key) → stands k j ≡ (state_in q).stands j
  stood j = sym (ap (λ (x : Keeping). (state_in x).stands j) e.is)

  stands_now : (j : Key) → stands after j ≡ (state_in last).stands j
  stands_now j = ap (λ (v : KeptValues). is_some (value_for v.entries j)) same

  kept_before_is : (c : ℕ) (w : List Replacement) → is_kept k c w ≡ (state_in q).kept c w
  kept_before_is c w = sym (ap (λ (x : Keeping). (state_in x).kept c w) e.is)

  same_generations : generation_in last.generations ≡ generation_in k.generations
  same_generations = beside.generation ∙ ap (λ (x : Keeping). generation_in x.generations) e.is

  pub kept_after_is : (c : ℕ) (w : List Replacement) → is_kept after c w ≡ (state_in last).kept c w
  kept_after_is c w =
      ap (λ (v : KeptValues). is_some (value_for v.entries (key_in k.generations c w))) same
      ∙ ap (λ (f : ℕ → ℕ). is_some (value_for last.values.entries (record { cell = c; generation = f c; world = w }))) (sym same_generations)

  pub right_then : (state_in last).sheet ≡ k.stored.sheet → AreKeptRight k → IsKeepingRight last → AreKeptRight after
  right_then sheet before h =
      let edits : last.edits ≡ k.stored.edits = beside.latest ∙ ap (λ (x : Keeping). x.edits) e.is in
      let here = subst (λ (t : Sheet). AreRight t last.edits (generation_in last.generations) last.values.entries) sheet h.right in
      let now = subst (λ (m : ℕ). AreRight k.stored.sheet m (generation_in last.generations) last.values.entries) edits here in
      let then = subst (λ (f : ℕ → ℕ). AreRight k.stored.sheet k.stored.edits f last.values.entries) same_generations now in
      record {
        space = omega (arith, same_capacity, before.space);
        past = before.past;
        right = subst (λ (v : KeptValues). AreRight k.stored.sheet k.stored.edits (generation_in k.generations) v.entries) (sym same) then;
      }

  pub asked_keeps : (ks : List Case) → HasSpaceFor k ks → Saved k.stored.sheet (state_in q) (state_in last) k.counts counts ks → KeepsAll k after
  asked_keeps ks space h = record {
    added = omega (arith, h.added, space_before, space_after, same_capacity, space);
    stays = λ j i. stands_now j ∙ h.stand j (sym (stood j) ∙ i);
    settled = λ c w i o. rests_more k.stored.sheet (state_in last).kept (is_kept after) (λ d v j. kept_after_is d v ∙ j) (c, w) (h.rests c w (sym (kept_after_is c w) ∙ i) (sym (kept_before_is c w) ∙ o));
  }

  pub asked_settled : (w put : List Replacement) (x : ℕ × List (ℕ × ℕ)) → w ≡ put → IsWhatIfSettled k.stored.sheet (state_in last).kept w x → IsWhatIfSettled k.stored.sheet (is_kept after) put x
  asked_settled w put x f h = what_if_more k.stored.sheet (state_in last).kept (is_kept after) (λ d v j. kept_after_is d v ∙ j) put x (subst (λ (p : List Replacement). IsWhatIfSettled k.stored.sheet (state_in last).kept p x) f h)

  -- as the places that are taken tell
  gone_is : length (saving.vacant (state_in last) (keys_of k.values.entries)) ≡ length (gone k after)
  gone_is = ap (λ (v : KeptValues). length (filter (λ j. not (is_some (value_for v.entries j))) (keys_of k.values.entries))) (sym same)

  none_gone_before : length (saving.vacant (state_in q) (keys_of k.values.entries)) ≡ 0
  none_gone_before = ap (λ (x : Keeping). length (saving.vacant (state_in x) (keys_of k.values.entries))) e.is ∙ all_stand k.values.entries

  pub asked_no_more : length values.entries ≤ values.capacity → TakesNoMore (state_in q) (state_in last) k.counts.evaluations counts.evaluations → KeepsNoMore k after
  asked_no_more within (inl h) =
      let counted = h (keys_of k.values.entries) e.placed.one_each in
      inl (omega (arith, counted, gone_is, none_gone_before, space_before, space_after, same_capacity, within))
  asked_no_more within (inr h) = inr h

  -- and nothing went while there was room
  stays_with_space : GivesUpWhenFull (state_in q) (state_in last) → 1 ≤ (state_in last).space → KeepsOld k after
  stays_with_space h space j i = stands_now j ∙ h.stays space j (sym (stood j) ∙ i)

  fits_places : GivesUpWhenFull (state_in q) (state_in last) → TakesNoMore (state_in q) (state_in last) k.counts.evaluations counts.evaluations → length k.values.entries + counts.evaluations ≤ k.counts.evaluations + values.capacity → counts.evaluations < 2 ^ 64 - 1 → KeepsOld k after
  fits_places gives (inr t) few short j i = absurd (omega (arith, t, short))
  fits_places gives (inl t) few short j i = elim (cases_lt 0 (state_in last).space) [
    | inl space ↦ stays_with_space gives space j i
    | inr full ↦ (
        let fits : counts.evaluations + (state_in last).space ≤ k.counts.evaluations + (state_in q).space = omega (arith, full, space_before, same_capacity, e.placed.within, few) in
        stands_now j ∙ none_went (state_in q) (state_in last) k.counts.evaluations counts.evaluations j t fits (sym (stood j) ∙ i))
  ]

  pub asked_while_space : GivesUpWhenFull (state_in q) (state_in last) → TakesNoMore (state_in q) (state_in last) k.counts.evaluations counts.evaluations → KeepsWhileSpace k after
  asked_while_space h t = record {
    count = omega (arith, h.space, space_before, space_after, same_capacity, e.placed.within);
    stays = λ few. stays_with_space h (omega (arith, few, space_after));
    fits = fits_places h t;
  }

-- ---- what always holds of the calculator, by its parts

abbrev pub AlwaysHolds : Option (Box Carried) → Staging → Stored → Stamps → Counts → Type 0
AlwaysHolds o graph s g n = IsSome o × AreEdgesOf graph.now s.sheet × (graph.staged ≡ None) × AreKeptRight (kept_sheet s (flushed s.sheet g.edited_at) o n) × AreCarriedCones s.sheet o × AreKeptUp s.sheet s.edits g

-- once what is dirty is flushed
pub holds_settled : (o : Option (Box Carried)) (graph : Staging) (s : Stored) (old new : Stamps) (n : Counts) → new.edited_at ≡ old.edited_at → AreStamped s.sheet new →
    AlwaysHolds o graph s old n → AlwaysHolds o graph s new n
holds_settled o graph s old new n e dirty h = (h.0, h.1, h.2, settled_right {s = s} e o n h.3, h.4, flushed_up s.sheet s.edits old new e dirty h.5)

-- and once a question is answered
pub holds_asked : (o : Option (Box Carried)) (graph : Staging) (s : Stored) (g : Stamps) (n counts : Counts) (q last : Keeping) (b : Box Carried) → Begins (kept_sheet s (flushed s.sheet g.edited_at) o n) q →
    IsSameBeside (state_in q) (state_in last) → b.value.kept ≡ last.values → last.sheet ≡ s.sheet → IsKeepingRight last → AreAllCones last.sheet b.value.cones → AlwaysHolds o graph s g n → AlwaysHolds (Some b) graph s g counts
holds_asked o graph s g n counts q last b e beside same sheet right cones h = (refl, h.1, h.2, right_then e last b.value.kept counts beside same sheet h.3 right, subst (λ (x : Sheet). AreAllCones x b.value.cones) sheet cones, h.5)

-- its plans too
abbrev pub AlwaysPlans : Option (Box Carried) → Staging → Stored → Stamps → Counts → Plans → Type 0
AlwaysPlans o graph s g n ps = IsSome o × AreEdgesOf graph.now s.sheet × (graph.staged ≡ None) × AreKeptRight (kept_sheet s (flushed s.sheet g.edited_at) o n) × AreCarriedCones s.sheet o × AreKeptUp s.sheet s.edits g × ArePlans s.sheet ps

pub with_plans : (o : Option (Box Carried)) (graph : Staging) (s : Stored) (g : Stamps) (n : Counts) (ps : Plans) → AlwaysHolds o graph s g n → ArePlans s.sheet ps → AlwaysPlans o graph s g n ps
with_plans o graph s g n ps h k = (h.0, h.1, h.2, h.3, h.4, h.5, k)

pub but_plans : (o : Option (Box Carried)) (graph : Staging) (s : Stored) (g : Stamps) (n : Counts) (ps : Plans) → AlwaysPlans o graph s g n ps → AlwaysHolds o graph s g n
but_plans o graph s g n ps h = (h.0, h.1, h.2, h.3, h.4, h.5)

-- ---- what is carried goes

module _ (o p : Option (Box Carried)) (none : values_in p ≡ kept [] (values_in o).capacity) (s : Stored) (n : Counts) where
  pub emptied_view : (gs : Generations) → kept_sheet s gs p n ≡ emptied (kept_sheet s gs o n)
  emptied_view gs = λ i. record { stored = s; generations = gs; values = none i; counts = n }

  pub holds_emptied : (graph : Staging) (g : Stamps) → (IsSome o → IsSome p) → AreCarriedCones s.sheet p → AlwaysHolds o graph s g n → AlwaysHolds p graph s g n
  holds_emptied graph g there cones h = (there h.0, h.1, h.2, right (flushed s.sheet g.edited_at) h.3, cones, h.5)
    where
      right : (gs : Generations) → AreKeptRight (kept_sheet s gs o n) → AreKeptRight (kept_sheet s gs p n)
      right gs k = record {
        space = subst (λ (x : KeptValues). 1 ≤ x.capacity) (sym none) k.space;
        past = k.past;
        right = λ q. subst (λ (x : KeptValues). IfSome (value_for x.entries q) (IsKeptFor s.sheet s.edits (generation_in gs) q)) (sym none) tt;
      }

-- ---- the value of a cell

module _ {k : KeptSheet} {q : Keeping} (e : Begins k q) (w put : List Replacement) (a : ℕ) (o : circular k.stored.sheet a ≡ false) (same : w ≡ put) where
  -- what is at hand needs no evaluation
  pub at_hand_is : IsAtHand k put a → NeedsNoEvaluation k.stored.sheet (state_in q) w a
  at_hand_is (inl h) = let z = o in cc
  at_hand_is (inr (inl h)) = inl (ap (λ (p : List Replacement). has_formula (content_of (put_all k.stored.sheet p) a)) same ∙ h)
  at_hand_is (inr (inr h)) = inr (begun_found e a (reaching k.stored.sheet a w) ∙ ap (λ (p : List Replacement). is_kept k a (reaching k.stored.sheet a p)) same ∙ h)

  unkept_of : (b : Bool) → is_kept k a (reaching k.stored.sheet a put) ≡ b → (IsAtHand k put a → ⊥) → is_kept k a (reaching k.stored.sheet a put) ≡ false
  unkept_of true i h = absurd (h (inr (inr i)))
  unkept_of false i h = i

  formula_of : (b : Bool) → has_formula (content_of (put_all k.stored.sheet put) a) ≡ b → (IsAtHand k put a → ⊥) → has_formula (content_of (put_all k.stored.sheet put) a) ≡ true
  formula_of true i h = i
  formula_of false i h = absurd (h (inr (inl i)))

  -- and any other is kept then
  pub asked_kept : (last : Keeping) (values : KeptValues) (counts : Counts) → IsSameBeside (state_in q) (state_in last) → values ≡ last.values → 1 ≤ k.values.capacity →
      (IsValuedAnew k.stored.sheet (state_in q) w a → 1 ≤ (state_in q).capacity → (state_in last).kept a (reaching k.stored.sheet a w) ≡ true) → (IsAtHand k put a → ⊥) →
      is_kept (record { stored = k.stored; generations = k.generations; values = values; counts = counts }) a (reaching k.stored.sheet a put) ≡ true
  asked_kept last values counts beside there one h hard =
      let f = formula_of (has_formula (content_of (put_all k.stored.sheet put) a)) refl hard in
      let anew : IsValuedAnew k.stored.sheet (state_in q) w a = record {
        formula = ap (λ (p : List Replacement). has_formula (content_of (put_all k.stored.sheet p) a)) same ∙ f;
        unfound =
            begun_found e a (reaching k.stored.sheet a w) ∙ ap (λ (p : List Replacement). is_kept k a (reaching k.stored.sheet a p)) same
            ∙ unkept_of (is_kept k a (reaching k.stored.sheet a put)) refl hard;
      } in
      let space : 1 ≤ (state_in q).capacity = omega (arith, ap (λ (x : Keeping). (state_in x).capacity) e.is, one) in
      kept_after_is e last values counts beside there a (reaching k.stored.sheet a put) ∙ ap (λ (p : List Replacement). (state_in last).kept a (reaching k.stored.sheet a p)) (sym same) ∙ h anew space

-- ---- an entry

-- none of the cells is circular whose values are asked for
pub open_cells : (s : Sheet) (f : ℕ) (pairs : List (ℕ × ℕ)) (b : Bool) → b ≡ asks_circular s f pairs → b ≡ false → (circular s f ≡ false) × All (λ x. circular s x.1 ≡ false) pairs
open_cells s f pairs b e h = cells_open s f pairs (sym e ∙ h)

pub circular_entry : (s t : Sheet) (p : List Replacement) (f : ℕ) (pairs : List (ℕ × ℕ)) (b : Bool) → s ≡ t → b ≡ asks_circular s f pairs → b ≡ true → Fault Circular ≡ table_entry t p f pairs
circular_entry s t p f pairs b e x h = sym (entry_circular s p f pairs (sym x ∙ h)) ∙ ap (λ (r : Sheet). table_entry r p f pairs) e

pub circular_clash : {A : Type 0} (s t : Sheet) (f : ℕ) (pairs : List (ℕ × ℕ)) (b : Bool) → s ≡ t → b ≡ asks_circular s f pairs → b ≡ true → circular t f ≡ false → All (λ x. circular t x.1 ≡ false) pairs → A
circular_clash s t f pairs b e x h one all = clash (asks_circular t f pairs) (ap (λ (r : Sheet). asks_circular r f pairs) (sym e) ∙ sym x ∙ h) (none_circular t f pairs (one, all))

-- ---- what it spends is what it owes

-- where nothing is asked
pub owes_none : (k : KeptSheet) (cases : List Case) (done : Bool) → Owes k k cases done
owes_none k cases done = record {
  same = refl;
  same_generations = refl;
  same_space = refl;
  counts = never_fall-same k.counts;
  demanded = (omega arith, omega arith);
  not_kept = λ space. (omega arith, omega arith);
  no_more = let none = all_stand k.values.entries in inl (omega (arith, none));
  while_space = record { count = omega arith; stays = λ few j i. i; fits = λ few short j i. i };
  keeps = λ d space. record { added = omega arith; stays = λ j i. i; settled = λ c w i o. absurd (true≢false (sym i ∙ o)) };
}

-- and where it was flushed alone
pub owes_flushed : (old new : KeptSheet) (cases : List Case) (done : Bool) → new ≡ old → Owes old new cases done
owes_flushed old new cases done e = subst (λ (k : KeptSheet). Owes k new cases done) e (owes_none new cases done)

module _ {k : KeptSheet} {q : Keeping} (e : Begins k q) (last : Keeping) (values : KeptValues) (counts : Counts) (same : values ≡ last.values) (within : length values.entries ≤ values.capacity) (Has : List Case → Type 0) (cases : List Case) (closed : IsClosed k.stored.sheet cases) (has : Has cases) where
  -- of each closed list that has what it is to have, so of the cases that are demanded
  pub owes_spent : (done : Bool) → SpendsAtMost k.stored.sheet Has (state_in q) (state_in last) k.counts counts done → Owes k (record { stored = k.stored; generations = k.generations; values = values; counts = counts }) cases done
  owes_spent done h = record {
    same = refl;
    same_generations = refl;
    same_space = same_capacity e last values counts h.same same;
    counts = h.counts;
    demanded = h.at_most cases closed has;
    not_kept = λ space.
        let spent = asked_where e (λ ks. SpentOn k.stored.sheet (state_in q).kept (state_in last).kept k.counts counts done ks) cases Has h.on_kept closed has space in
        spent_unkept (subst (λ (x : Keeping). SpentOn k.stored.sheet (state_in x).kept (state_in last).kept k.counts counts done cases) e.is spent);
    no_more = asked_no_more e last values counts h.same same within h.places;
    while_space = asked_while_space e last values counts h.same same h.gives_up h.places;
    keeps = λ d space.
        let saved = asked_where e (λ ks. Saved k.stored.sheet (state_in q) (state_in last) k.counts counts ks) cases Has (h.saved d) closed has space in
        asked_keeps e last values counts h.same same cases space saved;
  }
