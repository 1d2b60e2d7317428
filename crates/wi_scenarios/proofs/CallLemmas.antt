-- What a call leaves, from one book to the next, and what it answers.
use Rattle.wi_scenarios.proofs.Words.{◌≡◌, ℕ, Bool, List, Result, refl, subst, inl, Sheet, on_err, Refusal, Book, AddsOnly, Edits, ◌∙◌, true, [], Ok, Err, sym, ap, MatchResult, IsErrAnd, err_from_is_err_and, Memory, State, Answer, may_grow, MayRefuse, Serves, ◌++◌, append-nil, Costs, nothing_asked, counts, Looks, ServesInto, Command, IsStep, Case}

-- a call that changed nothing
pub unchanged : {marked : Sheet → List ℕ → ℕ → Bool} {cells : List ℕ} {Step : Type 0} (r : Result (Unit {0}) Refusal) (b : Book) → Step → Edits marked cells Step r b b
unchanged r b step = record { step = step; adds = λ i a l k. inl k; refused = on_err r refl; counts = (refl, refl) }

-- an edit that is made as another step says
pub as_step : {marked : Sheet → List ℕ → ℕ → Bool} {xs ys : List ℕ} {One Other : Type 0} {r : Result (Unit {0}) Refusal} {old new : Book} → xs ≡ ys → (One → Other)
    → Edits marked xs One r old new → Edits marked ys Other r old new
as_step {marked} {old = old} {new = new} same step e = record {
  step = step e.step;
  adds = subst (λ (cells : List ℕ). AddsOnly marked cells old.state new.state old.pending new.pending) same e.adds;
  refused = e.refused;
  counts = e.counts;
}

-- ---- a call that ends at an error ends as that

pub ends_so : {X E : Type 0} (P : Result X E → Type 0) (f : E) (r : Result X E) → IsErrAnd r (λ e. e ≡ f) → P (Err f) → P r
ends_so P f r k h = let p = err_from_is_err_and r k in subst P (sym (p.1 ∙ ap Err p.2)) h

pub at_error : {X E : Type 0} (A : X → Type 0) (B : E → Type 0) (f : E) (r : Result X E) → IsErrAnd r (λ e. e ≡ f) → B f → MatchResult r A B
at_error A B = ends_so (λ x. MatchResult x A B)

-- one that ran out of memory, which may stand in place of an answer before which something may grow
pub lacked : (IsAnswer : Answer → Type 0) (step : Answer) (r : Result (Unit {0}) Refusal) (s t : State) → IsAnswer step → may_grow step ≡ true → IsErrAnd r (λ e. e ≡ Memory) → t ≡ s
    → Serves IsAnswer r s t []
lacked IsAnswer step r s t is grows k same =
    ends_so (λ (x : Result (Unit {0}) Refusal). Serves IsAnswer x s t []) Memory r k (record { answer = step; is_answer = is; grows = grows }, same, refl)

-- ---- a call that did as another one

may_refuse : (e : Refusal) (IsOne IsOther : Answer → Type 0) → ((a : Answer) → IsOne a → IsOther a) → MayRefuse e IsOne → MayRefuse e IsOther
may_refuse Memory IsOne IsOther f h = record { answer = h.answer; is_answer = f h.answer h.is_answer; grows = h.grows }
may_refuse e IsOne IsOther f h = f (Err e) h

-- each answer to the one is an answer to the other
pub serves_as : (IsOne IsOther : Answer → Type 0) → ((a : Answer) → IsOne a → IsOther a) → (r : Result (Unit {0}) Refusal) (s t : State) (records : List ℕ) → Serves IsOne r s t records → Serves IsOther r s t records
serves_as IsOne IsOther f (Ok u) s t records h = f (Ok (t, records)) h
serves_as IsOne IsOther f (Err e) s t records h = (may_refuse e IsOne IsOther f h.0, h.1, h.2)

-- ---- what commands that only look leave, and what they write

abbrev pub Looked : Answer → Result (Unit {0}) Refusal → State → State → List ℕ → List ℕ → Type 0
Looked step = ServesInto (λ a. step ≡ a)

-- a call that is refused as out of memory, and one that wrote the records of an answer
pub into_lacked : (IsAnswer : Answer → Type 0) (step : Answer) (r : Result (Unit {0}) Refusal) (s t : State) (before after : List ℕ) → IsAnswer step → may_grow step ≡ true
    → IsErrAnd r (λ e. e ≡ Memory) → t ≡ s → after ≡ before → ServesInto IsAnswer r s t before after
into_lacked IsAnswer step r s t before after is grows k same kept = ([], kept ∙ sym (append-nil before), lacked IsAnswer step r s t is grows k same)

pub into_done : (IsAnswer : Answer → Type 0) (s t : State) (before after records : List ℕ) → IsAnswer (Ok (s, records)) → after ≡ before ++ records → t ≡ s → ServesInto IsAnswer (Ok tt) s t before after
into_done IsAnswer s t before after records is wrote same = (records, wrote, subst (λ (x : State). IsAnswer (Ok (x, records))) (sym same) is)

-- what it leaves: where nothing was asked, where memory ran out, and where it is done
module _ {c : Command} {cases : List Case} where
  pub look_refused : (r : Result (Unit {0}) Refusal) (b : Book) (before : List ℕ) → Serves (IsStep b.state c) r b.state b.state [] → Looks c cases r b b before before
  look_refused r b before step = record { step = ([], sym (append-nil before), step); pending = refl; cost = nothing_asked _ _ _ }

  pub look_lacked : (done : State × List ℕ) (r : Result (Unit {0}) Refusal) (old new : Book) (before after : List ℕ) → IsStep old.state c (Ok done) → IsErrAnd r (λ e. e ≡ Memory)
      → new.state ≡ old.state → new.pending ≡ old.pending → after ≡ before → Costs old.state.stored.sheet cases (counts old) (counts new) → Looks c cases r old new before after
  look_lacked done r old new before after is k same pending kept cost =
      record { step = into_lacked (IsStep old.state c) (Ok done) r old.state new.state before after is refl k same kept; pending = pending; cost = cost }

  pub look_done : (old new : Book) (before after records : List ℕ) → IsStep old.state c (Ok (old.state, records)) → after ≡ before ++ records
      → new.state ≡ old.state → new.pending ≡ old.pending → Costs old.state.stored.sheet cases (counts old) (counts new) → Looks c cases (Ok tt) old new before after
  look_done old new before after records is wrote same pending cost =
      record { step = into_done (IsStep old.state c) old.state new.state before after records is wrote same; pending = pending; cost = cost }
