-- A run on a new workbook, and two runs in turn.
use Rattle.wi_cli.proofs.Vocabulary.{◌≡◌, ℕ, Bool, List, [], ap, ◌∙◌, refl, subst, Option, Result, Ok, Err, IfOk, Consumes-nil, Appends-nil, Limits, Stored, KeptSheet, State, state_over, new_state, Book, RunFault, Memory, IsRun, RunInTurn}

-- a new workbook with these limits
empty_within : ℕ → ℕ → State
empty_within cells edits = state_over (record { sheet = []; edits = 0; limits = record { cells = cells; edits = edits } })

pub is_standard : {E : Type 0} (r : Result KeptSheet E) (limits : Limits) → IfOk r (λ (k : KeptSheet). k.stored ≡ record { sheet = []; edits = 0; limits = limits })
    → limits.cells ≡ 200000 → limits.edits ≡ 1000000000 → IfOk r (λ (k : KeptSheet). state_over k.stored ≡ new_state)
unfolding empty_within
is_standard (Ok k) limits s cells edits =
    ap state_over s ∙ ap (λ n. empty_within n limits.edits) cells ∙ ap (empty_within 200000) edits
is_standard (Err e) limits s cells edits = tt

pub is_new : {E : Type 0} (r : Result Book E) (stored : Stored) → IfOk r (λ (book : Book). book.state ≡ state_over stored) → state_over stored ≡ new_state
    → IfOk r (λ (book : Book). book.state ≡ new_state)
is_new (Ok book) stored b s = b ∙ s
is_new (Err e) stored b s = tt

module _ {R W : Type 0} (remaining : R → Option (List ℕ)) (read_failed : R → Bool) (contents : W → Option (List ℕ)) (write_failed flushed : W → Bool) where
  -- where there is no memory to begin with, nothing is done
  pub not_run : (source : R) (sink : W) (s : State) → IsRun remaining read_failed contents write_failed flushed (Err Memory) source source sink sink s s
  not_run source sink s = record {
    input = [];
    out = [];
    taken = Consumes-nil (remaining source);
    written = Appends-nil (contents sink);
    outcome = (refl, refl, refl);
    all_read = tt;
    reads = tt;
    writes = tt;
    all_sent = tt;
    read_fault = λ i. cc;
    write_fault = λ i. cc;
    unread = λ i. refl;
    unwritten = λ i. refl;
  }

  abbrev pub RunsNew : Result (Unit {0}) RunFault → (source source' : R) → (sink sink' : W) → Type 0
  RunsNew r source source' sink sink' = (last : State) × IsRun remaining read_failed contents write_failed flushed r source source' sink sink' new_state last

  pub not_begun : (r : Result (Unit {0}) RunFault) (source : R) (sink : W) → r ≡ Err Memory → RunsNew r source source sink sink
  not_begun r source sink e = rw e (new_state, not_run source sink new_state)

  pub ends_new : (r r' : Result (Unit {0}) RunFault) (source source' : R) (sink sink' : W) (first last : State) → r' ≡ r → first ≡ new_state
      → IsRun remaining read_failed contents write_failed flushed r source source' sink sink' first last → RunsNew r' source source' sink sink'
  ends_new r r' source source' sink sink' first last e f h =
      rw e (last, subst (λ (s : State). IsRun remaining read_failed contents write_failed flushed r source source' sink sink' s last) f h)

-- ---- two runs in turn

-- a run that ended by a fault
abbrev pub faulted : RunFault → Result (Unit {0}) RunFault
faulted e = Err e

module _ {L R W : Type 0} (remaining₁ : L → Option (List ℕ)) (failed₁ : L → Bool) (remaining₂ : R → Option (List ℕ)) (failed₂ : R → Bool) (contents : W → Option (List ℕ)) (write_failed flushed : W → Bool) where
  -- a fault in the first run
  pub in_turn_stopped : (e : RunFault) (one one' : L) (two two' : R) (sink sink' : W) (s t : State) → two' ≡ two
      → IsRun remaining₁ failed₁ contents write_failed flushed (faulted e) one one' sink sink' s t
      → RunInTurn remaining₁ failed₁ remaining₂ failed₂ contents write_failed flushed (faulted e) one one' two two' sink sink' s t
  in_turn_stopped e one one' two two' sink sink' s t same h = record { first = Err e; between = sink'; mid = t; is_run = h; goes_on = (refl, same, refl, refl) }

  -- no memory for the workbook
  pub in_turn_not_begun : (r : Result (Unit {0}) RunFault) (one : L) (two : R) (sink : W) → r ≡ Err Memory
      → (last : State) × RunInTurn remaining₁ failed₁ remaining₂ failed₂ contents write_failed flushed r one one two two sink sink new_state last
  in_turn_not_begun r one two sink e =
      rw e (new_state, in_turn_stopped Memory one one two two sink sink new_state new_state refl (not_run remaining₁ failed₁ contents write_failed flushed one sink new_state))

  -- on a new workbook
  pub in_turn_new : (r r' : Result (Unit {0}) RunFault) (one one' : L) (two two' : R) (sink sink' : W) (s t : State) → r' ≡ r → s ≡ new_state
      → RunInTurn remaining₁ failed₁ remaining₂ failed₂ contents write_failed flushed r one one' two two' sink sink' s t
      → (last : State) × RunInTurn remaining₁ failed₁ remaining₂ failed₂ contents write_failed flushed r' one one' two two' sink sink' new_state last
  in_turn_new r r' one one' two two' sink sink' s t e f h =
      rw e (t, subst (λ (x : State). RunInTurn remaining₁ failed₁ remaining₂ failed₂ contents write_failed flushed r one one' two two' sink sink' x t) f h)
