-- What is told of a line that was served.
use Rattle.wi_cli.proofs.Vocabulary.{◌≡◌, Bool, Err, List, Ok, Result, Some, [], ap, append-nil, false, refl, subst, sym, ℕ, ◌++◌, ◌∙◌, list_any, IsRead, command_of, IsServed, KeepsMemory, RefusedAs, Told, Done, MayRefuse, lies_outside, Command, Csv, IsImportStep, IsStep, State, Refusal, placed, form, Refused, ReadCommand}
use Rattle.wi_scenarios.specs.Commands.Command.{Drop, As}
use Rattle.wi_scenarios.specs.declared.refusal.Refusal.TheVariants.{Memory}
use Rattle.wi_scenarios.specs.Answer as answer
use Rattle.wi_cli.proofs.Ties.Operands.{spans}
use Rattle.wi_cli.proofs.Ties.Replies.{may_lack}

-- how a call ended
abbrev pub Ended : Type 0
Ended = Result (Unit {0}) Refusal

-- a command that was done or refused by a call of the workbook that writes no records
pub served_alone : (d e : ReadCommand) (r : Ended) (s t : State) (out : List ℕ) → d ≡ e → answer.Serves (IsStep s (command_of e)) r s t [] → KeepsMemory (command_of e) r s
    → (records : List ℕ) × (out ≡ out ++ records) × IsServed (command_of d) r s t records
served_alone d e r s t out same h k =
    ([], sym (append-nil out), subst (λ (x : ReadCommand). IsServed (command_of x) r s t []) (sym same) (record { serves = h; keeps = k }))

-- by one that writes some
pub served_with : (d e : ReadCommand) (r : Ended) (s t : State) (out out' : List ℕ) → d ≡ e
    → (records : List ℕ) × (out' ≡ out ++ records) × answer.Serves (IsStep s (command_of e)) r s t records → KeepsMemory (command_of e) r s
    → (records : List ℕ) × (out' ≡ out ++ records) × IsServed (command_of d) r s t records
served_with d e r s t out out' same h k =
    (h.0, h.1, subst (λ (x : ReadCommand). IsServed (command_of x) r s t h.0) (sym same) (record { serves = h.2; keeps = k }))

-- ---- of a command

-- whose records were appended to none
pub served_from : (c : Command) (r : Ended) (s m t : State) (out out' records : List ℕ) → m ≡ s → out ≡ [] → out' ≡ out ++ records → IsServed c r m t records → IsServed c r s t out'
served_from c r s m t out out' records same none grown h =
    subst (λ (x : State). IsServed c r x t out') same (subst (λ (x : List ℕ). IsServed c r m t x) (sym (grown ∙ ap (λ (x : List ℕ). x ++ records) none)) h)

-- for which memory ran out, and which was done once more
pub served_again : (c : Command) (first again : Ended) (s m t : State) (records out : List ℕ) → first ≡ Err Memory → IsServed c first s m records → IsServed c again m t out → IsServed c again s t out
served_again c first again s m t records out lacks h k =
    let left : answer.Serves (IsStep s c) (Err Memory) s m records = subst (λ (r : Ended). answer.Serves (IsStep s c) r s m records) lacks h.serves in
    subst (λ (x : State). IsServed c again x t out) left.1 k

-- and of an import
pub imported_again : (force : Bool) (at : ℕ) (text : List ℕ) (first again : Ended) (s m n t : State) → first ≡ Err Memory → answer.ServesData (IsImportStep s force at text) first s m → n ≡ m
    → answer.ServesData (IsImportStep n force at text) again n t → answer.ServesData (IsImportStep s force at text) again s t
imported_again force at text first again s m n t lacks h same k =
    let left : Unit {0} × (m ≡ s) = subst (λ (r : Ended). answer.ServesData (IsImportStep s force at text) r s m) lacks h in
    subst (λ (x : State). answer.ServesData (IsImportStep x force at text) again x t) (same ∙ left.1) k

-- ---- of the command that it was read from

pub told_done : (c : Command) (d : ReadCommand) (s t : State) (out : List ℕ) → IsRead c (Ok d) → IsServed (command_of d) (Ok tt) s t out → Told (Some c) Done s t out
unfolding IsRead
told_done c d s t out r h = spans s c r.0 (Ok (t, out)) (subst (λ (x : Command). IsStep s x (Ok (t, out))) r.1 h.serves)

keeps_so : (c : Command) (s : State) → KeepsMemory (placed c) (Err Memory) s → KeepsMemory c (Err Memory) s
keeps_so (Drop name) s k = k
keeps_so (As name) s k = k
keeps_so (Csv force at n lines) s k = k
keeps_so c s k = tt

refuses : (e : Refusal) (c : Command) (s : State) → list_any lies_outside (form c) ≡ false → MayRefuse e (IsStep s (placed c)) → KeepsMemory (placed c) (Err e) s → RefusedAs e s c
refuses Memory c s o h k = may_lack s c o (record { answer = h.answer; is_answer = spans s c o h.answer h.is_answer; grows = h.grows }) (keeps_so c s k)
refuses e c s o h k = spans s c o (Err e) h

pub told_refused : (c : Command) (d : ReadCommand) (e : Refusal) (s t : State) (out records : List ℕ) → IsRead c (Ok d) → IsServed (command_of d) (Err e) s t records → Told (Some c) (Refused e) s t out
unfolding IsRead
told_refused c d e s t out records r h =
    let as_placed : IsServed (placed c) (Err e) s t records = subst (λ (x : Command). IsServed x (Err e) s t records) r.1 h in
    (as_placed.serves.1, refuses e c s r.0 as_placed.serves.0 as_placed.keeps)

refused_so : (e : Refusal) (c : Command) (s : State) → (e ≡ Memory → ⊥) → IsStep s c (Err e) → RefusedAs e s c
refused_so Memory c s n h = absurd (n refl)
refused_so e c s n h = h

pub told_bad : (c : Command) (e : Refusal) (s : State) (out : List ℕ) → IsRead c (Err e) → Told (Some c) (Refused e) s s out
unfolding IsRead
told_bad c e s out h = (refl, refused_so e c s h.1 (h.0 s))
