use Rattle.wi_lookup_functions.proofs.Words.{◌≡◌, ◌∙◌, ℕ, Some, None, length, refl, sym, ap, rules, slice_get, Bor, ltb-false, slice_get_read, slice_get_past, argument_in, arguments_in, value_lent, KnownAgrees, IsMissing, no_error, Value, Fault, Error, Stopped, refers_alone, value_absent, value_given}
use Rattle.wi_standard_functions.specs.Arguments as given
use Rattle.wi_lookup_functions.specs.Inner.Finding.{Agrees}
use Rattle.wi_lookup_functions.proofs.Asked.{no_fault}
use Rattle.wi_lookup_functions.proofs.NoValues.{ends_so}
use Rattle.wi_lookup_functions.proofs.arguments.value_or.Goals.{in-Some+in_ok-value-in-Some+in_ok-given-in-Some, in-None}
use Rattle.wi_lookup_functions.proofs.arguments.value_or.Goals as goal

pub returns-in_err-value-in-Some : goal.returns-in_err-value-in-Some
returns-in_err-value-in-Some g c =
    let known = g.L.Lookup.known_cell c.args.lookup.now in
    let args = c.args.arguments.now in
    let one = c.in-Some.argument.now in
    let there : Some one ≡ slice_get args c.args.place = sym (slice_get_read args (length args) c.args.place one refl c.in-Some.ensures.lookup.3.0 c.in-Some.ensures.lookup.1) in
    let cell = c.in_err-value-in-Some.field-0.0 in
    ends_so (Agrees {A = Bor Value} {B = Value} known (IsMissing known args) (λ v. v.now) (λ cells. no_error (given.value_or c.args.default.now (arguments_in cells args) c.args.place))) c.from_residual.result (Stopped cell) c.from_residual.ensures.1
    (c.in_err-value-in-Some.ensures.missing.0, refers_alone args c.args.place one cell there c.in_err-value-in-Some.ensures.missing.1)

pub returns-in_err-given-in-Some : goal.returns-in_err-given-in-Some
returns-in_err-given-in-Some g c =
    let known = g.L.Lookup.known_cell c.args.lookup.now in
    let args = c.args.arguments.now in
    let one = c.in-Some.argument.now in
    let there : Some one ≡ slice_get args c.args.place = sym (slice_get_read args (length args) c.args.place one refl c.in-Some.ensures.lookup.3.0 c.in-Some.ensures.lookup.1) in
    let e = c.in_err-given-in-Some.field-0.0 in
    ends_so (Agrees {A = Bor Value} {B = Value} known (IsMissing known args) (λ v. v.now) (λ cells. no_error (given.value_or c.args.default.now (arguments_in cells args) c.args.place))) c.from_residual-in_err-given-in-Some.result (Error e) c.from_residual-in_err-given-in-Some.ensures.1
    (λ cells a. let told : Fault e ≡ (argument_in cells one).value = search rules in ap no_error (value_given cells args c.args.place one c.args.default.now (Fault e) there told))

pub returns-in_default : goal.returns-in_default
returns-in_default g c =
    let args = c.args.arguments.now in
    let told : (cells : ℕ → Value) → KnownAgrees (g.L.Lookup.known_cell c.args.lookup.now) cells →
    given.value_or c.args.default.now (arguments_in cells args) c.args.place ≡ c.match-get.given.now = elim c.match-get.branch [
      | in-Some+in_ok-value-in-Some+in_ok-given-in-Some w ↦ λ cells agrees.
          let one = w.in-Some.argument.now in
          let there : Some one ≡ slice_get args c.args.place = sym (slice_get_read args (length args) c.args.place one refl w.in-Some.ensures.lookup.3.0 w.in-Some.ensures.lookup.1) in
          let lent = ap value_lent (sym w.in_ok-given-in-Some.was) ∙ w.in_ok-value-in-Some.ensures.done cells agrees in
          value_given cells args c.args.place one c.args.default.now w.in_ok-given-in-Some.given.now there lent ∙ ap (λ (v : Bor Value). v.now) (sym w.given-is)
      | in-None w ↦ λ cells agrees.
          let none : None ≡ slice_get args c.args.place = sym (slice_get_past args c.args.place (ltb-false c.args.place (length args) (sym w.in-None.ensures.lookup.0))) in
          value_absent cells args c.args.place c.args.default.now none ∙ ap (λ (v : Bor Value). v.now) (sym w.given-is)
    ] in
    λ cells agrees. ap no_error (told cells agrees) ∙ no_fault c.match-get.given.now c.in_default.not-Fault

pub returns-in-Fault : goal.returns-in-Fault
returns-in-Fault g c =
    let args = c.args.arguments.now in
    let told : (cells : ℕ → Value) → KnownAgrees (g.L.Lookup.known_cell c.args.lookup.now) cells →
    given.value_or c.args.default.now (arguments_in cells args) c.args.place ≡ c.match-get.given.now = elim c.match-get.branch [
      | in-Some+in_ok-value-in-Some+in_ok-given-in-Some w ↦ λ cells agrees.
          let one = w.in-Some.argument.now in
          let there : Some one ≡ slice_get args c.args.place = sym (slice_get_read args (length args) c.args.place one refl w.in-Some.ensures.lookup.3.0 w.in-Some.ensures.lookup.1) in
          let lent = ap value_lent (sym w.in_ok-given-in-Some.was) ∙ w.in_ok-value-in-Some.ensures.done cells agrees in
          value_given cells args c.args.place one c.args.default.now w.in_ok-given-in-Some.given.now there lent ∙ ap (λ (v : Bor Value). v.now) (sym w.given-is)
      | in-None w ↦ λ cells agrees.
          let none : None ≡ slice_get args c.args.place = sym (slice_get_past args c.args.place (ltb-false c.args.place (length args) (sym w.in-None.ensures.lookup.0))) in
          value_absent cells args c.args.place c.args.default.now none ∙ ap (λ (v : Bor Value). v.now) (sym w.given-is)
    ] in
    λ cells agrees. ap no_error (told cells agrees ∙ c.in-Fault.is)
