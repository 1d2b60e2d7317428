use Rattle.std.proofs.Common.{◌∙◌, ap}
use Rattle.std.proofs.lemmas.Result.{err_from_is_err_and}
use Rattle.clap.specs.declared.error.kind.ErrorKind.{ErrorKind}
use Rattle.wi_options.specs.Refused.{fault_by}
use Rattle.wi_options.proofs.StatedLemmas.{is_fault, none_amiss, taken_by, value_is_stated}
use Rattle.wi_options.proofs.words.parsed.Goals as goal

pub returns-in_err-command-clause-stated : goal.returns-in_err-command-clause-stated
returns-in_err-command-clause-stated c = rw (err_from_is_err_and c.from_residual.result c.from_residual.ensures.1).1 tt

pub returns-in_err-command-clause-keep : goal.returns-in_err-command-clause-keep
returns-in_err-command-clause-keep c = rw (err_from_is_err_and c.from_residual.result c.from_residual.ensures.1).1 tt

pub returns-in_err-command-clause-whole : goal.returns-in_err-command-clause-whole
returns-in_err-command-clause-whole c = rw (err_from_is_err_and c.from_residual.result c.from_residual.ensures.1).1 tt

pub returns-in_err-command-clause-taken : goal.returns-in_err-command-clause-taken
returns-in_err-command-clause-taken c =
    let made = err_from_is_err_and c.from_residual.result c.from_residual.ensures.1 in
    rw made.1 (λ taken. made.2)

pub returns-in_err-command-clause-amiss : goal.returns-in_err-command-clause-amiss
returns-in_err-command-clause-amiss c =
    let made = err_from_is_err_and c.from_residual.result c.from_residual.ensures.1 in
    rw (made.1, made.2) tt

pub returns-in_err-try_get_matches_from-clause-stated : goal.returns-in_err-try_get_matches_from-clause-stated
returns-in_err-try_get_matches_from-clause-stated c =
    rw (err_from_is_err_and c.from_residual-in_err-try_get_matches_from.result c.from_residual-in_err-try_get_matches_from.ensures.1).1 tt

pub returns-in_err-try_get_matches_from-clause-keep : goal.returns-in_err-try_get_matches_from-clause-keep
returns-in_err-try_get_matches_from-clause-keep c =
    rw (err_from_is_err_and c.from_residual-in_err-try_get_matches_from.result c.from_residual-in_err-try_get_matches_from.ensures.1).1 tt

pub returns-in_err-try_get_matches_from-clause-whole : goal.returns-in_err-try_get_matches_from-clause-whole
returns-in_err-try_get_matches_from-clause-whole c =
    rw (err_from_is_err_and c.from_residual-in_err-try_get_matches_from.result c.from_residual-in_err-try_get_matches_from.ensures.1).1 tt

pub returns-in_err-try_get_matches_from-clause-taken : goal.returns-in_err-try_get_matches_from-clause-taken
returns-in_err-try_get_matches_from-clause-taken c =
    let made = err_from_is_err_and c.from_residual-in_err-try_get_matches_from.result c.from_residual-in_err-try_get_matches_from.ensures.1 in
    rw made.1 (λ taken. made.2 ∙ ap (λ (k : ErrorKind). fault_by k c.in_err-try_get_matches_from.field-0.0)
    (c.in_err-try_get_matches_from.ensures.passes (taken_by _ _ c.in_ok-command.ensures.app taken)))

pub returns-in_err-try_get_matches_from-clause-amiss : goal.returns-in_err-try_get_matches_from-clause-amiss
returns-in_err-try_get_matches_from-clause-amiss c =
    let made = err_from_is_err_and c.from_residual-in_err-try_get_matches_from.result c.from_residual-in_err-try_get_matches_from.ensures.1 in
    rw (made.1, made.2) (is_fault _ _ c.in_err-try_get_matches_from.field-0.0 c.in_ok-command.ensures.app c.in_err-try_get_matches_from.ensures.kinds)

pub returns-clause-stated : goal.returns-clause-stated
returns-clause-stated c = λ id.
    value_is_stated _ c.in_ok-try_get_matches_from.field-0 _ id c.in_ok-command.ensures.app c.in_ok-try_get_matches_from.ensures.matches

pub returns-clause-whole : goal.returns-clause-whole
returns-clause-whole c = none_amiss _ _ c.in_ok-command.ensures.app c.in_ok-try_get_matches_from.ensures.kinds

pub returns-clause-keep : goal.returns-clause-keep
returns-clause-keep c = c.in_ok-command.ensures.keep c.in_ok-try_get_matches_from.field-0 c.in_ok-try_get_matches_from.ensures.parsed
