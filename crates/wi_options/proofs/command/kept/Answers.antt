use Rattle.std.proofs.Common.{◌∙◌, arith, codes}
use Rattle.std.specs.Str.Parse.{ParsesUnsigned, ExplainsUnsignedError, HasUnsignedDigitsIfOk}
use Rattle.clap.specs.Words.{found_of}
use Rattle.wi_options.proofs.KeptLemmas.{keep_is}
use Rattle.wi_options.proofs.command.kept.Goals as goal

pub returns-clause-stated : goal.returns-clause-stated
returns-clause-stated c =
    let is = keep_is _ (λ bs r. ParsesUnsigned 32 10 bs r × ExplainsUnsignedError 10 bs r × HasUnsignedDigitsIfOk bs r)
    (found_of c.args.matches.now) (codes "keep") c.get_one.result _ (omega arith) (omega arith) (λ u x g. g.0)
    c.get_one.ensures.none c.get_one.ensures.value c.requires in
    c.unwrap_or.ensures ∙ is.0

pub returns-clause-range : goal.returns-clause-range
returns-clause-range c =
    let is = keep_is _ (λ bs r. ParsesUnsigned 32 10 bs r × ExplainsUnsignedError 10 bs r × HasUnsignedDigitsIfOk bs r)
    (found_of c.args.matches.now) (codes "keep") c.get_one.result 65536 (omega arith) (omega arith) (λ u x g. g.0)
    c.get_one.ensures.none c.get_one.ensures.value c.requires in
    rw c.unwrap_or.ensures (is.1, is.2)
