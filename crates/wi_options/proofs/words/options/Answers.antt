use Rattle.std.proofs.Common.{◌∙◌, ap, codes, rules}
use Rattle.wi_options.specs.Stated.{number_or, usual_kept}
use Rattle.wi_options.proofs.words.options.Goals as goal

pub returns-clause-whole : goal.returns-clause-whole
returns-clause-whole c = search rules

pub returns-clause-load : goal.returns-clause-load
returns-clause-load c = c.get_str.ensures ∙ c.in_ok-matches.ensures.stated (codes "load")

pub returns-clause-keep : goal.returns-clause-keep
returns-clause-keep c = c.kept.ensures.stated ∙ ap (number_or usual_kept) (c.in_ok-matches.ensures.stated (codes "keep"))

pub returns-clause-range : goal.returns-clause-range
returns-clause-range c = c.kept.ensures.range

pub returns-in_err-matches-clause-taken : goal.returns-in_err-matches-clause-taken
returns-in_err-matches-clause-taken c = search rules

pub returns-in_err-matches-clause-amiss : goal.returns-in_err-matches-clause-amiss
returns-in_err-matches-clause-amiss c = search rules
