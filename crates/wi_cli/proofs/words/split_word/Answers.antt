use Rattle.wi_cli.proofs.Vocabulary.{◌∙◌, ap, arith, after_first, is_space, strip_prefix_char}
use Rattle.wi_cli.proofs.WordLemmas.{cut_at_word, space_follows, nothing_follows}
use Rattle.wi_cli.proofs.words.split_word.Goals as goal

pub split_at-requires : goal.split_at-requires
split_at-requires c =
    cut_at_word c.trim_spaces-text.result.now c.word_len.result (rw c.as_bytes.ensures.value at c.word_len.ensures.value) (rw c.as_bytes.ensures.value at c.word_len.ensures.within)

pub returns-in-Some-clause-rest : goal.returns-in-Some-clause-rest
returns-in-Some-clause-rest c =
    let cut = rw c.in-Some.is at (strip_prefix_char 32 c.split_at.result.1.now c.strip_prefix.result c.strip_prefix.ensures.cases (omega arith)) in
    space_follows c.trim_spaces-text.result.now c.split_at.result.1.now _ c.word_len.result (rw c.as_bytes.ensures.value at c.word_len.ensures.value) c.split_at.ensures.back cut ∙ ap (after_first is_space) c.trim_spaces-text.ensures

pub returns-in-None-clause-rest : goal.returns-in-None-clause-rest
returns-in-None-clause-rest c =
    let cut = rw c.in-None.is at (strip_prefix_char 32 c.split_at.result.1.now c.strip_prefix.result c.strip_prefix.ensures.cases (omega arith)) in
    nothing_follows c.trim_spaces-text.result.now c.split_at.result.1.now c.word_len.result (rw c.as_bytes.ensures.value at c.word_len.ensures.value) c.split_at.ensures.back cut ∙ ap (after_first is_space) c.trim_spaces-text.ensures
