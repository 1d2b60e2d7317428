use Rattle.wi_cli.proofs.Vocabulary.{◌≡◌, ◌-◌, ◌++◌, length, take, min, ap, ◌∙◌, arith, length-take}
use Rattle.wi_cli.proofs.PartLemmas.{front_grown}
use Rattle.wi_cli.proofs.lines.keep.Goals as goal

pub returns-clause-kept : goal.returns-clause-kept
returns-clause-kept c = λ content h.
    let line = c.args.line.now in
    let bytes = c.args.bytes.now in
    let count : c.min-count.result ≡ min (65537 - length line.items) (length bytes) =
    c.min-count.ensures ∙ ap (λ n. min n (length bytes)) (c.saturating_sub-headroom.ensures ∙ ap (λ n. 65537 - n) (c.len.ensures ∙ c.args.line.now.ok.0)) in
    let done = c.extend_from_slice.ensures.succeeds (omega (arith, length-take c.min-count.result c.args.bytes.now)) in
    front_grown line.items _ content bytes h (rw done at c.extend_from_slice.ensures.items ∙ ap (λ n. line.items ++ take n bytes) count)
