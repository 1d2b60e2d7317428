use Rattle.wi_edit_log.proofs.Words.{◌≡◌, ◌≤◌, ◌-◌, ◌∙◌, ℕ, length, take, drop, ap, subst, sym, row_of, take_rest, are_rising}
use Rattle.wi_edit_log.proofs.Below.{first_of_rest, rise_after}
use Rattle.wi_edit_log.proofs.rising.first_in_rising.Goals as goal

pub first_met-requires : goal.first_met-requires
first_met-requires c =
    let rs = c.args.areas.now in
    ap are_rising (take_rest rs c.count_above-above.result) ∙ rise_after 0 c.count_above-above.result rs c.requires

pub returns : goal.returns
returns c =
    let rs = c.args.areas.now in
    let k = c.count_above-above.result in
    let row : c.row.result ≡ row_of c.args.one.first = c.row.ensures.value ∙ ap row_of c.first.ensures in
    first_of_rest c.args.one rs (take (length rs - k) (drop k rs)) k c.first_met.result (take_rest rs k)
    (λ a l. c.count_above-above.ensures.rest a (subst (λ (n : ℕ). n ≤ row_of a) (sym row) l)) c.first_met.ensures
