use Rattle.wi_ranges.proofs.Words.{◌↔◌, ◌++◌, ◌≡◌, ℕ, true, refl, rules, nat_cmp, Contains, Vec, contains, IfOk-weaker}
use Rattle.wi_ranges.proofs.RisingLemmas.{cells_alone, cells_through}
use Rattle.wi_ranges.proofs.rising_set.RisingSet.into_list.Goals as goal

pub returns-then-is_empty-clause-cells : goal.returns-then-is_empty-clause-cells
returns-then-is_empty-clause-cells c = cells_alone c.args.self c.self.inside.rising.items c.self.inside.others.keys (search rules) (c.if-is_empty.ensures.0 refl)

pub returns-clause-cells : goal.returns-clause-cells
returns-clause-cells c =
    let cells = c.self.inside.rising.items ++ c.self.inside.others.keys in
    IfOk-weaker c.merged.result (λ (list : Vec ℕ). (a : ℕ) → Contains list.items a ↔ Contains cells a) (λ list. (a : ℕ) → Contains list.items a ↔ (contains nat_cmp c.args.self a ≡ true))
    (λ list. cells_through c.args.self cells list.items (search rules)) c.merged.ensures.cells

pub returns-then-is_empty-clause-order : goal.returns-then-is_empty-clause-order
returns-then-is_empty-clause-order c = search rules
