use Rattle.wi_worlds.proofs.Words.{◌∙◌, ◌≡◌, ℕ, List, [], ◌∷◌, refl, length, filter, sym, ap, subst, arith, IsStrictlyIncreasing, eqb-true, Replacement, ReachTable, is_of, is_reached_by, reached_by}
use Rattle.wi_worlds.proofs.Filtering.{made_of, each_of}
use Rattle.wi_worlds.proofs.world.World.reaching_by.Goals as goal

none_of : (t : ReachTable) (at : ℕ) (all rs : List Replacement) → all ≡ rs → length all ≡ 0 → rs ≡ filter (is_reached_by t at) rs
none_of t at all [] same h = refl
none_of t at all (r ∷ rs) same h = let k = ap length same in absurd (omega (arith, h, k))

pub returns-then-is_empty-clause-list : goal.returns-then-is_empty-clause-list
returns-then-is_empty-clause-list c =
    made_of (is_reached_by c.args.reaches.now c.args.at) c.args.self.now c.args.self.now c.copy.result c.copy.ensures
    (none_of c.args.reaches.now c.args.at c.replacements.result.now c.args.self.now c.replacements.ensures.value (eqb-true _ 0 (sym c.is_empty.ensures ∙ c.if-is_empty.true)))

pub returns-then-is_empty-clause-each : goal.returns-then-is_empty-clause-each
returns-then-is_empty-clause-each c = each_of (reached_by c.args.reaches.now c.args.at) c.args.self.now c.copy.result (returns-then-is_empty-clause-list c)

pub restricted-requires : goal.restricted-requires
restricted-requires c = record { rise = subst IsStrictlyIncreasing (sym c.reached.ensures.value) c.reached.ensures.order }

pub returns-clause-list : goal.returns-clause-list
returns-clause-list c =
    made_of (is_reached_by c.args.reaches.now c.args.at) c.args.self.now (filter (is_of c.reached.result.now) c.args.self.now) c.restricted.result c.restricted.ensures.list
    (ap (λ (xs : List ℕ). filter (is_of xs) c.args.self.now) c.reached.ensures.value)

pub returns-clause-each : goal.returns-clause-each
returns-clause-each c = each_of (reached_by c.args.reaches.now c.args.at) c.args.self.now c.restricted.result (returns-clause-list c)
