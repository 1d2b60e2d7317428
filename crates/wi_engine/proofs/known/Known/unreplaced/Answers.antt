use Rattle.wi_engine.proofs.Words.{◌≡◌, Option, Some, IfSome, ap, refl, subst, sym, ◌∙◌, Value, content_of, put_all, cell_value, known_in, found_value}
use Rattle.wi_engine.proofs.attempt.KnownValues.{found_known}
use Rattle.wi_engine.proofs.known.Known.unreplaced.Goals as goal

-- what was found is right, and so it is known
pub returns-in-Some : goal.returns-in-Some
returns-in-Some c =
    let k = c.args.self.now in
    let s = put_all k.store.now.sheet k.world.now in
    let a = c.args.at in
    let found : found_value k.found.now a ≡ Some c.in-Some.value.now = sym c.in-Some.ensures in
    let right = subst (λ (o : Option Value). IfSome o (λ v. v ≡ cell_value s a)) found (k.right.cells a) in
    sym (ap (known_in (content_of s a)) found ∙ found_known s a (content_of s a) c.in-Some.value.now refl right)
