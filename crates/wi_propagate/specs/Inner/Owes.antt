-- What a question over kept values owes.
use Rattle.std.specs.Prelude.{◌≡◌, Bool, true, List}
use Rattle.wi_sheet.specs.Demand.{Case}
use Rattle.wi_sheet.specs.Inner.Spending.{NeverFall, plus, price}
use Rattle.wi_propagate.specs.KeptSheet.{KeptSheet, unkept, HasSpaceFor, KeepsAll, KeepsNoMore, KeepsWhileSpace}

-- of a question that demands these cases, also where memory ran out, and where it was done
pub record Owes (old new : KeptSheet) (cases : List Case) (done : Bool) : Type 0 where
  pub same : new.stored ≡ old.stored
  pub same_generations : new.generations ≡ old.generations
  pub same_space : new.values.capacity ≡ old.values.capacity
  pub counts : NeverFall old.counts new.counts
  pub demanded : NeverFall new.counts (plus old.counts (price old.stored.sheet cases))
  pub not_kept : HasSpaceFor old cases → NeverFall new.counts (plus old.counts (price old.stored.sheet (unkept old cases)))
  pub no_more : KeepsNoMore old new
  pub while_space : KeepsWhileSpace old new
  pub keeps : done ≡ true → HasSpaceFor old cases → KeepsAll old new
