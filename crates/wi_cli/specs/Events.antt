-- A script's commands one after another, as events.
use Rattle.std.specs.Prelude.{◌≡◌}
use Rattle.wi_cli.specs.Words.{List, map, flat_map, State, Command, IsStep, Bytes}
use Rattle.wi_scenarios.specs.Events.{Event, MayFollow, state_after}
use Rattle.wi_cli.specs.Inner.Told.{reply}

-- Events of these commands may follow one another from s; their replies are these bytes, and they leave this state.
pub record AreEvents (s : State) (cs : List Command) (out : Bytes) (t : State) : Type 0 where
  pub events : List (Event Command)
  pub follow : MayFollow IsStep s events
  pub commands : cs ≡ map (λ (e : Event Command). e.command) events
  pub replies : out ≡ flat_map (λ (e : Event Command). reply e.answer) events
  pub left : t ≡ state_after s events
