-- Sessions: what each of several people who work on one sheet was shown.
use Rattle.std.specs.Prelude.{ℕ, Bool, List, [], ◌∷◌, ◌++◌, Option, None, if◌then◌else◌}
use Rattle.std.specs.List.{list_any, position_or_len}
use Rattle.std.specs.Str.{bytes_eq}
use Rattle.wi_values.specs.declared.value.Value.{Value}
use Rattle.wi_sessions.specs.Pictures.{with_changes, Picture}
use Rattle.wi_fraction.specs.Text.{Bytes}

-- Its picture is the values that it was shown at its last change list, and `seen` how long the log was then.
pub record Session : Type 0 where
  pub name : Bytes
  pub scenario : Option Bytes
  pub picture : Picture
  pub seen : ℕ

abbrev pub new_session : Bytes → Session
new_session name = record { name = name; scenario = None; picture = []; seen = 0 }

abbrev pub max_sessions : ℕ
max_sessions = 64

module _ (xs : List Session) (name : Bytes) where
  abbrev pub has_session : Bool
  has_session = list_any (λ x. bytes_eq name x.name) xs

  abbrev pub index_of : ℕ
  index_of = position_or_len (λ x. bytes_eq name x.name) xs

  abbrev pub with_session : List Session
  with_session = if has_session then xs else xs ++ new_session name ∷ []

-- a session that was told a change list when the log had this length
abbrev pub told : Session → Picture → ℕ → Session
told x changes seen = record x { picture = with_changes x.picture changes; seen = seen }

-- a session that uses a scenario, or the sheet as it stands
abbrev pub using_scenario : Session → Option Bytes → Session
using_scenario x name = record x { scenario = name }
