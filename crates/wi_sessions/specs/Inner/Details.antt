-- What sessions are held as.
use Rattle.std.specs.Prelude.{ℕ, List, map, string_bytes}
use Rattle.std.specs.Option.{option_map}
use Rattle.std.specs.Rc.{rc_str_bytes}
use Rattle.std.specs.declared.rc.RcStr.{RcStr}
use Rattle.wi_sessions.specs.Sessions.{Session}
use Rattle.wi_sessions.specs.Pending.{AllPending}
use Rattle.wi_sessions.specs.Roster.{Roster}
use Rattle.wi_sessions.specs.declared.details.Details.{Details}

-- the session of a name with what it holds beside it
abbrev pub with_name : List ℕ → Details → Session
with_name name x = record { name = name; scenario = option_map string_bytes x.scenario; picture = x.picture; seen = x.seen }

abbrev pub session_in : {Z : Type 0} → RcStr Z × Details → Session
session_in e = with_name (rc_str_bytes e.0) e.1

-- the sessions that stand as entries of a map by their names, with their pending cells
abbrev pub roster_in : {Z : Type 0} → List (RcStr Z × Details) → AllPending → Roster
roster_in es p = record { sessions = map session_in es; pending = p.pending; vacant = p.vacant }
