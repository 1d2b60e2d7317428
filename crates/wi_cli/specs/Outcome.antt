-- What a run of a script has done when it returns.
use Rattle.std.specs.Prelude.{◌≡◌, ◌<◌, ◌≤◌, ◌⊎◌, ◌∷◌, ◌++◌}
use Rattle.wi_cli.specs.Words.{Bool, true, false, List, [], length, take, filter, Option, Result, Ok, Err, OnOk, Appends, Consumes, IsAtEnd, State, Command, RunFault, Read, Write, ScriptLimit, raw_lines, is_whole, max_lines, Bytes}
use Rattle.wi_cli.specs.declared.fault.RunFault.TheVariants.{Memory}
use Rattle.wi_cli.specs.Script.{AreCommands}
use Rattle.wi_cli.specs.Reply.{Replies}

-- The commands are answered one after another, and `out` is their replies. Where the sink fails this may end early: of
-- a reply a part is written, and nothing is served after it.
abbrev pub Writes : Bool → State → List Command → Bytes → State → Type 0
Writes fails s [] out t = (out ≡ []) × (t ≡ s)
Writes fails s (c ∷ cs) out t =
    ((mid : State) × (reply rest : Bytes) × Replies s c reply mid × (out ≡ reply ++ rest) × Writes fails mid cs rest t)
    ⊎ ((fails ≡ true) × (((rest : Bytes) × Replies s c (out ++ rest) t) ⊎ ((out ≡ []) × (t ≡ s))))

-- ---- from the state s to the state t, and from the bytes taken to the bytes written

module _ (left : Option Bytes) (s t : State) (input out : Bytes) where
  abbrev pub Answers : Bool → Bool → List Bytes → Type 0
  Answers ended fails lines = (cs : List Command) × AreCommands ended lines cs × Writes fails s cs out t

  abbrev pub lines : List Bytes
  lines = raw_lines input

  abbrev pub Outcome : Result (Unit {0}) RunFault → Type 0
  Outcome (Ok _) = (length lines ≤ max_lines) × Answers true false lines
  Outcome (Err Memory) = (input ≡ []) × (out ≡ []) × (t ≡ s)
  Outcome (Err Read) = (length lines ≤ max_lines) × Answers false false (filter is_whole lines)
  Outcome (Err ScriptLimit) = (max_lines < length lines) × Answers false false (take max_lines lines)
  Outcome (Err Write) =
      Answers false true (filter is_whole (take max_lines lines)) ⊎ (IsAtEnd left × (length lines ≤ max_lines) × Answers true true lines)

pub record IsRun {R W : Type 0} (remaining : R → Option Bytes) (read_failed : R → Bool) (contents : W → Option Bytes)
    (write_failed flushed : W → Bool) (r : Result (Unit {0}) RunFault) (source source' : R) (sink sink' : W) (s t : State) : Type 0 where
  pub input : Bytes
  pub out : Bytes
  pub taken : Consumes (remaining source) (remaining source') input
  pub written : Appends (contents sink) (contents sink') out
  pub outcome : Outcome (remaining source') s t input out r
  pub all_read : OnOk r (IsAtEnd (remaining source'))
  pub reads : OnOk r (read_failed source' ≡ false)
  pub writes : OnOk r (write_failed sink' ≡ false)
  pub all_sent : OnOk r (flushed sink' ≡ true)
  pub read_fault : r ≡ Err Read → read_failed source' ≡ true
  pub write_fault : r ≡ Err Write → write_failed sink' ≡ true
  pub unread : r ≡ Err Memory → source' ≡ source
  pub unwritten : r ≡ Err Memory → sink' ≡ sink
