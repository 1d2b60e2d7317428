-- The bytes that are still to come, what the reader of lines takes of them, and how far a script was read.
use Rattle.std.specs.Prelude.{if◌then◌else◌, ◌*◌, ◌++◌, ◌+◌, ◌<◌, ◌∷◌, ◌≡◌, ◌≤◌}
use Rattle.wi_cli.specs.Words.{Bool, Consumes, IsAtEnd, LineReader, List, MatchResult, Option, Read, Result, RunFault, ScriptLimit, State, [], codes, false, is_whole, length, max_line, max_lines, nat_lt, prepend_known, take, true, ℕ}

-- the bytes in the buffer and then the source's are bs and then what they are now
abbrev pub Takes : List ℕ → Option (List ℕ) → List ℕ → Option (List ℕ) → List ℕ → Type 0
Takes buffer left buffer' left' bs = Consumes (prepend_known buffer left) (prepend_known buffer' left') bs

-- how many bytes can still come, at most: 4,096 by each read
abbrev pub budget : List ℕ → ℕ → ℕ
budget buffer reads = length buffer + 4096 * reads

-- ---- the reader of lines

-- what is kept of a line: one byte more than the greatest length tells that it is too long
unfoldable pub line_front : List ℕ → List ℕ
line_front line = take (max_line + 1) line

-- the bytes of a line, with its LF if that came
abbrev pub raw : Bool → List ℕ → List ℕ
raw whole content = content ++ (if whole then codes "\n" else [])

-- What the reader of lines needs: a source that hasn't failed, and room for a line and one byte more.
pub record CanRead (has_failed : Bool) (capacity : ℕ) : Type 0 where
  pub works : has_failed ≡ false
  pub headroom : max_line + 1 ≤ capacity

-- It stopped. The room is there still, and a source that can't be read has failed.
pub record HasStopped (fault : RunFault) (has_failed : Bool) (capacity : ℕ) : Type 0 where
  pub headroom : max_line + 1 ≤ capacity
  pub failed : fault ≡ Read → has_failed ≡ true

-- how a call leaves it: it can read on, or it has stopped
abbrev pub ReadsOn : {X : Type 0} → Result X RunFault → Bool → ℕ → Type 0
ReadsOn r has_failed capacity = MatchResult r (λ _. CanRead has_failed capacity) (λ e. HasStopped e has_failed capacity)

-- The bytes in the buffer were taken up to the first LF, and with it, or all of them. The front that is kept goes on
-- with them.
pub record TookPart (whole : Bool) (buffer buffer' line line' : List ℕ) : Type 0 where
  pub part : List ℕ
  pub no_lf : is_whole part ≡ false
  pub taken : buffer ≡ raw whole part ++ buffer'
  pub all : whole ≡ false → buffer' ≡ []
  pub kept : (content : List ℕ) → line ≡ line_front content → line' ≡ line_front (content ++ part)

-- A line was taken, whole or up to the end, or nothing was there. Its front is kept.
pub record TookLine (allowed whole : Bool) (buffer : List ℕ) (left : Option (List ℕ)) (buffer' : List ℕ) (left' : Option (List ℕ)) (line : List ℕ) : Type 0 where
  pub content : List ℕ
  pub no_lf : is_whole content ≡ false
  pub kept : line ≡ line_front content
  pub taken : Takes buffer left buffer' left' (raw whole content)
  pub at_end : whole ≡ false → IsAtEnd (prepend_known buffer' left')
  pub may : 0 < length (raw whole content) → allowed ≡ true

-- why no line was taken: the source failed within one, or one more would be too many
abbrev pub Broke : RunFault → Bool → List ℕ → Option (List ℕ) → List ℕ → Option (List ℕ) → Type 0
Broke Read allowed buffer left buffer' left' =
    (content : List ℕ) × (is_whole content ≡ false) × (buffer' ≡ []) × Takes buffer left buffer' left' content × (0 < length content → allowed ≡ true)
Broke ScriptLimit allowed buffer left buffer' left' = (b : ℕ) × (allowed ≡ false) × Takes buffer left buffer' left' (b ∷ [])
Broke fault allowed buffer left buffer' left' = ⊥

-- ---- how far a script was read, and how far a run has come

-- What was read and not yet taken, what the source has left, and how many lines were taken whole.
pub record Place : Type 0 where
  pub chunk : List ℕ
  pub left : Option (List ℕ)
  pub lines : ℕ

abbrev pub place_of : {R : Type 0} → (R → Option (List ℕ)) → LineReader → R → Place
place_of remaining script source = record { chunk = script.chunk; left = remaining source; lines = script.lines }

-- these bytes were taken in between
abbrev pub Advances : Place → Place → List ℕ → Type 0
Advances p q bs = Takes p.chunk p.left q.chunk q.left bs

-- nothing is to come
abbrev pub IsOver : Place → Type 0
IsOver p = IsAtEnd (prepend_known p.chunk p.left)

-- one line was taken, or none was there, and counted if its LF came; or none was, for a fault
pub record TookNext (whole : Bool) (p q : Place) (line : List ℕ) : Type 0 where
  pub took : TookLine (nat_lt p.lines max_lines) whole p.chunk p.left q.chunk q.left line
  pub counted : q.lines ≡ p.lines + (if whole then 1 else 0)

abbrev pub BrokeNext : RunFault → Place → Place → Type 0
BrokeNext fault p q = Broke fault (nat_lt p.lines max_lines) p.chunk p.left q.chunk q.left

-- How far a run has come: what was read, the state, and what was written.
pub record Stage : Type 0 where
  pub read : Place
  pub state : State
  pub written : Option (List ℕ)

abbrev pub stage_of : {R W : Type 0} → (R → Option (List ℕ)) → (W → Option (List ℕ)) → LineReader → R → W → State → Stage
stage_of remaining contents script source sink s =
    record { read = place_of remaining script source; state = s; written = contents sink }
