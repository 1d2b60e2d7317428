-- The two lists of the stack, and the frames that stand in them.
use Rattle.std.specs.Prelude.{◌≡◌, ℕ, ◌+◌, ◌-◌, ◌<◌, List, [], ◌∷◌, ◌++◌, length, vec_len, vec_capacity}
use Rattle.std.specs.Global.{Vec}
use Rattle.wi_parser.specs.Tree.{Tree}
use Rattle.wi_cache.specs.declared.key.Key.{Key}
use Rattle.wi_engine.specs.Inner.Stacked.{StackedFrame, StackState, cells_of, other_than_cells, seen_as, stacked, waits_for_one}
use Rattle.wi_engine.specs.declared.frame.Frame.{Frame}
use Rattle.wi_engine.specs.declared.stack.Beside.{Beside}
use Rattle.wi_engine.specs.declared.stack.Beside.TheVariants.{OneCell, More}
use Rattle.wi_engine.specs.declared.stack.Entry.{Entry}
use Rattle.wi_engine.specs.declared.stack.Rest.{Rest}

-- ---- the frame of an entry

-- with what stands for it in the second list
abbrev pub with_rest : Key → Tree → Rest → StackedFrame
with_rest k t r = seen_as k t r.found (cells_of r.waiting) (other_than_cells r.waiting) r.scans.items

-- with the first in the second list; where there is none, which is never so (`HaveRests`), it is some frame
abbrev pub with_first : Key → Tree → List Rest → StackedFrame
with_first k t [] = waits_for_one k t 0
with_first k t (r ∷ rs) = with_rest k t r

abbrev pub frame_of : Entry → Beside → List Rest → StackedFrame
frame_of e (OneCell a) rs = waits_for_one e.key e.formula.now a
frame_of e More rs = with_first e.key e.formula.now rs

-- what of the second list stands for the entries behind it
abbrev pub rests_behind : Beside → List Rest → List Rest
rests_behind (OneCell a) rs = rs
rests_behind More [] = []
rests_behind More (r ∷ rs) = rs

-- ---- the frames of all entries

abbrev pub frames_in : List Entry → List Rest → List StackedFrame
frames_in [] rs = []
frames_in (e ∷ es) rs = frame_of e e.beside rs ∷ frames_in es (rests_behind e.beside rs)

abbrev pub with_its_rest : Beside → ℕ → ℕ
with_its_rest (OneCell a) n = n
with_its_rest More n = n + 1

-- how many of these have more than a cell
abbrev pub count_more : List Entry → ℕ
count_more [] = 0
count_more (e ∷ es) = with_its_rest e.beside (count_more es)

-- each of these that has more has it in the second list, where nothing else stands
abbrev pub HaveRests : List Entry → List Rest → Type 0
HaveRests es rs = count_more es ≡ length rs

-- ---- what the lists are seen as

abbrev pub stack_state : Vec Entry → Vec Rest → StackState
stack_state es rs = record { frames = frames_in es.items rs.items; space = vec_capacity es - vec_len es; more_space = vec_capacity rs - vec_len rs }

abbrev pub HaveSpace : Vec Entry → Vec Rest → Type 0
HaveSpace es rs = (vec_len es < vec_capacity es) × (vec_len rs < vec_capacity rs)

-- ---- one more, and one less

-- the second list of entries is the first with a frame on top, whatever stands in the list of the rest
abbrev pub IsWithFrame : List Entry → List Entry → Frame → Type 0
IsWithFrame es fs f = (rs : List Rest) → frames_in fs rs ≡ frames_in es rs ++ stacked f ∷ []

-- the frame of this key and this formula has what stood last in the second list
pub record HasLast (before after : List Rest) (k : Key) (t : Tree) (f : Frame) : Type 0 where
  pub rest : Rest
  pub items : before ≡ after ++ rest ∷ []
  pub frame : with_rest k t rest ≡ stacked f
