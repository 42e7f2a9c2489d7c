-- Which calls of a container in memory fail.
use Rattle.std.specs.Prelude.{ℕ, Bool, true, false, ◌==◌, ◌&&◌, if◌then◌else◌, List, [], ◌∷◌, Option, Some, None}
use Rattle.esr_memdepot.specs.declared.plan.Call.{Call}
use Rattle.esr_memdepot.specs.declared.plan.Call.TheVariants.{Begin, Commit, Replace, Fetch, List as ListCall, Remove, ReadRecord, SwapRecord, StageWrite, FetchRead}
use Rattle.esr_memdepot.specs.declared.plan.Failing.{Failing}
use Rattle.esr_memdepot.specs.declared.plan.Leaves.{Leaves}
use Rattle.esr_memdepot.specs.declared.plan.Leaves.TheVariants.{Old, New, First}

-- two calls of one kind
abbrev pub is_same_call : Call → Call → Bool
is_same_call Begin Begin = true
is_same_call Commit Commit = true
is_same_call Replace Replace = true
is_same_call Fetch Fetch = true
is_same_call ListCall ListCall = true
is_same_call Remove Remove = true
is_same_call ReadRecord ReadRecord = true
is_same_call SwapRecord SwapRecord = true
is_same_call (StageWrite m) (StageWrite n) = m == n
is_same_call (FetchRead m) (FetchRead n) = m == n
is_same_call a b = false

-- an entry for the call of that kind and number
abbrev pub is_for : Call → ℕ → Failing → Bool
is_for call nth f = is_same_call f.call call && f.nth == nth

-- what the call of that kind and number leaves, where it is to fail
abbrev pub planned : List Failing → Call → ℕ → Option Leaves
planned [] call nth = None
planned (f ∷ fs) call nth = if is_for call nth f then Some f.leaves else planned fs call nth

-- the numbers of the calls of that kind that are to fail
abbrev pub numbers_of : List Failing → Call → List ℕ
numbers_of [] call = []
numbers_of (f ∷ fs) call = if is_same_call f.call call then f.nth ∷ numbers_of fs call else numbers_of fs call

-- the new state is left
abbrev pub is_new : Leaves → Bool
is_new Old = false
is_new New = true
is_new (First n) = false
