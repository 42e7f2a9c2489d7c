-- Which calls of an object in memory are to fail.
use Rattle.std.specs.Prelude.{◌-◌, Bool, true, false, ◌==◌, ◌&&◌, List, [], ◌∷◌, if◌then◌else◌}
use Rattle.std.specs.List.{list_any}
use Rattle.esr_source.specs.declared.address.Address.{Address}
use Rattle.esr_source.specs.declared.plan.Call.{Call}
use Rattle.esr_source.specs.declared.plan.Failing.{Failing}
use Rattle.esr_source.specs.declared.plan.FailingAt.{FailingAt}
use Rattle.esr_source.specs.Address.{same_address}

abbrev pub same_call : Call → Call → Bool
same_call Call.List Call.List = true
same_call Call.Start Call.Start = true
same_call Call.Read Call.Read = true
same_call Call.Create Call.Create = true
same_call Call.Write Call.Write = true
same_call Call.End Call.End = true
same_call a b = false

-- it is the next call of that kind
abbrev pub is_due : Call → Failing → Bool
is_due call f = same_call f.call call && f.nth == 1

abbrev pub is_due_in : Call → List Failing → Bool
is_due_in call fs = list_any (is_due call) fs

-- the same call, counted from the one after a call of that kind
abbrev pub passed : Call → Failing → Failing
passed call f = if same_call f.call call then record f { nth = f.nth - 1 } else f

-- no call is to fail
abbrev pub is_unplanned : {A : Type 0} → List A → Bool
is_unplanned [] = true
is_unplanned (x ∷ xs) = false

-- the calls that are to fail at an address
abbrev pub plan_at : Address → List FailingAt → List Failing
plan_at a [] = []
plan_at a (f ∷ fs) = if same_address f.address a then record { call = f.call; nth = f.nth } ∷ plan_at a fs else plan_at a fs
