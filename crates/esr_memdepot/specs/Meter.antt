-- The clock of a container in memory, its counts of calls, and how a call goes by them.
use Rattle.std.specs.Prelude.{ℕ, ◌-◌, ◌^◌, ◌==◌, Bool, true, false, if◌then◌else◌, List, [], ◌∷◌, Option, Some, None}
use Rattle.esr_depot.specs.Calls.{up}
use Rattle.esr_memdepot.specs.declared.meter.Counts.{Counts}
use Rattle.esr_memdepot.specs.declared.meter.Meter.{Meter}
use Rattle.esr_memdepot.specs.declared.meter.Turn.{Turn}
use Rattle.esr_memdepot.specs.declared.meter.Turn.TheVariants.{Over, Served, Fails}
use Rattle.esr_memdepot.specs.declared.plan.Call.{Call}
use Rattle.esr_memdepot.specs.declared.plan.Call.TheVariants.{Begin, Commit, Replace, Fetch, List as ListCall, Remove, ReadRecord}
use Rattle.esr_memdepot.specs.declared.plan.Failing.{Failing}
use Rattle.esr_memdepot.specs.declared.plan.Leaves.{Leaves}
use Rattle.esr_memdepot.specs.Plan.{planned}

-- no call was made yet
abbrev pub no_counts : Counts
no_counts = record { begins = 0; commits = 0; replaces = 0; fetches = 0; lists = 0; removes = 0; reads = 0; swaps = 0 }

-- how often that kind of call was made
abbrev pub count_of : Call → Counts → ℕ
count_of Begin c = c.begins
count_of Commit c = c.commits
count_of Replace c = c.replaces
count_of Fetch c = c.fetches
count_of ListCall c = c.lists
count_of Remove c = c.removes
count_of ReadRecord c = c.reads
count_of other c = c.swaps

-- one more call of that kind
abbrev pub counted : Call → Counts → Counts
counted Begin c = record c { begins = up c.begins }
counted Commit c = record c { commits = up c.commits }
counted Replace c = record c { replaces = up c.replaces }
counted Fetch c = record c { fetches = up c.fetches }
counted ListCall c = record c { lists = up c.lists }
counted Remove c = record c { removes = up c.removes }
counted ReadRecord c = record c { reads = up c.reads }
counted other c = record c { swaps = up c.swaps }

-- the same, of a call at that clock: at its last value no call is counted
abbrev pub counted_before : ℕ → Call → Counts → Counts
counted_before clock call c = if clock == 2 ^ 64 - 1 then c else counted call c

-- a call fails where the plan says what it leaves
abbrev pub turn_by : Option Leaves → Turn
turn_by None = Served
turn_by (Some leaves) = Fails leaves

-- how a call goes: it fails at the clock's last value, and where its number of its kind is planned to
abbrev pub turn_at : List Failing → ℕ → Counts → Call → Turn
turn_at plan clock counts call = if clock == 2 ^ 64 - 1 then Over else turn_by (planned plan call (up (count_of call counts)))

-- with no call that is to fail, those up to the clock's end
abbrev pub sure_by_plan : List Failing → ℕ → ℕ
sure_by_plan [] clock = 2 ^ 64 - 1 - clock
sure_by_plan (f ∷ fs) clock = 0

-- how many calls are sure to be served
abbrev pub sure_calls : Meter → ℕ
sure_calls m = sure_by_plan m.plan m.clock

-- the call fails
abbrev pub not_served : Turn → Bool
not_served Over = true
not_served Served = false
not_served (Fails leaves) = true
