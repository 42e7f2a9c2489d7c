-- The steps that each hand makes: which one a call is, when it may be made, and what it makes of who made it.
use Rattle.std.specs.Prelude.{◌≡◌, ℕ, true, false, List, Option}
use Rattle.esr_model.specs.Names.{BlobName}
use Rattle.esr_model.specs.Values.{Bytes}
use Rattle.esr_core.specs.World.{no_caller}
use Rattle.esr_core.specs.Allowed.{IsChecking}
use Rattle.esr_core.specs.Entry.{Why, ReadBlob, ReadFails, FetchShard, DeleteFails, Step, FetchStep, FailedStep, ReadStep, PruneStep, Moment}
use Rattle.esr_desk.specs.declared.hand.Hand.{Hand}
use Rattle.esr_desk.specs.declared.hand.Hand.TheVariants as hands
use Rattle.esr_desk.specs.Start.{Start, ticket_of, world_of}
use Rattle.esr_desk.specs.Own.{Own, reader_of, caller_of}
use Rattle.esr_desk.specs.Taken.{fetched_by}
use Rattle.esr_desk.specs.Readers.{read_by}
use Rattle.esr_desk.specs.Caller.{found_by}
use Rattle.esr_desk.specs.Conditions.{CanFetch, CanFail}
use Rattle.esr_desk.specs.Delete.Conditions.{CanFetchShard, CanFailDelete}
use Rattle.esr_desk.specs.Restore.Conditions.{CanRead}
use Rattle.esr_desk.specs.Check.Conditions.{CanCheck}
use Rattle.esr_desk.specs.Verify.Conditions.{CanFetchTest, IsOpen}

-- ---- a fetch

abbrev pub fetch_step : Hand → BlobName → Step
fetch_step hands.Unit name = FetchStep name
fetch_step hands.Delete name = PruneStep (FetchShard name)
fetch_step hands.Restore name = ReadStep (ReadBlob name)
fetch_step hands.Check name = ReadStep (ReadBlob name)
fetch_step hands.Verify name = ReadStep (ReadBlob name)

-- who 0 makes the step, and nobody else makes any
pub record IsClient (s : Start) (who : ℕ) : Type 0 where
  pub alone : s.alone ≡ true
  pub client : who ≡ 0

abbrev pub MayFetch : Hand → Start → List Moment → ℕ → BlobName → Type 0
MayFetch hands.Unit s log who name = CanFetch (ticket_of s log who) name
MayFetch hands.Delete s log who name = CanFetchShard (ticket_of s log who) name
MayFetch hands.Restore s log who name = CanRead s (reader_of s log who) name
MayFetch hands.Check s log who name = IsClient s who × CanCheck s log name
MayFetch hands.Verify s log who name = IsClient s who × CanFetchTest (caller_of s log) name

-- what is told of the blob is noted
abbrev pub own_fetched : {F : Type 0} → Hand → (F → Option Bytes) → BlobName → Option F → Own → Own
own_fetched hands.Unit left name o own = record own { ticket = fetched_by left name o own.ticket }
own_fetched hands.Delete left name o own = record own { ticket = fetched_by left name o own.ticket }
own_fetched hands.Restore left name o own = record own { reader = read_by left name o own.reader }
own_fetched hands.Check left name o own = record own { caller = found_by left name o own.caller }
own_fetched hands.Verify left name o own = record own { caller = found_by left name o own.caller }

-- ---- a failure

abbrev pub fail_step : Hand → Why → Step
fail_step hands.Unit why = FailedStep why
fail_step hands.Delete why = PruneStep (DeleteFails why)
fail_step hands.Restore why = ReadStep (ReadFails why)
fail_step hands.Check why = ReadStep (ReadFails why)
fail_step hands.Verify why = ReadStep (ReadFails why)

abbrev pub MayFail : Hand → Start → List Moment → ℕ → Type 0
MayFail hands.Unit s log who = CanFail (ticket_of s log who)
MayFail hands.Delete s log who = CanFailDelete (ticket_of s log who)
MayFail hands.Restore s log who = (reader_of s log who).out ≡ true
MayFail hands.Check s log who = IsClient s who × IsChecking (world_of s log)
MayFail hands.Verify s log who = IsClient s who × IsOpen (caller_of s log)

-- a ticket ends, and so does a check or a verification
abbrev pub own_failed : Hand → Own → Own
own_failed hands.Unit own = record own { ticket = record own.ticket { out = false } }
own_failed hands.Delete own = record own { ticket = record own.ticket { out = false } }
own_failed hands.Restore own = record own { reader = record own.reader { out = false } }
own_failed hands.Check own = record own { caller = no_caller }
own_failed hands.Verify own = record own { caller = no_caller }
