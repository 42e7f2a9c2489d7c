-- What a container in memory shows to proofs, and how its calls go.
use Rattle.std.specs.Prelude.{◌≡◌, ℕ, true, false, is_some, if◌then◌else◌, List, Some, Result}
use Rattle.esr_depot.specs.declared.error.CallError.{CallError}
use Rattle.esr_depot.specs.Image.{Image, blob, with_blob}
use Rattle.esr_depot.specs.Look.{Look}
use Rattle.esr_depot.specs.Calls.{is_wanting, has_failed}
use Rattle.esr_memdepot.specs.declared.blob.KeptBlob.{KeptBlob}
use Rattle.esr_memdepot.specs.declared.text.KeptText.{KeptText}
use Rattle.esr_memdepot.specs.declared.depot.MemDepot.{MemDepot}
use Rattle.esr_memdepot.specs.declared.meter.Meter.{Meter}
use Rattle.esr_memdepot.specs.declared.meter.Turn.{Turn}
use Rattle.esr_memdepot.specs.declared.meter.Turn.TheVariants.{Over, Served, Fails}
use Rattle.esr_memdepot.specs.declared.plan.Call.{Call}
use Rattle.esr_memdepot.specs.declared.plan.Failing.{Failing}
use Rattle.esr_memdepot.specs.declared.plan.Leaves.{Leaves}
use Rattle.esr_memdepot.specs.Meter.{sure_calls, not_served, turn_at, no_counts, counted_before}
use Rattle.esr_memdepot.specs.Plan.{is_new}
use Rattle.esr_memdepot.specs.Past.{image_now, image_at, image_left, LeftSince, taken_count}

-- what blobs and texts with their dates show at that clock: each moment is told
abbrev pub look_of : ℕ → ℕ → List KeptBlob → List KeptText → Look
look_of clock sure ks xs = record { clock = clock; at = λ t. Some (image_at t ks xs); since = LeftSince clock ks xs; sure = sure }

-- what the container shows
abbrev pub memory_look : MemDepot → Look
memory_look d = look_of d.meter.clock (sure_calls d.meter) d.blobs.items d.texts.items

-- what is there now
abbrev pub memory_image : MemDepot → Image
memory_image d = image_now d.blobs.items d.texts.items

-- what a crash leaves in the call that was made at that moment
abbrev pub memory_left : ℕ → Leaves → MemDepot → Image
memory_left t how d = image_left t how d.blobs.items d.texts.items

-- no call of it was made yet, and the plan is its own
abbrev pub IsFresh : List Failing → MemDepot → Type 0
IsFresh plan d = d.meter ≡ record { clock = 0; faults = 0; plan = plan; counts = no_counts }

-- how the next call of that kind goes
abbrev pub next_turn : Meter → Call → Turn
next_turn m call = turn_at m.plan m.clock m.counts call

-- what a call leaves that puts a new image in place of an old one
abbrev pub left_by : Turn → Image → Image → Image
left_by Over old new = old
left_by Served old new = new
left_by (Fails leaves) old new = if is_new leaves then new else old

-- how many of n names a removal takes away
abbrev pub taken_by : Turn → ℕ → ℕ
taken_by Over n = 0
taken_by Served n = n
taken_by (Fails leaves) n = taken_count leaves n

-- what a commit leaves that is served
abbrev pub committed_image : Image → List ℕ → List ℕ → Image
committed_image i name bytes = if is_some (blob i name) then i else with_blob i name bytes

-- How a call goes by the plan: unless memory was wanting it failed exactly where its turn says so, left what is expected,
-- and was counted.
pub record Went {T : Type 0} (before after : Meter) (call : Call) (result : Result T CallError) (expected now : Image) : Type 0 where
  pub failed : is_wanting result ≡ false → has_failed result ≡ not_served (next_turn before call)
  pub left : is_wanting result ≡ false → now ≡ expected
  pub counted : is_wanting result ≡ false → after.counts ≡ counted_before before.clock call before.counts
  pub plan : after.plan ≡ before.plan
  pub rests : is_wanting result ≡ true → after ≡ before
