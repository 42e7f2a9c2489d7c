-- What the steps of who 0 make of what it has done.
use Rattle.std.specs.Prelude.{true, List, ◌∷◌, ◌++◌, Option, Some, None, Result, Ok, Err}
use Rattle.esr_model.specs.Names.{BlobName}
use Rattle.esr_model.specs.Values.{Bytes}
use Rattle.esr_core.specs.World.{Caller}
use Rattle.esr_core.specs.After.{caller_told}
use Rattle.esr_names.specs.declared.ids.Id.{Id}
use Rattle.esr_desk.specs.declared.refusal.EntryRefusal.TheVariants as refusals
use Rattle.esr_desk.specs.declared.refusal.StepRefusal.{StepRefusal}
use Rattle.esr_desk.specs.declared.refusal.StepRefusal.TheVariants as steps

-- an id was drawn, or there was none left
abbrev pub drawn_by : Result Id StepRefusal → Caller → Caller
drawn_by (Ok id) c = record c { drawn = Some id.number }
drawn_by (Err (steps.Refused (refusals.IdsSpent next))) c = record c { spent = true }
drawn_by (Err e) c = c

-- a blob was fetched: what is told of it is noted
abbrev pub found_by : {F : Type 0} → (F → Option Bytes) → BlobName → Option F → Caller → Caller
found_by left name None c = record c { fetched = name ∷ c.fetched }
found_by left name (Some f) c = caller_told c name (left f)

-- test blobs of these names were removed
abbrev pub removed_more : List BlobName → Caller → Caller
removed_more names c = record c { removed = names ++ c.removed }
