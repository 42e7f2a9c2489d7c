-- What shows a trouble.
use Rattle.std.specs.Prelude.{◌≡◌, ◌⊎◌, ℕ, Bool, true, false, List, Option, Some, None}
use Rattle.esr_model.specs.Names.{BlobName}
use Rattle.esr_core.specs.Entry.{WasAbsent, Reply, Refused, DepotFault, Moment}
use Rattle.esr_formats.specs.Names.{name_of}
use Rattle.esr_formats.specs.Reasons.{reason_of}
use Rattle.esr_hash.specs.declared.print.Print.{Print}
use Rattle.esr_names.specs.declared.blob.BlobName.TheVariants as names
use Rattle.esr_names.specs.declared.blob.ShardId.{ShardId}
use Rattle.esr_names.specs.declared.ids.Id.{Id}
use Rattle.esr_shardidx.specs.declared.entry.FileEntry.{FileEntry as CodeEntry}
use Rattle.esr_desk.specs.declared.entry.Why.{Why}
use Rattle.esr_desk.specs.declared.entry.Why.TheVariants as whys
use Rattle.esr_desk.specs.declared.refusal.EntryRefusal.TheVariants as refusals
use Rattle.esr_desk.specs.declared.refusal.StepRefusal.{StepRefusal}
use Rattle.esr_desk.specs.declared.refusal.StepRefusal.TheVariants as steps
use Rattle.esr_desk.specs.Start.{Start}
use Rattle.esr_desk.specs.Outcome.{Grounds}
use Rattle.esr_desk.specs.Evidence.{Faulty}
use Rattle.esr_desk.specs.Own.{caller_of}
use Rattle.esr_desk.specs.Check.Shown.{SinceLook, HadFetchIn, DoesNotRead, IsMisprinted, Disagree}
use Rattle.esr_unit.specs.declared.trouble.Trouble.{Trouble}
use Rattle.esr_unit.specs.declared.trouble.Trouble.TheVariants as troubles

-- a look began the check, since then there are fetches alone, and one of this blob was answered so
pub record HadAnswer (log : List Moment) (name : BlobName) (reply : Reply) : Type 0 where
  pub since : SinceLook log
  pub had : HadFetchIn since.fetches name reply

-- A fetch was refused, since the container failed in it, which then isn't quiet; or memory was wanting, or turns were spent. For nothing
-- else a fetch is refused after the look.
abbrev pub IsFetchRefusal : Start → List Moment → StepRefusal → Type 0
IsFetchRefusal s log steps.Memory = Unit {0}
IsFetchRefusal s log steps.TurnsSpent = Grounds s log 0 steps.TurnsSpent
IsFetchRefusal s log (steps.Refused refusals.DepotFault) = ((name : BlobName) × HadAnswer log name (Refused DepotFault)) × (s.quiet ≡ false)
IsFetchRefusal s log (steps.Refused refusal) = ⊥

-- what was read shows that the safe root isn't whole
abbrev pub IsFound : Start → List Moment → Why → Type 0
IsFound s log (whys.Absent name) = HadAnswer log (name_of name) WasAbsent
IsFound s log (whys.Unreadable name reason) = DoesNotRead s (caller_of s log) (name_of name) (reason_of reason)
IsFound s log (whys.Misprinted name stated found) = IsMisprinted s (caller_of s log) (name_of name) stated.len stated.sha256 found.len found.sha256
IsFound s log (whys.Disagreeing name other) = Disagree s (caller_of s log) (name_of name) (name_of other)
IsFound s log why = ⊥

-- A fetch was refused; or an object failed, and the container isn't quiet; or what was read shows it.
abbrev pub Shown : {S F : Type 0} → (F → ℕ) → Start → List Moment → Trouble S F → Type 0
Shown fetch_faults s log (troubles.Step refusal) = IsFetchRefusal s log refusal
Shown fetch_faults s log (troubles.Fetch fetch) = Faulty s (fetch_faults fetch)
Shown fetch_faults s log (troubles.Found why) = IsFound s log why
Shown fetch_faults s log trouble = ⊥

-- the print that was found isn't the stated one
abbrev pub IsOther : ShardId → CodeEntry → Print → Why → Type 0
IsOther at e found why = (why ≡ whys.Misprinted (names.Whole at e.name) e.print found) × (e.print ≡ found → ⊥)

-- it is, but some part hasn't the size that is stated
abbrev pub IsCutOtherwise : ShardId → Id → CodeEntry → Print → Bool → Why → Type 0
IsCutOtherwise at generation e found exact why = (why ≡ whys.Disagreeing (names.Whole at e.name) (names.ShardIndex at generation)) × (e.print ≡ found) × (exact ≡ false)

-- what is wrong with a file, if anything is
abbrev pub Judged : ShardId → Id → CodeEntry → Print → Bool → Option Why → Type 0
Judged at generation e found exact None = (e.print ≡ found) × (exact ≡ true)
Judged at generation e found exact (Some why) = IsOther at e found why ⊎ IsCutOtherwise at generation e found exact why
