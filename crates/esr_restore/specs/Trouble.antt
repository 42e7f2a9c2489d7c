-- What ends the unit of a restore's shard before its time.
use Rattle.std.specs.Prelude.{◌≡◌, ◌⊎◌, ◌<◌, ℕ, Bool, true, false, List, Option, Some, None}
use Rattle.esr_core.specs.Entry.{Moment}
use Rattle.esr_hash.specs.declared.print.Print.{Print}
use Rattle.esr_names.specs.declared.ids.Id.{Id}
use Rattle.esr_names.specs.declared.blob.ShardId.{ShardId}
use Rattle.esr_names.specs.declared.blob.BlobName.TheVariants as names
use Rattle.esr_shardidx.specs.declared.entry.FileEntry.{FileEntry as CodeEntry}
use Rattle.esr_desk.specs.declared.entry.Why.{Why}
use Rattle.esr_desk.specs.declared.entry.Why.TheVariants as whys
use Rattle.esr_desk.specs.declared.hand.Hand.TheVariants as hands
use Rattle.esr_desk.specs.declared.refusal.StepRefusal.TheVariants.{Memory}
use Rattle.esr_desk.specs.Start.{Start}
use Rattle.esr_desk.specs.Evidence.{Evidence}
use Rattle.esr_unit.specs.declared.trouble.Trouble.{Trouble}
use Rattle.esr_unit.specs.declared.trouble.Trouble.TheVariants as troubles
use Rattle.esr_unit.specs.Shown.{Shown}

-- the target has failed so often, which one that is sure doesn't
abbrev pub FaultyTarget : ℕ → Bool → Type 0
FaultyTarget count sure = (0 < count) × (sure ≡ false)

-- what ends the unit is shown; where its own object did, the target has failed
abbrev pub IsTrouble : {S F H T : Type 0} → Evidence S F H T → ℕ → Bool → Start → List Moment → ℕ → Trouble S F → Type 0
IsTrouble {S} {F} {H} {T} e count sure s log who trouble = Shown {S = S} {F = F} {H = H} {T = T} hands.Restore e (FaultyTarget count sure) s log who trouble

-- there was no memory to begin a file, or the target failed
abbrev pub IsOfStart : {S F : Type 0} → ℕ → Bool → Trouble S F → Type 0
IsOfStart count sure (troubles.Step refusal) = refusal ≡ Memory
IsOfStart count sure troubles.Own = FaultyTarget count sure
IsOfStart count sure trouble = ⊥

-- the print that was found isn't the stated one
abbrev pub IsOther : ShardId → CodeEntry → Print → Why → Type 0
IsOther at e found why = (why ≡ whys.Misprinted (names.Whole at e.name) e.print found) × (e.print ≡ found → ⊥)

-- it is, but some part hasn't the size that is stated
abbrev pub IsCutOtherwise : ShardId → Id → CodeEntry → Print → Bool → Why → Type 0
IsCutOtherwise at uuid e found exact why = (why ≡ whys.Disagreeing (names.Whole at e.name) (names.ShardSnap at uuid)) × (e.print ≡ found) × (exact ≡ false)

-- what is wrong with a file, if anything is
abbrev pub Judged : ShardId → Id → CodeEntry → Print → Bool → Option Why → Type 0
Judged at uuid e found exact None = (e.print ≡ found) × (exact ≡ true)
Judged at uuid e found exact (Some why) = IsOther at e found why ⊎ IsCutOtherwise at uuid e found exact why
