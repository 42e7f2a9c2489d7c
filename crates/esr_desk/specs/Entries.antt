-- The entries of the history, as the definitions see them.
use Rattle.std.specs.Prelude.{Some, map, option_map}
use Rattle.esr_core.specs.Entry as entry
use Rattle.esr_core.specs.Entry.{Clone, AskStep, TakeStep, DrawStep, BeginStep, CommitStep, LatestStep, FetchStep, ListStep, RaiseStep, SettleStep, DoneStep, FailedStep, FinishStep, DroppedStep, ElectStep, LookStep, ReadStep, PruneStep, ReadBlob, RestoredShard, CheckedAll, DrawTest, BeginTest, CommitTest, RemoveTests, VerifiedAll, ReadFails, FetchShard, PlanShards, SettlePruned, RemoveDoomed, EndDelete, DeleteFails}
use Rattle.esr_core.specs.Entry.{OfDepot, OfSource, OfChange, OfAbsence, OfUnreadable, OfAhead, OfTaken, OfAbort, OfIdsSpent, OfGenerationsSpent, OfTarget, OfPrint, OfDisagreement, GivenShard, GivenFinalize, GivenDrop, GivenRestore, GivenClone, GivenDelete, GivenCleanup}
use Rattle.esr_core.specs.Entry.{Accepted, NothingReady, Gave, DrawnFrom, WasBegun, WasDone, WasThere, WasReplaced, WasFetched, WasAbsent, WasListed, RaisedTo, WasSettled, HasEnded, ElectedTerm, Looked, Refused, WasRemoved, AcceptedRestore}
use Rattle.esr_formats.specs.Ids.{number_of}
use Rattle.esr_formats.specs.Names.{name_of}
use Rattle.esr_formats.specs.Reasons.{reason_of}
use Rattle.esr_formats.specs.Refs.{ref_of_code}
use Rattle.esr_formats.specs.Roots.{root_snap_of}
use Rattle.esr_formats.specs.Infos.{info_of_code}
use Rattle.esr_formats.specs.Clusters.{count_of}
use Rattle.esr_results.specs.Pruned.{pruned_of}
use Rattle.esr_results.specs.Results.{result_of}
use Rattle.esr_ops.specs.Asked.{asked_of}
use Rattle.esr_desk.specs.declared.entry.Why.{Why}
use Rattle.esr_desk.specs.declared.entry.Why.TheVariants as whys
use Rattle.esr_desk.specs.declared.entry.Read.{Read}
use Rattle.esr_desk.specs.declared.entry.Read.TheVariants as reads
use Rattle.esr_desk.specs.declared.entry.Prune.{Prune}
use Rattle.esr_desk.specs.declared.entry.Prune.TheVariants as prunes
use Rattle.esr_desk.specs.declared.entry.CloneOf.{CloneOf}
use Rattle.esr_desk.specs.declared.entry.Step.{Step}
use Rattle.esr_desk.specs.declared.entry.Step.TheVariants as steps
use Rattle.esr_desk.specs.declared.entry.Given.{Given}
use Rattle.esr_desk.specs.declared.entry.Given.TheVariants as units
use Rattle.esr_desk.specs.declared.entry.Answer.{Answer}
use Rattle.esr_desk.specs.declared.entry.Answer.TheVariants as answers
use Rattle.esr_desk.specs.Refusals.{refusal_of}
use Rattle.esr_desk.specs.Listing.{page_of}

abbrev pub why_of : Why → entry.Why
why_of whys.Depot = OfDepot
why_of whys.Source = OfSource
why_of (whys.Changed first second) = OfChange first.len first.sha256 second.len second.sha256
why_of (whys.Absent name) = OfAbsence (name_of name)
why_of (whys.Unreadable name reason) = OfUnreadable (name_of name) (reason_of reason)
why_of (whys.Ahead name id) = OfAhead (name_of name) id.number
why_of (whys.NameTaken name) = OfTaken (name_of name)
why_of (whys.Aborted op) = OfAbort op
why_of (whys.IdsSpent next) = OfIdsSpent next.number
why_of (whys.GenerationsSpent number) = OfGenerationsSpent (count_of number)
why_of whys.Target = OfTarget
why_of (whys.Misprinted name stated found) = OfPrint (name_of name) stated.len stated.sha256 found.len found.sha256
why_of (whys.Disagreeing name other) = OfDisagreement (name_of name) (name_of other)

abbrev pub read_of : Read → entry.Read
read_of (reads.Blob name) = ReadBlob (name_of name)
read_of (reads.Restored files bytes) = RestoredShard files bytes
read_of (reads.Checked snapshots blobs) = CheckedAll snapshots blobs
read_of reads.DrawTest = DrawTest
read_of (reads.BeginTest name) = BeginTest (name_of name)
read_of (reads.CommitTest name) = CommitTest (name_of name)
read_of (reads.RemoveTests names) = RemoveTests (map name_of names)
read_of reads.Verified = VerifiedAll
read_of (reads.Failed why) = ReadFails (why_of why)

abbrev pub prune_of : Prune → entry.Prune
prune_of (prunes.Shard name) = FetchShard (name_of name)
prune_of (prunes.Plan shards) = PlanShards (map pruned_of shards)
prune_of prunes.Settle = SettlePruned
prune_of (prunes.Remove names) = RemoveDoomed (map name_of names)
prune_of prunes.End = EndDelete
prune_of (prunes.Failed why) = DeleteFails (why_of why)

abbrev pub cloned_of : CloneOf → entry.CloneOf
cloned_of taken = record { source = taken.source.number; indices = map ref_of_code taken.indices }

abbrev pub step_of : Step → entry.Step
step_of (steps.Ask command) = AskStep (asked_of command)
step_of (steps.AskClone source name indices moment taken) = AskStep (Clone source name indices moment (Some (cloned_of taken)))
step_of steps.Take = TakeStep
step_of (steps.Draw count) = DrawStep count
step_of (steps.Begin name) = BeginStep (name_of name)
step_of (steps.Commit name) = CommitStep (name_of name)
step_of steps.Latest = LatestStep
step_of (steps.Fetch name) = FetchStep (name_of name)
step_of (steps.List after) = ListStep after
step_of steps.Raise = RaiseStep
step_of steps.Settle = SettleStep
step_of (steps.Done result) = DoneStep (result_of result)
step_of (steps.Failed why) = FailedStep (why_of why)
step_of steps.Finish = FinishStep
step_of steps.Dropped = DroppedStep
step_of steps.Elect = ElectStep
step_of steps.Look = LookStep
step_of (steps.Read read) = ReadStep (read_of read)
step_of (steps.Prune prune) = PruneStep (prune_of prune)

abbrev pub unit_of : Given → entry.Given
unit_of (units.Shard shard base) = GivenShard shard.index.number shard.number (option_map number_of base)
unit_of (units.Finalize info shards) = GivenFinalize (info_of_code info) (map result_of shards)
unit_of units.Drop = GivenDrop
unit_of (units.RestoreShard shard uuid) = GivenRestore shard.index.number shard.number uuid.number
unit_of (units.CloneShard shard source base) = GivenClone shard.index.number shard.number source.number (option_map number_of base)
unit_of (units.Delete uuids) = GivenDelete (map number_of uuids)
unit_of units.Cleanup = GivenCleanup

abbrev pub answer_of : Answer → entry.Reply
answer_of (answers.Accepted op) = Accepted op
answer_of (answers.AcceptedRestore op uuid indices) = AcceptedRestore op uuid.number (map ref_of_code indices)
answer_of answers.NothingReady = NothingReady
answer_of (answers.Gave ticket op unit) = Gave ticket op (unit_of unit)
answer_of (answers.Drawn first) = DrawnFrom first.number
answer_of answers.Begun = WasBegun
answer_of answers.Done = WasDone
answer_of answers.Exists = WasThere
answer_of answers.Replaced = WasReplaced
answer_of answers.Fetched = WasFetched
answer_of answers.Absent = WasAbsent
answer_of (answers.Listed page) = WasListed (page_of page)
answer_of answers.Removed = WasRemoved
answer_of (answers.Raised generation) = RaisedTo generation
answer_of answers.Settled = WasSettled
answer_of answers.Ended = HasEnded
answer_of (answers.Elected term) = ElectedTerm term
answer_of (answers.Looked snapshots safe) = Looked (map root_snap_of snapshots) (count_of safe)
answer_of (answers.Refused refusal) = Refused (refusal_of refusal)
