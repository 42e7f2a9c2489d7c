-- The laws of the core on which a run rests.
use Rattle.std.specs.Prelude.{◌≡◌, ◌≢◌, ◌⊎◌, ℕ, suc, ◌+◌, ◌*◌, ◌^◌, ◌≤◌, List, [], ◌∷◌, ◌++◌, length, Some, true, false}
use Rattle.std.specs.FinMap as fin
use Rattle.esr_model.specs.Values.{Has, Formats, ReadsBack, RootData, ClusterRecord}
use Rattle.esr_model.specs.Image.{Image, Blobs}
use Rattle.esr_model.specs.Kept.{first_id, Kept}
use Rattle.esr_model.specs.Shelf.{Shelved, shelf_after}
use Rattle.esr_core.specs.World.{World, Ticket, image_of, record_of, opened, Opened}
use Rattle.esr_core.specs.Entry.{Asked, Read, AskStep, TakeStep, ElectStep, LookStep, ReadStep, Refusal, Refused, Given, Gave, Moment, SettleStep, SettlePruned, PruneStep, WasSettled}
use Rattle.esr_core.specs.After.{after}
use Rattle.esr_core.specs.History.{world_from, IsLegal, TellsHandedOut, AreTold, committed}
use Rattle.esr_core.specs.Sources.{HonestUploads, AreOfSources, AreOfOps}
use Rattle.esr_law.specs.Digests.{AskNoSnapshot, AreClones, IsWholeByDigests}
use Rattle.esr_law.specs.Spent.{ids_in, SpentSo}
use Rattle.esr_law.specs.Reach.{RefusesUnlisted}
use Rattle.esr_bounds.specs.Units.{shards_in}
use Rattle.esr_bounds.specs.Work.{work_of, asks_in, restores_in}
use Rattle.esr_bounds.specs.Clones.{bare_steps, indices_by, sum_of, most_asked_shards, most_asked_work}
use Rattle.esr_bounds.specs.Clients.{commands_in, draws_in, looks_in}
use Rattle.esr_bounds.specs.Others.{lost_in, most_shards, most_of_all}
use Rattle.esr_core.specs.Ids.{Law}
use Rattle.esr_core.specs.Allowed.{Allowed}
use Rattle.esr_core.specs.Causes.{TakeGave}
use Rattle.esr_core.specs.Tracked.{Tracked}
use Rattle.esr_core.specs.Ranked.{Ranked}
use Rattle.esr_core.specs.ReadTracked.{ReadTracked}
use Rattle.esr_core.specs.Left.{Leaves, safe_in}
use Rattle.esr_core.specs.Refusing.{RefusedSo, SwapFailed}
use Rattle.esr_desk.specs.Start.{Start, Legal, formats_of, no_ticket, ticket_of}
use Rattle.esr_desk.specs.Once.{NoneTwice}
use Rattle.esr_desk.specs.declared.fault.Fault.{Fault}
use Rattle.esr_desk.specs.Evidence.{Evidence}
use Rattle.esr_desk.specs.declared.hand.Hand.TheVariants as hands
use Rattle.esr_script.specs.declared.item.ScriptLine.{ScriptLine}
use Rattle.esr_report.specs.Replies.{replies}
use Rattle.esr_quiet.specs.Asked.{asked_steps}
use Rattle.esr_quiet.specs.Caused.{AreCaused}
use Rattle.esr_quiet.specs.Numbers.{HasNoTickets}
use Rattle.esr_quiet.specs.OverKept.{OverKept}
use Rattle.esr_quiet.specs.Undamaged.{NoUnitFindsDamage, NoRestoreFindsDamage, NoDeleteFindsDamage, NoCheckFindsDamage}
use Rattle.esr_quiet.specs.Untaken.{NoneTaken}
use Rattle.esr_quiet.specs.Smooth.{IsSmooth, IsSpent, NoneFailed, NoneUndeleted, NoneUnrestored, NoneUnverified, NoneAsked}
use Rattle.esr_quiet.specs.Refusals.{AreByRule}
use Rattle.esr_complete.specs.Lines.{entries_of}
use Rattle.esr_complete.specs.Answers.{AreAnswered, EndsWell}
use Rattle.esr_complete.specs.FaultFree.{IsFaultFreeRun}
use Rattle.esr_run.specs.Tidy.{TidyLaws}
use Rattle.esr_run.specs.Cleaned.{CleanedLaw}

pub record Laws : Type 0 where
  pub read_tracked : (blobs : Blobs) (cluster : ClusterRecord) (root : RootData) → ReadTracked (opened blobs cluster root)
  pub lawful : (f : Formats) (image : Image) (shelf : List Shelved) (w : World) → Kept f image shelf → Opened f image w → Law f w shelf
  pub kept : (f : Formats) (w : World) (shelf : List Shelved) → Law f w shelf → ReadsBack f.cluster (record_of w) → Kept f (image_of f w) shelf
  pub one_shelf : (f : Formats) (image : Image) (a b : List Shelved) → Kept f image a → Kept f image b → a ≡ b
  pub left : (f : Formats) (part_size : ℕ) (image : Image) (shelf : List Shelved) (w : World) (log : List Moment) (i : Image) → Kept f image shelf → Opened f image w → ReadsBack f.cluster (record_of w)
      → IsLegal f part_size w log → AreTold log → Leaves f part_size w log i → Kept f i (shelf_after shelf (committed f (safe_in f i) w log))
  pub whole : (f : Formats) (image : Image) (shelf : List Shelved) → Kept f image shelf → IsWholeByDigests f image
  pub sourced : (f : Formats) (part_size : ℕ) (image : Image) (shelf : List Shelved) (w : World) (log : List Moment) → TellsHandedOut f w log → HonestUploads f w log → Kept f image shelf → Opened f image w
      → IsLegal f part_size w log → AreTold log → AreOfSources f w log
  pub counted : (f : Formats) (part_size : ℕ) (image : Image) (shelf : List Shelved) (w : World) (log : List Moment) → TellsHandedOut f w log → HonestUploads f w log → Kept f image shelf → Opened f image w
      → IsLegal f part_size w log → AreTold log → AreOfOps f w log
  pub stays : (f : Formats) (part_size : ℕ) (w : World) (before rest : List Moment) (m : Moment) (t : Ticket) (n : ℕ) (i : Image) → Tracked w → Ranked w → IsLegal f part_size w (before ++ m ∷ rest)
      → (m.entry.step ≡ SettleStep) ⊎ (m.entry.step ≡ PruneStep SettlePruned)
      → m.entry.reply ≡ WasSettled → fin.get (world_from f w before).tickets m.entry.who ≡ Some t → t.raised ≡ Some n → Leaves f part_size (after f (world_from f w before) m) rest i → suc n ≤ safe_in f i
  pub tidy : TidyLaws
  pub cleaned : CleanedLaw
  -- what is asked of sources and digests, where no snapshot is asked
  pub told : (f : Formats) (part_size : ℕ) (w : World) (log : List Moment) → Tracked w → AreClones w.ops → IsLegal f part_size w log → AskNoSnapshot log → TellsHandedOut f w log
  pub honest : (f : Formats) (part_size : ℕ) (w : World) (log : List Moment) → Tracked w → AreClones w.ops → IsLegal f part_size w log → AskNoSnapshot log → HonestUploads f w log

-- what steps leave of tickets
pub record StepsStay : Type 0 where
  pub nothing : (s : Start) (log : List Moment) (m : Moment) (k : ℕ) → Legal s (log ++ m ∷ []) → m.entry.who ≡ 0 → ((ticket op : ℕ) (unit : Given) → m.entry.reply ≢ Gave ticket op unit) → k ≢ 0
      → ticket_of s (log ++ m ∷ []) k ≡ ticket_of s log k
  pub none : (s : Start) (log : List Moment) → HasNoTickets s → ticket_of s log 0 ≡ no_ticket
  pub tracked : (f : Formats) (part_size : ℕ) (w : World) (log : List Moment) → Tracked w → IsLegal f part_size w log → Tracked (world_from f w log)
  pub asks : (f : Formats) (part_size : ℕ) (w : World) (m : Moment) (command : Asked) → Tracked w → Allowed f part_size w m → m.entry.step ≡ AskStep command → (after f w m).readers ≡ w.readers
  pub checks : (s : Start) (log : List Moment) (m : Moment) (read : Read) (k : ℕ) → Legal s (log ++ m ∷ []) → m.entry.who ≡ 0 → m.entry.step ≡ ReadStep read → k ≢ 0 → ticket_of s (log ++ m ∷ []) k ≡ ticket_of s log k
  pub reads : (f : Formats) (w : World) (m : Moment) (read : Read) → m.entry.who ≡ 0 → m.entry.step ≡ ReadStep read → (after f w m).readers ≡ w.readers
  pub looks : (f : Formats) (part_size : ℕ) (w : World) (m : Moment) → Tracked w → Allowed f part_size w m → m.entry.step ≡ LookStep → (after f w m).readers ≡ w.readers

-- steps of tickets, takes of units, and elections leave what who 0 has done of a check or a verification
abbrev pub WorkLeaves : Type 0
WorkLeaves = (f : Formats) (part_size : ℕ) (w : World) (m : Moment) → Allowed f part_size w m → (m.entry.who ≢ 0) ⊎ ((m.entry.step ≡ TakeStep) ⊎ (m.entry.step ≡ ElectStep)) → (after f w m).caller ≡ w.caller

-- why steps may be refused, and which world is deposed
pub record Refusals : Type 0 where
  pub of_steps : (f : Formats) (part_size : ℕ) (w : World) (m : Moment) (refusal : Refusal) → Allowed f part_size w m → m.entry.reply ≡ Refused refusal → RefusedSo w m.entry.who m.entry.step refusal
  pub deposed : (f : Formats) (w : World) (log : List Moment) → w.deposed ≡ false → (world_from f w log).deposed ≡ true → SwapFailed log

-- the laws of histories over kept containers that tell, whatever calls fail
pub record KeptLaws (S F H T : Type 0) : Type 0 where
  pub units : (e : Evidence S F H T) (s : Start) (log : List Moment) (faults : List (Fault S F H T)) → OverKept s log → AreCaused hands.Unit e s log faults → NoUnitFindsDamage log
  pub restores : (e : Evidence S F H T) (s : Start) (log : List Moment) (faults : List (Fault S F H T)) → OverKept s log → AreCaused hands.Restore e s log faults → NoRestoreFindsDamage log
  pub deletes : (e : Evidence S F H T) (s : Start) (log : List Moment) (faults : List (Fault S F H T)) → OverKept s log → AreCaused hands.Delete e s log faults → NoDeleteFindsDamage s log
  pub checks : (e : Evidence S F H T) (s : Start) (log : List Moment) (faults : List (Fault S F H T)) → OverKept s log → AreCaused hands.Check e s log faults → NoCheckFindsDamage log
  pub names : (s : Start) (log : List Moment) → OverKept s log → NoneTwice log → NoneTaken log

-- the laws of histories in which nothing fails
pub record QuietLaws (S F H T : Type 0) : Type 0 where
  pub fails : (e : Evidence S F H T) (s : Start) (log : List Moment) (faults : List (Fault S F H T)) → IsSmooth s log → AreCaused hands.Unit e s log faults → NoneFailed log
  pub deletes : (e : Evidence S F H T) (s : Start) (log : List Moment) (faults : List (Fault S F H T)) → IsSmooth s log → AreCaused hands.Delete e s log faults → NoneUndeleted s log
  pub restores : (e : Evidence S F H T) (s : Start) (log : List Moment) (faults : List (Fault S F H T)) → IsSmooth s log → s.sure_targets ≡ true → AreCaused hands.Restore e s log faults → NoneUnrestored log
  pub unasked : (s : Start) (log : List Moment) → IsSmooth s log → NoneAsked log → NoneUnrestored log
  pub verifies : (e : Evidence S F H T) (s : Start) (log : List Moment) (faults : List (Fault S F H T)) → IsSmooth s log → AreCaused hands.Check e s log faults → NoneUnverified log
  pub rules : (s : Start) (log : List Moment) → IsSmooth s log → AreByRule s log
  -- who 0 asks for no more than what lines ask for
  pub asks : (log : List Moment) → commands_in log + (looks_in log + draws_in log) ≤ length (asked_steps log)
  -- none of its fetches is lost, its restores and clones have few shards, and it is no longer than what it asks for
  pub found : (s : Start) (log : List Moment) → IsSmooth s log → lost_in log ≡ 0
  pub restored : (s : Start) (log : List Moment) → IsSmooth s log → restores_in log ≤ asks_in log * most_shards s.world log
  pub shards : (s : Start) (log : List Moment) → IsSmooth s log → shards_in log ≤ most_asked_shards (asks_in log) s.world (bare_steps log)
  pub work : (s : Start) (log : List Moment) (terms : ℕ) → IsSmooth s log → work_of (formats_of s) s.part_size terms log ≤ most_asked_work (formats_of s) s.part_size terms (asks_in log) s.world (bare_steps log)
  pub short : (s : Start) (log : List Moment) → IsSmooth s log → RefusesUnlisted (formats_of s) → length log ≤ most_of_all (formats_of s) s.part_size s.world log
  -- and it asks for few ids, also with one more step that is refused since a number is spent
  pub ids : (s : Start) (log : List Moment) (last : Moment) → IsSmooth s log → Legal s (log ++ last ∷ []) → AreTold (log ++ last ∷ []) → IsSpent last.entry.reply
      → ids_in (log ++ last ∷ []) ≤ suc (length log) * (2 ^ 32 + most_shards s.world log) + sum_of indices_by (bare_steps (log ++ last ∷ []))
  pub answered : (s : Start) (log : List Moment) (lines : List ScriptLine) (moment : ℕ) → IsFaultFreeRun s log lines moment → AreAnswered lines (replies lines (entries_of log))
  pub ends : (s : Start) (log : List Moment) (lines : List ScriptLine) (moment : ℕ) → IsFaultFreeRun s log lines moment → EndsWell lines (entries_of log)
  -- which number is spent where a step is refused so
  pub spent : (f : Formats) (part_size : ℕ) (w : World) (log : List Moment) (m : Moment) (refusal : Refusal) → w.next_id ≡ first_id w.term → IsLegal f part_size w log → Has log m → m.entry.reply ≡ Refused refusal
      → SpentSo w log refusal
  -- a unit is given by a take, and the work of units leaves verifications
  pub gave : (f : Formats) (part_size : ℕ) (w : World) (m : Moment) (k o : ℕ) (unit : Given) → Allowed f part_size w m → m.entry.reply ≡ Gave k o unit → TakeGave f w m.entry.who m.entry.step k o unit
  pub leaves : WorkLeaves
