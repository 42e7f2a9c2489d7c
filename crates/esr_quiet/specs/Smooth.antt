-- A history over quiet objects that tell, in which no number was spent.
use Rattle.std.specs.Prelude.{◌≡◌, ◌≢◌, ◌≤◌, ℕ, true, false, List, ◌∷◌, ◌++◌, None}
use Rattle.esr_model.specs.Names.{BlobName}
use Rattle.esr_model.specs.Values.{Bytes, Has}
use Rattle.esr_model.specs.Shelf.{Shelved}
use Rattle.esr_model.specs.Image.{Image}
use Rattle.esr_model.specs.Kept.{Kept}
use Rattle.esr_core.specs.World.{Opened}
use Rattle.esr_core.specs.Entry.{Asked, Restore, GivenCleanup, AskStep, FailedStep, Why, ElectStep, ReadStep, PruneStep, DeleteFails, ReadBlob, CheckedAll, DrawTest, ReadFails, Reply, Gave, HasEnded, WasFetched, Refused, DepotFault, IdsSpent, GenerationsSpent, TermsSpent, Moment}
use Rattle.esr_core.specs.History.{AllKnown, AreTold}
use Rattle.esr_desk.specs.Start.{Start, formats_of, world_of, Legal, ticket_of}
use Rattle.esr_desk.specs.Once.{AreOnce}
use Rattle.esr_desk.specs.Grew.{NoneOut}
use Rattle.esr_desk.specs.Own.{caller_of}
use Rattle.esr_desk.specs.Verify.Tested.{AreTested}
use Rattle.esr_quiet.specs.Asked.{AreSteady}

-- no step was refused since the container failed
abbrev pub AreCalm : List Moment → Type 0
AreCalm log = (m : Moment) → Has log m → m.entry.reply ≢ Refused DepotFault

-- nor since a number was spent
abbrev pub IsSpent : Reply → Type 0
IsSpent (Refused (IdsSpent next)) = Unit {0}
IsSpent (Refused (GenerationsSpent pending)) = Unit {0}
IsSpent (Refused (TermsSpent term)) = Unit {0}
IsSpent reply = ⊥

abbrev pub AreUnspent : List Moment → Type 0
AreUnspent log = (m : Moment) → Has log m → IsSpent m.entry.reply → ⊥

-- who 0 was to elect a master
abbrev pub HasElection : List Moment → Type 0
HasElection log = (m : Moment) × Has log m × (m.entry.who ≡ 0) × (m.entry.step ≡ ElectStep)

-- the ticket is of an older term: a master was elected since it was given
pub record IsStaleTicket (s : Start) (log : List Moment) (who : ℕ) : Type 0 where
  pub elected : HasElection log
  pub apart : (ticket_of s log who).term ≢ (world_of s log).term

-- who 0 asks for nothing while a ticket is out
abbrev pub AreApart : Start → List Moment → Type 0
AreApart s log = (front back : List Moment) (m : Moment) (command : Asked) → log ≡ front ++ m ∷ back → m.entry.who ≡ 0 → m.entry.step ≡ AskStep command → NoneOut s front

-- no ticket of a cleanup is out
abbrev pub NoneCleaning : Start → List Moment → Type 0
NoneCleaning s log = (k : ℕ) → (ticket_of s log k).clean ≡ true → (ticket_of s log k).out ≡ false

-- No cleanup is worked beside a verification, whose test blobs it would take away: none is given while one is open, nor does one begin
-- while a cleanup's ticket is out.
pub record AreTestsApart (s : Start) (log : List Moment) : Type 0 where
  pub given : (front back : List Moment) (m : Moment) (ticket op : ℕ) → log ≡ front ++ m ∷ back → m.entry.reply ≡ Gave ticket op GivenCleanup → (caller_of s front).drawn ≡ None
  pub drawn : (front back : List Moment) (m : Moment) → log ≡ front ++ m ∷ back → m.entry.who ≡ 0 → m.entry.step ≡ ReadStep DrawTest → NoneCleaning s front

-- The container told its image, which was kept, at the start and at each moment, and no call of it failed; the sources tell
-- all files, no shard that was asked for fails, and nobody asks while a ticket is out, so that no delete aborts its op.
pub record IsSmooth (s : Start) (log : List Moment) : Type 0 where
  pub tells : s.tells ≡ true
  pub quiet : s.quiet ≡ true
  pub known : AllKnown (formats_of s)
  pub image : Image
  pub shelf : List Shelved
  pub kept : Kept (formats_of s) image shelf
  pub opened : Opened (formats_of s) image s.world
  pub legal : Legal s log
  pub told : AreTold log
  pub once : AreOnce s log
  pub tested : AreTested s log
  pub steady : AreSteady s log
  pub calm : AreCalm log
  pub unspent : AreUnspent log
  pub apart : AreApart s log
  pub tests_apart : AreTestsApart s log

-- no unit failed
abbrev pub NoneFailed : List Moment → Type 0
NoneFailed log = (m : Moment) (why : Why) → Has log m → m.entry.step ≡ FailedStep why → m.entry.reply ≢ HasEnded

-- no delete failed, nor a cleanup: only a stale ticket told so, which ends that ticket alone
abbrev pub NoneUndeleted : Start → List Moment → Type 0
NoneUndeleted s log = (front back : List Moment) (m : Moment) (why : Why) → log ≡ front ++ m ∷ back → m.entry.step ≡ PruneStep (DeleteFails why) → m.entry.reply ≡ HasEnded → IsStaleTicket s front m.entry.who

-- no ticket of a restore failed
abbrev pub NoneUnrestored : List Moment → Type 0
NoneUnrestored log = (m : Moment) (why : Why) → Has log m → 1 ≤ m.entry.who → m.entry.step ≡ ReadStep (ReadFails why) → m.entry.reply ≢ HasEnded

-- no verification failed, nor a check
abbrev pub NoneUnverified : List Moment → Type 0
NoneUnverified log = (m : Moment) (why : Why) → Has log m → m.entry.who ≡ 0 → m.entry.step ≡ ReadStep (ReadFails why) → m.entry.reply ≢ HasEnded

-- no check has ended well
abbrev pub NoneChecked : List Moment → Type 0
NoneChecked log = (m : Moment) (snapshots blobs : ℕ) → Has log m → m.entry.who ≡ 0 → m.entry.step ≢ ReadStep (CheckedAll snapshots blobs)

-- who 0 asked no restore
abbrev pub NoneAsked : List Moment → Type 0
NoneAsked log = (m : Moment) (name place : Bytes) → Has log m → m.entry.who ≡ 0 → m.entry.step ≢ AskStep (Restore name place)

-- who 0 was to draw an id, with which a verification begins
abbrev pub HasDrawn : List Moment → Type 0
HasDrawn log = (m : Moment) × Has log m × (m.entry.who ≡ 0) × (m.entry.step ≡ ReadStep DrawTest)

-- each blob that a restore, a check or a verification fetched was there
abbrev pub EachFetchFinds : List Moment → Type 0
EachFetchFinds log = (m : Moment) (name : BlobName) → Has log m → m.entry.step ≡ ReadStep (ReadBlob name) → m.entry.reply ≡ WasFetched
