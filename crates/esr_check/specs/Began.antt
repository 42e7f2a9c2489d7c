-- What a check adds to a history.
use Rattle.std.specs.Prelude.{◌≡◌, ◌≢◌, ℕ, List, ◌∷◌, [], ◌++◌, Result}
use Rattle.esr_model.specs.Values.{Has}
use Rattle.esr_core.specs.Entry.{Read, ReadBlob, RestoredShard, CheckedAll, DrawTest, BeginTest, CommitTest, RemoveTests, VerifiedAll, ReadFails, LookStep, ReadStep, HasEnded, Moment}
use Rattle.esr_desk.specs.Start.{Start, Legal}
use Rattle.esr_desk.specs.Check.Shown.{AllFetches}
use Rattle.esr_desk.specs.Asks.{Asks}
use Rattle.esr_desk.specs.declared.unit.UnitRefusal.{UnitRefusal}

-- a further step of a check, after its look
abbrev pub IsOfCheck : Read → Type 0
IsOfCheck (ReadBlob name) = Unit {0}
IsOfCheck (CheckedAll snapshots blobs) = Unit {0}
IsOfCheck (ReadFails why) = Unit {0}
IsOfCheck (RestoredShard files bytes) = ⊥
IsOfCheck DrawTest = ⊥
IsOfCheck (BeginTest name) = ⊥
IsOfCheck (CommitTest name) = ⊥
IsOfCheck (RemoveTests names) = ⊥
IsOfCheck VerifiedAll = ⊥

-- each is a further step of who 0
abbrev pub AllOfCheck : List Moment → Type 0
AllOfCheck [] = Unit {0}
AllOfCheck (m ∷ more) = (m.entry.who ≡ 0) × ((read : Read) × (m.entry.step ≡ ReadStep read) × IsOfCheck read) × AllOfCheck more

-- the history went on by further steps of the check
pub record GrewOfCheck (s : Start) (old new : List Moment) : Type 0 where
  pub more : List Moment
  pub is : new ≡ old ++ more
  pub legal : Legal s old → Legal s new
  pub all : AllOfCheck more

-- the history went on by a look and further steps of its check
pub record HasBegun (old new : List Moment) : Type 0 where
  pub look : Moment
  pub rest : List Moment
  pub is : new ≡ old ++ look ∷ rest
  pub looker : look.entry.who ≡ 0
  pub looks : look.entry.step ≡ LookStep
  pub all : AllOfCheck rest

-- the history didn't go on; or it went on by a look and further steps of its check
pub data BeganOne (old new : List Moment) : Type 0 where
  NotBegun : new ≡ old → BeganOne old new
  Begun : HasBegun old new → BeganOne old new

-- By its answer: it looked, unless memory was wanting or turns were spent; then it may have made no step.
abbrev pub AsksOne : {X : Type 0} → List Moment → List Moment → Result X UnitRefusal → Type 0
AsksOne old new result = Asks (HasBegun old new) (BeganOne old new) result

-- no check ended well in what was added
pub record NoneChecked (old new : List Moment) : Type 0 where
  pub more : List Moment
  pub is : new ≡ old ++ more
  pub none : (m : Moment) (snapshots blobs : ℕ) → Has more m → m.entry.step ≡ ReadStep (CheckedAll snapshots blobs) → m.entry.reply ≢ HasEnded

-- a check ends by it
abbrev pub IsCheckEnd : Read → Type 0
IsCheckEnd (CheckedAll snapshots blobs) = Unit {0}
IsCheckEnd (ReadFails why) = Unit {0}
IsCheckEnd read = ⊥

-- the history went on by a look of who 0, fetches, and the end of the check
pub record HasEndedCheck (old new : List Moment) : Type 0 where
  pub look : Moment
  pub fetches : List Moment
  pub end : Moment
  pub is : new ≡ old ++ look ∷ fetches ++ end ∷ []
  pub looker : look.entry.who ≡ 0
  pub looks : look.entry.step ≡ LookStep
  pub all : AllFetches fetches
  pub ender : end.entry.who ≡ 0
  pub read : Read
  pub ends : end.entry.step ≡ ReadStep read
  pub is_end : IsCheckEnd read
  pub ended : end.entry.reply ≡ HasEnded
