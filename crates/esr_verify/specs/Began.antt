-- What a verification adds to a history.
use Rattle.std.specs.Prelude.{◌≡◌, ◌≢◌, List, [], ◌∷◌, ◌++◌, Result}
use Rattle.esr_model.specs.Values.{Has}
use Rattle.esr_core.specs.Entry.{Read, ReadBlob, RestoredShard, CheckedAll, DrawTest, BeginTest, CommitTest, RemoveTests, VerifiedAll, ReadFails, ReadStep, HasEnded, Moment}
use Rattle.esr_desk.specs.Asks.{Asks}
use Rattle.esr_desk.specs.declared.unit.UnitRefusal.{UnitRefusal}

-- a further step of a verification, after its draw
abbrev pub IsFurther : Read → Type 0
IsFurther (ReadBlob name) = Unit {0}
IsFurther (BeginTest name) = Unit {0}
IsFurther (CommitTest name) = Unit {0}
IsFurther (RemoveTests names) = Unit {0}
IsFurther VerifiedAll = Unit {0}
IsFurther (ReadFails why) = Unit {0}
IsFurther DrawTest = ⊥
IsFurther (RestoredShard files bytes) = ⊥
IsFurther (CheckedAll snapshots blobs) = ⊥

-- each is a further step of who 0
abbrev pub AllFurther : List Moment → Type 0
AllFurther [] = Unit {0}
AllFurther (m ∷ more) = (m.entry.who ≡ 0) × ((read : Read) × (m.entry.step ≡ ReadStep read) × IsFurther read) × AllFurther more

-- the history went on by a draw and further steps of its verification
pub record HasBegun (old new : List Moment) : Type 0 where
  pub draw : Moment
  pub rest : List Moment
  pub is : new ≡ old ++ draw ∷ rest
  pub drawer : draw.entry.who ≡ 0
  pub drew : draw.entry.step ≡ ReadStep DrawTest
  pub all : AllFurther rest

-- the history didn't go on; or it went on by a draw and further steps of its verification
pub data BeganOne (old new : List Moment) : Type 0 where
  NotBegun : new ≡ old → BeganOne old new
  Begun : (draw : Moment) (rest : List Moment) → new ≡ old ++ draw ∷ rest → draw.entry.who ≡ 0 → draw.entry.step ≡ ReadStep DrawTest → AllFurther rest → BeganOne old new

-- By its answer: it drew, unless memory was wanting or turns were spent; then it may have made no step.
abbrev pub AsksOne : {X : Type 0} → List Moment → List Moment → Result X UnitRefusal → Type 0
AsksOne old new result = Asks (HasBegun old new) (BeganOne old new) result

-- no verification ended well in what was added
pub record NoneVerified (old new : List Moment) : Type 0 where
  pub more : List Moment
  pub is : new ≡ old ++ more
  pub none : (m : Moment) → Has more m → m.entry.step ≡ ReadStep VerifiedAll → m.entry.reply ≢ HasEnded
