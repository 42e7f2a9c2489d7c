-- Over a kept container that tells a run finds nothing damaged, and no name taken.
use Rattle.std.proofs.Common.{◌≡◌, ℕ, Bool, List, Some, is_some, ap}
use Rattle.esr_model.specs.Shelf.{Shelved}
use Rattle.esr_core.specs.World.{World, Opened}
use Rattle.esr_core.specs.Entry.{Entry, Moment}
use Rattle.esr_depot.specs.Image.{Image as Held}
use Rattle.esr_depot.specs.Look.{Look, now}
use Rattle.esr_desk.specs.declared.fault.Fault.{Fault}
use Rattle.esr_desk.specs.declared.hand.Hand.TheVariants as hands
use Rattle.esr_desk.specs.Once.{NoneTwice}
use Rattle.esr_desk.specs.Start.{Start, Legal}
use Rattle.esr_repo.specs.Log.{image_of, log_of}
use Rattle.esr_quiet.specs.OverKept.{OverKept}
use Rattle.esr_desk.specs.Evidence.{Evidence}
use Rattle.esr_desk.specs.Shown.{AreShown}
use Rattle.esr_run.specs.Start.{Telling, formats_by, start_of}
use Rattle.esr_run.specs.Images.{Holds}
use Rattle.esr_run.specs.Laws.{KeptLaws}
use Rattle.esr_run.specs.Told.{StaysTold}
use Rattle.esr_run.specs.Undamaged.{FindsNoDamage, StaysUndamaged}

module _ {S F H T : Type 0} (laws : KeptLaws S F H T) (evidence : Evidence S F H T) (files : Telling) (size : ℕ) (quiet : Bool) (before after : Look) (world : World) (clock : ℕ) (history : List Entry) (faults : List (Fault S F H T))
    (opened : (i : Held) → now before ≡ Some i → Opened (formats_by files) (image_of i) world) where
  abbrev s : Start
  s = start_of files size quiet before world

  abbrev log : List Moment
  log = log_of after clock history

  module _ (legal : Legal s log) (told : StaysTold before clock history after) (shown : AreShown {S = S} {F = F} {H = H} {T = T} evidence s log faults) (single : NoneTwice log) where
    over : (shelf : List Shelved) → Holds (formats_by files) before shelf → OverKept s log
    over shelf holds = record {
      tells = ap is_some holds.told;
      image = image_of holds.image;
      shelf = shelf;
      kept = holds.kept;
      opened = opened holds.image holds.told;
      legal = legal;
      told = (told (ap is_some holds.told)).moments;
    }

    finds_none : OverKept s log → FindsNoDamage s log
    finds_none kept = record {
      units = laws.units evidence s log faults kept (shown.shown hands.Unit);
      restores = laws.restores evidence s log faults kept (shown.shown hands.Restore);
      deletes = laws.deletes evidence s log faults kept (shown.shown hands.Delete);
      checks = laws.checks evidence s log faults kept (shown.shown hands.Check);
      names = laws.names s log kept single;
    }

    pub stays_undamaged : StaysUndamaged s (formats_by files) log before
    stays_undamaged shelf holds = finds_none (over shelf holds)
