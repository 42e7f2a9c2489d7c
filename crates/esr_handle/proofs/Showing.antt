-- What shows a failure to a worker shows it to the desk under the lock.
use Rattle.std.proofs.Common.{◌≡◌, ℕ, List, [], inl, inr, ⊎_elim}
use Rattle.std.proofs.lemmas.Bool.{false≢true}
use Rattle.esr_model.specs.Names.{BlobName}
use Rattle.esr_model.specs.Values.{Bytes, FileEntry}
use Rattle.esr_core.specs.World.{Reader}
use Rattle.esr_core.specs.Entry.{Why, OfDepot, OfSource, OfChange, OfAbsence, OfUnreadable, OfAhead, OfTaken, OfAbort, OfIdsSpent, OfGenerationsSpent, OfTarget, OfPrint, OfDisagreement, Step, Reply, Refused, DepotFault, Moment}
use Rattle.esr_desk.specs.declared.hand.Hand.{Hand}
use Rattle.esr_desk.specs.declared.hand.Hand.TheVariants as hands
use Rattle.esr_desk.specs.declared.fault.FailedObject.TheVariants as objects
use Rattle.esr_desk.specs.declared.fault.By.{By}
use Rattle.esr_desk.specs.declared.fault.By.TheVariants as shows
use Rattle.esr_desk.specs.Start.{Start}
use Rattle.esr_desk.specs.Own.{MadeLast}
use Rattle.esr_desk.specs.Calls.{Call, IsMine}
use Rattle.esr_desk.specs.Evidence.{Evidence, HasRead}
use Rattle.esr_desk.specs.Hands.{MayFail}
use Rattle.esr_desk.specs.Lasting.{shown_on}
use Rattle.esr_desk.specs.Outcome.{Waited}
use Rattle.esr_desk.specs.Shown.{IsShown}
use Rattle.esr_desk.specs.Unit.Shown.{IsUnitShown}
use Rattle.esr_desk.specs.Delete.Shown.{IsDeleteShown}
use Rattle.esr_desk.specs.Restore.First.{AreFirst, HasFirst}
use Rattle.esr_desk.specs.Restore.Shown.{HasReadFile, IsRestoreShown}
use Rattle.esr_handle.specs.Turned.{shared}

module _ (s : Start) (q : Reader) where
  first_alike : (entries : List FileEntry) → AreFirst (shared s) q entries → AreFirst s q entries
  first_alike entries h = record { snap = h.snap; snap_read = h.snap_read; rest = h.rest; is = h.is }

  files_alike : {files : _} → HasFirst (shared s) q files → HasFirst s q files
  files_alike h = record {
    entries = h.entries;
    first = ⊎_elim (λ (none : h.entries ≡ []). inl none) (λ (some : AreFirst (shared s) q h.entries). inr (first_alike h.entries some)) h.first;
    held = h.held;
    each = h.each;
    are = h.are;
  }

  file_alike : (name : BlobName) (fronts : List Bytes) → HasReadFile (shared s) q name fronts → HasReadFile s q name fronts
  file_alike name fronts h = record { snap = h.snap; snap_read = h.snap_read; e = h.e; listed = h.listed; name_is = h.name_is; read = h.read }

module _ {S F H T : Type 0} (e : Evidence S F H T) (s : Start) (log : List Moment) (who : ℕ) where
  last_alike : (step : Step) (reply : Reply) → MadeLast (shared s) log who step reply → MadeLast s log who step reply
  last_alike step reply h = record { before = h.before; is = h.is }

  unit_read : (name : BlobName) (bytes : Bytes) → HasRead hands.Unit (shared s) log who name bytes → HasRead hands.Unit s log who name bytes
  unit_read name bytes h = record { had = h.had; read = h.read }

  delete_read : (name : BlobName) (bytes : Bytes) → HasRead hands.Delete (shared s) log who name bytes → HasRead hands.Delete s log who name bytes
  delete_read name bytes h = record { had = h.had; read = h.read }

  restore_read : (name : BlobName) (bytes : Bytes) → HasRead hands.Restore (shared s) log who name bytes → HasRead hands.Restore s log who name bytes
  restore_read name bytes h = record { had = h.had; read = h.read }

  unit_alike : (why : Why) (b : By S F H T) → IsUnitShown e (shared s) log who why b → IsUnitShown e s log who why b
  unit_alike OfDepot (shows.Object (objects.Stage stage)) h = h
  unit_alike OfDepot (shows.Object (objects.Fetch fetch)) h = h
  unit_alike OfDepot shows.Entry h = ((h.0.0, h.0.1, last_alike h.0.0 (Refused DepotFault) h.0.2, h.0.3), h.1)
  unit_alike OfSource (shows.Object (objects.Shard shard)) h = h
  unit_alike (OfChange first_len first_digest second_len second_digest) shows.Nothing h = record { differ = h.differ; untold = h.untold }
  unit_alike (OfAbsence name) shows.Nothing h = h
  unit_alike (OfUnreadable name reason) shows.Nothing h = (h.0, (h.1.0, unit_read name h.1.0 h.1.1, h.1.2))
  unit_alike (OfAhead name id) shows.Nothing h = record { base = h.base; bytes = h.bytes; read = unit_read name h.bytes h.read; v = h.v; reads = h.reads; ahead = h.ahead }
  unit_alike (OfTaken name) shows.Entry h = h
  unit_alike (OfAbort op) shows.Entry h = h
  unit_alike (OfIdsSpent next) shows.Entry h = h
  unit_alike (OfGenerationsSpent pending) shows.Entry h = h
  unit_alike why b h = absurd h

  delete_alike : (why : Why) (b : By S F H T) → IsDeleteShown e (shared s) log who why b → IsDeleteShown e s log who why b
  delete_alike OfDepot (shows.Object (objects.Stage stage)) h = h
  delete_alike OfDepot (shows.Object (objects.Fetch fetch)) h = h
  delete_alike OfDepot shows.Entry h = ((h.0.0, h.0.1, last_alike h.0.0 (Refused DepotFault) h.0.2, h.0.3), h.1)
  delete_alike (OfAbsence name) shows.Nothing h = h
  delete_alike (OfUnreadable name reason) shows.Nothing h = (h.0, (h.1.0, delete_read name h.1.0 h.1.1, h.1.2))
  delete_alike (OfTaken name) shows.Entry h = h
  delete_alike (OfIdsSpent next) shows.Entry h = h
  delete_alike (OfGenerationsSpent pending) shows.Entry h = h
  delete_alike why b h = absurd h

  restore_alike : (why : Why) (b : By S F H T) → IsRestoreShown e (shared s) log who why b → IsRestoreShown e s log who why b
  unfolding file_alike
  restore_alike OfDepot (shows.Object (objects.Fetch fetch)) h = h
  restore_alike OfDepot shows.Entry h = h
  restore_alike OfTarget (shows.Object (objects.Target target)) h = record { failed = h.failed; unsure = h.unsure; for_it = h.for_it; first = files_alike s _ h.first }
  restore_alike (OfAbsence name) shows.Nothing h = h
  restore_alike (OfUnreadable name reason) shows.Nothing h = (h.0, (h.1.0, restore_read name h.1.0 h.1.1, h.1.2))
  restore_alike (OfPrint name stated_len stated_digest found_len found_digest) shows.Nothing h = record {
    fronts = h.fronts;
    file = file_alike s _ name h.fronts h.file;
    stated_len_is = h.stated_len_is;
    stated_digest_is = h.stated_digest_is;
    found_len_is = h.found_len_is;
    found_digest_is = h.found_digest_is;
    differ = h.differ;
  }
  restore_alike (OfDisagreement name other) shows.Nothing h = record { fronts = h.fronts; file = file_alike s _ name h.fronts h.file; other_is = h.other_is; len_is = h.len_is; digest_is = h.digest_is; cut = h.cut }
  restore_alike why b h = absurd h

-- a cause that is shown to a worker
pub shown_whole : {S F H T : Type 0} (hand : Hand) (e : Evidence S F H T) (s : Start) (calls : List Call) (old value : List Moment) (who : ℕ) (why : Why) (b : By S F H T) → IsMine hand calls who → MayFail hand (shared s) old who
    → Waited (shared s) old value who
    → IsShown hand e (shared s) old who why b → IsShown hand e s value who why b
shown_whole hands.Unit e s calls old value who why b mine may w h = unit_alike e s value who why b (shown_on hands.Unit e (shared s) calls old value who why b mine may w h)
shown_whole hands.Delete e s calls old value who why b mine may w h = delete_alike e s value who why b (shown_on hands.Delete e (shared s) calls old value who why b mine may w h)
shown_whole hands.Restore e s calls old value who why b mine may w h = restore_alike e s value who why b (shown_on hands.Restore e (shared s) calls old value who why b mine may w h)
shown_whole hand e s calls old value who why b mine may w h = absurd (false≢true may.0.alone)
