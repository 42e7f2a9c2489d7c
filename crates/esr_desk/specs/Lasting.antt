-- What stays shown of a failure while others make steps.
use Rattle.std.proofs.Common.{◌≡◌, inl, inr, ℕ, ◌≤◌, true, List, [], ◌∷◌, ◌++◌, append-nil, sym, ap, ◌∙◌, subst, ◌⊎◌}
use Rattle.esr_model.specs.Values.{Has}
use Rattle.esr_core.specs.World.{Ticket, Reader}
use Rattle.esr_core.specs.Steps.{IsToFetch}
use Rattle.esr_core.specs.Entry.{Why, OfDepot, OfSource, OfChange, OfAbsence, OfUnreadable, OfAhead, OfTaken, OfAbort, OfIdsSpent, OfGenerationsSpent, OfTarget, OfPrint, OfDisagreement, ReadBlob, FetchShard, Step, FetchStep, ReadStep, PruneStep, Reply, WasFetched, WasAbsent, Refused, AbortedBy, NameTaken, IdsSpent, GenerationsSpent, DepotFault, Moment}
use Rattle.esr_desk.specs.declared.hand.Hand.{Hand}
use Rattle.esr_desk.specs.declared.hand.Hand.TheVariants as hands
use Rattle.esr_desk.specs.declared.fault.FailedObject.TheVariants as objects
use Rattle.esr_desk.specs.declared.fault.By.{By}
use Rattle.esr_desk.specs.declared.fault.By.TheVariants as shows
use Rattle.esr_desk.specs.Start.{Start, ticket_of}
use Rattle.esr_desk.specs.Own.{Own, MadeLast, reader_of}
use Rattle.esr_desk.specs.Outcome.{Waited}
use Rattle.esr_desk.specs.Made.{waited_made}
use Rattle.esr_desk.specs.Calls.{Call, IsMine}
use Rattle.esr_desk.specs.Hands.{MayFail}
use Rattle.esr_desk.specs.Evidence.{Evidence, HadReply}
use Rattle.esr_desk.specs.Unit.Shown.{Matters, IsUnitShown, IsUntold, IsOf, IsBase, HasSnapshot, HasDrawn}
use Rattle.esr_desk.specs.Delete.Shown.{MattersTo, IsDeleteShown, IsOfDelete}
use Rattle.esr_desk.specs.Restore.Shown.{IsRestoreShown, IsFaultyTarget, IsMisprinted, IsMiscut, IsSnap}
use Rattle.esr_desk.specs.Shown.{IsShown}

has_front : (old others : List Moment) (m : Moment) → Has old m → Has (old ++ others) m
has_front [] others m h = absurd h
has_front (x ∷ old) others m (inl same) = inl same
has_front (x ∷ old) others m (inr h) = inr (has_front old others m h)

pub had_on : (s : Start) (old new : List Moment) (who : ℕ) (step : Step) (reply : Reply) → Waited s old new who → HadReply old who step reply → HadReply new who step reply
had_on s old new who step reply w had = record {
  image = had.image;
  there = subst (λ (log : List Moment). Has log (record { entry = record { who = who; step = step; reply = reply }; image = had.image })) (sym w.grew)
      (has_front old w.others (record { entry = record { who = who; step = step; reply = reply }; image = had.image }) had.there);
}

last_on : (s : Start) (old new : List Moment) (who : ℕ) (step : Step) (reply : Reply) → 1 ≤ who → Waited s old new who → MadeLast s old who step reply → MadeLast s new who step reply
last_on s old new who step reply some w last = record { before = last.before; is = waited_made s old new who some w ∙ last.is }

module _ {S F H T : Type 0} (e : Evidence S F H T) (s : Start) (old new : List Moment) (who : ℕ) (some : 1 ≤ who) (w : Waited s old new who) where
  own_ticket : ticket_of s old who ≡ ticket_of s new who
  own_ticket = ap (λ (own : Own). own.ticket) (sym (w.alone some))

  own_reader : reader_of s old who ≡ reader_of s new who
  own_reader = ap (λ (own : Own). own.reader) (sym (w.alone some))

  goes : (step : Step) (reply : Reply) → HadReply old who step reply → HadReply new who step reply
  goes step reply had = had_on s old new who step reply w had

  unit_on : (why : Why) (b : By S F H T) → IsUnitShown e s old who why b → IsUnitShown e s new who why b
  unit_on OfDepot (shows.Object (objects.Stage stage)) h = h
  unit_on OfDepot (shows.Object (objects.Fetch fetch)) h = h
  unit_on OfDepot shows.Entry h = ((h.0.0, goes h.0.0 (Refused DepotFault) h.0.1, last_on s old new who h.0.0 (Refused DepotFault) some w h.0.2, subst (λ (t : Ticket). Matters t.work h.0.0) own_ticket h.0.3), h.1)
  unit_on OfSource (shows.Object (objects.Shard shard)) h = (h.0, subst (λ (t : Ticket). IsOf t (e.shard shard).address) own_ticket h.1)
  unit_on (OfChange first_len first_digest second_len second_digest) shows.Nothing h = record { differ = h.differ; untold = subst (IsUntold s) own_ticket h.untold }
  unit_on (OfAbsence name) shows.Nothing h = (subst (λ (t : Ticket). IsToFetch t name) own_ticket h.0, goes (FetchStep name) WasAbsent h.1)
  unit_on (OfUnreadable name reason) shows.Nothing h = (
    subst (λ (t : Ticket). IsToFetch t name) own_ticket h.0,
    (h.1.0, record { had = goes (FetchStep name) WasFetched h.1.1.had; read = λ tells. subst (λ (t : Ticket). Has t.read (name, h.1.0)) own_ticket (h.1.1.read tells) }, h.1.2),
  )
  unit_on (OfAhead name id) shows.Nothing h = record {
    base = subst (λ (t : Ticket). IsBase t name) own_ticket h.base;
    bytes = h.bytes;
    read = record { had = goes (FetchStep name) WasFetched h.read.had; read = λ tells. subst (λ (t : Ticket). Has t.read (name, h.bytes)) own_ticket (h.read.read tells) };
    v = h.v;
    reads = h.reads;
    ahead = subst (λ (t : Ticket). HasSnapshot t h.v id ⊎ HasDrawn t h.v id) own_ticket h.ahead;
  }
  unit_on (OfTaken name) shows.Entry h = (h.0, goes h.0 (Refused (NameTaken name)) h.1)
  unit_on (OfAbort op) shows.Entry h = (h.0, goes h.0 (Refused (AbortedBy op)) h.1)
  unit_on (OfIdsSpent next) shows.Entry h = (h.0, goes h.0 (Refused (IdsSpent next)) h.1)
  unit_on (OfGenerationsSpent pending) shows.Entry h = (h.0, goes h.0 (Refused (GenerationsSpent pending)) h.1)
  unit_on why b h = absurd h

  delete_on : (why : Why) (b : By S F H T) → IsDeleteShown e s old who why b → IsDeleteShown e s new who why b
  delete_on OfDepot (shows.Object (objects.Stage stage)) h = h
  delete_on OfDepot (shows.Object (objects.Fetch fetch)) h = h
  delete_on OfDepot shows.Entry h = ((h.0.0, goes h.0.0 (Refused DepotFault) h.0.1, last_on s old new who h.0.0 (Refused DepotFault) some w h.0.2, subst (λ (t : Ticket). MattersTo t h.0.0) own_ticket h.0.3), h.1)
  delete_on (OfAbsence name) shows.Nothing h = (subst (λ (t : Ticket). IsOfDelete t name) own_ticket h.0, goes (PruneStep (FetchShard name)) WasAbsent h.1)
  delete_on (OfUnreadable name reason) shows.Nothing h = (
    subst (λ (t : Ticket). IsOfDelete t name) own_ticket h.0,
    (h.1.0, record { had = goes (PruneStep (FetchShard name)) WasFetched h.1.1.had; read = λ tells. subst (λ (t : Ticket). Has t.read (name, h.1.0)) own_ticket (h.1.1.read tells) }, h.1.2),
  )
  delete_on (OfTaken name) shows.Entry h = (h.0, goes h.0 (Refused (NameTaken name)) h.1)
  delete_on (OfIdsSpent next) shows.Entry h = (h.0, goes h.0 (Refused (IdsSpent next)) h.1)
  delete_on (OfGenerationsSpent pending) shows.Entry h = (h.0, goes h.0 (Refused (GenerationsSpent pending)) h.1)
  delete_on why b h = absurd h

  restore_on : (why : Why) (b : By S F H T) → IsRestoreShown e s old who why b → IsRestoreShown e s new who why b
  restore_on OfDepot (shows.Object (objects.Fetch fetch)) h = h
  restore_on OfDepot shows.Entry h = ((h.0.0, goes (ReadStep (ReadBlob h.0.0)) (Refused DepotFault) h.0.1), h.1)
  restore_on OfTarget (shows.Object (objects.Target target)) h = subst (λ (q : Reader). IsFaultyTarget e s q target) own_reader h
  restore_on (OfAbsence name) shows.Nothing h = goes (ReadStep (ReadBlob name)) WasAbsent h
  restore_on (OfUnreadable name reason) shows.Nothing h = (
    subst (λ (q : Reader). IsSnap q name) own_reader h.0,
    (h.1.0, record { had = goes (ReadStep (ReadBlob name)) WasFetched h.1.1.had; read = λ tells. subst (λ (q : Reader). Has q.read (name, h.1.0)) own_reader (h.1.1.read tells) }, h.1.2),
  )
  restore_on (OfPrint name stated_len stated_digest found_len found_digest) shows.Nothing h = subst (λ (q : Reader). IsMisprinted s q name stated_len stated_digest found_len found_digest) own_reader h
  restore_on (OfDisagreement name other) shows.Nothing h = subst (λ (q : Reader). IsMiscut s q name other) own_reader h
  restore_on why b h = absurd h

same_log : (s : Start) (old new : List Moment) (who : ℕ) → Waited s old new who → s.alone ≡ true → old ≡ new
same_log s old new who w alone = sym (w.grew ∙ ap (λ (others : List Moment). old ++ others) (w.nobody alone) ∙ append-nil old)

-- a cause stays shown
pub shown_on : {S F H T : Type 0} (hand : Hand) (e : Evidence S F H T) (s : Start) (calls : List Call) (old new : List Moment) (who : ℕ) (why : Why) (b : By S F H T) → IsMine hand calls who → MayFail hand s old who → Waited s old new who
    → IsShown hand e s old who why b → IsShown hand e s new who why b
shown_on hands.Unit e s calls old new who why b mine may w h = unit_on e s old new who mine.some w why b h
shown_on hands.Delete e s calls old new who why b mine may w h = delete_on e s old new who mine.some w why b h
shown_on hands.Restore e s calls old new who why b mine may w h = restore_on e s old new who mine.some w why b h
shown_on hands.Check e s calls old new who why b mine may w h = subst (λ (log : List Moment). IsShown hands.Check e s log who why b) (same_log s old new who w may.0.alone) h
shown_on hands.Verify e s calls old new who why b mine may w h = subst (λ (log : List Moment). IsShown hands.Verify e s log who why b) (same_log s old new who w may.0.alone) h
