-- The ticket of a unit is out as it was taken, and has ended unless the unit was stopped.
use Rattle.std.proofs.Common.{◌≡◌, ℕ, true, false, List, Option, Result, Ok, Err, OnOk, IfErr, inl, inr, ap, subst}
use Rattle.esr_model.specs.Values.{Bytes}
use Rattle.esr_core.specs.World.{Ticket, Drop, Reader}
use Rattle.esr_core.specs.Entry.{Moment}
use Rattle.esr_root.specs.Root.{Root}
use Rattle.esr_ops.specs.declared.unit.Work.{Work}
use Rattle.esr_ops.specs.declared.unit.Work.TheVariants as works
use Rattle.esr_ops.specs.declared.unit.Copied.{Copied}
use Rattle.esr_desk.specs.declared.entry.Why.{Why}
use Rattle.esr_desk.specs.declared.unit.UnitRefusal.{UnitRefusal}
use Rattle.esr_desk.specs.declared.unit.UnitRefusal.TheVariants as units
use Rattle.esr_desk.specs.Start.{Start, ticket_of}
use Rattle.esr_desk.specs.Own.{reader_of}
use Rattle.esr_desk.specs.Taken.{TookWork}
use Rattle.esr_desk.specs.Readers as readers
use Rattle.esr_desk.specs.Evidence.{Evidence}
use Rattle.esr_upload.specs.Refused as uploads
use Rattle.esr_finish.specs.Ticket.{Finalized}
use Rattle.esr_finish.specs.Refused as finishes
use Rattle.esr_delete.specs.Ticket.{Deleted}
use Rattle.esr_delete.specs.Refused as deletes
use Rattle.esr_restore.specs.Restored.{HasRestored}
use Rattle.esr_restore.specs.Refused as restores
use Rattle.esr_drive.specs.Stopped.{IsDrop, EndedBy, HasEnded}

-- ---- as it was taken

pub took_out : (work : Work) (new : Option Root) (op : ℕ) (copy : Copied) (t : Ticket) → TookWork work new op copy t → t.out ≡ true
took_out (works.Shard uuid shard index place) new op copy t took = let (term, is, few) = took in ap (λ (x : Ticket). x.out) is
took_out (works.CloneShard source uuid shard index) new op copy t took = let (term, place, is, few) = took in ap (λ (x : Ticket). x.out) is
took_out (works.Finalize info shards) new op copy t took = let (term, made, is, root) = took in ap (λ (x : Ticket). x.out) is
took_out works.Drop new op copy t took = let (term, is) = took in ap (λ (x : Ticket). x.out) is
took_out (works.Delete uuids) new op copy t took = let (term, is) = took in ap (λ (x : Ticket). x.out) is
took_out works.Cleanup new op copy t took = let (term, is) = took in ap (λ (x : Ticket). x.out) is
took_out work new op copy t took = absurd took

pub took_drop : (work : Work) (new : Option Root) (op : ℕ) (copy : Copied) (t : Ticket) → IsDrop work → TookWork work new op copy t → t.work ≡ Drop
took_drop works.Drop new op copy t drop took = let (term, is) = took in ap (λ (x : Ticket). x.work) is
took_drop work new op copy t drop took = absurd drop

pub took_reader : (work : Work) (op : ℕ) (q : Reader) → readers.TookWork work op q → q.out ≡ true
took_reader (works.RestoreShard uuid shard index place) op q took = ap (λ (x : Reader). x.out) took.0
took_reader work op q took = absurd took

-- ---- as the unit has ended

pub failed_ended : (e : UnitRefusal) (why : Why) (t : Ticket) → e ≡ units.Failed why → EndedBy e t → t.out ≡ false
failed_ended e why t is h = subst (λ (x : UnitRefusal). EndedBy x t) is h

pub stale_ended : (e : UnitRefusal) (t : Ticket) → e ≡ units.Stale → EndedBy e t → t.out ≡ false
stale_ended e t is h = subst (λ (x : UnitRefusal). EndedBy x t) is h

-- the shard was restored
pub restored_ended : (s : Start) (old new : List Moment) (who : ℕ) → HasRestored s old new who → (reader_of s new who).out ≡ false
restored_ended s old new who done = ap (λ (q : Reader). q.out) done.ended

-- that of a delete or cleanup, before its settle or after it
delete_over : (s : Start) (old new : Ticket) → deletes.HasEnded s old new → new.out ≡ false
delete_over s old new (inl early) = ap (λ (t : Ticket). t.out) early.is
delete_over s old new (inr late) = ap (λ (t : Ticket). t.out) late.1.is

module _ {S F H T : Type 0} (e : Evidence S F H T) (s : Start) (old new : List Moment) (who : ℕ) where
  -- ... of a shard
  pub upload_ended : (files : Option (List (Bytes × Bytes))) (result : Result (Unit {0}) UnitRefusal) → OnOk result (uploads.HasDone s old new who) → IfErr result (uploads.IsUnitRefused e files s old new who)
      → HasEnded result (ticket_of s new who)
  upload_ended files (Ok x) done refused = ap (λ (t : Ticket). t.out) done.is
  upload_ended files (Err (units.Failed why)) done refused = ap (λ (t : Ticket). t.out) refused.0.2
  upload_ended files (Err (units.Stopped refusal)) done refused = tt
  upload_ended files (Err units.Stale) done refused = absurd refused

  -- ... of a finalization
  pub master_ended : (result : Result (Unit {0}) UnitRefusal) → OnOk result (Finalized s old new who) → IfErr result (λ x. finishes.IsUnitRefused e s old new who x) → HasEnded result (ticket_of s new who)
  master_ended (Ok x) done refused = ap (λ (t : Ticket). t.out) done.is
  master_ended (Err (units.Stopped refusal)) done refused = tt
  master_ended result done refused = ap (λ (t : Ticket). t.out) refused.0.is

  -- ... of a delete or cleanup
  pub delete_ended : (result : Result (Unit {0}) UnitRefusal) → OnOk result (Deleted s old new who) → IfErr result (λ x. deletes.IsUnitRefused e s old new who x) → HasEnded result (ticket_of s new who)
  delete_ended (Ok x) done refused = ap (λ (t : Ticket). t.out) done.settled.is
  delete_ended (Err (units.Stopped refusal)) done refused = tt
  delete_ended result done refused = delete_over s (ticket_of s old who) (ticket_of s new who) refused.0

  -- ... of a restore, which has failed
  pub restore_ended : (x : UnitRefusal) (why : Why) → x ≡ units.Failed why → restores.IsUnitRefused e s old new who x → (reader_of s new who).out ≡ false
  restore_ended x why is h =
      let failed : restores.IsUnitRefused e s old new who (units.Failed why) = subst (restores.IsUnitRefused {S = S} {F = F} {H = H} {T = T} e s old new who) is h in
      ap (λ (q : Reader). q.out) failed.0.2

  -- its term can't be over
  pub restore_stale : (x : UnitRefusal) → x ≡ units.Stale → restores.IsUnitRefused e s old new who x → ⊥
  restore_stale x is h = subst (restores.IsUnitRefused {S = S} {F = F} {H = H} {T = T} e s old new who) is h
