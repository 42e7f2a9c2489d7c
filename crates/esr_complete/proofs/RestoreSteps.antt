-- Each step where no restore fails keeps what the history tells of restores.
use Rattle.std.proofs.Common.{◌≡◌, ℕ, zero, suc, ◌≤◌, false, List, [], ◌∷◌, ◌++◌, Option, Some, None, refl, sym, subst, inl, inr, arith}
use Rattle.std.specs.FinMap as fin
use Rattle.esr_model.specs.Names.{BlobName}
use Rattle.esr_model.specs.Values.{Bytes, IndexRef, Formats}
use Rattle.esr_model.specs.Kept.{first_id}
use Rattle.esr_model.specs.Image.{Image}
use Rattle.esr_core.specs.World.{World, Restored, RestoreShard, Restoring, Reader}
use Rattle.esr_core.specs.Restores.{IsReading, read_more}
use Rattle.esr_core.specs.ReadTracked.{ReaderTracked, RestoresTracked}
use Rattle.esr_core.specs.Entry.{Restore, Given, GivenShard, GivenFinalize, GivenDrop, GivenRestore, GivenClone, GivenDelete, GivenCleanup, Why, Read, ReadBlob, RestoredShard, CheckedAll, CommitTest, ReadFails, Prune, SettlePruned, Step, AskStep, TakeStep, ReadStep, PruneStep, DepotFault, CleanupRunning, Reply, Gave, WasSettled, WasFetched, WasAbsent, HasEnded, Refused, AcceptedRestore, Entry, Moment}
use Rattle.esr_core.specs.After.{told_blob, taken_restore, taken_restore_shard, read_told, shard_over, read_over, read_by, test_left, answered, after}
use Rattle.esr_core.specs.Allowed as allowed
use Rattle.esr_core.specs.Allowed.{Gives, GivesRestore, ReadAllows, ReadFound, ReadMissing, ReadFault, RestoringShard, ReaderFailing, CheckingAll, CheckFailing, VerifyAllows, CommitTestFails, SettlingDelete, PruneAllows, Allows, Allowed}
use Rattle.esr_core.specs.Laws.RestoreShards.{shard_is}
use Rattle.esr_report.specs.Replies.{ReadShard, shard_ticket_by, shard_end_by}
use Rattle.esr_core.specs.Laws.RestoreFrames.{IsOld, goes_answered}
use Rattle.esr_complete.proofs.OpEnds.{IsCalm, calm_unblocked}
use Rattle.esr_complete.proofs.Following.{gave, told}
use Rattle.esr_complete.proofs.FollowingRestores.{Restores, Readers, opens, FollowsRestores, RestoresIn, IsSilent, silent, silent_caller, WereOut, were_same, were_again, restores_stay, restore_begins, shard_given, shard_ends}

-- what holds of the restores of a lawful world, and that its next id is one of the present term
pub record IsOrdered (w : World) : Type 0 where
  pub tracked : RestoresTracked w.next_op w.next_ticket w.restores w.readers
  pub below : w.next_id ≤ first_id (suc w.term)

-- this entry tells of no shard that was not restored
abbrev pub IsUnfailed : ℕ → Step → Reply → Type 0
IsUnfailed who step reply = (why : Why) → 1 ≤ who → step ≡ ReadStep (ReadFails why) → reply ≡ HasEnded → ⊥

module _ (f : Formats) (size : ℕ) (w : World) (es : List Entry) (h : RestoresIn w es) (t : IsOrdered w) where
  -- restores stay, and each ticket is out only where it was
  stays : (later : Readers) (ops tickets : ℕ) (x : Entry) → WereOut w.readers later → w.next_op ≤ ops → w.next_ticket ≤ tickets → IsSilent x → FollowsRestores w.restores later ops tickets (es ++ x ∷ [])
  stays later ops tickets x were a b quiet = restores_stay w.restores w.readers w.next_op w.next_ticket es h t.tracked later ops tickets x were a b quiet

  -- all of it stays
  same : (x : Entry) → IsSilent x → RestoresIn w (es ++ x ∷ [])
  same x quiet = stays w.readers w.next_op w.next_ticket x (were_same w.readers) (omega arith) (omega arith) quiet

  -- a step that has nothing to do with restores
  aside : (who : ℕ) (step : Step) (reply : Reply) (image : Option Image) → IsOld step reply → ((y : ReadShard) → shard_ticket_by reply y ≡ None) → shard_end_by step reply ≡ None → opens reply ≡ None
      → RestoresIn (answered f w who step reply image) (es ++ told who step reply ∷ [])
  aside who step reply image old no_ticket no_end no_restore =
      let g = goes_answered f w t.below who step reply image old in
      let new : World = answered f w who step reply image in
      let x : Entry = told who step reply in
      subst (λ (m : Restores). FollowsRestores m new.readers new.next_op new.next_ticket (es ++ x ∷ [])) (sym g.restores)
      (subst (λ (m : Readers). FollowsRestores w.restores m new.next_op new.next_ticket (es ++ x ∷ [])) (sym g.readers)
      (stays w.readers new.next_op new.next_ticket x (were_same w.readers) g.next_op g.next_ticket (silent who step reply no_ticket no_end no_restore)))

  -- ---- ask and take

  begins : (name place : Bytes) (o uuid : ℕ) (indices : List IndexRef) (image : Option Image) → o ≡ w.next_op
      → RestoresIn (answered f w 0 (AskStep (Restore name place)) (AcceptedRestore o uuid indices) image) (es ++ told 0 (AskStep (Restore name place)) (AcceptedRestore o uuid indices) ∷ [])
  begins name place o uuid indices image is =
      subst (λ (n : ℕ). RestoresIn (answered f w 0 (AskStep (Restore name place)) (AcceptedRestore o uuid indices) image) (es ++ told 0 (AskStep (Restore name place)) (AcceptedRestore n uuid indices) ∷ [])) (sym is)
      (restore_begins w.restores w.readers w.next_op w.next_ticket es h t.tracked name place uuid indices)

  gives_restore : (o index number uuid : ℕ) → GivesRestore w o index number uuid → RestoresIn (taken_restore w o index number (fin.get w.restores o)) (es ++ gave w.next_ticket o (GivenRestore index number uuid) ∷ [])
  gives_restore o index number uuid g =
      let at = shard_is g.r.shards index number g.s g.found in
      let entry_is : gave w.next_ticket o (GivenRestore g.s.ref.id g.s.number g.r.uuid) ≡ gave w.next_ticket o (GivenRestore index number uuid) = λ i. gave w.next_ticket o (GivenRestore (at.0 i) (at.1 i) (sym g.uuid_is i)) in
      subst (λ (x : Entry). RestoresIn (taken_restore w o index number (fin.get w.restores o)) (es ++ x ∷ [])) entry_is
      (subst (λ (x : Option Restoring). RestoresIn (taken_restore w o index number x) (es ++ gave w.next_ticket o (GivenRestore g.s.ref.id g.s.number g.r.uuid) ∷ [])) (sym g.ready.there)
      (subst (λ (x : Option RestoreShard). RestoresIn (taken_restore_shard w o g.r x) (es ++ gave w.next_ticket o (GivenRestore g.s.ref.id g.s.number g.r.uuid) ∷ [])) (sym g.found)
      (shard_given w.restores w.readers w.next_op w.next_ticket es h t.tracked o g.r g.s g.ready.there g.ready.s_there g.ready.unread)))

  gives : (k o : ℕ) (unit : Given) (image : Option Image) → k ≡ w.next_ticket → Gives f w o unit → RestoresIn (answered f w 0 TakeStep (Gave k o unit) image) (es ++ gave k o unit ∷ [])
  gives k o (GivenRestore index number uuid) image is g = subst (λ (j : ℕ). RestoresIn (taken_restore w o index number (fin.get w.restores o)) (es ++ gave j o (GivenRestore index number uuid) ∷ [])) (sym is) (gives_restore o index number uuid g)
  gives k o (GivenClone index number source base) image is g = aside 0 TakeStep (Gave k o (GivenClone index number source base)) image tt (λ y. refl) refl refl
  gives k o (GivenDelete uuids) image is g = aside 0 TakeStep (Gave k o (GivenDelete uuids)) image tt (λ y. refl) refl refl
  gives k o GivenCleanup image is g = aside 0 TakeStep (Gave k o GivenCleanup) image tt (λ y. refl) refl refl
  gives k o (GivenShard index number base) image is g = aside 0 TakeStep (Gave k o (GivenShard index number base)) image tt (λ y. refl) refl refl
  gives k o (GivenFinalize info results) image is g = aside 0 TakeStep (Gave k o (GivenFinalize info results)) image tt (λ y. refl) refl refl
  gives k o GivenDrop image is g = aside 0 TakeStep (Gave k o GivenDrop) image tt (λ y. refl) refl refl

  -- ---- steps that read

  more_by : (k : ℕ) (name : BlobName) (bytes : Option Bytes) (q : Option Reader) → fin.get w.readers k ≡ q → RestoresIn (read_told w k name bytes q) (es ++ told k (ReadStep (ReadBlob name)) WasFetched ∷ [])
  more_by k name bytes None is = same (told k (ReadStep (ReadBlob name)) WasFetched) (silent k (ReadStep (ReadBlob name)) WasFetched (λ y. refl) refl refl)
  more_by k name None (Some q) is = same (told k (ReadStep (ReadBlob name)) WasFetched) (silent k (ReadStep (ReadBlob name)) WasFetched (λ y. refl) refl refl)
  more_by k name (Some bytes) (Some q) is =
      stays (fin.insert w.readers k (read_more q name bytes)) w.next_op w.next_ticket (told k (ReadStep (ReadBlob name)) WasFetched) (were_again w.readers k q (read_more q name bytes) is refl) (omega arith) (omega arith)
      (silent k (ReadStep (ReadBlob name)) WasFetched (λ y. refl) refl refl)

  found : (k : ℕ) (name : BlobName) (image : Option Image) → RestoresIn (read_by f w k (ReadBlob name) WasFetched image) (es ++ told k (ReadStep (ReadBlob name)) WasFetched ∷ [])
  found zero name image = same (told 0 (ReadStep (ReadBlob name)) WasFetched) (silent_caller (ReadStep (ReadBlob name)) WasFetched (λ y. refl) refl)
  found (suc k) name image = more_by (suc k) name (told_blob f image name) (fin.get w.readers (suc k)) refl

  missed : (k : ℕ) (name : BlobName) (image : Option Image) → RestoresIn (read_by f w k (ReadBlob name) WasAbsent image) (es ++ told k (ReadStep (ReadBlob name)) WasAbsent ∷ [])
  missed zero name image = same (told 0 (ReadStep (ReadBlob name)) WasAbsent) (silent_caller (ReadStep (ReadBlob name)) WasAbsent (λ y. refl) refl)
  missed (suc k) name image = same (told (suc k) (ReadStep (ReadBlob name)) WasAbsent) (silent (suc k) (ReadStep (ReadBlob name)) WasAbsent (λ y. refl) refl refl)

  restored : (k files bytes : ℕ) (image : Option Image) (q : Reader) → IsReading w k q → RestoresIn (read_by f w k (RestoredShard files bytes) HasEnded image) (es ++ told k (ReadStep (RestoredShard files bytes)) HasEnded ∷ [])
  restored zero files bytes image q reading = absurd (let from : 1 ≤ 0 = (t.tracked.tickets 0 q reading.there).0 in omega (arith, from))
  restored (suc k) files bytes image q reading =
      let x : Entry = told (suc k) (ReadStep (RestoredShard files bytes)) HasEnded in
      let of : ReaderTracked w.restores (suc k) q = t.tracked.readers (suc k) q reading.there reading.out in
      subst (λ (o : Option Reader). RestoresIn (read_over w (suc k) (Restored files bytes) o) (es ++ x ∷ [])) (sym reading.there)
      (subst (λ (o : Option Restoring). RestoresIn (shard_over w (suc k) (Restored files bytes) q o) (es ++ x ∷ [])) (sym of.there)
      (shard_ends w.restores w.readers w.next_op w.next_ticket es h t.tracked (suc k) q files bytes reading.there reading.out of.r of.there))

  reads : (k : ℕ) (read : Read) (reply : Reply) (image : Option Image) → ReadAllows f w k read reply image → IsUnfailed k (ReadStep read) reply
      → RestoresIn (answered f w k (ReadStep read) reply image) (es ++ told k (ReadStep read) reply ∷ [])
  reads k read reply image (ReadFound j name im stored by there) un = found j name im
  reads k read reply image (ReadMissing j name im stored by none) un = missed j name im
  reads k read reply image (ReadFault j name im stored by) un = same (told j (ReadStep (ReadBlob name)) (Refused DepotFault)) (silent j (ReadStep (ReadBlob name)) (Refused DepotFault) (λ y. refl) refl refl)
  reads k read reply image (RestoringShard j files bytes im q out by) un = restored j files bytes im q out
  reads k read reply image (ReaderFailing j why im q out) un = absurd (un why (t.tracked.tickets j q out.there).0 refl refl)
  reads k read reply image (CheckingAll snapshots blobs im checks) un = same (told 0 (ReadStep (CheckedAll snapshots blobs)) HasEnded) (silent_caller (ReadStep (CheckedAll snapshots blobs)) HasEnded (λ y. refl) refl)
  reads k read reply image (CheckFailing why im looked) un = same (told 0 (ReadStep (ReadFails why)) HasEnded) (silent_caller (ReadStep (ReadFails why)) HasEnded (λ y. refl) refl)

  left_by : (name key : BlobName) (was now : Option Bytes) → RestoresIn (test_left w name was now) (es ++ told 0 (ReadStep (CommitTest key)) (Refused DepotFault) ∷ [])
  left_by name key None (Some bytes) = same (told 0 (ReadStep (CommitTest key)) (Refused DepotFault)) (silent_caller (ReadStep (CommitTest key)) (Refused DepotFault) (λ y. refl) refl)
  left_by name key was now = same (told 0 (ReadStep (CommitTest key)) (Refused DepotFault)) (silent_caller (ReadStep (CommitTest key)) (Refused DepotFault) (λ y. refl) refl)

  verifies : (read : Read) (reply : Reply) (image : Option Image) → VerifyAllows f w read reply image → RestoresIn (answered f w 0 (ReadStep read) reply image) (es ++ told 0 (ReadStep read) reply ∷ [])
  verifies read reply image (CommitTestFails name bytes im own leaves) = left_by name name (fin.get w.blobs (f.names.text name)) (told_blob f im name)
  verifies read reply image other = same (told 0 (ReadStep read) reply) (silent_caller (ReadStep read) reply (λ y. refl) refl)

  -- ---- steps of the ticket of a delete or cleanup

  prunes : (k : ℕ) (prune : Prune) (reply : Reply) (image : Option Image) → PruneAllows f w k prune reply image → RestoresIn (answered f w k (PruneStep prune) reply image) (es ++ told k (PruneStep prune) reply ∷ [])
  prunes k prune reply image (SettlingDelete j im s present same_blobs) = aside j (PruneStep SettlePruned) WasSettled im tt (λ y. refl) refl refl
  prunes k prune reply image other = aside k (PruneStep prune) reply image tt (λ y. refl) refl refl

  -- ---- each answer

  restores_by : (who : ℕ) (step : Step) (reply : Reply) (image : Option Image) → Allows f size w who step reply image → IsUnfailed who step reply → RestoresIn (answered f w who step reply image) (es ++ told who step reply ∷ [])
  restores_by who step reply image (allowed.OpeningRestore name place o uuid indices im a unmoved) un = begins name place o uuid indices im a.number
  restores_by who step reply image (allowed.Giving k o unit im is lowest g same) un = gives k o unit im is g
  restores_by who step reply image (allowed.Reading k read rep im a same) un = reads k read rep im a un
  restores_by who step reply image (allowed.Verifying read rep im a) un = verifies read rep im a
  restores_by who step reply image (allowed.Ruled command refusal im (allowed.Cleaning c d x recorded untaken there clean) unmoved) un =
      same (told 0 (AskStep c) (Refused (CleanupRunning d))) (silent_caller (AskStep c) (Refused (CleanupRunning d)) (λ y. refl) refl)
  restores_by who step reply image (allowed.Ruled command refusal im rule unmoved) un = same (told 0 (AskStep command) (Refused refusal)) (silent_caller (AskStep command) (Refused refusal) (λ y. refl) refl)
  restores_by who step reply image (allowed.Pruning k prune rep im p) un = prunes k prune rep im p
  restores_by who step reply image other un = aside who step reply image tt (λ y. refl) refl refl

pub restores_step : (stale : Type 0) (f : Formats) (size : ℕ) (w : World) (es : List Entry) → RestoresIn w es → IsOrdered w → w.deposed ≡ false → (m : Moment) → Allowed f size w m → IsCalm stale m.entry.reply m.entry.step
    → IsUnfailed m.entry.who m.entry.step m.entry.reply
    → RestoresIn (after f w m) (es ++ m.entry ∷ [])
restores_step stale f size w es h t live m a calm un = elim a.answered [
  | inl alive ↦ restores_by f size w es h t m.entry.who m.entry.step m.entry.reply m.image alive.1 un
  | inr dead ↦ absurd (calm_unblocked stale w m.entry.who m.entry.step dead.refusal live (subst (λ (r : Reply). IsCalm stale r m.entry.step) dead.refused calm) dead.blocks)
]
