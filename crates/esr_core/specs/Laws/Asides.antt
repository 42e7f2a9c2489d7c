-- What a step leaves that reads, or that is refused before it is looked at.
use Rattle.std.proofs.Common.{◌≡◌, ℕ, zero, suc, ◌≤◌, List, Option, Some, None, refl, arith, nat_cmp, Bool, true, false, ap, true≢false, ◌∙◌}
use Rattle.std.specs.FinMap.{FinMap}
use Rattle.std.specs.Prelude.{if◌then◌else◌}
use Rattle.std.specs.FinMap as fin
use Rattle.esr_model.specs.Names.{BlobName}
use Rattle.esr_model.specs.Values.{Bytes, Formats}
use Rattle.esr_model.specs.Image.{Image}
use Rattle.esr_core.specs.World.{World, ReadState, Restored, NotRestored, Restoring, Reader, Caller, no_caller}
use Rattle.esr_core.specs.Restores.{more_read, shard_ended}
use Rattle.esr_core.specs.Entry.{Read, ReadBlob, RestoredShard, CheckedAll, DrawTest, ReadFails, Reply, WasFetched, Entry, Step, AskStep, LookStep, ReadStep, Refusal, IdsSpent, Refused, Moment}
use Rattle.esr_core.specs.After.{told_blob, read_told, shard_over, read_over, read_step, read_by, is_heard, caller_after, caller_read, caller_by, stepped, after, answered, blobs_in}
use Rattle.esr_core.specs.Past.{with_entry}
use Rattle.esr_core.specs.Allowed.{SameBlobs, Blocks, ByFailedSwap, ByDelete, IsBlocked}

-- restores, their tickets, what who 0 has done and what was done so far may change, and more numbers of ops and tickets be given
pub record Aside (w new : World) : Type 0 where
  pub restores : FinMap nat_cmp Restoring
  pub readers : FinMap nat_cmp Reader
  pub caller : Caller
  pub entries : List Entry
  pub next_op : ℕ
  pub next_ticket : ℕ
  pub ops : w.next_op ≤ next_op
  pub tickets : w.next_ticket ≤ next_ticket
  pub new_is : new ≡ record w { restores = restores; readers = readers; caller = caller; entries = entries; next_op = next_op; next_ticket = next_ticket }

pub aside_same : (w : World) → Aside w w
aside_same w = record { restores = w.restores; readers = w.readers; caller = w.caller; entries = w.entries; next_op = w.next_op; next_ticket = w.next_ticket; ops = omega arith; tickets = omega arith; new_is = refl }

pub aside_read : (w new : World) (k : ℕ) (q : Reader) (name : BlobName) (bytes : Bytes) → new ≡ more_read w k q name bytes → Aside w new
aside_read w new k q name bytes e =
    record { restores = w.restores; readers = (more_read w k q name bytes).readers; caller = w.caller; entries = w.entries; next_op = w.next_op; next_ticket = w.next_ticket; ops = omega arith; tickets = omega arith; new_is = e }

pub aside_ended : (w new : World) (k : ℕ) (q : Reader) (r : Restoring) (state : ReadState) → new ≡ shard_ended w k q r state → Aside w new
aside_ended w new k q r state e =
    record {
      restores = (shard_ended w k q r state).restores;
      readers = (shard_ended w k q r state).readers;
      caller = w.caller;
      entries = w.entries;
      next_op = w.next_op;
      next_ticket = w.next_ticket;
      ops = omega arith;
      tickets = omega arith;
      new_is = e;
    }

aside_told : (w : World) (k : ℕ) (name : BlobName) (bytes : Option Bytes) (q : Option Reader) → Aside w (read_told w k name bytes q)
aside_told w k name bytes None = aside_same w
aside_told w k name None (Some q) = aside_same w
aside_told w k name (Some bytes) (Some q) = aside_read w _ k q name bytes refl

aside_shard : (w : World) (k : ℕ) (state : ReadState) (q : Reader) (r : Option Restoring) → Aside w (shard_over w k state q r)
aside_shard w k state q None = aside_same w
aside_shard w k state q (Some r) = aside_ended w _ k q r state refl

aside_over : (w : World) (k : ℕ) (state : ReadState) (q : Option Reader) → Aside w (read_over w k state q)
aside_over w k state None = aside_same w
aside_over w k state (Some q) = aside_shard w k state q (fin.get w.restores q.op)

pub aside_step : (f : Formats) (w : World) (k : ℕ) (read : Read) (reply : Reply) (image : Option Image) → Aside w (read_step f w k read reply image)
aside_step f w k (ReadBlob name) WasFetched image = aside_told w k name (told_blob f image name) (fin.get w.readers k)
aside_step f w k (RestoredShard files bytes) reply image = aside_over w k (Restored files bytes) (fin.get w.readers k)
aside_step f w k (ReadFails why) reply image = aside_over w k (NotRestored why) (fin.get w.readers k)
aside_step f w k read reply image = aside_same w

-- a step that isn't one of a verification
abbrev pub IsNoTest : Read → Type 0
IsNoTest (ReadBlob name) = Unit {0}
IsNoTest (RestoredShard files bytes) = Unit {0}
IsNoTest (CheckedAll snapshots blobs) = Unit {0}
IsNoTest (ReadFails why) = Unit {0}
IsNoTest read = ⊥

aside_zero : (f : Formats) (w : World) (read : Read) (reply : Reply) (image : Option Image) → IsNoTest read → Aside w (read_by f w 0 read reply image)
aside_zero f w (ReadBlob name) reply image h = aside_same w
aside_zero f w (RestoredShard files bytes) reply image h = aside_same w
aside_zero f w (CheckedAll snapshots blobs) reply image h = aside_same w
aside_zero f w (ReadFails why) reply image h = aside_same w
aside_zero f w read reply image h = absurd h

pub aside_by : (f : Formats) (w : World) (k : ℕ) (read : Read) (reply : Reply) (image : Option Image) → IsNoTest read → Aside w (read_by f w k read reply image)
aside_by f w zero read reply image h = aside_zero f w read reply image h
aside_by f w (suc k) read reply image h = aside_step f w (suc k) read reply image

-- a draw that was refused is heard where there was no id left
undrawn : (f : Formats) (c : Caller) (refusal : Refusal) (image : Option Image) → is_heard (Refused refusal) ≡ false → caller_read f c DrawTest (Refused refusal) image ≡ c
undrawn f c (IdsSpent next) image e = absurd (true≢false e)
undrawn f c refusal image e = refl

read_unheard : (f : Formats) (c : Caller) (who : ℕ) (read : Read) (refusal : Refusal) (image : Option Image) → is_heard (Refused refusal) ≡ false → caller_by f c who read (Refused refusal) image ≡ c
read_unheard f c zero (ReadBlob name) refusal image e = refl
read_unheard f c zero DrawTest refusal image e = undrawn f c refusal image e
read_unheard f c who read refusal image e = refl

-- a refusal that isn't heard leaves what who 0 has done
unheard : (f : Formats) (c : Caller) (who : ℕ) (step : Step) (refusal : Refusal) (image : Option Image) → is_heard (Refused refusal) ≡ false → caller_after f c who step (Refused refusal) image ≡ c
unheard f c who (AskStep command) refusal image e = ap (λ (b : Bool). if b then no_caller else c) e
unheard f c who LookStep refusal image e = ap (λ (b : Bool). if b then record no_caller { looked = true } else c) e
unheard f c who (ReadStep read) refusal image e = read_unheard f c who read refusal image e
unheard f c who step refusal image e = refl

pub unheard_stays : (f : Formats) (w : World) (m : Moment) (refusal : Refusal) → m.entry.reply ≡ Refused refusal → is_heard (Refused refusal) ≡ false → stepped f w m ≡ w
    → after f w m ≡ record w { entries = with_entry w.entries m.entry }
unheard_stays f w m refusal is quiet same =
    (λ j. record (same j) { caller = caller_after f (same j).caller m.entry.who m.entry.step m.entry.reply m.image; entries = with_entry w.entries m.entry })
    ∙ (λ j. record w { caller = caller_after f w.caller m.entry.who m.entry.step (is j) m.image; entries = with_entry w.entries m.entry })
    ∙ (λ j. record w { caller = unheard f w.caller m.entry.who m.entry.step refusal m.image quiet j; entries = with_entry w.entries m.entry })

block_unheard : (w : World) (who : ℕ) (step : Step) (refusal : Refusal) → Blocks w who step refusal → is_heard (Refused refusal) ≡ false
block_unheard w who step refusal (ByFailedSwap place d) = refl
block_unheard w who step refusal (ByDelete by d a) = refl

pub block_leaves : (f : Formats) (w : World) (who : ℕ) (step : Step) (refusal : Refusal) (image : Option Image) → Blocks w who step refusal → answered f w who step (Refused refusal) image ≡ w
block_leaves f w who step refusal image (ByFailedSwap place d) = refl
block_leaves f w who step refusal image (ByDelete by d a) = refl

pub blobs_stay : (w : World) (image : Option Image) → SameBlobs w image → blobs_in image w.blobs ≡ w.blobs
blobs_stay w None h = refl
blobs_stay w (Some i) h = h

pub blocked_stays : (f : Formats) (w : World) (m : Moment) → IsBlocked w m → after f w m ≡ record w { entries = with_entry w.entries m.entry }
blocked_stays f w m d =
    unheard_stays f w m d.refusal d.refused (block_unheard w m.entry.who m.entry.step d.refusal d.blocks)
    ((λ j. record (answered f w m.entry.who m.entry.step (d.refused j) m.image) { blobs = blobs_in m.image w.blobs })
    ∙ (λ j. record (block_leaves f w m.entry.who m.entry.step d.refusal m.image d.blocks j) { blobs = blobs_stay w m.image d.same j }))
