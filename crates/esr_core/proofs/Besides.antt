-- What a step that reads leaves: all that the law of snapshots, deletes and swaps speaks of.
use Rattle.std.proofs.Common.{◌≡◌, ℕ, suc, ◌<◌, ◌≤◌, List, Bool, Option, Some, None, refl, sym, subst, arith, nat_cmp}
use Rattle.std.specs.FinMap.{FinMap}
use Rattle.esr_model.specs.Names.{BlobName}
use Rattle.esr_model.specs.Values.{Bytes, IndexRef, Formats}
use Rattle.esr_model.specs.Shelf.{Shelved}
use Rattle.esr_model.specs.Image.{Blobs}
use Rattle.esr_core.specs.World.{World, RestoreShard, Restoring, Reader, Caller}
use Rattle.esr_core.specs.Restores.{restore_shard, restore_opened, shard_handed}
use Rattle.esr_core.specs.Entry.{Entry}
use Rattle.esr_core.specs.After.{taken_restore_shard, taken_restore}
use Rattle.esr_core.specs.Turns.{ReadTurn, OpensRestore, HandsShard, ReadsMore, EndsShard, Calls}
use Rattle.esr_core.specs.Sound.{Sound}
use Rattle.esr_core.specs.Queue.{QueueIn, Lawful}
use Rattle.esr_core.specs.Ids.{InTerm}
use Rattle.esr_core.specs.Tracked.{Tracked}
use Rattle.esr_core.specs.Laws.Asides.{Aside, aside_same, aside_read, aside_ended}

pub aside_opened : (w new : World) (uuid : ℕ) (place : Bytes) (indices : List IndexRef) → new ≡ restore_opened w uuid place indices → Aside w new
aside_opened w new uuid place indices e =
    record { restores = (restore_opened w uuid place indices).restores; readers = w.readers; caller = w.caller; entries = w.entries; next_op = suc w.next_op; next_ticket = w.next_ticket; ops = omega arith; tickets = omega arith; new_is = e }

pub aside_handed : (w new : World) (o : ℕ) (r : Restoring) (s : RestoreShard) → new ≡ shard_handed w o r s → Aside w new
aside_handed w new o r s e =
    record { restores = (shard_handed w o r s).restores; readers = (shard_handed w o r s).readers; caller = w.caller; entries = w.entries; next_op = w.next_op; next_ticket = suc w.next_ticket; ops = omega arith; tickets = omega arith; new_is = e }

pub aside_called : (w new : World) (caller : Caller) (entries : List Entry) → new ≡ record w { caller = caller; entries = entries } → Aside w new
aside_called w new caller entries e =
    record { restores = w.restores; readers = w.readers; caller = caller; entries = entries; next_op = w.next_op; next_ticket = w.next_ticket; ops = omega arith; tickets = omega arith; new_is = e }

pub aside_of : (f : Formats) (w new : World) → ReadTurn f w new → Aside w new
aside_of f w new (OpensRestore m uuid place indices h) = aside_opened w m uuid place indices h.new_is
aside_of f w new (HandsShard m o r s h) = aside_handed w m o r s h.new_is
aside_of f w new (ReadsMore m k name bytes h) = aside_read w m k h.q name bytes h.new_is
aside_of f w new (EndsShard m k state h) = aside_ended w m k h.q h.r state h.new_is
aside_of f w new (Calls m caller entries e) = aside_called w m caller entries e

-- ---- the steps of a history

aside_taken_shard : (w : World) (o : ℕ) (r : Restoring) (s : Option RestoreShard) → Aside w (taken_restore_shard w o r s)
aside_taken_shard w o r None = aside_same w
aside_taken_shard w o r (Some s) = aside_handed w _ o r s refl

pub aside_taken : (w : World) (o index number : ℕ) (r : Option Restoring) → Aside w (taken_restore w o index number r)
aside_taken w o index number None = aside_same w
aside_taken w o index number (Some r) = aside_taken_shard w o r (restore_shard r.shards index number)

-- ---- what of the law reads the numbers

sound_aside : (f : Formats) (w new : World) (shelf : List Shelved) → Aside w new → Sound f w shelf → Sound f new shelf
sound_aside f w new shelf a l = subst (λ x. Sound f x shelf) (sym a.new_is) (record {
  rooted = record { kept = l.rooted.kept; doomed_begun = l.rooted.doomed_begun; tickets = l.rooted.tickets; single = l.rooted.single };
  carried = l.carried;
  fresh = λ k t e. let b : k < w.next_ticket = l.fresh k t e in let c : w.next_ticket ≤ a.next_ticket = a.tickets in omega (arith, b, c);
})

queue_aside : (w new : World) → Aside w new → QueueIn w → QueueIn new
queue_aside w new a q = subst QueueIn (sym a.new_is) (record {
  numbers = λ o op e. let b : o < w.next_op = q.numbers o op e in let c : w.next_op ≤ a.next_op = a.ops in omega (arith, b, c);
  delete_numbers = λ d x e. let b : d < w.next_op = q.delete_numbers d x e in let c : w.next_op ≤ a.next_op = a.ops in omega (arith, b, c);
  apart = q.apart;
  behind = q.behind;
  queued = q.queued;
  given_up = q.given_up;
  completes = q.completes;
  completed_numbers = λ o m. let b : o < w.next_op = q.completed_numbers o m in let c : w.next_op ≤ a.next_op = a.ops in omega (arith, b, c);
  completed_done = q.completed_done;
  lone = q.lone;
  sources = q.sources;
  sole = q.sole;
  deleting = q.deleting;
  drops = q.drops;
  one_swap = q.one_swap;
})

pub lawful_aside : (f : Formats) (w new : World) (shelf : List Shelved) → Aside w new → Lawful f w shelf → Lawful f new shelf
lawful_aside f w new shelf a l = record { sound = sound_aside f w new shelf a l.sound; queue = queue_aside w new a l.queue }

pub term_aside : (w new : World) → Aside w new → InTerm w → InTerm new
term_aside w new a h = subst InTerm (sym a.new_is) (record { from = h.from; below = h.below })

-- a fact that reads none of what changes
pub kept_aside : (P : World → Type 0) (w new : World) (a : Aside w new) → P (record w { restores = a.restores; readers = a.readers; caller = a.caller; entries = a.entries; next_op = a.next_op; next_ticket = a.next_ticket }) → P new
kept_aside P w new a h = subst P (sym a.new_is) h

-- the order of a world reads none of these, and the next numbers may rise
pub tracked_besides : (w : World) → Tracked w → (blobs : Blobs) (safe pending : ℕ) (completed : List ℕ) (doomed : List BlobName) (deposed : Bool)
    (restores : FinMap nat_cmp Restoring) (readers : FinMap nat_cmp Reader) (caller : Caller) (entries : List Entry) (next_op next_ticket : ℕ) → w.next_op ≤ next_op → w.next_ticket ≤ next_ticket
    → Tracked
    (record w { blobs = blobs; safe = safe; pending = pending; completed = completed; doomed = doomed; deposed = deposed; restores = restores; readers = readers; caller = caller; entries = entries; next_op = next_op; next_ticket = next_ticket })
tracked_besides w l blobs safe pending completed doomed deposed restores readers caller entries next_op next_ticket ops tickets =
    record {
      numbers = λ o op e. let b : o < w.next_op = l.numbers o op e in omega (arith, b, ops);
      delete_numbers = λ d x e. let b : d < w.next_op = l.delete_numbers d x e in omega (arith, b, ops);
      apart = l.apart;
      tickets = λ k t e. let h = l.tickets k t e in let b : k < w.next_ticket = h.0 in (omega (arith, b, tickets), h.1, h.2);
      begun = λ k t e. let b : t.op < w.next_op = l.begun k t e in omega (arith, b, ops);
      first_ticket = let b : 1 ≤ w.next_ticket = l.first_ticket in omega (arith, b, tickets);
      shards = l.shards;
      held = l.held;
      finals = l.finals;
      drops = l.drops;
      deleting = l.deleting;
      deletions = l.deletions;
      one_swap = l.one_swap;
      named = l.named;
      in_term = record { from = l.in_term.from; below = l.in_term.below };
    }

pub tracked_aside_of : (w new : World) → Aside w new → Tracked w → Tracked new
tracked_aside_of w new a l =
    subst Tracked (sym a.new_is) (tracked_besides w l w.blobs w.safe w.pending w.completed w.doomed w.deposed a.restores a.readers a.caller a.entries a.next_op a.next_ticket a.ops a.tickets)
