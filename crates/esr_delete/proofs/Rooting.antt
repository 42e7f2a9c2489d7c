-- After the root `index.latest` is next.
use Rattle.std.proofs.Common.{◌≡◌, [], ◌∷◌, ℕ, Bool, true, false, ◌||◌, not, true≢false, List, Some, inl, refl, sym, ap, ◌∙◌, subst}
use Rattle.esr_model.specs.Names.{Root}
use Rattle.esr_model.specs.Values.{Has, RootData}
use Rattle.esr_model.specs.Delete.{PrunedShard}
use Rattle.esr_core.specs.World.{Ticket, swap}
use Rattle.esr_core.specs.Pruning.{delete_swap}
use Rattle.esr_core.specs.Allowed.{HasPutLatest}
use Rattle.esr_core.specs.Entry.{Moment}
use Rattle.esr_reach.specs.Held.{HeldShard}
use Rattle.esr_desk.specs.Start.{Start, formats_of, world_of}
use Rattle.esr_desk.specs.Conditions.{CanPut}
use Rattle.esr_finish.specs.Blobs.{root_blob}
use Rattle.esr_finish.specs.Refused.{IsLatestPut, HadLatestFault}
use Rattle.esr_finish.specs.Ticket.{MayPutRoot, Wrote, raised_to}
use Rattle.esr_finish.specs.Went.{Worked}
use Rattle.esr_delete.specs.Planned.{IsPruner, IsIndexed}

pub can_put : (s : Start) (a b : Ticket) (root : RootData) (n : ℕ) → MayPutRoot s a root → Wrote (raised_to a n) b (root_blob (formats_of s) n root ∷ []) → CanPut s b n
can_put s a b root n may wrote = record {
  out = ap (λ (t : Ticket). t.out) wrote.is ∙ may.swaps.out;
  change = may.change;
  is = ap (λ (t : Ticket). swap (formats_of s) t) wrote.is ∙ may.swaps.is;
  unsettled = ap (λ (t : Ticket). t.settled) wrote.is ∙ may.swaps.unsettled;
  raised = ap (λ (t : Ticket). t.raised) wrote.is;
  written = subst (λ (t : Ticket). Has t.noted (Root n)) (sym wrote.is) (inl refl);
}

pub pruner_of : (s : Start) (t : Ticket) (held : List HeldShard) (shards : List PrunedShard) (first : ℕ) (root : RootData) (clean : Bool) → IsIndexed s t held shards first root → t.clean ≡ clean → IsPruner t clean
pruner_of s t held shards first root clean may mode = record { out = may.out; uuids = may.uuids; plan = Some (delete_swap (formats_of s) t.clean t.root t.read may.uuids shards first); work = may.work; mode = mode }

-- the ticket is still that of a delete or cleanup
pub pruner_on : (old new : Ticket) (clean : Bool) → IsPruner old clean → Worked old new → IsPruner new clean
pruner_on old new clean pruner worked = subst (λ (t : Ticket). IsPruner t clean) (sym worked.is) (record { out = pruner.out; uuids = pruner.uuids; plan = pruner.plan; work = pruner.work; mode = pruner.mode })

-- a cleanup that goes on has put it
pub latest_there : (s : Start) (log : List Moment) (who : ℕ) (put clean : Bool) → (put || not clean) ≡ true → IsLatestPut s log who put → clean ≡ true → HasPutLatest (world_of s log) who
latest_there s log who true clean on h cleans = h
latest_there s log who false true on h cleans = absurd (true≢false (sym on))
latest_there s log who false false on h cleans = absurd (true≢false (sym cleans))

-- only a cleanup doesn't go on, where the container failed in that
pub latest_failed : (s : Start) (log : List Moment) (who : ℕ) (put clean : Bool) → (put || not clean) ≡ false → IsLatestPut s log who put → (clean ≡ true) × HadLatestFault s log who
latest_failed s log who false true on h = (refl, h)
latest_failed s log who put clean on h = absurd (true≢false on)
