-- From one part of the unit to the next.
use Rattle.std.proofs.Common.{◌≡◌, inl, inr, ℕ, true, List, [], ◌∷◌, map, Option, Some, refl, sym, ap, ◌∙◌, subst}
use Rattle.esr_model.specs.Names.{BlobName, Root, Snap, Meta, IndexMeta}
use Rattle.esr_model.specs.Values.{Bytes, Has, IndexRef, RootData, SnapInfo, Formats}
use Rattle.esr_model.specs.Finalize.{finalized_root}
use Rattle.esr_core.specs.World.{Ticket, Work as TicketWork, Shard, Swap, Finalize, Deleting, swap, metadata}
use Rattle.esr_core.specs.Ready.{IsShard, IsMaster}
use Rattle.esr_root.specs.Root as code
use Rattle.esr_meta.specs.Info.{Info}
use Rattle.esr_results.specs.declared.result.ShardResult.{ShardResult}
use Rattle.esr_results.specs.Results.{result_of}
use Rattle.esr_ops.specs.declared.unit.Work.{Work}
use Rattle.esr_ops.specs.declared.unit.Work.TheVariants as works
use Rattle.esr_ops.specs.declared.unit.Copied.{Copied}
use Rattle.esr_formats.specs.Infos.{info_of_code}
use Rattle.esr_formats.specs.Roots.{root_of}
use Rattle.esr_core.specs.Entry.{Moment}
use Rattle.esr_desk.specs.Start.{Start, formats_of, ticket_of}
use Rattle.esr_desk.specs.Conditions.{CanSettle, CanFail, CanFinish, IsUnpruned}
use Rattle.esr_desk.specs.Taken.{fresh, TookWork}
use Rattle.esr_finish.specs.Blobs.{index_blob}
use Rattle.esr_finish.specs.Ticket.{HasSwap, IsUnsettledMaster, MayWrite, MayPutRoot, has_noted, Wrote, IsWritten}
use Rattle.esr_finish.specs.Went.{Worked}
use Rattle.esr_finish.specs.SwapBlobs.{noted_before}
use Rattle.esr_finish.proofs.Writing.{swap_stays}

-- no metadata has the name of a root
no_index_root : (f : Formats) (uuid : ℕ) (refs : List IndexRef) (n : ℕ) (b : BlobName × Bytes) → Has (map (λ (r : IndexRef). index_blob f uuid r) refs) b → b.0 ≡ Root n → ⊥
no_index_root f uuid [] n b none is = none
no_index_root f uuid (r ∷ refs) n b (inl here) is = let name : IndexMeta r.id uuid ≡ Root n = ap (λ (x : BlobName × Bytes). x.0) here ∙ is in cc
no_index_root f uuid (r ∷ refs) n b (inr later) is = no_index_root f uuid refs n b later is

no_root : (f : Formats) (info : SnapInfo) (n : ℕ) (b : BlobName × Bytes) → Has (metadata f info) b → b.0 ≡ Root n → ⊥
no_root f info n b (inl snap) is = let name : Snap info.uuid ≡ Root n = ap (λ (x : BlobName × Bytes). x.0) snap ∙ is in cc
no_root f info n b (inr (inl meta)) is = let name : Meta info.uuid ≡ Root n = ap (λ (x : BlobName × Bytes). x.0) meta ∙ is in cc
no_root f info n b (inr (inr index)) is = no_index_root f info.uuid info.indices n b index is

-- after the metadata the root is next
pub root_next : (s : Start) (a b : Ticket) (info : SnapInfo) (root : RootData) → MayWrite s a info root → Wrote a b (metadata (formats_of s) info) → Worked a b → MayPutRoot s b root
root_next s a b info root may wrote worked = record {
  change = may.change;
  swaps = swap_stays s a b may.change worked may.swaps;
  root_is = may.root_is;
  noted = λ name bytes has. subst (λ (t : Ticket). Has t.noted name) (sym wrote.is)
      (has_noted (metadata (formats_of s) info) a.noted (name, bytes) (subst (λ (own : List (BlobName × Bytes)). Has own (name, bytes)) may.own_is has));
  once = ap (λ (t : Ticket). t.raised) wrote.is ∙ may.once;
  unnoted = λ n has. subst (λ (noted : List BlobName). Has noted (Root n)) may.unnoted (noted_before (metadata (formats_of s) info) a.noted (Root n) (no_root (formats_of s) info n) (subst (λ (t : Ticket). Has t.noted (Root n)) wrote.is has));
}

-- after all of it, the settle
pub settle_next : (s : Start) (a b : Ticket) (info : SnapInfo) (root : RootData) → MayWrite s a info root → IsWritten (formats_of s) a b → CanSettle s b root
settle_next s a b info root may written =
    let change = written.change in
    let n = written.n in
    let swaps_a : swap (formats_of s) a ≡ Some change = written.swaps in
    let same : may.change ≡ change = cc (may.swaps.is) in
    let is : swap (formats_of s) b ≡ Some change = ap (λ (t : Ticket). swap (formats_of s) t) written.is ∙ swaps_a in
    record {
      change = change;
      n = n;
      put = record {
        out = ap (λ (t : Ticket). t.out) written.is ∙ may.swaps.out;
        change = change;
        is = is;
        unsettled = ap (λ (t : Ticket). t.settled) written.is ∙ may.swaps.unsettled;
        raised = ap (λ (t : Ticket). t.raised) written.is;
        written = subst (λ (t : Ticket). Has t.noted (Root n)) (sym written.is) (inl refl);
      };
      is = is;
      root_is = may.root_is ∙ ap (λ (c : Swap). c.root) same;
      ready = λ name bytes has. subst (λ (t : Ticket). Has t.noted name) (sym written.is) (inr (has_noted change.own a.noted (name, bytes) has));
      tried = ap (λ (t : Ticket). t.tried_latest) written.is;
    }

-- a finalization as it was taken may write its blobs
took_may : (s : Start) (t : Ticket) (info : Info) (shards : List ShardResult) (root : code.Root) (op : ℕ) (copy : Copied) → TookWork (works.Finalize info shards) (Some root) op copy t
    → MayWrite s t (info_of_code info) (root_of root)
took_may s t info shards root op copy (term, made, is, root_is) =
    let f = formats_of s in
    let i = info_of_code info in
    let results = map result_of shards in
    let old = root_of copy.root in
    let change : Swap = record { root = finalized_root old i results; own = metadata f i; commands = made ∷ [] } in
    let new : Ticket = fresh (Finalize i results made) op info.uuid.number [] [] term copy in
    let has : HasSwap s new change = record { out = refl; is = refl; unsettled = refl } in
    record {
      change = change;
      swaps = subst (λ (u : Ticket). HasSwap s u change) (sym is) has;
      own_is = refl;
      root_is = root_is;
      once = ap (λ (u : Ticket). u.raised) is;
      unnoted = ap (λ (u : Ticket). u.noted) is;
      untried = ap (λ (u : Ticket). u.tried_latest) is;
      plain = ap (λ (u : Ticket). u.clean) is;
    }

pub took_writes : (s : Start) (t : Ticket) (work : Work) (new : Option code.Root) (op : ℕ) (copy : Copied) (info : Info) (shards : List ShardResult) (root : code.Root)
    → work ≡ works.Finalize info shards → new ≡ Some root → TookWork work new op copy t → MayWrite s t (info_of_code info) (root_of root)
took_writes s t work new op copy info shards root work_is new_is took =
    took_may s t info shards root op copy
    (subst (λ (w : Work). TookWork w (Some root) op copy t) work_is (subst (λ (n : Option code.Root). TookWork work n op copy t) new_is took))

-- a finalization's ticket is of no delete
pub took_unpruned : (t : Ticket) (work : Work) (new : Option code.Root) (op : ℕ) (copy : Copied) (info : Info) (shards : List ShardResult) → work ≡ works.Finalize info shards → TookWork work new op copy t → IsUnpruned t
took_unpruned t work new op copy info shards work_is took uuids plan is =
    let (term, made, t_is, root_is) = subst (λ (w : Work). TookWork w new op copy t) work_is took in
    let same : Finalize (info_of_code info) (map result_of shards) made ≡ Deleting uuids plan = sym (ap (λ (u : Ticket). u.work) t_is) ∙ is in
    cc

-- also once it has worked
pub worked_unpruned : (a b : Ticket) → Worked a b → IsUnpruned a → IsUnpruned b
worked_unpruned a b worked none uuids plan is = none uuids plan (sym (ap (λ (t : Ticket). t.work) worked.is) ∙ is)

-- it may fail before it settles
pub final_fails : (a b : Ticket) (work : Work) (new : Option code.Root) (op : ℕ) (copy : Copied) (info : Info) (shards : List ShardResult) → work ≡ works.Finalize info shards → TookWork work new op copy a → Worked a b → CanFail b
final_fails a b work new op copy info shards work_is took worked =
    let (term, made, t_is, root_is) = subst (λ (w : Work). TookWork w new op copy a) work_is took in
    record {
      out = ap (λ (t : Ticket). t.out) worked.is ∙ ap (λ (t : Ticket). t.out) t_is;
      unsettled = ap (λ (t : Ticket). t.settled) worked.is ∙ ap (λ (t : Ticket). t.settled) t_is;
      unit = inr (subst IsMaster (sym (ap (λ (t : Ticket). t.work) worked.is ∙ ap (λ (t : Ticket). t.work) t_is)) tt);
      unpruned = worked_unpruned a b worked (took_unpruned a work new op copy info shards work_is took);
    }

-- it is one of a finalization that hasn't settled
pub final_master : (a b : Ticket) (work : Work) (new : Option code.Root) (op : ℕ) (copy : Copied) (info : Info) (shards : List ShardResult) → work ≡ works.Finalize info shards → TookWork work new op copy a → Worked a b
    → IsUnsettledMaster b
final_master a b work new op copy info shards work_is took worked =
    let (term, made, t_is, root_is) = subst (λ (w : Work). TookWork w new op copy a) work_is took in
    record {
      fails = final_fails a b work new op copy info shards work_is took worked;
      master = subst IsMaster (sym (ap (λ (t : Ticket). t.work) worked.is ∙ ap (λ (t : Ticket). t.work) t_is)) tt;
    }

pub no_master_shard : (work : TicketWork) → IsMaster work → IsShard work → ⊥
no_master_shard (Shard index number) master shard = master
no_master_shard (Finalize info results made) master shard = shard
no_master_shard work master shard = shard

-- it ends when it has settled
pub settled_ends : (s : Start) (log : List Moment) (who : ℕ) (t : Ticket) → IsUnsettledMaster t → ticket_of s log who ≡ record t { settled = true } → CanFinish s log who
settled_ends s log who t master settled =
    let is = ap (λ (u : Ticket). u.work) settled in
    record {
      out = ap (λ (u : Ticket). u.out) settled ∙ master.fails.out;
      no_shard = λ shard. no_master_shard t.work master.master (subst IsShard is shard);
      done = inl (record { settled = ap (λ (u : Ticket). u.settled) settled; unpruned = λ uuids plan deletes. master.fails.unpruned uuids plan (sym is ∙ deletes) });
    }
