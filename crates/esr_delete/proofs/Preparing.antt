-- All that goes before the settle of a delete or cleanup.
use Rattle.std.proofs.Common.{◌≡◌, ◌⊎◌, inl, inr, ⊎_elim, ℕ, ◌+◌, Bool, true, false, true≢false, List, [], ◌∷◌, ◌++◌, Option, Some, None, refl, sym, ap, ◌∙◌, subst, arith}
use Rattle.esr_model.specs.Names.{BlobName, Root, ShardIndex}
use Rattle.esr_model.specs.Values.{Bytes, Has, RootIndex, RootData, Formats}
use Rattle.esr_model.specs.Image.{at_shard, at_shard_of}
use Rattle.esr_model.specs.Delete.{PrunedShard, kept_count, left_uuids, uuids_of, pruned_blobs, deleted_root, gone_shards, doomed_names}
use Rattle.esr_model.specs.Cleanup.{BlobSize, cleaned_names}
use Rattle.esr_core.specs.World.{Ticket, Work, Deleting, Swap, swap}
use Rattle.esr_core.specs.Entry.{Moment}
use Rattle.esr_core.specs.Pruning.{AreOfRoot, pruned_shards, commands_by, delete_swap, doomed_as, dooms}
use Rattle.esr_core.specs.Laws.DeleteRoots.{one_found}
use Rattle.esr_core.specs.Laws.DoomNames.{of_indices}
use Rattle.esr_core.specs.Laws.DeletePlans.{own_is}
use Rattle.esr_reach.specs.Held.{HeldShard}
use Rattle.esr_dooming.specs.Reading.{AreHeld}
use Rattle.esr_desk.specs.Start.{Start, formats_of, ticket_of}
use Rattle.esr_desk.specs.Grew.{GrewBy, grew_by_none, grew_by_on}
use Rattle.esr_desk.specs.Taken.{tried}
use Rattle.esr_desk.specs.Delete.Conditions.{CanSettleDelete}
use Rattle.esr_finish.specs.Blobs.{root_blob}
use Rattle.esr_finish.specs.Ticket.{MayPutRoot, noted_with, has_noted}
use Rattle.esr_finish.specs.Went.{Went as PutWent}
use Rattle.esr_finish.specs.SwapBlobs.{noted_before}
use Rattle.esr_delete.specs.Gathered.{IsUnplanned, HasRead}
use Rattle.esr_delete.specs.Planned.{IsDraft, HasPlanned, NotesOwn, IsUnwritten, IsIndexed}
use Rattle.esr_delete.specs.Ticket.{IsRooted, IsReady, HasWritten}
use Rattle.esr_delete.specs.Went.{Worked, Went}
use Rattle.esr_delete.proofs.Going.{worked_read, worked_put, worked_planned, worked_same, worked_on, planned_is}
use Rattle.esr_delete.proofs.Indexing.{plan_is, read_bare}

-- ---- blobs that are noted

no_root : (index number id n : ℕ) → ShardIndex index number id ≡ Root n → ⊥
no_root index number id n e = cc

some_swap : (x y : Swap) → ◌≡◌ {A = Option Swap} (Some x) (Some y) → x ≡ y
some_swap x y e = cc

-- ---- the root comes next

unnoted_root : (f : Formats) (read : List (BlobName × Bytes)) (left : List ℕ) (shards : List PrunedShard) (first n : ℕ) → Has (noted_with (pruned_blobs f read left first shards) []) (Root n) → ⊥
unnoted_root f read left shards first n has =
    noted_before (pruned_blobs f read left first shards) [] (Root n)
    (λ b one named. let own = own_is f read left shards first b.0 b.1 one in no_root own.q.index own.q.number own.id n (sym own.name_is ∙ named)) has

root_next : (s : Start) (old mid : Ticket) (held : List HeldShard) (shards : List PrunedShard) (first : ℕ) (root : RootData) → IsUnwritten s old held shards first root → NotesOwn s old mid → MayPutRoot s mid root
root_next s old mid held shards first root free notes =
    let f = formats_of s in
    let plan = delete_swap f old.clean old.root old.read free.uuids shards first in
    let same : plan ≡ notes.change = some_swap plan notes.change (sym (plan_is s old held shards first root free) ∙ notes.is) in
    let is = notes.notes.is in
    record {
      change = notes.change;
      swaps = record {
        out = ap (λ (t : Ticket). t.out) is ∙ free.out;
        is = ap (λ (t : Ticket). swap f t) is ∙ notes.is;
        unsettled = ap (λ (t : Ticket). t.settled) is ∙ free.unsettled;
      };
      root_is = free.draft.root_is ∙ ap (λ (c : Swap). c.root) same;
      noted = λ name bytes has. subst (λ (t : Ticket). Has t.noted name) (sym is) (has_noted notes.change.own old.noted (name, bytes) has);
      once = ap (λ (t : Ticket). t.raised) is ∙ free.unraised;
      unnoted = λ n has. unnoted_root f old.read (left_uuids free.uuids (uuids_of old.root)) shards first n
          (subst (λ (own : List (BlobName × Bytes)). Has (noted_with own []) (Root n)) (ap (λ (c : Swap). c.own) (sym same))
          (subst (λ (ns : List BlobName). Has (noted_with notes.change.own ns) (Root n)) free.unnoted (subst (λ (t : Ticket). Has t.noted (Root n)) is has)));
    }

-- what was drafted stays so, whatever the ticket plans and notes
draft_on : (s : Start) (t : Ticket) (work : Work) (now drawn : ℕ) (noted : List BlobName) (wrote : List (BlobName × Bytes)) (uuids : List ℕ) (held : List HeldShard) (shards : List PrunedShard) (first : ℕ) (root : RootData)
    → IsDraft s t uuids held shards first root
    → IsDraft s (record t { work = work; first = now; drawn = drawn; noted = noted; wrote = wrote }) uuids held shards first root
draft_on s t work now drawn noted wrote uuids held shards first root d = record {
  blobs = d.blobs;
  told = d.told;
  are_held = d.are_held;
  are_read = d.are_read;
  shards_are = d.shards_are;
  of_root = d.of_root;
  are_to_read = d.are_to_read;
  some_held = d.some_held;
  writable = d.writable;
  one_each = d.one_each;
  root_is = d.root_is;
  range = d.range;
}

-- all shard indices are written
pub indexed : (s : Start) (old new : Ticket) (held : List HeldShard) (shards : List PrunedShard) (first : ℕ) (root : RootData) → IsUnwritten s old held shards first root → NotesOwn s old new → IsIndexed s new held shards first root
indexed s old new held shards first root free notes =
    let noted = noted_with notes.change.own old.noted in
    let wrote = notes.notes.wrote in
    let mid : Ticket = record old { noted = noted; wrote = wrote } in
    let is : new ≡ mid = notes.notes.is in
    subst (λ (t : Ticket). IsIndexed s t held shards first root) (sym is) (record {
      uuids = free.uuids;
      out = free.out;
      unsettled = free.unsettled;
      draft = draft_on s old old.work old.first old.drawn noted wrote free.uuids held shards first root free.draft;
      work = free.work;
      next = subst (λ (t : Ticket). MayPutRoot s t root) is (root_next s old new held shards first root free notes);
      untried = free.untried;
      unlisted = record { listed = free.unlisted.listed; whole = free.unlisted.whole };
    })

-- ---- from one part to the next

pub read_free : (old new : Ticket) (clean : Bool) (root : RootData) (uuids : List ℕ) → IsUnplanned old clean root uuids → HasRead old new → IsUnplanned new clean root uuids
read_free old new clean root uuids free read = subst (λ (t : Ticket). IsUnplanned t clean root uuids) (sym read.is) (record {
  out = free.out;
  unsettled = free.unsettled;
  work = free.work;
  mode = free.mode;
  root_is = free.root_is;
  unraised = free.unraised;
  unnoted = free.unnoted;
  undrawn = free.undrawn;
  untried = free.untried;
  unlisted = record { listed = free.unlisted.listed; whole = free.unlisted.whole };
})

pub unwritten : (s : Start) (old new : Ticket) (clean : Bool) (given root : RootData) (uuids : List ℕ) (held : List HeldShard) (shards : List PrunedShard) (first : ℕ) → IsUnplanned old clean given uuids
    → HasPlanned s old new uuids held shards first root
    → IsUnwritten s new held shards first root
unwritten s old new clean given root uuids held shards first free planned =
    let plan = delete_swap (formats_of s) old.clean old.root old.read uuids shards first in
    subst (λ (t : Ticket). IsUnwritten s t held shards first root) (sym (planned.is ∙ planned_is (formats_of s) shards first old uuids free.work)) (record {
      uuids = uuids;
      out = free.out;
      unsettled = free.unsettled;
      draft = draft_on s old (Deleting uuids (Some plan)) first (kept_count shards) old.noted old.wrote uuids held shards first root planned.draft;
      work = refl;
      unraised = free.unraised;
      unnoted = free.unnoted;
      untried = free.untried;
      unlisted = record { listed = free.unlisted.listed; whole = free.unlisted.whole };
    })

-- ---- all of it

module _ (s : Start) (t0 t1 t2 m t3 : Ticket) (clean : Bool) (given root : RootData) (uuids : List ℕ) (held : List HeldShard) (shards : List PrunedShard) (first : ℕ) (names : List BlobName)
    (free : IsUnplanned t0 clean given uuids) (read : HasRead t0 t1) (planned : HasPlanned s t1 t2 uuids held shards first root) (notes : NotesOwn s t2 m) (ready : IsReady s m t3 root names) where
  plan : Swap
  plan = delete_swap (formats_of s) t0.clean t0.root read.read uuids shards first

  work_is : t1.work ≡ Deleting uuids None
  work_is = ap (λ (t : Ticket). t.work) read.is ∙ free.work

  planned_as : t2 ≡ record t0 { read = read.read; first = first; drawn = kept_count shards; work = Deleting uuids (Some plan) }
  unfolding plan
  planned_as =
      planned.is ∙ planned_is (formats_of s) shards first t1 uuids work_is
      ∙ ap (λ (t : Ticket). record t { first = first; drawn = kept_count shards; work = Deleting uuids (Some (delete_swap (formats_of s) t.clean t.root t.read uuids shards first)) }) read.is

  change_is : notes.change ≡ plan
  change_is = some_swap notes.change plan (sym notes.is ∙ ap (λ (t : Ticket). swap (formats_of s) t) planned_as)

  root_as : root ≡ plan.root
  unfolding plan deleted_root
  root_as = planned.draft.root_is ∙ ap (λ (t : Ticket). deleted_root t.root uuids shards first) read.is

  abbrev n : ℕ
  n = ready.n

  abbrev wrote : List (BlobName × Bytes)
  wrote = ready.rooted.wrote.wrote

  put_as : t3 ≡ record t2 { noted = Root n ∷ noted_with notes.change.own t2.noted; wrote = wrote; raised = Some n; tried_latest = true; listed = ready.listed; whole = ready.whole }
  put_as =
      ready.rooted.is ∙ ap (λ (t : Ticket). tried t) ready.rooted.wrote.is
      ∙ ap (λ (t : Ticket). record t { noted = Root n ∷ t.noted; wrote = wrote; raised = Some n; tried_latest = true; listed = ready.listed; whole = ready.whole }) notes.notes.is

  from : s.tells ≡ true → (b : BlobName × Bytes) → Has wrote b → Has t0.wrote b ⊎ (Has plan.own b ⊎ (root_blob (formats_of s) n plan.root ≡ b))
  from tells b has = ⊎_elim
      (λ (before : Has m.wrote b). ⊎_elim
      (λ (old : Has t2.wrote b). inl (subst (λ (t : Ticket). Has t.wrote b) planned_as old))
      (λ (own : Has notes.change.own b). inr (inl (subst (λ (c : Swap). Has c.own b) change_is own)))
      (notes.notes.from tells b (subst (λ (t : Ticket). Has t.wrote b) notes.notes.is before)))
      (λ (one : Has (root_blob (formats_of s) n root ∷ []) b). inr (inr (the_root one)))
      (ready.rooted.wrote.from b has)
    where
      the_root : Has (root_blob (formats_of s) n root ∷ []) b → root_blob (formats_of s) n plan.root ≡ b
      the_root (inl same) = ap (λ (r : RootData). root_blob (formats_of s) n r) (sym root_as) ∙ same
      the_root (inr none) = absurd none

  -- it has listed as its mode asks for
  mode_as : m.clean ≡ t0.clean
  mode_as = ap (λ (t : Ticket). t.clean) (notes.notes.is ∙ ap (λ (t : Ticket). record t { noted = noted_with notes.change.own t2.noted; wrote = notes.notes.wrote }) planned_as)

  pub written : HasWritten s t0 t3
  unfolding plan
  written =
      let root_same : t1.root ≡ t0.root = ap (λ (t : Ticket). t.root) read.is in
      let read_same : t1.read ≡ read.read = ap (λ (t : Ticket). t.read) read.is in
      let mode_same : t1.clean ≡ t0.clean = ap (λ (t : Ticket). t.clean) read.is in
      let as_m : m ≡ record t0 { read = read.read; first = first; drawn = kept_count shards; work = Deleting uuids (Some plan); noted = noted_with notes.change.own t2.noted; wrote = notes.notes.wrote } =
      notes.notes.is ∙ ap (λ (t : Ticket). record t { noted = noted_with notes.change.own t2.noted; wrote = notes.notes.wrote }) planned_as in
      record {
        uuids = uuids;
        was = free.work;
        blobs = planned.draft.blobs;
        read = read.read;
        told = λ tells. sym read_same ∙ planned.draft.told tells;
        shards = shards;
        shards_are = planned.draft.shards_are ∙ (λ j. pruned_shards (formats_of s) (mode_same j) (root_same j) uuids planned.draft.blobs);
        of_root = subst (λ (r : RootData). AreOfRoot r shards) root_same planned.draft.of_root;
        first = first;
        change = plan;
        change_is = refl;
        n = n;
        wrote = wrote;
        from = from;
        listed = ready.listed;
        whole = ready.whole;
        lists = record {
          cleans = λ cleans. ready.lists.cleans (mode_as ∙ cleans);
          deletes = λ deletes.
              let was = ready.lists.deletes (mode_as ∙ deletes) in
              (was.0 ∙ ap (λ (t : Ticket). t.listed) as_m, was.1 ∙ ap (λ (t : Ticket). t.whole) as_m);
        };
        is =
            put_as
            ∙ ap (λ (t : Ticket). record t { noted = Root n ∷ noted_with notes.change.own t.noted; wrote = wrote; raised = Some n; tried_latest = true; listed = ready.listed; whole = ready.whole }) planned_as
            ∙ ap (λ (c : Swap). record t0 {
              work = Deleting uuids (Some plan);
              first = first;
              drawn = kept_count shards;
              noted = Root n ∷ noted_with c.own t0.noted;
              wrote = wrote;
              read = read.read;
              raised = Some n;
              tried_latest = true;
              listed = ready.listed;
              whole = ready.whole;
            })
            change_is;
      }

  -- it may settle
  pub settles : CanSettleDelete s t3 root
  unfolding plan written
  settles =
      let is = written.is in
      let swap_is : swap (formats_of s) t3 ≡ Some plan = ap (λ (t : Ticket). swap (formats_of s) t) is in
      let mode : t3.clean ≡ t0.clean = ap (λ (t : Ticket). t.clean) is in
      record {
        settle = record {
          change = plan;
          n = n;
          put = record {
            out = ap (λ (t : Ticket). t.out) is ∙ free.out;
            change = plan;
            is = swap_is;
            unsettled = ap (λ (t : Ticket). t.settled) is ∙ free.unsettled;
            raised = ap (λ (t : Ticket). t.raised) is;
            written = subst (λ (t : Ticket). Has t.noted (Root n)) (sym is) (inl refl);
          };
          is = swap_is;
          root_is = root_as;
          ready = λ name bytes has. subst (λ (t : Ticket). Has t.noted name) (sym is) (inr (has_noted plan.own t0.noted (name, bytes) has));
          tried = ap (λ (t : Ticket). t.tried_latest) is;
        };
        uuids = uuids;
        work = ap (λ (t : Ticket). t.work) is;
        commands = ap (λ (c : Bool). commands_by c uuids) (sym mode);
        listed = λ cleans. ap (λ (t : Ticket). t.whole) is ∙ written.lists.cleans (sym mode ∙ cleans);
      }

-- ---- what it dooms

module _ (s : Start) (t new : Ticket) (held : List HeldShard) (shards : List PrunedShard) (first : ℕ) (root : RootData) (n : ℕ) (listed : List BlobSize) (whole : Bool) (may : IsIndexed s t held shards first root)
    (rooted : IsRooted (formats_of s) (record t { listed = listed; whole = whole }) new root n) where
  abbrev its_plan : Swap
  its_plan = delete_swap (formats_of s) t.clean t.root t.read may.uuids shards first

  -- the ticket with its root
  abbrev last : Ticket
  last = record t { work = Deleting may.uuids (Some its_plan); noted = Root n ∷ t.noted; wrote = rooted.wrote.wrote; raised = Some n; tried_latest = true; listed = listed; whole = whole }

  new_as : new ≡ last
  new_as =
      rooted.is ∙ ap (λ (u : Ticket). tried u) rooted.wrote.is
      ∙ ap (λ (w : Work). record t { work = w; noted = Root n ∷ t.noted; wrote = rooted.wrote.wrote; raised = Some n; tried_latest = true; listed = listed; whole = whole }) may.work

  dooms_as : (clean : Bool) → t.clean ≡ clean → dooms (formats_of s) new ≡ doomed_as (formats_of s) last may.uuids its_plan clean
  dooms_as clean mode = ap (λ (u : Ticket). dooms (formats_of s) u) new_as ∙ ap (doomed_as (formats_of s) last may.uuids its_plan) mode

  -- a cleanup what it listed and the root doesn't reach
  clean_dooms : t.clean ≡ true → dooms (formats_of s) new ≡ cleaned_names (formats_of s) (Some n) root (pruned_blobs (formats_of s) t.read (left_uuids may.uuids (uuids_of t.root)) first shards ++ t.read) listed
  clean_dooms cleans =
      dooms_as true cleans ∙ ap (λ (r : RootData). cleaned_names (formats_of s) (Some n) r (pruned_blobs (formats_of s) t.read (left_uuids may.uuids (uuids_of t.root)) first shards ++ t.read) listed) (sym may.draft.root_is)

  pub cleanup_ready : (names : List BlobName) → t.clean ≡ true → whole ≡ true
      → (s.tells ≡ true → names ≡ cleaned_names (formats_of s) (Some n) root (pruned_blobs (formats_of s) t.read (left_uuids may.uuids (uuids_of t.root)) first shards ++ t.read) listed) → IsReady s t new root names
  cleanup_ready names cleans ended are = record {
    listed = listed;
    whole = whole;
    lists = record { cleans = λ mode. ended; deletes = λ deletes. absurd (true≢false (sym cleans ∙ deletes)) };
    n = n;
    rooted = rooted;
    doomed = λ tells. are tells ∙ sym (clean_dooms cleans);
  }

-- a delete lists nothing
module _ (s : Start) (t new : Ticket) (held : List HeldShard) (shards : List PrunedShard) (first : ℕ) (root : RootData) (n : ℕ)
    (may : IsIndexed s t held shards first root) (rooted : IsRooted (formats_of s) t new root n) (deletes : t.clean ≡ false) where
  -- what is held of the shards that are gone was read of them
  gone_held : AreHeld (formats_of s) may.draft.blobs held (gone_shards root t.root.indices)
  gone_held p gone =
      let f = formats_of s in
      let d = may.draft in
      let (x, there, h) = of_indices root t.root.indices p gone in
      let number : p.number ≡ h.place = h.number_is ∙ from_zero h.place in
      let found = one_found t.root.indices d.one_each x there p.index (sym h.index_is) in
      d.are_held p.index p.number p.base (ap (λ (o : Option RootIndex). at_shard_of o p.number) found ∙ ap (at_shard x.generations) number ∙ h.at) ∙ sym (read_bare f d.blobs p)
    where
      from_zero : (k : ℕ) → 0 + k ≡ k
      from_zero k = omega arith

  pub delete_ready : (safe : ℕ) (given : RootData) (uuids : List ℕ) (names : List BlobName) → given ≡ t.root → safe ≡ t.safe → uuids ≡ may.uuids
      → (AreHeld (formats_of s) may.draft.blobs held (gone_shards root given.indices) → names ≡ doomed_names (formats_of s) safe given root uuids may.draft.blobs) → IsReady s t new root names
  delete_ready safe given uuids names given_is safe_is uuids_are are = record {
    listed = t.listed;
    whole = t.whole;
    lists = record { cleans = λ cleans. absurd (true≢false (sym cleans ∙ deletes)); deletes = λ mode. (refl, refl) };
    n = n;
    rooted = rooted;
    doomed = λ tells.
        let told : may.draft.blobs ≡ t.read = sym (may.draft.told tells) in
        are (subst (λ (r : RootData). AreHeld (formats_of s) may.draft.blobs held (gone_shards root r.indices)) (sym given_is) gone_held)
        ∙ (λ j. doomed_names (formats_of s) (safe_is j) (given_is j) (may.draft.root_is j) (uuids_are j) (told j))
        ∙ sym (dooms_as s t new held shards first root n t.listed t.whole may rooted false deletes);
  }

-- ---- how far it went

pub went_read : (s : Start) (old new : List Moment) (who : ℕ) (clean : Bool) (root : RootData) (uuids : List ℕ) → IsUnplanned (ticket_of s old who) clean root uuids → GrewBy s who old new
    → HasRead (ticket_of s old who) (ticket_of s new who) → Went s old new who
went_read s old new who clean root uuids free grew read = record { grew = grew; worked = worked_read (ticket_of s old who) (ticket_of s new who) uuids None free.work read }

pub went_kept : (s : Start) (old mid new : List Moment) (who : ℕ) → Went s old mid who → GrewBy s who mid new → ticket_of s new who ≡ ticket_of s mid who → Went s old new who
went_kept s old mid new who went grew same = record { grew = grew_by_on s who old mid new went.grew grew; worked = subst (λ (t : Ticket). Worked (ticket_of s old who) t) (sym same) went.worked }

pub went_planned : (s : Start) (old mid new : List Moment) (who : ℕ) (clean : Bool) (given root : RootData) (uuids : List ℕ) (held : List HeldShard) (shards : List PrunedShard) (first : ℕ) → Went s old mid who
    → IsUnplanned (ticket_of s mid who) clean given uuids
    → GrewBy s who mid new → HasPlanned s (ticket_of s mid who) (ticket_of s new who) uuids held shards first root → Went s old new who
went_planned s old mid new who clean given root uuids held shards first went free grew planned = record {
  grew = grew_by_on s who old mid new went.grew grew;
  worked = worked_on (ticket_of s old who) (ticket_of s mid who) (ticket_of s new who) went.worked (worked_planned (formats_of s) shards first (ticket_of s mid who) (ticket_of s new who) uuids free.work planned.is);
}

-- nothing was done
pub went_none : (s : Start) (log : List Moment) (who : ℕ) (uuids : List ℕ) (plan : Option Swap) → (ticket_of s log who).work ≡ Deleting uuids plan → Went s log log who
went_none s log who uuids plan work = record { grew = grew_by_none s who log; worked = worked_same (ticket_of s log who) uuids plan work }

pub went_join : (s : Start) (old mid new : List Moment) (who : ℕ) → Went s old mid who → Went s mid new who → Went s old new who
went_join s old mid new who first second = record {
  grew = grew_by_on s who old mid new first.grew second.grew;
  worked = worked_on (ticket_of s old who) (ticket_of s mid who) (ticket_of s new who) first.worked second.worked;
}

-- blobs were put
pub went_put : (s : Start) (old new : List Moment) (who : ℕ) (uuids : List ℕ) (plan : Option Swap) → (ticket_of s old who).work ≡ Deleting uuids plan → PutWent s old new who → Went s old new who
went_put s old new who uuids plan work put = record { grew = put.grew; worked = worked_put (ticket_of s old who) (ticket_of s new who) uuids plan work put.worked }

pub went_then_put : (s : Start) (old mid new : List Moment) (who : ℕ) → Went s old mid who → PutWent s mid new who → Went s old new who
went_then_put s old mid new who went put =
    went_join s old mid new who went (went_put s mid new who went.worked.uuids went.worked.plan (ap (λ (t : Ticket). t.work) went.worked.is) put)
