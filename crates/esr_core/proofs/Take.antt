-- A finalization that is taken keeps the law: what it stages stands.
use Rattle.std.proofs.Common.{◌≡◌, ◌≢◌, ◌⊎◌, ℕ, suc, ◌<◌, filter, List, [], ◌∷◌, ◌++◌, Option, Some, None, refl, sym, ap, ◌∙◌, subst, inl, inr, arith, le_refl}
use Rattle.std.specs.Cmp.{nat_cmp_total}
use Rattle.std.specs.FinMap.{nat_cmp-IsAntisymmetric}
use Rattle.std.specs.FinMap as fin
use Rattle.std.proofs.lemmas.Option.{same_Some}
use Rattle.esr_model.specs.Names.{BlobName, Root, Snap, Meta, IndexMeta}
use Rattle.esr_model.specs.Values.{Bytes, IndexRef, RootData, SnapInfo, ShardResult, ReadsBack, Formats}
use Rattle.esr_model.specs.Shelf.{Shelved, Command, apply, shelf_after, is_of_one, copied_snap}
use Rattle.esr_model.specs.Places.{shelf_places}
use Rattle.esr_model.specs.Image.{Has, AllPairs, ShardStands, RootStands}
use Rattle.esr_model.specs.Finalize.{Finalizes, finalized_root, done_at}
use Rattle.esr_core.specs.World.{World, Op, ShardWork, Shard, Finalize, Deleting, Ticket, Swap, Done, AllDone, info_of, shelved_of, index_names, made_from, made_of, metadata, ledger_of, HeldIn}
use Rattle.esr_core.specs.Steps.{TakeFinalize, final_ticket}
use Rattle.esr_core.specs.Restores.{IsTestOf}
use Rattle.esr_core.specs.Swaps.{Rooted, IsSwapping, SwapLaw, SwapShape, TicketLaw, OrOwn}
use Rattle.esr_core.specs.Generations.{DoneAt, OpLaw, FinalLaw, PlanLaw, Carried}
use Rattle.esr_core.specs.Laws.Maps.{get_was, get_other}
use Rattle.esr_model.specs.Lists.{Has-mapped}
use Rattle.esr_core.specs.Laws.OneValue.{held_one, safe_root_stands}
use Rattle.esr_core.specs.Laws.DoneShards.{found_done, done_found}
use Rattle.esr_core.specs.Laws.Metadata.{Kinds, IsIndex, IsMeta, IsSnap, kinds}
use Rattle.esr_core.proofs.Staging.{listed_shelved, stored_shards, copied_shards, stage}
use Rattle.esr_core.specs.Laws.NewRoots.{finalizes, root_one_each}
use Rattle.esr_core.proofs.Tickets.{each_ticket, swapping_new}

one_kind : (f : Formats) (info : SnapInfo) → ((r q : IndexRef) → Has info.indices r → Has info.indices q → r.id ≡ q.id → r ≡ q) → (name : BlobName) (a b : Bytes) → Kinds f info name a → Kinds f info name b → a ≡ b
one_kind f info one name a b (IsSnap n t) (IsSnap m u) = t ∙ sym u
one_kind f info one name a b (IsSnap n t) (IsMeta m u) = cc
one_kind f info one name a b (IsSnap n t) (IsIndex q m e u) = cc
one_kind f info one name a b (IsMeta n t) (IsSnap m u) = cc
one_kind f info one name a b (IsMeta n t) (IsMeta m u) = t ∙ sym u
one_kind f info one name a b (IsMeta n t) (IsIndex q m e u) = cc
one_kind f info one name a b (IsIndex r l n t) (IsSnap m u) = cc
one_kind f info one name a b (IsIndex r l n t) (IsMeta m u) = cc
one_kind f info one name a b (IsIndex r l n t) (IsIndex q m e u) =
    let same : r.id ≡ q.id = cc in
    t ∙ ap (λ (x : IndexRef). f.index_meta.text (record { index = x; uuid = info.uuid })) (one r q l m same) ∙ sym u

-- the metadata of a snapshot are no roots, and each has one text
pub metadata_shape : (f : Formats) (info : SnapInfo) → ((r q : IndexRef) → Has info.indices r → Has info.indices q → r.id ≡ q.id → r ≡ q)
    → (root : RootData) (made : Command) → ReadsBack f.root root → SwapShape f (record { root = root; own = metadata f info; commands = made ∷ [] })
metadata_shape f info one root made back =
    record {
      root_back = back;
      no_root = λ n b h. elim h [
        | inl e ↦ not_snap (ap (λ (p : BlobName × Bytes). p.0) e)
        | inr h' ↦ elim h' [ inl e ↦ not_meta (ap (λ (p : BlobName × Bytes). p.0) e) | inr m ↦ let (r, there, e) = Has-mapped index_text info.indices (Root n, b) m in not_index (ap (λ (p : BlobName × Bytes). p.0) e) ]
      ];
      no_test = λ v name b h t. elim h [
        | inl e ↦ subst (IsTestOf v) (sym (ap (λ (p : BlobName × Bytes). p.0) e)) t
        | inr h' ↦ elim h' [
          | inl e ↦ subst (IsTestOf v) (sym (ap (λ (p : BlobName × Bytes). p.0) e)) t
          | inr m ↦ let (r, there, e) = Has-mapped index_text info.indices (name, b) m in subst (IsTestOf v) (sym (ap (λ (p : BlobName × Bytes). p.0) e)) t
        ]
      ];
      one_text = λ name a b ha hb. one_kind f info one name a b (kinds f info name a ha) (kinds f info name b hb);
    }
  where
    index_text : IndexRef → BlobName × Bytes
    index_text r = (IndexMeta r.id info.uuid, f.index_meta.text (record { index = r; uuid = info.uuid }))

    not_snap : {u n : ℕ} → Snap u ≡ Root n → ⊥
    not_snap e = cc

    not_meta : {u n : ℕ} → Meta u ≡ Root n → ⊥
    not_meta e = cc

    not_index : {i u n : ℕ} → IndexMeta i u ≡ Root n → ⊥
    not_index e = cc

-- a new ticket of no shard
module _ (f : Formats) (w : World) (c : Carried f (HeldIn f w) w.safe w.term w.root w.ops w.tickets) (fresh : (k : ℕ) (t : Ticket) → fin.get w.tickets k ≡ Some t → k < w.next_ticket)
    (v : Ticket) (no_shard : (i n : ℕ) → v.work ≡ Shard i n → ⊥) (final : (info : SnapInfo) (results : List ShardResult) (made : Command) → v.work ≡ Finalize info results made → FinalLaw f w.root w.ops v info results made)
    (plan : (uuids : List ℕ) (s : Swap) → v.work ≡ Deleting uuids (Some s) → PlanLaw f w.root w.ops s) where
  was : (j : ℕ) (u : Ticket) → fin.get (fin.insert w.tickets w.next_ticket v) j ≡ Some u → ((j ≡ w.next_ticket) × (v ≡ u)) ⊎ ((j ≢ w.next_ticket) × (fin.get w.tickets j ≡ Some u))
  was j u e = get_was nat_cmp_total nat_cmp-IsAntisymmetric w.tickets w.next_ticket v j u e

  -- a shard's ticket is an old one
  shard_was : (j : ℕ) (u : Ticket) → fin.get (fin.insert w.tickets w.next_ticket v) j ≡ Some u → (index shard : ℕ) → u.work ≡ Shard index shard → fin.get w.tickets j ≡ Some u
  shard_was j u e index shard is = elim (was j u e) [
    | inl h ↦ absurd (no_shard index shard (ap (λ (x : Ticket). x.work) h.1 ∙ is))
    | inr h ↦ h.1
  ]

  apart_new : (j : ℕ) (u : Ticket) → fin.get w.tickets j ≡ Some u → j ≢ w.next_ticket
  apart_new j u e same = let h : j < w.next_ticket = fresh j u e in omega arith

  pub carried_new : Carried f (HeldIn f w) w.safe w.term w.root w.ops (fin.insert w.tickets w.next_ticket v)
  carried_new =
      record {
        root_is = c.root_is;
        ops = c.ops;
        together = c.together;
        carries = c.carries;
        shards = λ j u e out index shard is. c.shards j u (shard_was j u e index shard is) out index shard is;
        one_shard = λ i j t u a b ao bo index shard ai bi. c.one_shard i j t u (shard_was i t a index shard ai) (shard_was j u b index shard bi) ao bo index shard ai bi;
        held = λ p q s k e m state. let h = c.held p q s k e m state in
            record { t = h.t; there = get_other nat_cmp_total nat_cmp-IsAntisymmetric w.tickets w.next_ticket v k (apart_new k h.t h.there) ∙ h.there; out = h.out; op_is = h.op_is; work = h.work };
        finals = λ j u e out uns pres info rs made is. elim (was j u e) [
          | inl h ↦ subst (λ x. FinalLaw f w.root w.ops x info rs made) h.1 (final info rs made (ap (λ (x : Ticket). x.work) h.1 ∙ is))
          | inr h ↦ c.finals j u h.1 out uns pres info rs made is
        ];
        plans = λ j u e out uns pres uuids s is. elim (was j u e) [
          | inl h ↦ plan uuids s (ap (λ (x : Ticket). x.work) h.1 ∙ is)
          | inr h ↦ c.plans j u h.1 out uns pres uuids s is
        ];
      }

module _ (f : Formats) (w : World) (shelf : List Shelved) (o : ℕ) (op : Op) (results : List ShardResult) (new : World) (d : TakeFinalize f w o op results new)
    (l : Rooted f w shelf) (c : Carried f (HeldIn f w) w.safe w.term w.root w.ops w.tickets) (fresh : (k : ℕ) (t : Ticket) → fin.get w.tickets k ≡ Some t → k < w.next_ticket) where
  abbrev v : Ticket
  v = final_ticket f w o op results

  abbrev its : Swap
  its = record { root = finalized_root w.root (info_of op results) results; own = metadata f (info_of op results); commands = made_of f w.blobs op ∷ [] }

  abbrev root_now : RootData
  root_now = finalized_root w.root (info_of op results) results

  abbrev Then : BlobName → Bytes → Type 0
  Then = OrOwn (HeldIn f w) (metadata f (info_of op results))

  law : OpLaw f (HeldIn f w) w.root op
  law = c.ops o op d.op_there

  ids : (s : ShardWork) (r : ShardResult) → Has op.shards s → s.state ≡ Done r → (r.index ≡ s.ref.id) × (r.shard ≡ s.number)
  ids s r m e = let x = law.done s r m e in (x.index_is, x.shard_is)

  at_results : (s : ShardWork) (r : ShardResult) → Has op.shards s → s.state ≡ Done r → done_at results s.ref.id s.number ≡ Some r.generation
  at_results s r m e = done_found op.shards results d.done ids law.distinct s r m e

  result_done : (index shard g : ℕ) → done_at results index shard ≡ Some g → DoneAt w.ops op.uuid index shard g
  result_done i n g e =
      let (s, m, (r, state, is, ns, gen)) = found_done op.shards results d.done ids i n g e in
      record { number = o; op = op; there = d.op_there; uuid_is = refl; s = s; s_there = m; r = r; state = state; index_is = is; shard_is = ns; generation_is = gen }

  fins : Finalizes w.root (info_of op results) results root_now
  fins = finalizes f (HeldIn f w) w.root op results law (root_one_each f (HeldIn f w) w.safe w.root c.root_is) d.done

  stands : RootStands f (HeldIn f w) w.root shelf
  stands = safe_root_stands f (HeldIn f w) (held_one f w) w.safe w.root shelf l.kept.picked c.root_is

  staged_as : (made : Shelved) → made.name ≡ op.name → made.uuid ≡ op.uuid → AllPairs (ShardStands f Then root_now op.uuid) (shelf_places op.indices) made.shards → RootStands f Then root_now (shelf ++ made ∷ [])
  staged_as = stage f (HeldIn f w) (held_one f w) w.root root_now w.ops o op results d.op_there law c.carries d.done at_results fins shelf result_done stands

  -- of the files that are stored, or of what a clone copies
  staged_by : (source : Option ℕ) → op.source ≡ source → RootStands f Then root_now (apply shelf (made_from f w.blobs op source))
  staged_by None none = staged_as (shelved_of f w.blobs op) refl refl (stored_shards f (HeldIn f w) (held_one f w) w.root root_now w.ops o op results d.op_there law c.carries d.done at_results fins w.blobs (λ name bytes held. held.0.0) none)
  staged_by (Some u) copies =
      let (z, m, is) = (law.copies u copies).listed in
      let x = listed_shelved f (HeldIn f w) w.root w.root.snapshots shelf stands.snapshots z m u is in
      subst (λ (y : Option Shelved). RootStands f Then root_now (shelf ++ copied_snap op.name op.uuid (index_names op.indices) y)) (sym x.found)
      (staged_as (record { name = op.name; uuid = op.uuid; shards = filter (is_of_one (index_names op.indices)) x.shelved.shards }) refl refl
      (copied_shards f (HeldIn f w) (held_one f w) w.root root_now w.ops o op results d.op_there law c.carries d.done at_results fins u copies x.snap x.uuid_is x.shelved x.stands))

  staged : RootStands f Then root_now (shelf_after shelf (made_of f w.blobs op ∷ []))
  staged = staged_by op.source refl

  idle : (j : ℕ) → IsSwapping f w.tickets w.term j → ⊥
  idle j h = d.idle j h.t h.s h.there h.is.is h.is.out h.is.unsettled h.present

  ticket_law : TicketLaw f (HeldIn f w) w.doomed (ledger_of w) shelf v
  ticket_law =
      record {
        term = le_refl w.term;
        raised = λ n e. absurd (cc);
        last = λ s i p n e. absurd (cc);
        clean = λ s i c name b own. d.clean name b (subst (λ (x : Swap). Has x.own (name, b)) (sym (same_Some _ _ i.is)) own);
        clean_root = λ n e le. absurd (cc);
        listed = λ n m. absurd m;
        shape = λ s e. subst (SwapShape f) (same_Some _ _ e) (metadata_shape f (info_of op results) (c.ops o op d.op_there).one_id its.root (made_of f w.blobs op) d.root_back);
        swaps = λ s i counts. subst (SwapLaw f (HeldIn f w) shelf []) (same_Some _ _ i.is) (record { staged = staged; noted = λ name b m h. absurd h; root_noted = λ n h. absurd h });
      }

  rooted_now : Rooted f (record w { tickets = fin.insert w.tickets w.next_ticket v; next_ticket = suc w.next_ticket }) shelf
  rooted_now =
      record {
        kept = l.kept;
        doomed_begun = l.doomed_begun;
        tickets = each_ticket (TicketLaw f (HeldIn f w) w.doomed (ledger_of w) shelf) w.tickets w.next_ticket v ticket_law (λ j u apart e. l.tickets j u e);
        single = λ i j a b. swapping_new f w.tickets w.term w.next_ticket v idle i a ∙ sym (swapping_new f w.tickets w.term w.next_ticket v idle j b);
      }

  pub taken : Rooted f new shelf
  taken = subst (λ x. Rooted f x shelf) (sym d.new_is) rooted_now

  pub taken_carried : Carried f (HeldIn f w) w.safe w.term w.root w.ops (fin.insert w.tickets w.next_ticket v)
  taken_carried = carried_new f w c fresh v (λ i n e. no_shard e)
      (λ info rs made e. let same = parts _ _ _ _ _ _ e in
      record { op = op; op_there = d.op_there; done = subst (AllDone op.shards) same.1 d.done; info_is = sym same.0 ∙ ap (info_of op) same.1; made_is = (w.blobs, sym same.2); root_is = refl })
      (λ uuids s e. absurd (no_plan e))
    where
      no_shard : {info : SnapInfo} {rs : List ShardResult} {made : Command} {i n : ℕ} → Finalize info rs made ≡ Shard i n → ⊥
      no_shard e = cc

      no_plan : {info : SnapInfo} {rs : List ShardResult} {made : Command} {us : List ℕ} {p : Option Swap} → Finalize info rs made ≡ Deleting us p → ⊥
      no_plan e = cc

      parts : (a b : SnapInfo) (rs qs : List ShardResult) (m n : Command) → Finalize a rs m ≡ Finalize b qs n → (a ≡ b) × (rs ≡ qs) × (m ≡ n)
      parts a b rs qs m n e = (cc, cc, cc)
