-- The infos of the snapshots that a delete or cleanup leaves are those of the root on which it settles.
use Rattle.std.proofs.Common.{◌≡◌, ℕ, Bool, true, false, List, map, Some, refl, sym, ap, ◌∙◌, subst, inl, inr}
use Rattle.std.specs.Prelude.{filter}
use Rattle.std.proofs.lemmas.Bool.{eqb-true, eq-eqb}
use Rattle.std.specs.Cmp.{nat_cmp_total}
use Rattle.std.specs.FinMap.{nat_cmp-IsAntisymmetric}
use Rattle.std.specs.FinMap as fin
use Rattle.std.proofs.lemmas.Option.{same_Some}
use Rattle.esr_model.specs.Values.{Has, RootSnap, RootIndex, RootData}
use Rattle.esr_model.specs.Delete.{names_uuid, left_snaps, left_uuids, left_root, renewed, deleted_root}
use Rattle.esr_core.specs.World.{World, Ticket}
use Rattle.esr_core.specs.Steps.{IsOut}
use Rattle.esr_core.specs.Tracked.{Tracked}
use Rattle.esr_core.specs.Entry.{PruneStep, SettlePruned, Moment}
use Rattle.esr_core.specs.Allowed.{AreIndicesIn, NoDeleting}
use Rattle.esr_core.specs.Laws.Maps.{get_same, get_other, split}
use Rattle.esr_model.specs.Lists.{Has-map, Has-mapped, Has-filter, filter-Has}
use Rattle.esr_core.specs.Laws.DeleteRoots.{left_has, left_of, uuid_was, uuid_left, index_was, index_left, renewed_snapshots, renewed_index_was, renewed_index}
use Rattle.esr_root.specs.Ids.{same_id}
use Rattle.esr_root.specs.Snaps.{lists}
use Rattle.esr_root.specs.Root.{Root}
use Rattle.esr_root.specs.declared.snaps.RootSnap.{RootSnap as CodeSnap}
use Rattle.esr_meta.specs.Info.{Info}
use Rattle.esr_core.specs.Laws.Tests.{any_of}
use Rattle.esr_core.specs.Laws.CleanupReach.{any_was}
use Rattle.esr_formats.specs.Refs.{ref_of_code}
use Rattle.esr_formats.specs.Roots.{root_of, root_snap_of}
use Rattle.esr_desk.specs.Start.{Start, formats_of, world_of, ticket_of}
use Rattle.esr_desk.specs.Delete.Conditions.{CanSettleDelete}
use Rattle.esr_repo.specs.Repo.{PlannedBy, OwnIndices, FoundBy, HasInfos}
use Rattle.esr_repo.specs.May.{swapped_world}
use Rattle.esr_repo.specs.Grown.{out_is}
use Rattle.esr_repo.specs.DeleteWorld.{settle, delete_world, delete_is}
use Rattle.esr_repo.proofs.InfosStay.{KeepsWork, made_stays, told_stays}
use Rattle.esr_repo.proofs.Repos.{infos_aside}
use Rattle.esr_repo.proofs.Gone.{left_unnamed}

-- ---- over the settle

module _ (s : Start) (log : List Moment) (k : ℕ) (root : Root) (infos : List Info) (pruning : OwnIndices (world_of s log)) (tracked : Tracked (world_of s log)) (can : CanSettleDelete s (ticket_of s log k) (root_of root))
    (present : (ticket_of s log k).term ≡ (world_of s log).term) (old : HasInfos s (world_of s log) infos) where
  abbrev w : World
  w = world_of s log

  abbrev t : Ticket
  t = ticket_of s log k

  abbrev new : World
  new = delete_world (formats_of s) w k t can.settle.change can.settle.n

  out : IsOut w k t
  out = out_is s log k can.settle.put.out

  plan : PlannedBy t.root can.uuids can.settle.change
  plan = pruning k t can.uuids can.settle.change out.there can.work

  copied : t.root ≡ w.root
  copied = (tracked.deleting k t can.uuids (Some can.settle.change) out.there out.out can.settle.put.unsettled present can.work).root_is

  new_root : root_of root ≡ deleted_root w.root can.uuids plan.shards plan.first
  new_root = can.settle.root_is ∙ plan.root_is ∙ ap (λ (r : RootData). deleted_root r can.uuids plan.shards plan.first) copied

  snapshots_are : (root_of root).snapshots ≡ left_snaps can.uuids w.root.snapshots
  unfolding deleted_root
  snapshots_are = ap (λ (r : RootData). r.snapshots) new_root ∙ renewed_snapshots plan.shards plan.first (left_root w.root can.uuids)

  -- an index of the new root is one of the old, with some of its snapshots
  index_from : (y : RootIndex) → Has (root_of root).indices y → (x : RootIndex) × Has w.root.indices x × (x.name ≡ y.name) × (x.id ≡ y.id) × ((u : ℕ) → Has y.snapshots u → Has x.snapshots u)
  unfolding deleted_root
  index_from y m =
      let here : Has (renewed plan.first plan.shards (left_root w.root can.uuids)).indices y = subst (λ (r : RootData). Has r.indices y) new_root m in
      let (z, there, a) = renewed_index_was plan.shards plan.first (left_root w.root can.uuids) y here in
      let (x, was, z_is) = index_was can.uuids w.root.indices z there in
      let snaps : left_uuids can.uuids x.snapshots ≡ y.snapshots = sym (ap (λ (i : RootIndex). i.snapshots) z_is) ∙ a.snapshots in
      (x, was, sym (ap (λ (i : RootIndex). i.name) z_is) ∙ a.name, sym (ap (λ (i : RootIndex). i.id) z_is) ∙ a.id, λ u h. uuid_was can.uuids x.snapshots u (subst (λ (us : List ℕ). Has us u) (sym snaps) h))

  -- and one that has a snapshot that isn't named stays, with it
  index_to : (x : RootIndex) (u : ℕ) → Has w.root.indices x → Has x.snapshots u → names_uuid can.uuids u ≡ false → (y : RootIndex) × Has (root_of root).indices y × (y.name ≡ x.name) × (y.id ≡ x.id) × Has y.snapshots u
  unfolding deleted_root
  index_to x u there mine e =
      let (y, now, a) = renewed_index plan.shards plan.first (left_root w.root can.uuids) (left_of can.uuids x) (index_left can.uuids w.root.indices x u there mine e) in
      (y, subst (λ (r : RootData). Has r.indices y) (sym new_root) now, sym a.name, sym a.id, subst (λ (us : List ℕ). Has us u) a.snapshots (uuid_left can.uuids x.snapshots u mine e))

  abbrev is_listed : Info → Bool
  is_listed i = lists root.snapshots i.uuid

  -- whether a snapshot is listed
  listed_one : (i : Info) → is_listed i ≡ true → (snap : RootSnap) × Has (root_of root).snapshots snap × (i.uuid.number ≡ snap.uuid)
  listed_one i e =
      let (z, m, same) = any_was (λ (x : CodeSnap). same_id x.uuid i.uuid) root.snapshots e in
      (root_snap_of z, Has-map root_snap_of root.snapshots z m, sym (eqb-true z.uuid.number i.uuid.number same))

  lists_one : (i : Info) (snap : RootSnap) → Has (root_of root).snapshots snap → i.uuid.number ≡ snap.uuid → is_listed i ≡ true
  lists_one i snap m same =
      let (z, there, e) = Has-mapped root_snap_of root.snapshots snap m in
      any_of (λ (x : CodeSnap). same_id x.uuid i.uuid) root.snapshots z there (eq-eqb z.uuid.number i.uuid.number (ap (λ (x : RootSnap). x.uuid) e ∙ sym same))

  unnamed : (i : Info) → is_listed i ≡ true → names_uuid can.uuids i.uuid.number ≡ false
  unnamed i e =
      let (snap, m, same) = listed_one i e in
      ap (names_uuid can.uuids) same ∙ left_unnamed can.uuids w.root.snapshots snap (subst (λ (ss : List RootSnap). Has ss snap) snapshots_are m)

  indices_stay : (i : Info) → Has infos i → is_listed i ≡ true → AreIndicesIn (root_of root) i.uuid.number (map ref_of_code i.indices)
  indices_stay i m e =
      let was = (old.are.each i m).within in
      record {
        listed = λ r h. let (x, there, name, id, has) = was.listed r h in let (y, now, y_name, y_id, mine) = index_to x i.uuid.number there has (unnamed i e) in (y, now, y_name ∙ name, y_id ∙ id, mine);
        exact = λ y h mine. let (x, there, name, id, has) = index_from y h in let (r, rm, r_name, r_id) = was.exact x there (has i.uuid.number mine) in (r, rm, r_name ∙ name, r_id ∙ id);
        apart = was.apart;
      }

  works_stay : KeepsWork w.tickets new.tickets
  works_stay j u there other = elim (split nat_cmp_total nat_cmp-IsAntisymmetric j k) [
    | inl is ↦
        let one : u ≡ t = same_Some u t (sym there ∙ ap (fin.get w.tickets) is ∙ out.there) in
        absurd (other can.uuids (Some can.settle.change) (ap (λ (x : Ticket). x.work) one ∙ can.work))
    | inr apart ↦ (u, get_other nat_cmp_total nat_cmp-IsAntisymmetric w.tickets k (settle t) j apart.0 ∙ there, refl)
  ]

  has_deleting : NoDeleting new → ⊥
  has_deleting none = none k (settle t) can.uuids (Some can.settle.change) (get_same nat_cmp_total nat_cmp-IsAntisymmetric w.tickets k (settle t)) can.work

  -- the ticket that settles found it too
  found_now : (i : Info) → Has infos i → FoundBy w.tickets i.uuid.number → FoundBy new.tickets i.uuid.number
  found_now i im found j u uuids plan there settled work = elim (split nat_cmp_total nat_cmp-IsAntisymmetric j k) [
    | inl is ↦
        let (snap, sm, same) = old.listed i im in
        let one : u ≡ settle t = same_Some u (settle t) (sym there ∙ ap (fin.get new.tickets) is ∙ get_same nat_cmp_total nat_cmp-IsAntisymmetric w.tickets k (settle t)) in
        (snap, subst (λ (r : RootData). Has r.snapshots snap) (sym (ap (λ (x : Ticket). x.root) one ∙ copied)) sm, sym same)
    | inr apart ↦ found j u uuids plan (sym (get_other nat_cmp_total nat_cmp-IsAntisymmetric w.tickets k (settle t) j apart.0) ∙ there) settled work
  ]

  kept_ones : HasInfos s new (filter is_listed infos)
  kept_ones = record {
    are = record {
      there = λ snap m.
          let here : Has (root_of root).snapshots snap = subst (λ (r : RootData). Has r.snapshots snap) (sym can.settle.root_is) m in
          let was : Has w.root.snapshots snap = left_has can.uuids w.root.snapshots snap (subst (λ (ss : List RootSnap). Has ss snap) snapshots_are here) in
          let (i, im, same) = old.are.there snap was in
          (i, filter-Has is_listed infos i im (lists_one i snap here same), same);
      each = λ i m.
          let (im, pass) = Has-filter is_listed infos i m in
          record {
            within = subst (λ (r : RootData). AreIndicesIn r i.uuid.number (map ref_of_code i.indices)) can.settle.root_is (indices_stay i im pass);
            generations = λ none. absurd (has_deleting none);
            told = told_stays (formats_of s) w new s.tells i.uuid.number (map ref_of_code i.indices) works_stay (λ told uuid bytes at. at) (old.are.each i im).told;
          };
    };
    listed = λ i m.
        let (snap, sm, same) = listed_one i (Has-filter is_listed infos i m).1 in
        (snap, subst (λ (r : RootData). Has r.snapshots snap) can.settle.root_is sm, same);
    found = λ i m. let im = (Has-filter is_listed infos i m).0 in elim (old.found i im) [ inl made ↦ inl (made_stays (formats_of s) w new i.uuid.number (map ref_of_code i.indices) works_stay made) | inr found ↦ inr (found_now i im found) ];
  }

  -- the infos of the snapshots that the new root lists serve the world after the settle
  pub infos_left : (left : List Info) → left ≡ filter is_listed infos → HasInfos s (record (swapped_world s log k (PruneStep SettlePruned)) { blobs = w.blobs }) left
  infos_left left is =
      let now : swapped_world s log k (PruneStep SettlePruned) ≡ new = delete_is (formats_of s) w k t can.settle.change can.settle.n out.there can.settle.is can.settle.put.raised in
      infos_aside s (record new { blobs = w.blobs }) (record (swapped_world s log k (PruneStep SettlePruned)) { blobs = w.blobs }) left (ap (λ (x : World). x.root) now) (ap (λ (x : World). x.tickets) now) refl
      (subst (HasInfos s (record new { blobs = w.blobs })) (sym is) kept_ones)
