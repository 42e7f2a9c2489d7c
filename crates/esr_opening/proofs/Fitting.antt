-- A record and a root that can be opened: their ids, names and numbers.
use Rattle.std.proofs.Common.{◌≡◌, ◌⊎◌, inl, inr, ℕ, suc, ◌+◌, ◌<◌, ◌≤◌, true, false, cond, eqb, ℤ, pos, negsuc, ◌≤ℤ◌, List, [], ◌∷◌, ◌++◌, length, map, Option, Some, None, Result, Ok, Err, refl, sym, ap, ◌∙◌, subst, arith, eq-eqb, nat_cmp, Ordering}
use Rattle.std.specs.Prelude.{if◌then◌else◌}
use Rattle.std.specs.FinMap.{FinMap}
use Rattle.std.specs.FinMap as fin
use Rattle.std.specs.declared.cmp.Ordering.TheVariants.{Less}
use Rattle.std.proofs.lemmas.Bool.{eqb-true, true≢false}
use Rattle.std.proofs.lemmas.Int.{ints}
use Rattle.esr_model.specs.Lists.{Has-mapped, Has-map, Has-left, Has-right, all_has, rising_has, apart_has, pass_has}
use Rattle.esr_model.specs.Values.{Has, RootSnap, RootIndex, RootData, RecordWork, DeletingOf, ClusterRecord, ReadsBack}
use Rattle.esr_model.specs.Kept.{first_id, RootIds}
use Rattle.esr_core.specs.World.{Op, Deletion, opened, record_of, record_ops, work_of, kept_deletes, numbered_deletes}
use Rattle.esr_core.specs.Tracked.{Tracked, IsOneIndex}
use Rattle.esr_core.specs.Ranked.{Ranked}
use Rattle.esr_core.specs.Laws.DeleteNumbers.{numbered_from}
use Rattle.esr_depot.specs.Image.{Image as Held, Blobs}
use Rattle.esr_record.specs.Record.{Record}
use Rattle.esr_record.specs.declared.op.RecordOp.{RecordOp}
use Rattle.esr_record.specs.declared.op.OpWork.{OpWork}
use Rattle.esr_record.specs.declared.op.OpWork.TheVariants as works
use Rattle.esr_root.specs.Ids.{same_id}
use Rattle.esr_root.specs.Snaps.{lists}
use Rattle.esr_root.specs.Indices.{same_index, by_name, IsListed}
use Rattle.esr_root.specs.Root.{Root, IsRoot}
use Rattle.esr_root.specs.declared.snaps.RootSnap.{RootSnap as CodeSnap}
use Rattle.esr_root.specs.declared.indices.RootIndex.{RootIndex as CodeIndex}
use Rattle.esr_core.specs.Laws.CleanupReach.{any_was}
use Rattle.esr_formats.specs.Ids.{number_of}
use Rattle.esr_formats.specs.Roots.{root_of, root_snap_of, root_index_of}
use Rattle.esr_formats.specs.Clusters.{count_of, work_of_code, op_of, cluster_of, cluster_kind}
use Rattle.esr_newroot.specs.ByteTests.{named_so, below}
use Rattle.esr_ops.specs.Deletes.{deletion_entry, kept_delete, kept_from}
use Rattle.esr_ops.specs.Inside.{numbers_of, Rise}
use Rattle.esr_ops.specs.Entries.{find-cons, get_from, get_put, same_maps}
use Rattle.esr_ops.specs.Numbers.{entries_from}
use Rattle.esr_opening.specs.Foreign.{snapshot_ids, index_ids, root_ids, first_from}
use Rattle.esr_opening.specs.Found.{Obstacle, ◌>>=◌, known_by, known_ids, safe_number}
use Rattle.esr_opening.specs.Opening.{known_blobs, world_in, IsInOrder}
use Rattle.esr_opening.specs.Terms.{IsFit, is_delete, kept_ops, kept_of, AreFew, next_term}
use Rattle.esr_opening.proofs.Below.{all_below, uuid_in, index_in, generation_in_indices}

-- ---- steps that were Ok

pub bind_ok : {A B : Type 0} (r : Result A Obstacle) (f : A → Result B Obstacle) (y : B) → (r >>= f) ≡ Ok y → (x : A) × (r ≡ Ok x) × (f x ≡ Ok y)
bind_ok (Ok x) f y h = (x, refl, h)
bind_ok (Err e) f y h = absurd cc

known_none : (n : ℕ) (o : Option ℕ) (x : Unit {0}) → known_by n o ≡ Ok x → o ≡ None
known_none n None x h = refl
known_none n (Some id) x h = absurd cc

abbrev bound_of : Record → ℕ
bound_of cluster = first_id (suc cluster.term)

fit_first : (cluster : Record) (root : Root) → IsFit cluster root → first_from (bound_of cluster) (root_ids (root_of root)) ≡ None
fit_first cluster root fit =
    let first = bind_ok (known_ids root (safe_number cluster.safe) cluster.term) _ tt fit.checked in
    known_none (safe_number cluster.safe) _ first.0 first.1

-- ---- ids

id_below : (cluster : Record) (root : Root) → IsFit cluster root → (id : ℕ) → Has (root_ids (root_of root)) id → id < bound_of cluster
id_below cluster root fit id h = all_below (bound_of cluster) (root_ids (root_of root)) (fit_first cluster root fit) id h

uuid_below : (cluster : Record) (root : Root) → IsFit cluster root → (s : RootSnap) → Has (root_of root).snapshots s → s.uuid < bound_of cluster
uuid_below cluster root fit s h =
    id_below cluster root fit s.uuid (Has-left (snapshot_ids (root_of root).snapshots) (index_ids (root_of root).indices) s.uuid (uuid_in (root_of root).snapshots s h))

index_below : (cluster : Record) (root : Root) → IsFit cluster root → (id : ℕ) → Has (index_ids (root_of root).indices) id → id < bound_of cluster
index_below cluster root fit id h = id_below cluster root fit id (Has-right (snapshot_ids (root_of root).snapshots) (index_ids (root_of root).indices) id h)

-- a snapshot of an index is listed
listed : (root : Root) → IsRoot root → (x : RootIndex) (u : ℕ) → Has (root_of root).indices x → Has x.snapshots u → (s : RootSnap) × Has (root_of root).snapshots s × (s.uuid ≡ u)
listed root rules x u has_x has_u =
    let i = Has-mapped root_index_of root.indices x has_x in
    let v = Has-mapped number_of i.0.snapshots u (subst (λ (y : RootIndex). Has y.snapshots u) (sym i.2) has_u) in
    let passes = pass_has (lists root.snapshots) i.0.snapshots v.0 (all_has (IsListed root.snapshots) root.indices i.0 rules.listed i.1) v.1 in
    let s = any_was (λ (z : CodeSnap). same_id z.uuid v.0) root.snapshots passes in
    (root_snap_of s.0, Has-map root_snap_of root.snapshots s.0 s.1, eqb-true s.0.uuid.number v.0.number s.2 ∙ v.2)

-- one name to each id, and one id to each name
one_index : (root : Root) → IsRoot root → (x y : RootIndex) → Has (root_of root).indices x → Has (root_of root).indices y → IsOneIndex x.name x.id y.name y.id
one_index root rules x y has_x has_y =
    let i = Has-mapped root_index_of root.indices x has_x in
    let j = Has-mapped root_index_of root.indices y has_y in
    record {
      one_name = λ same.
          let ids : i.0.id.number ≡ j.0.id.number = ap (λ (z : RootIndex). z.id) i.2 ∙ same ∙ sym (ap (λ (z : RootIndex). z.id) j.2) in
          let one : i.0 ≡ j.0 = same_by_id i.0 j.0 ids (apart_has same_index root.indices i.0 j.0 rules.indices.distinct i.1 j.1) in
          sym (ap (λ (z : RootIndex). z.name) i.2) ∙ ap (λ (z : CodeIndex). z.name) one ∙ ap (λ (z : RootIndex). z.name) j.2;
      one_id = λ same.
          let names : i.0.name ≡ j.0.name = ap (λ (z : RootIndex). z.name) i.2 ∙ same ∙ sym (ap (λ (z : RootIndex). z.name) j.2) in
          let one : i.0 ≡ j.0 = same_by_name i.0 j.0 names (rising_has by_name root.indices i.0 j.0 rules.indices.rises i.1 j.1) in
          sym (ap (λ (z : RootIndex). z.id) i.2) ∙ ap (λ (z : CodeIndex). z.id.number) one ∙ ap (λ (z : RootIndex). z.id) j.2;
    }
  where
    same_by_id : (i j : CodeIndex) → i.id.number ≡ j.id.number → (i ≡ j) ⊎ ((same_index i j ≡ false) ⊎ (same_index j i ≡ false)) → i ≡ j
    same_by_id i j ids (inl one) = one
    same_by_id i j ids (inr (inl other)) = absurd (true≢false (sym (eq-eqb i.id.number j.id.number ids) ∙ other))
    same_by_id i j ids (inr (inr other)) = absurd (true≢false (sym (eq-eqb j.id.number i.id.number (sym ids)) ∙ other))

    same_by_name : (i j : CodeIndex) → i.name ≡ j.name → (i ≡ j) ⊎ ((by_name i j ≡ Less) ⊎ (by_name j i ≡ Less)) → i ≡ j
    same_by_name i j names (inl one) = one
    same_by_name i j names (inr (inl less)) = absurd (true≢false (sym (named_so i.name j.name names) ∙ (below i.name j.name less).0))
    same_by_name i j names (inr (inr less)) = absurd (true≢false (sym (named_so i.name j.name names) ∙ (below j.name i.name less).1))

pub fit_ids : (cluster : Record) (root : Root) → IsFit cluster root → RootIds (root_of root) (first_id (suc cluster.term))
fit_ids cluster root fit = record {
  generations = λ i k g is. index_below cluster root fit g (generation_in_indices (root_of root).indices i k g is);
  snapshots = uuid_below cluster root fit;
  ids = λ x has. index_below cluster root fit x.id (index_in (root_of root).indices x has);
  uuids = λ x u has_x has_u.
      let s = listed root fit.rules x u has_x has_u in
      subst (λ n. n < bound_of cluster) s.2 (uuid_below cluster root fit s.0 s.1);
  one_name = λ x y has_x has_y same. (one_index root fit.rules x y has_x has_y).one_name same;
}

-- ---- the deletes that stay open

-- the record tells them, from a number on
abbrev pub told_from : ℕ → List (List ℕ) → List (ℕ × RecordWork)
told_from n [] = []
told_from n (us ∷ rest) = (n, DeletingOf us) ∷ told_from (suc n) rest

kept_by : (n m : ℕ) (w : OpWork) (ops : List RecordOp) → map op_of (kept_ops n ops) ≡ told_from n (kept_deletes (map op_of ops)) → map op_of (kept_ops (suc n) ops) ≡ told_from (suc n) (kept_deletes (map op_of ops))
    → map op_of (if is_delete w then record { op = n; work = w } ∷ kept_ops (suc n) ops else kept_ops n ops) ≡ told_from n (kept_deletes ((m, work_of_code w) ∷ map op_of ops))
kept_by n m (works.Delete uuids) ops stays goes = ap (λ (xs : List (ℕ × RecordWork)). (n, DeletingOf (map number_of uuids)) ∷ xs) goes
kept_by n m w ops stays goes = stays

kept_told : (n : ℕ) (ops : List RecordOp) → map op_of (kept_ops n ops) ≡ told_from n (kept_deletes (map op_of ops))
kept_told n [] = refl
kept_told n (o ∷ ops) = kept_by n o.op o.work ops (kept_told n ops) (kept_told (suc n) ops)

-- their numbers rise
told_above : (n : ℕ) (us : List (List ℕ)) (m : ℕ) → Has (numbers_of (told_from n us)) m → n ≤ m
told_above n [] m none = absurd none
told_above n (us ∷ rest) m (inl here) = omega (arith, here)
told_above n (us ∷ rest) m (inr later) = let above = told_above (suc n) rest m later in omega (arith, above)

rise_told : (n : ℕ) (us : List (List ℕ)) → Rise (numbers_of (told_from n us))
rise_told n [] = tt
rise_told n (us ∷ rest) = ((λ m h. told_above (suc n) rest m h), rise_told (suc n) rest)

same_numbers : (n : ℕ) (us : List (List ℕ)) → numbers_of (told_from n us) ≡ numbers_of (kept_from n us)
same_numbers n [] = refl
same_numbers n (us ∷ rest) = ap (λ (ns : List ℕ). n ∷ ns) (same_numbers (suc n) rest)

rise_listed : (n : ℕ) (us : List (List ℕ)) → Rise (numbers_of (kept_from n us))
rise_listed n us = subst Rise (same_numbers n us) (rise_told n us)

-- as the opened world has them
numbered_are : (n : ℕ) (us : List (List ℕ)) → numbered_deletes n us ≡ fin.from_entries {R = nat_cmp} (kept_from n us)
numbered_are n [] = same_maps fin.empty (fin.from_entries {R = nat_cmp} []) (λ q. fin.get-empty nat_cmp q ∙ sym (get_from [] q))
numbered_are n (us ∷ rest) =
    let d : Deletion = kept_delete us in
    ap (λ (m : FinMap nat_cmp Deletion). fin.insert m n d) (numbered_are (suc n) rest)
    ∙ same_maps (fin.insert (fin.from_entries {R = nat_cmp} (kept_from (suc n) rest)) n d) (fin.from_entries {R = nat_cmp} ((n, d) ∷ kept_from (suc n) rest))
    (λ q. get_put (fin.from_entries {R = nat_cmp} (kept_from (suc n) rest)) n d q ∙ ap (λ (o : Option Deletion). cond (eqb q n) (Some d) o) (get_from (kept_from (suc n) rest) q)
    ∙ sym (find-cons q (n, d) (kept_from (suc n) rest)) ∙ sym (get_from ((n, d) ∷ kept_from (suc n) rest) q))

-- ---- numbers

no_length : {A : Type 0} (es : List A) → length es ≡ 0 → es ≡ []
no_length [] e = refl
no_length (x ∷ es) e = absurd (omega arith)

pub entries_none : {K X : Type 0} (R : K → K → Ordering) → fin.entries (fin.empty {K = K} {X = X} {R = R}) ≡ []
entries_none R = no_length (fin.entries fin.empty) (sym (fin.len-entries fin.empty) ∙ fin.len-empty R _)

abbrev op_entry : ℕ × Op → ℕ × RecordWork
op_entry e = (e.0, work_of e.1)

listed_told : (n : ℕ) (us : List (List ℕ)) → map deletion_entry (kept_from n us) ≡ told_from n us
listed_told n [] = refl
listed_told n (us ∷ rest) = ap (λ (xs : List (ℕ × RecordWork)). (n, DeletingOf us) ∷ xs) (listed_told (suc n) rest)

-- the record of a list that has these alone
numbered_told : (n : ℕ) (us : List (List ℕ)) → record_ops fin.empty (numbered_deletes n us) ≡ told_from n us
numbered_told n us =
    let none : fin.entries (fin.empty {X = Op} {R = nat_cmp}) ≡ [] = entries_none nat_cmp in
    let listed : fin.entries (numbered_deletes n us) ≡ kept_from n us = ap fin.entries (numbered_are n us) ∙ entries_from (kept_from n us) (rise_listed n us) in
    (λ j. fin.entries (fin.from_entries {R = nat_cmp} (map op_entry (none j) ++ map deletion_entry (listed j))))
    ∙ ap (λ (es : List (ℕ × RecordWork)). fin.entries (fin.from_entries {R = nat_cmp} es)) (listed_told n us)
    ∙ entries_from (told_from n us) (rise_told n us)

pub plus_one : (n : ℕ) → suc n ≡ n + 1
plus_one n = omega arith

-- the record of the opened world
pub record_is : (held : Option Held) (cluster : Record) (root : Root) → record_of (world_in held cluster root) ≡ cluster_of (next_term cluster)
record_is held cluster root =
    let at_term : ℕ → List (ℕ × RecordWork) → ClusterRecord = λ (t : ℕ) (ops : List (ℕ × RecordWork)). record { ledger = record { safe = count_of cluster.safe; pending = count_of cluster.pending; term = t }; ops = ops } in
    ap (at_term (suc cluster.term)) (numbered_told 1 (kept_of cluster) ∙ sym (kept_told 1 cluster.ops))
    ∙ ap (λ (t : ℕ). at_term t (map op_of (kept_ops 1 cluster.ops))) (plus_one cluster.term)

ordered : (safe pending : ℤ) → safe ≤ℤ pending → count_of safe ≤ count_of pending
ordered (negsuc m) pending le = omega arith
ordered (pos n) (pos m) le = omega (arith, ints)
ordered (pos n) (negsuc m) le = absurd (omega (arith, ints))

-- ---- the opened world

pub in_order : (held : Option Held) (cluster : Record) (root : Root) → IsFit cluster root → ReadsBack cluster_kind (cluster_of (next_term cluster)) → AreFew cluster
    → ((blobs : Blobs) (cluster : ClusterRecord) (root : RootData) → RootIds root (first_id (suc cluster.ledger.term))
    → ((x y : RootIndex) → Has root.indices x → Has root.indices y → IsOneIndex x.name x.id y.name y.id) → Tracked (opened blobs cluster root))
    → ((blobs : Blobs) (cluster : ClusterRecord) (root : RootData) → cluster.ledger.safe ≤ cluster.ledger.pending → Ranked (opened blobs cluster root)) → IsInOrder (world_in held cluster root)
in_order held cluster root fit back few tracked ranked = record {
  record_back = subst (λ (c : ClusterRecord). ReadsBack cluster_kind c) (sym (record_is held cluster root)) back;
  tracked = tracked (known_blobs held) (cluster_of cluster) (root_of root) (fit_ids cluster root fit) (one_index root fit.rules);
  ranked = ranked (known_blobs held) (cluster_of cluster) (root_of root) (ordered cluster.safe cluster.pending fit.numbers.order);
  no_cleanups = λ d x there. (numbered_from 1 (kept_of cluster) d x there).1;
  few = few;
}
