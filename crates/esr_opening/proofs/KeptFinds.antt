-- What opening finds in a kept image.
use Rattle.std.proofs.Common.{◌≡◌, inl, inr, ℕ, suc, ◌-◌, ◌^◌, Bool, true, false, ◌==◌, ℤ, pos, negsuc, List, [], ◌∷◌, map, length, codes, Option, Some, None, option_map, Result, Ok, Err, refl, sym, ap, ◌∙◌, subst}
use Rattle.std.specs.Prelude.{if◌then◌else◌, IfErr}
use Rattle.std.specs.FinMap as fin
use Rattle.std.specs.FinMap.{same_map, slice_cmp-IsAntisymmetric, nat_cmp-IsAntisymmetric}
use Rattle.std.specs.Ordering.{nat_cmp}
use Rattle.std.specs.Cmp.Lexicographic.{slice_cmp, nat_list_cmp_total}
use Rattle.std.specs.Result.{result_ok}
use Rattle.std.proofs.lemmas.Bool.{eqb-true}
use Rattle.esr_json.specs.declared.refusal.Reason.{Reason}
use Rattle.esr_model.specs.Values.{Bytes, RootData, SnapInfo, ClusterRecord, IsOneEach}
use Rattle.esr_model.specs.Shelf.{Shelved}
use Rattle.esr_model.specs.Image.{AllPairs, At, SnapStands, RootStands, Picked, RootIs}
use Rattle.esr_model.specs.Kept.{RootIds, first_id, IsEmpty, Recorded}
use Rattle.esr_depot.specs.Image.{Image as Held, Blobs, sizes_of}
use Rattle.esr_depot.specs.Listing.{page_from}
use Rattle.esr_record.specs.Record.{Record}
use Rattle.esr_record.specs.Reading.{record_from}
use Rattle.esr_root.specs.Root.{Root, empty_root}
use Rattle.esr_root.specs.Reading.{root_from}
use Rattle.esr_root.specs.declared.snaps.RootSnap.{RootSnap as CodeSnap}
use Rattle.esr_meta.specs.Info.{Info, info_from}
use Rattle.esr_formats.specs.Formats.{formats}
use Rattle.esr_formats.specs.OneEach.{root_one_each}
use Rattle.esr_formats.specs.Roots.{root_of, root_snap_of, root_kind}
use Rattle.esr_formats.specs.Infos.{info_of_code, info_kind}
use Rattle.esr_formats.specs.Clusters.{count_of, cluster_of, cluster_kind}
use Rattle.esr_agreement.specs.Agreement.{agrees, Agrees}
use Rattle.esr_opening.specs.Foreign.{root_ids, first_from}
use Rattle.esr_opening.specs.Found.{Obstacle, Damage, LastTerm, ◌>>=◌, readable, read_as, empty_record, without_record, record_in, root_name, safe_number, info_name, agreed, info_in, infos_in, known_by, known_ids, has_term, found}
use Rattle.esr_opening.specs.Hindrances.{IsNoDamage}
use Rattle.esr_opening.specs.KeptImages.{KeptImagesOpen}
use Rattle.esr_opening.specs.Opening.{image_of}
use Rattle.esr_opening.specs.Terms.{whole_root_in, own_checks}
use Rattle.esr_opening.specs.declared.refusal.Why.TheVariants.{Disagrees}
use Rattle.esr_names.specs.declared.blob.BlobName.TheVariants as code
use Rattle.esr_opening.proofs.Below.{none_foreign}
use Rattle.esr_opening.proofs.Fitting.{entries_none}
use Rattle.esr_agreement.specs.AgreementTests.{holds_test}
use Rattle.esr_opening.proofs.Shards.{standing_agrees}
use Rattle.esr_opening.proofs.Steps.{record_there, record_absent, then_ok, whole_there, both_of, found_root}

-- ---- texts that read

-- what reads as a value of the definitions reads as one of the code
code_reads : {C V : Type 0} (model : C → V) (r : Result C Reason) (v : V) → option_map model (result_ok r) ≡ Some v → (c : C) × (r ≡ Ok c) × (model c ≡ v)
code_reads model (Ok c) v reads = (c, refl, cc)
code_reads model (Err why) v reads = absurd cc

cluster_reads : (text : Bytes) (cluster : ClusterRecord) → cluster_kind.read text ≡ Some cluster → (c : Record) × (record_from text ≡ Ok c) × (cluster_of c ≡ cluster)
unfolding cluster_kind
cluster_reads text cluster reads = code_reads cluster_of (record_from text) cluster reads

root_reads : (bytes : Bytes) (root : RootData) → root_kind.read bytes ≡ Some root → (r : Root) × (root_from bytes ≡ Ok r) × (root_of r ≡ root)
unfolding root_kind
root_reads bytes root reads = code_reads root_of (root_from bytes) root reads

info_reads : (bytes : Bytes) (info : SnapInfo) → info_kind.read bytes ≡ Some info → (i : Info) × (info_from bytes ≡ Ok i) × (info_of_code i ≡ info)
unfolding info_kind
info_reads bytes info reads = code_reads info_of_code (info_from bytes) info reads

blob_reads : {V : Type 0} (from : Bytes → Result V Reason) (blobs : Blobs) (name bytes : Bytes) (v : V) → fin.get blobs name ≡ Some bytes → from bytes ≡ Ok v → read_as from name (fin.get blobs name) ≡ Ok v
blob_reads from blobs name bytes v there reads = ap (read_as from name) there ∙ ap (readable name) reads

-- ---- the infos

agreed_ok : (root : Root) (n : ℕ) (s : CodeSnap) (info : Info) → agrees (root_of root) (root_snap_of s) (info_of_code info) ≡ true → agreed root n s info ≡ Ok tt
agreed_ok root n s info h = ap (λ (b : Bool). let r : Result (Unit {0}) Obstacle = if b then Ok tt else Err (Damage (info_name s) (Disagrees (code.Root n))) in r) h

info_found : (known : Bytes → Bytes → ℕ → Bool) (told : Bytes → Bytes → ℕ → Option (List (Bytes × Bytes))) (blobs : Blobs) (root : Root) (n : ℕ) (s : CodeSnap) (shelved : Shelved) → IsOneEach (root_of root).indices
    → SnapStands (formats known told) (At (formats known told) blobs) (root_of root) (root_snap_of s) shelved → info_in blobs root n s ≡ Ok tt
unfolding formats
info_found known told blobs root n s shelved one st =
    let i = info_reads st.info_reads.bytes st.info st.info_reads.reads in
    let there : info_in blobs root n s ≡ agreed root n s i.0 =
    then_ok (read_as info_from (info_name s) (fin.get blobs (info_name s))) (agreed root n s) i.0 (blob_reads info_from blobs (info_name s) st.info_reads.bytes i.0 st.info_reads.there.0 i.1) in
    let agree : Agrees (root_of root) (root_snap_of s) st.info = standing_agrees (formats known told) (At (formats known told) blobs) (root_of root) (root_snap_of s) shelved st in
    there ∙ agreed_ok root n s i.0 (holds_test (root_of root) (root_snap_of s) (info_of_code i.0) one (subst (λ (x : SnapInfo). Agrees (root_of root) (root_snap_of s) x) (sym i.2) agree))

infos_found : (known : Bytes → Bytes → ℕ → Bool) (told : Bytes → Bytes → ℕ → Option (List (Bytes × Bytes))) (blobs : Blobs) (root : Root) (n : ℕ) (snaps : List CodeSnap) (shelf : List Shelved) → IsOneEach (root_of root).indices
    → AllPairs (SnapStands (formats known told) (At (formats known told) blobs) (root_of root)) (map root_snap_of snaps) shelf → infos_in blobs root n snaps ≡ Ok tt
infos_found known told blobs root n [] shelf one stand = refl
infos_found known told blobs root n (s ∷ snaps) [] one stand = absurd stand
infos_found known told blobs root n (s ∷ snaps) (x ∷ shelf) one stand =
    then_ok (info_in blobs root n s) (λ u. infos_in blobs root n snaps) tt (info_found known told blobs root n s x one stand.0) ∙ infos_found known told blobs root n snaps shelf one stand.1

-- ---- the safe root

-- it is there with its infos, and all of its ids lie below the bound
record SafeFound (blobs : Blobs) (safe : ℤ) (bound : ℕ) : Type 0 where
  root : Root
  whole : whole_root_in blobs safe ≡ Ok root
  below : first_from bound (root_ids (root_of root)) ≡ None

safe_found : (known : Bytes → Bytes → ℕ → Bool) (told : Bytes → Bytes → ℕ → Option (List (Bytes × Bytes))) (blobs : Blobs) (safe : ℤ) (bound : ℕ) (shelf : List Shelved)
    → Picked (formats known told) (At (formats known told) blobs) (count_of safe) shelf
    → ((root : RootData) → RootIs (formats known told) (At (formats known told) blobs) (count_of safe) root → RootIds root bound) → SafeFound blobs safe bound
unfolding formats
safe_found known told blobs (negsuc n) bound shelf picked ids = record { root = empty_root; whole = refl; below = refl }
safe_found known told blobs (pos n) bound shelf picked ids =
    let reads = picked.root_reads in
    let r = root_reads reads.bytes picked.root reads.reads in
    let back : root_kind.read reads.bytes ≡ Some (root_of r.0) = reads.reads ∙ ap (λ (x : RootData). Some x) (sym r.2) in
    let one : IsOneEach (root_of r.0).indices = root_one_each reads.bytes (root_of r.0) back in
    let stand : RootStands (formats known told) (At (formats known told) blobs) (root_of r.0) shelf = subst (λ (x : RootData). RootStands (formats known told) (At (formats known told) blobs) x shelf) (sym r.2) picked.stands in
    record {
      root = r.0;
      whole = whole_there blobs (pos n) r.0 n r.0.snapshots tt (blob_reads root_from blobs (root_name n) reads.bytes r.0 reads.there.0 r.1) refl refl (infos_found known told blobs r.0 n r.0.snapshots shelf one stand.snapshots);
      below = none_foreign (root_of r.0) bound one (ids (root_of r.0) (record { bytes = reads.bytes; there = reads.there; reads = back }));
    }

-- ---- the term

term_by : (term : ℕ) (end : Result (Unit {0}) Obstacle) → IfErr end IsNoDamage → (b : Bool) → (b ≡ true → term ≡ 2 ^ 63 - 1) → IfErr (if b then Err (LastTerm term) else end) IsNoDamage
term_by term end h true last = last refl
term_by term end h false last = h

term_stops : (term : ℕ) → IfErr (has_term term) IsNoDamage
term_stops term = term_by term (Ok tt) tt (term == 2 ^ 63 - 1) (eqb-true term (2 ^ 63 - 1))

-- and then an answer
then_stops : (a : Result (Unit {0}) Obstacle) (cluster : Record) (root : Root) → IfErr a IsNoDamage → IfErr (a >>= both_of cluster root) IsNoDamage
then_stops (Err e) cluster root h = h
then_stops (Ok x) cluster root h = tt

-- ---- all of it

all_but_stops : (i : Held) (cluster : Record) (root : Root) → record_in i.blobs i.text ≡ Ok cluster → whole_root_in i.blobs cluster.safe ≡ Ok root → first_from (first_id (suc cluster.term)) (root_ids (root_of root)) ≡ None
    → IfErr (found i) IsNoDamage
all_but_stops i cluster root there whole below =
    let ids : known_ids root (safe_number cluster.safe) cluster.term ≡ Ok tt = ap (known_by (safe_number cluster.safe)) below in
    let own : own_checks cluster root ≡ has_term cluster.term = then_ok (known_ids root (safe_number cluster.safe) cluster.term) (λ x. has_term cluster.term) tt ids in
    let is : found i ≡ (has_term cluster.term >>= both_of cluster root) = found_root i cluster root there whole ∙ ap (λ (r : Result (Unit {0}) Obstacle). r >>= both_of cluster root) own in
    subst (λ (r : Result (Record × Root) Obstacle). IfErr r IsNoDamage) (sym is) (then_stops (has_term cluster.term) cluster root (term_stops cluster.term))

-- nothing is listed where no blob is there
none_there : (o : Option Bytes) → ((bytes : Bytes) → o ≡ Some bytes → ⊥) → o ≡ None
none_there None never = refl
none_there (Some bytes) never = absurd (never bytes refl)

none_listed : (blobs : Blobs) → ((text bytes : Bytes) → fin.get blobs text ≡ Some bytes → ⊥) → sizes_of blobs ≡ []
none_listed blobs no_blob =
    let same : blobs ≡ fin.empty = same_map nat_list_cmp_total (slice_cmp-IsAntisymmetric nat_cmp-IsAntisymmetric) blobs fin.empty (λ q. none_there (fin.get blobs q) (no_blob q) ∙ sym (fin.get-empty (slice_cmp nat_cmp) q)) in
    ap sizes_of same ∙ ap (map (λ (e : Bytes × Bytes). (e.0, length e.1))) (entries_none (slice_cmp nat_cmp))

empty_opens : (i : Held) (shelf : List Shelved) → IsEmpty (image_of i) shelf → IfErr (found i) IsNoDamage
empty_opens i shelf empty =
    all_but_stops i empty_record empty_root
    (record_absent i (page_from None (sizes_of i.blobs)) (sym empty.no_record) refl ∙ ap (λ (sizes : List (Bytes × ℕ)). without_record (page_from None sizes)) (none_listed i.blobs empty.no_blob)) refl refl

recorded_opens : (known : Bytes → Bytes → ℕ → Bool) (told : Bytes → Bytes → ℕ → Option (List (Bytes × Bytes))) (i : Held) (shelf : List Shelved) → Recorded (formats known told) (image_of i) shelf → IfErr (found i) IsNoDamage
unfolding formats
recorded_opens known told i shelf r =
    let c = cluster_reads r.text r.cluster r.reads in
    let there : record_in i.blobs i.text ≡ Ok c.0 = record_there i r.text (sym r.there) ∙ ap (readable (codes "record")) c.1 in
    let picked : Picked (formats known told) (At (formats known told) i.blobs) (count_of c.0.safe) shelf =
    subst (λ (x : ClusterRecord). Picked (formats known told) (At (formats known told) i.blobs) x.ledger.safe shelf) (sym c.2) r.kept.picked in
    let below : (root : RootData) → RootIs (formats known told) (At (formats known told) i.blobs) (count_of c.0.safe) root → RootIds root (first_id (suc c.0.term)) =
    subst (λ (x : ClusterRecord). (root : RootData) → RootIs (formats known told) (At (formats known told) i.blobs) x.ledger.safe root → RootIds root (first_id (suc x.ledger.term))) (sym c.2) r.root_below in
    let safe : SafeFound i.blobs c.0.safe (first_id (suc c.0.term)) = safe_found known told i.blobs c.0.safe (first_id (suc c.0.term)) shelf picked below in
    all_but_stops i c.0 safe.root there safe.whole safe.below

pub kept_opens : KeptImagesOpen
kept_opens known told i shelf (inl empty) = empty_opens i shelf empty
kept_opens known told i shelf (inr recorded) = recorded_opens known told i shelf recorded
