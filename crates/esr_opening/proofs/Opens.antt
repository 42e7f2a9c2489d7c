-- What opening finds in an image is the opened world of the definitions.
use Rattle.std.proofs.Common.{◌≡◌, ◌≢◌, ℕ, suc, ◌<◌, ◌≤◌, ◌^◌, ◌-◌, Bool, ℤ, pos, negsuc, ◌≤ℤ◌, List, [], ◌∷◌, codes, Option, Some, None, option_map, Result, Ok, Err, refl, sym, ap, ◌∙◌, subst, arith}
use Rattle.std.specs.FinMap as fin
use Rattle.std.specs.Result.{result_ok}
use Rattle.std.proofs.lemmas.Int.{ints}
use Rattle.esr_names.specs.declared.blob.BlobName.TheVariants as code
use Rattle.esr_names.specs.Layout.{IsName, HasIds}
use Rattle.esr_json.specs.declared.refusal.Reason.{Reason}
use Rattle.esr_model.specs.Names.{BlobName, Root as RootName, Latest}
use Rattle.esr_model.specs.Values.{Bytes, RootData, ClusterRecord, ReadsBack}
use Rattle.esr_model.specs.Image.{At, Reads, RootIs}
use Rattle.esr_core.specs.World.{World, opened, Opened, OpenedEmpty, OpenedRecord}
use Rattle.esr_depot.specs.Image.{Image as Held, Blobs, sizes_of}
use Rattle.esr_record.specs.Record.{Record}
use Rattle.esr_record.specs.Reading.{record_from}
use Rattle.esr_root.specs.Root.{Root, empty_root}
use Rattle.esr_root.specs.Reading.{root_from}
use Rattle.esr_formats.specs.Formats.{formats}
use Rattle.esr_formats.specs.Names.{name_kind}
use Rattle.esr_formats.specs.Roots.{root_of, root_kind}
use Rattle.esr_formats.specs.Clusters.{count_of, cluster_of, cluster_kind}
use Rattle.esr_formats.specs.ReadBack.{name_reads_back}
use Rattle.esr_opening.specs.Found.{Obstacle, Damage, ◌>>=◌, readable, read_as, empty_record, without_record, record_in, root_name, root_in, infos_in, safe_number, known_ids, has_term, checked, found}
use Rattle.esr_opening.specs.Opening.{image_of, known_blobs, world_in}
use Rattle.esr_opening.specs.Terms.{own_checks, whole_root_in, IsFit}
use Rattle.esr_opening.proofs.Fitting.{bind_ok}
use Rattle.esr_opening.proofs.Steps.{found_is}

-- ---- texts that read

pub read_from : {A : Type 0} (name : Bytes) (r : Result A Reason) (x : A) → readable name r ≡ Ok x → r ≡ Ok x
read_from name (Ok y) x h = cc
read_from name (Err e) x h = absurd cc

pub read_some : {A : Type 0} (from : Bytes → Result A Reason) (name : Bytes) (o : Option Bytes) (x : A) → read_as from name o ≡ Ok x → (bytes : Bytes) × (o ≡ Some bytes) × (from bytes ≡ Ok x)
read_some from name None x h = absurd cc
read_some from name (Some bytes) x h = (bytes, refl, read_from name (from bytes) x h)

cluster_reads : (text : Bytes) (cluster : Record) → record_from text ≡ Ok cluster → cluster_kind.read text ≡ Some (cluster_of cluster)
unfolding cluster_kind
cluster_reads text cluster h = ap (λ (r : Result Record Reason). option_map cluster_of (result_ok r)) h

root_reads : (text : Bytes) (root : Root) → root_from text ≡ Ok root → root_kind.read text ≡ Some (root_of root)
unfolding root_kind
root_reads text root h = ap (λ (r : Result Root Reason). option_map root_of (result_ok r)) h

-- the name of a root is one of the layout
root_back : (n : ℕ) → n < 2 ^ 63 → ReadsBack name_kind (RootName n)
unfolding IsName HasIds
root_back n less = name_reads_back (code.Root n) tt less

not_latest : (n : ℕ) → RootName n ≢ Latest
not_latest n h = cc

-- ---- the root

root_is : (known : Bytes → Bytes → ℕ → Bool) (told : Bytes → Bytes → ℕ → Option (List (Bytes × Bytes))) (blobs : Blobs) (safe : ℤ) (root : Root) → safe ≤ℤ pos (2 ^ 63 - 1) → root_in blobs safe ≡ Ok root
    → RootIs (formats known told) (At (formats known told) blobs) (count_of safe) (root_of root)
unfolding formats
root_is known told blobs (pos n) root most there =
    let read = read_some root_from (root_name n) (fin.get blobs (root_name n)) root there in
    let less : n < 2 ^ 63 = omega (arith, ints) in
    record { bytes = read.0; there = (read.1, (root_back n less, not_latest n)); reads = root_reads read.0 root read.2 }
root_is known told blobs (negsuc n) root most there = let same : empty_root ≡ root = cc in ap root_of (sym same)

-- ---- the record

no_text : (known : Bytes → Bytes → ℕ → Bool) (told : Bytes → Bytes → ℕ → Option (List (Bytes × Bytes))) (i : Held) (cluster : Record) (root : Root) → i.text ≡ None → empty_record ≡ cluster
    → root_in i.blobs cluster.safe ≡ Ok root
    → Opened (formats known told) (image_of i) (opened i.blobs (cluster_of cluster) (root_of root))
no_text known told i cluster root none empty there =
    let at_start : root_in i.blobs empty_record.safe ≡ Ok root = ap (λ (c : Record). root_in i.blobs c.safe) empty ∙ there in
    let same : empty_root ≡ root = ok_same at_start in
    subst (λ (c : Record). Opened (formats known told) (image_of i) (opened i.blobs (cluster_of c) (root_of root))) empty
    (subst (λ (r : Root). Opened (formats known told) (image_of i) (opened i.blobs (cluster_of empty_record) (root_of r))) same (OpenedEmpty none))
  where
    ok_same : ◌≡◌ {A = Result Root Obstacle} (Ok empty_root) (Ok root) → empty_root ≡ root
    ok_same h = cc

nothing_found : (sizes : List (Bytes × ℕ)) (cluster : Record) → without_record sizes ≡ Ok cluster → empty_record ≡ cluster
nothing_found [] cluster h = cc
nothing_found (listed ∷ rest) cluster h = absurd cc

by_text : (known : Bytes → Bytes → ℕ → Bool) (told : Bytes → Bytes → ℕ → Option (List (Bytes × Bytes))) (i : Held) (text : Option Bytes) (cluster : Record) (root : Root) → i.text ≡ text → cluster.safe ≤ℤ pos (2 ^ 63 - 1)
    → record_in i.blobs text ≡ Ok cluster → root_in i.blobs cluster.safe ≡ Ok root → Opened (formats known told) (image_of i) (opened i.blobs (cluster_of cluster) (root_of root))
unfolding formats
by_text known told i None cluster root is most record_there root_there = no_text known told i cluster root is (nothing_found (sizes_of i.blobs) cluster record_there) root_there
by_text known told i (Some text) cluster root is most record_there root_there =
    OpenedRecord (cluster_of cluster) text (root_of root) is (cluster_reads text cluster (read_from (codes "record") (record_from text) cluster record_there)) (root_is known told i.blobs cluster.safe root most root_there)

parts : (i : Held) (cluster : Record) (root : Root) → found i ≡ Ok (cluster, root) → (record_in i.blobs i.text ≡ Ok cluster) × (root_in i.blobs cluster.safe ≡ Ok root)
unfolding found
parts i cluster root is =
    let c = bind_ok (record_in i.blobs i.text) (λ (c : Record). root_in i.blobs c.safe >>= λ r. checked i.blobs c r) (cluster, root) is in
    let r = bind_ok (root_in i.blobs c.0.safe) (checked i.blobs c.0) (cluster, root) c.2 in
    let infos = bind_ok (infos_in i.blobs r.0 (safe_number c.0.safe) r.0.snapshots) _ (cluster, root) r.2 in
    let ids = bind_ok (known_ids r.0 (safe_number c.0.safe) c.0.term) _ (cluster, root) infos.2 in
    let term = bind_ok (has_term c.0.term) _ (cluster, root) ids.2 in
    let one : c.0 ≡ cluster = first_same c.0 cluster r.0 root term.2 in
    let two : r.0 ≡ root = second_same c.0 cluster r.0 root term.2 in
    (c.1 ∙ ap (λ (x : Record). Ok x) one, sym (ap (λ (x : Record). root_in i.blobs x.safe) one) ∙ r.1 ∙ ap (λ (x : Root). Ok x) two)
  where
    ok_pair : (p q : Record × Root) → ◌≡◌ {A = Result (Record × Root) Obstacle} (Ok p) (Ok q) → p ≡ q
    ok_pair p q h = cc

    first_same : (a b : Record) (x y : Root) → ◌≡◌ {A = Result (Record × Root) Obstacle} (Ok (a, x)) (Ok (b, y)) → a ≡ b
    first_same a b x y h = ap (λ (p : Record × Root). p.0) (ok_pair (a, x) (b, y) h)

    second_same : (a b : Record) (x y : Root) → ◌≡◌ {A = Result (Record × Root) Obstacle} (Ok (a, x)) (Ok (b, y)) → x ≡ y
    second_same a b x y h = ap (λ (p : Record × Root). p.1) (ok_pair (a, x) (b, y) h)

pub found_opens : (held : Option Held) (i : Held) (known : Bytes → Bytes → ℕ → Bool) (told : Bytes → Bytes → ℕ → Option (List (Bytes × Bytes))) (cluster : Record) (root : Root) → IsFit cluster root → held ≡ Some i
    → found i ≡ Ok (cluster, root)
    → Opened (formats known told) (image_of i) (world_in held cluster root)
found_opens held i known told cluster root fit here is =
    let at = parts i cluster root is in
    let most : cluster.safe ≤ℤ pos (2 ^ 63 - 1) = omega (arith, ints, fit.numbers.order, fit.numbers.most) in
    subst (λ (h : Option Held). Opened (formats known told) (image_of i) (world_in h cluster root)) (sym here) (by_text known told i i.text cluster root refl most at.0 at.1)
