-- Images stay tidy over a run, and each delete dooms exactly what it leaves.
use Rattle.std.proofs.Common.{◌≡◌, ℕ, Bool, List, Some, inl, inr, ⊎_elim, sym, ap, ◌∙◌, subst}
use Rattle.std.proofs.lemmas.Option.{same_Some, none-some}
use Rattle.esr_model.specs.Names.{BlobName}
use Rattle.esr_model.specs.Values.{Bytes, ClusterRecord, RootData, Formats, ReadsBack}
use Rattle.esr_model.specs.Image.{Image, At, RootIs}
use Rattle.esr_model.specs.Shelf.{Shelved}
use Rattle.esr_core.specs.World.{World, record_of, no_record, no_root, opened, Opened, OpenedEmpty, OpenedRecord}
use Rattle.esr_core.specs.World as core
use Rattle.esr_core.specs.Entry.{Entry, Moment}
use Rattle.esr_core.specs.History.{IsLegal, AreTold}
use Rattle.esr_core.specs.Left.{Leaves}
use Rattle.esr_core.specs.Tidy.{TidyRoot, TidyImage}
use Rattle.esr_depot.specs.Image.{Image as Held}
use Rattle.esr_depot.specs.Look.{Look, now}
use Rattle.esr_root.specs.Root.{Root}
use Rattle.esr_record.specs.Record.{Record}
use Rattle.esr_formats.specs.Clusters.{cluster_kind}
use Rattle.esr_opening.specs.Opening.{image_of, Kept, world_in, IsLeftOf, IsOpening, IsAsBefore, SwapFailed, IsOpenRefused}
use Rattle.esr_opening.specs.declared.refusal.OpenRefusal.{OpenRefusal}
use Rattle.esr_opening.specs.declared.refusal.OpenRefusal.TheVariants as refusals
use Rattle.esr_repo.specs.Log.{log_of}
use Rattle.esr_repo.specs.Past.{IsPast}
use Rattle.esr_run.specs.Start.{Telling, known_by, told_by, formats_by, LegalRun}
use Rattle.esr_run.specs.Images.{Holds}
use Rattle.esr_run.specs.Tidy.{IsTidyAt, StaysTidy, EveryImageTidy, EndTidy, EachDoomsExactly}
use Rattle.esr_run.specs.Laws.{Laws}
use Rattle.esr_run.specs.Worlds.{opened_image}
use Rattle.esr_run.proofs.Keeping.{back_of, leaves_last, Ran, world_at, start_at, ran}

-- ---- the image of the opened world

-- the record of the world is the one that its image has
same_record : (f : Formats) (w : World) (cluster : ClusterRecord) → ReadsBack f.cluster (record_of w) → (text : Bytes) → Some (f.cluster.text (record_of w)) ≡ Some text → f.cluster.read text ≡ Some cluster → record_of w ≡ cluster
same_record f w cluster back text there reads =
    let same : f.cluster.text (record_of w) ≡ text = same_Some (f.cluster.text (record_of w)) text there in
    same_Some (record_of w) cluster (sym back ∙ ap f.cluster.read same ∙ reads)

-- a root without indices is tidy
no_root_tidy : (f : Formats) (has : BlobName → Bytes → Type 0) → TidyRoot f has no_root
no_root_tidy f has = record { used = λ x m. absurd m; lists = λ index shard generation is. absurd (none-some generation is) }

-- opening leaves the blobs and the safe root
opened_tidy : (f : Formats) (image : Image) (w : World) → TidyImage f image → Opened f image w → ReadsBack f.cluster (record_of w) → TidyImage f (core.image_of f w)
opened_tidy f image w tidy (OpenedEmpty e) back = λ text cluster root there reads is.
    let same : record_of (opened image.blobs no_record no_root) ≡ cluster = same_record f (opened image.blobs no_record no_root) cluster back text there reads in
    let none : RootIs f (At f image.blobs) 0 root = subst (λ (c : ClusterRecord). RootIs f (At f image.blobs) c.ledger.safe root) (sym same) is in
    subst (λ (r : RootData). TidyRoot f (At f image.blobs) r) (sym none) (no_root_tidy f (At f image.blobs))
opened_tidy f image w tidy (OpenedRecord was text root there reads is) back = λ new_text cluster new there' reads' is'.
    let same : record_of (opened image.blobs was root) ≡ cluster = same_record f (opened image.blobs was root) cluster back new_text there' reads' in
    tidy text was new there reads (subst (λ (c : ClusterRecord). RootIs f (At f image.blobs) c.ledger.safe new) (sym same) is')

-- ---- no command was carried out

pub untouched_tidy : (f : Formats) (l : Look) → ((i : Held) → l.since l.clock i → now l ≡ Some i) → StaysTidy f l l
untouched_tidy f l only tidy i left = tidy i (only i left)

as_before_tidy : (f : Formats) (before after : Look) → IsAsBefore before after → StaysTidy f before after
as_before_tidy f before after same tidy i left = tidy i (same.left.each i left)

-- what a crash in the opening leaves
opening_tidy : (files : Telling) (before : Look) (cluster : Record) (root : Root) → ((j : Held) → now before ≡ Some j → Opened (formats_by files) (image_of j) (world_in (now before) cluster root))
    → ReadsBack cluster_kind (record_of (world_in (now before) cluster root)) → IsTidyAt (formats_by files) before → (i : Held) → IsLeftOf (now before) cluster root i → TidyImage (formats_by files) (image_of i)
opening_tidy files before cluster root opens back tidy i (inl same) = tidy i same
opening_tidy files before cluster root opens back tidy i (inr (j, is, with)) =
    let w : World = world_in (now before) cluster root in
    subst (TidyImage (formats_by files)) (sym (ap image_of with ∙ opened_image files (now before) cluster root j is)) (opened_tidy (formats_by files) (image_of j) w (tidy j is) (opens j is) (back_of files w back))

swap_failed_tidy : (files : Telling) (before after : Look) → SwapFailed before after → StaysTidy (formats_by files) before after
swap_failed_tidy files before after s tidy i left = opening_tidy files before s.cluster s.root (λ j e. s.opens j (known_by files) (told_by files) e) s.order.record_back tidy i (s.left.each i left)

pub refused_tidy : {F : Type 0} (files : Telling) (count : F → ℕ) (before after : Look) (old_faults new_faults : ℕ) (refusal : OpenRefusal F)
    → IsOpenRefused count before after old_faults new_faults refusal → StaysTidy (formats_by files) before after
refused_tidy files count before after old_faults new_faults refusals.Memory r = as_before_tidy (formats_by files) before after r
refused_tidy files count before after old_faults new_faults (refusals.DepotFault fetch) r = ⊎_elim (λ same. as_before_tidy (formats_by files) before after same) (λ failed. swap_failed_tidy files before after failed) r.1
refused_tidy files count before after old_faults new_faults refusal r = as_before_tidy (formats_by files) before after r.0

-- ---- commands were carried out

-- over a history that began in the opened world of a tidy image
ran_tidy : (laws : Laws) (f : Formats) (size : ℕ) (image : Image) (shelf : List Shelved) (w : World) (log : List Moment) → Ran f size image shelf w log → TidyImage f image → (i : Image) → Leaves f size w log i → TidyImage f i
ran_tidy laws f size image shelf w log r tidy i leaves = laws.tidy.left f size shelf w log i (laws.lawful f image shelf w r.kept r.opened) (laws.tidy.opened f image w tidy r.opened) r.back r.legal r.told leaves

-- what a crash may leave over the history
left_tidy : (laws : Laws) (files : Telling) (size : ℕ) (quiet : Bool) (before mid after : Look) (k : Kept) (history : List Entry) (o : IsOpening before mid k)
    → LegalRun (start_at files size quiet before mid k o) mid.clock after history → IsPast (start_at files size quiet before mid k o) mid.clock mid.since after history
    → (shelf : List Shelved) → Holds (formats_by files) before shelf → IsTidyAt (formats_by files) before
    → (i : Image) → Leaves (formats_by files) size (world_at before mid k o) (log_of after mid.clock history) i → TidyImage (formats_by files) i
left_tidy laws files size quiet before mid after k history o run past shelf h tidy i leaves =
    ran_tidy laws (formats_by files) size (image_of h.image) shelf (world_at before mid k o) (log_of after mid.clock history) (ran files size quiet before mid after k history o run past shelf h) (tidy h.image h.told) i leaves

pub every_image_tidy : (laws : Laws) (files : Telling) (size : ℕ) (quiet : Bool) (before mid after : Look) (k : Kept) (history : List Entry) (o : IsOpening before mid k)
    → LegalRun (start_at files size quiet before mid k o) mid.clock after history → IsPast (start_at files size quiet before mid k o) mid.clock mid.since after history
    → EveryImageTidy (formats_by files) before after
every_image_tidy laws files size quiet before mid after k history o run past shelf h tidy i left =
    ⊎_elim
    (λ was. opening_tidy files before o.cluster o.root (λ j e. o.opens j (known_by files) (told_by files) e) o.order.record_back tidy i (o.left.each i was))
    (λ leaves. left_tidy laws files size quiet before mid after k history o run past shelf h tidy (image_of i) leaves)
    (past.before before.clock i o.left.later left)

pub end_tidy : (laws : Laws) (files : Telling) (size : ℕ) (quiet : Bool) (before mid after : Look) (k : Kept) (history : List Entry) (o : IsOpening before mid k)
    → LegalRun (start_at files size quiet before mid k o) mid.clock after history → IsPast (start_at files size quiet before mid k o) mid.clock mid.since after history
    → EndTidy (formats_by files) before after
end_tidy laws files size quiet before mid after k history o run past shelf h tidy i now_is =
    let f : Formats = formats_by files in
    let w : World = world_at before mid k o in
    let log : List Moment = log_of after mid.clock history in
    left_tidy laws files size quiet before mid after k history o run past shelf h tidy (image_of i) (subst (Leaves f size w log) (sym (run.image i now_is)) (leaves_last f size w log))

pub each_dooms_exactly : (laws : Laws) (files : Telling) (size : ℕ) (quiet : Bool) (before mid after : Look) (k : Kept) (history : List Entry) (o : IsOpening before mid k)
    → LegalRun (start_at files size quiet before mid k o) mid.clock after history → IsPast (start_at files size quiet before mid k o) mid.clock mid.since after history
    → EachDoomsExactly (formats_by files) (world_at before mid k o) (log_of after mid.clock history) before
each_dooms_exactly laws files size quiet before mid after k history o run past shelf h tidy front back m split step counted =
    let f : Formats = formats_by files in
    let w : World = world_at before mid k o in
    let r : Ran f size (image_of h.image) shelf w (log_of after mid.clock history) = ran files size quiet before mid after k history o run past shelf h in
    laws.tidy.dooms f size (image_of h.image) shelf w front back m r.kept (tidy h.image h.told) r.opened (subst (IsLegal f size w) split r.legal) (subst AreTold split r.told) step counted
