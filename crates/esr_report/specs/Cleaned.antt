-- What the ticket of a cleanup took away, by the history alone.
use Rattle.std.specs.Prelude.{ℕ, ◌-◌, ◌^◌, min, Bool, true, false, ◌==◌, ◌&&◌, ◌||◌, if◌then◌else◌, List, [], ◌∷◌, flat_map, map, sum_by}
use Rattle.std.specs.List.{list_any}
use Rattle.std.specs.Set.{distinct_count}
use Rattle.esr_model.specs.Names.{BlobName}
use Rattle.esr_model.specs.Values.{Bytes}
use Rattle.esr_model.specs.Uploads.{same_bytes}
use Rattle.esr_model.specs.Cleanup.{BlobSize}
use Rattle.esr_core.specs.Entry.{Given, GivenShard, GivenFinalize, GivenDrop, GivenRestore, GivenClone, GivenDelete, GivenCleanup, Step, ListStep, Reply, Gave, WasListed, Entry}
use Rattle.esr_core.specs.Past.{batch_gone}
use Rattle.esr_formats.specs.Names.{name_kind}

-- ---- the ticket

abbrev pub is_cleanup : Given → Bool
is_cleanup (GivenShard index number base) = false
is_cleanup (GivenFinalize info results) = false
is_cleanup GivenDrop = false
is_cleanup (GivenRestore index number uuid) = false
is_cleanup (GivenClone index number source base) = false
is_cleanup (GivenDelete uuids) = false
is_cleanup GivenCleanup = true

-- a take gave a cleanup to this ticket
abbrev pub cleanup_by : Reply → ℕ → Bool
cleanup_by (Gave ticket op unit) k = (ticket == k) && is_cleanup unit
cleanup_by reply k = false

-- one of these entries did
abbrev pub is_cleanup_ticket : List Entry → ℕ → Bool
is_cleanup_ticket [] k = false
is_cleanup_ticket (e ∷ es) k = cleanup_by e.reply k || is_cleanup_ticket es k

-- ---- what it took away

-- the names that an entry of the ticket took away
abbrev pub gone_at : ℕ → Entry → List BlobName
gone_at k e = if e.who == k then batch_gone e.step e.reply else []

-- the page of the listing that an entry of the ticket was told
abbrev pub page_told : Step → Reply → List BlobSize
page_told (ListStep from) (WasListed page) = page
page_told step reply = []

abbrev pub page_at : ℕ → Entry → List BlobSize
page_at k e = if e.who == k then page_told e.step e.reply else []

-- one of the names has the text
abbrev pub has_text : List BlobName → Bytes → Bool
has_text names text = list_any (λ (name : BlobName). same_bytes text (name_kind.text name)) names

-- the ticket took away a blob of this text
abbrev pub is_gone : List Entry → ℕ → Bytes → Bool
is_gone all k text = list_any (λ (e : Entry). has_text (gone_at k e) text) all

-- the length of a listed blob, where it passes
abbrev pub size_where : (Bytes → Bool) → BlobSize → ℕ
size_where passes b = if passes b.text then b.size else 0

abbrev pub sizes_where : (Bytes → Bool) → List BlobSize → ℕ
sizes_where passes page = sum_by (size_where passes) page

-- the texts of the names that the ticket took away
abbrev pub texts_gone : List Entry → ℕ → List Bytes
texts_gone all k = flat_map (λ (e : Entry). map (λ (name : BlobName). name_kind.text name) (gone_at k e)) all

-- how many names these are, each counted once
abbrev pub blobs_gone : List Entry → ℕ → ℕ
blobs_gone all k = distinct_count same_bytes (texts_gone all k)

-- the listed lengths of these names together; the sum stops at 2^64 - 1
abbrev pub bytes_gone : List Entry → ℕ → ℕ
bytes_gone all k = min (sum_by (λ (e : Entry). sizes_where (is_gone all k) (page_at k e)) all) (2 ^ 64 - 1)
