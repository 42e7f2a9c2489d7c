-- What a container in memory held at each moment, and what a crash then would have left.
use Rattle.std.specs.Prelude.{◌≡◌, ◌⊎◌, ◌<◌, ◌≤◌, ℕ, ◌+◌, Bool, true, ◌&&◌, ◌||◌, ◌==◌, nat_le, nat_lt, if◌then◌else◌, List, [], ◌∷◌, Option, Some, None, is_none, map, min}
use Rattle.std.specs.List.{list_all}
use Rattle.std.specs.FinMap.{empty, insert}
use Rattle.std.specs.Ordering.{nat_cmp, eq_by_cmp}
use Rattle.std.specs.Cmp.Lexicographic.{slice_cmp}
use Rattle.esr_depot.specs.Image.{Blobs, Image}
use Rattle.esr_memdepot.specs.declared.blob.Gone.{Gone}
use Rattle.esr_memdepot.specs.declared.blob.KeptBlob.{KeptBlob}
use Rattle.esr_memdepot.specs.declared.text.KeptText.{KeptText}
use Rattle.esr_memdepot.specs.declared.plan.Leaves.{Leaves}
use Rattle.esr_memdepot.specs.declared.plan.Leaves.TheVariants.{Old, New, First}

-- ---- now

-- the blob has that name
abbrev pub is_named : List ℕ → KeptBlob → Bool
is_named name k = eq_by_cmp (slice_cmp nat_cmp) name k.name

-- the blob isn't gone
abbrev pub is_there : KeptBlob → Bool
is_there k = is_none k.gone

-- the blobs that pass a test, the last of each name, over those of m
abbrev pub held : (KeptBlob → Bool) → List KeptBlob → Blobs → Blobs
held p [] m = m
held p (k ∷ ks) m = held p ks (if p k then insert m k.name k.bytes else m)

-- the bytes of the last of that name that passes a test
abbrev pub found : (KeptBlob → Bool) → List ℕ → List KeptBlob → Option (List ℕ) → Option (List ℕ)
found p name [] before = before
found p name (k ∷ ks) before = found p name ks (if p k && is_named name k then Some k.bytes else before)

-- the last text that passes a test
abbrev pub last_text : (KeptText → Bool) → List KeptText → Option (List ℕ) → Option (List ℕ)
last_text p [] before = before
last_text p (x ∷ xs) before = last_text p xs (if p x then Some x.bytes else before)

-- the image of the blobs and the texts that pass a test
abbrev pub image_by : (KeptBlob → Bool) → (KeptText → Bool) → List KeptBlob → List KeptText → Image
image_by p q ks xs = record { blobs = held p ks empty; text = last_text q xs None }

-- what is there now
abbrev pub image_now : List KeptBlob → List KeptText → Image
image_now ks xs = image_by is_there (λ x. x.stands) ks xs

-- an image of no blob and no record
abbrev pub no_image : Image
no_image = record { blobs = empty; text = None }

-- ---- a crash in the call that was made when the clock stood at t

-- what was gone later than t stayed so, but for what that call took: none of it, the first n, or all
abbrev pub gone_later : ℕ → Leaves → Option Gone → Bool
gone_later t how None = true
gone_later t Old (Some g) = nat_lt t g.at
gone_later t New (Some g) = nat_lt (t + 1) g.at
gone_later t (First n) (Some g) = nat_lt (t + 1) g.at || g.at == t + 1 && nat_le n g.place

-- the crash leaves the blob
abbrev pub left_blob : ℕ → Leaves → KeptBlob → Bool
left_blob t Old k = nat_le k.came t && gone_later t Old k.gone
left_blob t New k = k.came == t + 1 || nat_le k.came t && gone_later t New k.gone
left_blob t (First n) k = nat_le k.came t && gone_later t (First n) k.gone

-- the crash leaves the text
abbrev pub left_text : ℕ → Leaves → KeptText → Bool
left_text t Old x = nat_le x.came t && x.stands
left_text t New x = x.came == t + 1 || nat_le x.came t && x.stands
left_text t (First n) x = nat_le x.came t && x.stands

-- what the crash leaves
abbrev pub image_left : ℕ → Leaves → List KeptBlob → List KeptText → Image
image_left t how ks xs = image_by (left_blob t how) (left_text t how) ks xs

-- what it held at moment t: what a crash leaves that undoes the call made then
abbrev pub image_at : ℕ → List KeptBlob → List KeptText → Image
image_at t ks xs = image_left t Old ks xs

-- a crash at some moment since t left the image: now, or in a call
abbrev pub LeftSince : ℕ → List KeptBlob → List KeptText → ℕ → Image → Type 0
LeftSince clock ks xs t i = (image_at clock ks xs ≡ i) ⊎ ((s : ℕ) × (t ≤ s) × (s < clock) × ((how : Leaves) × (i ≡ image_left s how ks xs)))

-- ---- no date is past the clock

-- what is gone went by then
abbrev pub gone_by : ℕ → Option Gone → Bool
gone_by clock None = true
gone_by clock (Some g) = nat_le g.at clock

-- the blob came by then, and went by then if it is gone
abbrev pub is_dated : ℕ → KeptBlob → Bool
is_dated clock k = nat_le k.came clock && gone_by clock k.gone

-- the text came by then
abbrev pub is_text_dated : ℕ → KeptText → Bool
is_text_dated clock x = nat_le x.came clock

-- all blobs and texts are dated up to the clock
abbrev pub all_dated : ℕ → List KeptBlob → List KeptText → Bool
all_dated clock ks xs = list_all (is_dated clock) ks && list_all (is_text_dated clock) xs

-- ---- what a call adds

-- a blob that came, and went at once unless it stands
abbrev pub kept : List ℕ → List ℕ → ℕ → Bool → KeptBlob
kept name bytes came stands = record { name = name; bytes = bytes; came = came; gone = if stands then None else Some (record { at = came; place = 0 }) }

-- the blob is gone, if it is there under that name
abbrev pub marked : List ℕ → Gone → KeptBlob → KeptBlob
marked name gone k = if is_there k && is_named name k then record k { gone = Some gone } else k

-- the blobs of these names are gone, the first name at this place
abbrev pub mark_each : List (List ℕ) → ℕ → ℕ → List KeptBlob → List KeptBlob
mark_each [] at place ks = ks
mark_each (name ∷ names) at place ks = mark_each names at (place + 1) (map (marked name (record { at = at; place = place })) ks)

-- how many of n names a removal takes away where it leaves this
abbrev pub taken_count : Leaves → ℕ → ℕ
taken_count Old n = 0
taken_count New n = n
taken_count (First k) n = min k n
