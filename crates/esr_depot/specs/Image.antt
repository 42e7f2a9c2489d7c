-- What a container holds.
use Rattle.std.specs.Prelude.{◌≡◌, ℕ, List, [], ◌∷◌, Option, Some, None, IsSome, map, length, refl}
use Rattle.std.specs.Coded.{Coded, code_by, coded×, coded_ℕ, coded_list, coded_option}
use Rattle.std.specs.FinMap.{FinMap, code, get, insert, remove, entries}
use Rattle.std.specs.Ordering.{nat_cmp}
use Rattle.std.specs.Cmp.Lexicographic.{slice_cmp}

-- bytes by name, in the byte order of names
abbrev pub Blobs : Type 0
Blobs = FinMap (slice_cmp nat_cmp) (List ℕ)

-- the blobs, and the text of the cluster record where there is one
pub record Image : Type 0 where
  pub blobs : Blobs
  pub text : Option (List ℕ)

-- the bytes under a name
abbrev pub blob : Image → List ℕ → Option (List ℕ)
blob i name = get i.blobs name

-- the same with that blob, in place of one of its name
abbrev pub with_blob : Image → List ℕ → List ℕ → Image
with_blob i name bytes = record { blobs = insert i.blobs name bytes; text = i.text }

-- the same with that text of the record
abbrev pub with_text : Image → List ℕ → Image
with_text i text = record { blobs = i.blobs; text = Some text }

-- the blobs without those of these names
abbrev pub without_names : List (List ℕ) → Blobs → Blobs
without_names [] m = m
without_names (name ∷ names) m = without_names names (remove m name)

-- the same without the blobs of these names
abbrev pub without : Image → List (List ℕ) → Image
without i names = record { blobs = without_names names i.blobs; text = i.text }

-- ---- the same of an image that may be untold

-- a blob of these bytes added; an image is told where both are
abbrev pub put_known : Option Image → List ℕ → Option (List ℕ) → Option Image
put_known None name bytes = None
put_known (Some i) name None = None
put_known (Some i) name (Some bytes) = Some (with_blob i name bytes)

-- the text of the record put in place of the old one
abbrev pub swap_known : Option Image → List ℕ → Option Image
swap_known None text = None
swap_known (Some i) text = Some (with_text i text)

-- the bytes under a name, where there are some
abbrev pub blob_known : Option Image → List ℕ → Option (List ℕ)
blob_known None name = None
blob_known (Some i) name = blob i name

-- the blobs of these names taken away
abbrev pub drop_known : Option Image → List (List ℕ) → Option Image
drop_known None names = None
drop_known (Some i) names = Some (without i names)

-- the name is free, where the image is told
abbrev pub IsFree : Option Image → List ℕ → Type 0
IsFree old name = (i : Image) → old ≡ Some i → blob i name ≡ None

-- the name is taken, where the image is told
abbrev pub IsTaken : Option Image → List ℕ → Type 0
IsTaken old name = (i : Image) → old ≡ Some i → IsSome (blob i name)

-- the names with the lengths of their blobs, in the byte order of names
abbrev pub sizes_of : Blobs → List (List ℕ × ℕ)
sizes_of m = map (λ e. (e.0, length e.1)) (entries m)

-- ---- codes, for a model's value

-- blobs are stored as their entries
abbrev pub blobs_code : Coded Blobs
blobs_code = code (coded_list coded_ℕ) (coded_list coded_ℕ)

-- an image is stored as the pair of its parts
abbrev pub image_code : Coded Image
image_code = code_by (Blobs × Option (List ℕ)) (coded× blobs_code (coded_option (coded_list coded_ℕ))) (λ i. (i.blobs, i.text)) (λ p. record { blobs = p.0; text = p.1 }) (λ _. refl)
