-- Listings, and the pages in which a container gives them.
use Rattle.std.specs.Prelude.{◌≡◌, ◌⊎◌, ℕ, ◌≤◌, Bool, true, false, nat_lt, List, [], ◌∷◌, length, take, Option, Some, None}
use Rattle.std.specs.List.{filter}
use Rattle.std.specs.declared.cmp.Ordering.TheVariants.{Less}
use Rattle.std.specs.Ordering.{nat_cmp, is_lt}
use Rattle.std.specs.Cmp.Lexicographic.{slice_cmp}
use Rattle.std.specs.FinMap.{get}
use Rattle.esr_depot.specs.declared.listing.Listed.{Listed}
use Rattle.esr_depot.specs.Image.{Blobs}

-- a name, and the length of its blob
abbrev pub Size : Type 0
Size = List ℕ × ℕ

-- the name of a listed blob, and its length
abbrev pub size_of : Listed → Size
size_of l = (l.name, l.length)

-- it stands in the list
abbrev pub Has : List Size → Size → Type 0
Has [] s = ⊥
Has (t ∷ rest) s = (t ≡ s) ⊎ Has rest s

-- ---- what each page is

-- the name comes after the one after which a page begins
abbrev pub IsAfter : Option (List ℕ) → List ℕ → Type 0
IsAfter None name = Unit {0}
IsAfter (Some after) name = slice_cmp nat_cmp after name ≡ Less

-- each name comes before those that follow
abbrev pub IsRising : List Size → Type 0
IsRising [] = Unit {0}
IsRising (s ∷ rest) = ((t : Size) → Has rest t → slice_cmp nat_cmp s.0 t.0 ≡ Less) × IsRising rest

-- a page has at most 1,000 names after the one after which it begins, in byte order
pub record IsPage (after : Option (List ℕ)) (page : List Size) : Type 0 where
  pub few : length page ≤ 1000
  pub follow : (s : Size) → Has page s → IsAfter after s.0
  pub rising : IsRising page

-- ---- what a page of these blobs is

-- the same as `IsAfter`, computed
abbrev pub is_after : Option (List ℕ) → List ℕ → Bool
is_after None name = true
is_after (Some after) name = is_lt (slice_cmp nat_cmp after name)

-- the first 1,000 of those that come after the name
abbrev pub page_from : Option (List ℕ) → List Size → List Size
page_from after sizes = take 1000 (filter (λ (s : Size). is_after after s.0) sizes)

-- the last name of a page
abbrev pub last_name : List Size → Option (List ℕ)
last_name [] = None
last_name (s ∷ []) = Some s.0
last_name (s ∷ t ∷ rest) = last_name (t ∷ rest)

-- a page of fewer than 1,000 names ends the listing
abbrev pub is_short : List Size → Bool
is_short page = nat_lt (length page) 1000

-- some blob of the page has the name
abbrev pub IsListed : List Size → List ℕ → Type 0
IsListed page name = (s : Size) × Has page s × (s.0 ≡ name)

-- of these blobs it has the first: each, with its length, whose name comes after the given one, and not after the page's end
pub record IsPageOf (blobs : Blobs) (after : Option (List ℕ)) (page : List Size) : Type 0 where
  pub there : (s : Size) → Has page s → (bytes : List ℕ) × (get blobs s.0 ≡ Some bytes) × (length bytes ≡ s.1)
  pub all : (name bytes : List ℕ) → get blobs name ≡ Some bytes → IsAfter after name → IsListed page name ⊎ ((is_short page ≡ false) × IsAfter (last_name page) name)
