-- What sources in memory hold.
use Rattle.std.specs.Prelude.{◌≡◌, ℕ, Bool, true, false, List, [], ◌∷◌, map, Option, Some, None, option_map, if◌then◌else◌, IfSome, refl}
use Rattle.esr_source.specs.declared.address.Address.{Address}
use Rattle.esr_source.specs.declared.files.ListedFile.{ListedFile}
use Rattle.esr_source.specs.declared.files.MemFile.{MemFile}
use Rattle.esr_source.specs.declared.mem_source.MemSource.{MemSource}
use Rattle.esr_source.specs.Address.{same_address}
use Rattle.std.proofs.Common.{subst, sym}
use Rattle.std.proofs.lemmas.Simd.{map-map}
use Rattle.esr_source.specs.Files.{told_file, listed_of, is_listing, IsListing, IsListing-from}

-- what is listed of files in memory
abbrev pub listing : List MemFile → List ListedFile
listing fs = map (λ f. listed_of (told_file f)) fs

abbrev pub told_files : Option (List MemFile) → Option (List (List ℕ × List ℕ))
told_files fs = option_map (map told_file) fs

-- the files of the first source of that address
abbrev pub source_at : Address → List MemSource → Option (List MemFile)
source_at a [] = None
source_at a (s ∷ ss) = if same_address s.address a then Some s.files else source_at a ss

-- files that may be listed, if there are some
abbrev pub may_list : Option (List MemFile) → Bool
may_list None = true
may_list (Some fs) = is_listing (listing fs)

-- they are there where they may be listed
abbrev pub listable : Option (List MemFile) → Option (List MemFile)
listable None = None
listable (Some fs) = if is_listing (listing fs) then Some fs else None

abbrev pub files_at : Address → List MemSource → Option (List MemFile)
files_at a ss = listable (source_at a ss)

-- what is told of files that may be listed may be listed
pub listable-listing : (o : Option (List MemFile)) → IfSome (told_files (listable o)) (λ fs. IsListing (map listed_of fs))
listable-listing None = tt
listable-listing (Some fs) = shown (is_listing (listing fs)) refl
  where
    shown : (b : Bool) → is_listing (listing fs) ≡ b → IfSome (told_files (if b then Some fs else None)) (λ told. IsListing (map listed_of told))
    shown true ok = subst IsListing (sym (map-map listed_of told_file fs)) (IsListing-from (listing fs) ok)
    shown false ok = tt

pub files_at-listing : (a : Address) (ss : List MemSource) → IfSome (told_files (files_at a ss)) (λ fs. IsListing (map listed_of fs))
files_at-listing a ss = listable-listing (source_at a ss)
