-- The files of a shard that were read so far.
use Rattle.std.proofs.Common.{◌≡◌, ℕ, zero, suc, ◌+◌, ◌<◌, ◌≤◌, ◌^◌, Bool, List, [], ◌∷◌, ◌++◌, length, take, map, get_or, Option, Some, None, option_map, IfSome, slice_get, slice_index_or, refl, sym, ◌∙◌, ap, subst, arith, add-one}
use Rattle.std.specs.Prelude.{◌&&◌}
use Rattle.std.specs.List.{AllByRecursion}
use Rattle.std.proofs.lemmas.List.{take_more, take_all, map-append, length-map}
use Rattle.esr_hash.specs.declared.print.Print.{Print}
use Rattle.esr_model.specs.Values.{Bytes}
use Rattle.esr_parts.specs.Reads.{Tells, Hashed}
use Rattle.esr_source.specs.declared.files.ListedFile.{ListedFile}
use Rattle.esr_source.specs.Files.{listed_of, bytes_at, is_above, is_rising, IsListing}
use Rattle.esr_reuse.specs.declared.reuse.ReadFile.{ReadFile}
use Rattle.esr_reuse.specs.Plans.{file_read}
use Rattle.esr_upload.specs.Surveyed.{Surveyed, printed, TellsAll, IsShort, names_rise}
use Rattle.esr_upload.proofs.Storing.{TellsFirst, tells_none}

-- the first i files of the list were read
pub record ReadFirst (told : Option (List (Bytes × Bytes))) (listed : List ListedFile) (i : ℕ) (reads : List ReadFile) : Type 0 where
  pub files : List (Bytes × Bytes)
  pub reads_are : map file_read reads ≡ map printed files
  pub names_are : map (λ (f : Bytes × Bytes). f.0) files ≡ map (λ (f : ListedFile). f.name) (take i listed)
  pub tells : TellsFirst told i files
  pub short : AllByRecursion IsShort files

pub read_none : (told : Option (List (Bytes × Bytes))) (listed : List ListedFile) → ReadFirst told listed 0 []
read_none told listed = record { files = []; reads_are = refl; names_are = refl; tells = tells_none told; short = tt }

-- ---- one file more

short_more : (files : List (Bytes × Bytes)) (f : Bytes × Bytes) → AllByRecursion IsShort files → IsShort f → AllByRecursion IsShort (files ++ f ∷ [])
short_more [] f all one = (one, tt)
short_more (g ∷ files) f all one = (all.0, short_more files f all.1 one)

told_at : (told : List (Bytes × Bytes)) (i : ℕ) (d : ListedFile) (bytes : Bytes) → i < length (map listed_of told) → Tells (option_map (λ (f : Bytes × Bytes). f.1) (slice_get told i)) bytes
    → take (suc i) told ≡ take i told ++ ((slice_index_or (map listed_of told) i d).name, bytes) ∷ []
told_at [] i d bytes less tells = absurd (omega (arith, less))
told_at (f ∷ told) zero d bytes less tells = ap (λ (b : Bytes). (f.0, b) ∷ []) tells
told_at (f ∷ told) (suc i) d bytes less tells = ap (λ (l : List (Bytes × Bytes)). f ∷ l) (told_at told i d bytes (omega (arith, less)) tells)

tells_more : (told : Option (List (Bytes × Bytes))) (listed : List ListedFile) (i : ℕ) (d : ListedFile) (files : List (Bytes × Bytes)) (bytes : Bytes) → IfSome told (λ x. listed ≡ map listed_of x) → i < length listed
    → TellsFirst told i files → Tells (bytes_at told i) bytes → TellsFirst told (i + 1) (files ++ ((slice_index_or listed i d).name, bytes) ∷ [])
tells_more None listed i d files bytes is less first tells = tt
tells_more (Some told) listed i d files bytes is less first tells =
    let less_told : i < length (map listed_of told) = subst (λ (l : List ListedFile). i < length l) is less in
    let name : List ListedFile → Bytes = λ l. (slice_index_or l i d).name in
    ap (λ (l : List (Bytes × Bytes)). l ++ (name listed, bytes) ∷ []) first ∙ ap (λ (l : List ListedFile). take i told ++ (name l, bytes) ∷ []) is
    ∙ sym (told_at told i d bytes less_told tells) ∙ ap (λ (n : ℕ). take n told) (sym (add-one i))

read_more : (told : Option (List (Bytes × Bytes))) (listed : List ListedFile) (i : ℕ) (d : ListedFile) (reads new : List ReadFile) (r : ReadFile) → IfSome told (λ x. listed ≡ map listed_of x) → IsListing listed → i < length listed
    → ReadFirst told listed i reads → new ≡ reads ++ r ∷ [] → r.physical ≡ (slice_index_or listed i d).name → Hashed (bytes_at told i) (slice_index_or listed i d).length r.print → ReadFirst told listed (i + 1) new
read_more told listed i d reads new r is listing less first pushed name hashed =
    let file = slice_index_or listed i d in
    let one : Bytes × Bytes = (file.name, hashed.bytes) in
    let limit : file.length < 2 ^ 60 = listing.short i d less in
    let bound : length hashed.bytes ≤ file.length = hashed.bound in
    let read_is : file_read r ≡ printed one = ap (λ (n : Bytes). (n, r.print)) name ∙ ap (λ (p : Print). (file.name, p)) hashed.print_is in
    record {
      files = first.files ++ one ∷ [];
      reads_are = ap (λ (l : List ReadFile). map file_read l) pushed ∙ map-append file_read reads (r ∷ []) ∙ ap (λ (l : List (Bytes × Print)). l ++ file_read r ∷ []) first.reads_are
          ∙ ap (λ (p : Bytes × Print). map printed first.files ++ p ∷ []) read_is ∙ sym (map-append printed first.files (one ∷ []));
      names_are = map-append (λ (f : Bytes × Bytes). f.0) first.files (one ∷ []) ∙ ap (λ (l : List Bytes). l ++ file.name ∷ []) first.names_are ∙ sym (map-append (λ (f : ListedFile). f.name) (take i listed) (file ∷ []))
          ∙ ap (λ (l : List ListedFile). map (λ (f : ListedFile). f.name) l) (sym (take_more listed i d less));
      tells = tells_more told listed i d first.files hashed.bytes is less first.tells hashed.tells;
      short = short_more first.files one first.short (omega arith);
    }

-- the same, as the loop reads it
pub read_next : (told same : Option (List (Bytes × Bytes))) (listed : List ListedFile) (i place : ℕ) (file : ListedFile) (reads new : List ReadFile) (r : ReadFile) → IfSome told (λ x. listed ≡ map listed_of x) → IsListing listed
    → i < length listed
    → ReadFirst told listed i reads → new ≡ reads ++ r ∷ [] → file ≡ get_or listed i file → place ≡ i → same ≡ told → r.physical ≡ file.name → Hashed (bytes_at same place) file.length r.print
    → ReadFirst told listed (i + 1) new
read_next told same listed i place file reads new r is listing less first pushed file_is place_is same_is name hashed =
    let here : Hashed (bytes_at same i) file.length r.print = subst (λ (k : ℕ). Hashed (bytes_at same k) file.length r.print) place_is hashed in
    let there : Hashed (bytes_at told i) file.length r.print = subst (λ (o : Option (List (Bytes × Bytes))). Hashed (bytes_at o i) file.length r.print) same_is here in
    read_more told listed i file reads new r is listing less first pushed (name ∙ ap (λ (f : ListedFile). f.name) file_is) (subst (λ (f : ListedFile). Hashed (bytes_at told i) f.length r.print) file_is there)

-- ---- all files

rising_by : (last : Option Bytes) (files : List (Bytes × Bytes)) (listed : List ListedFile) → map (λ (f : Bytes × Bytes). f.0) files ≡ map (λ (f : ListedFile). f.name) listed → is_rising last (names_rise files) ≡ is_rising last listed
rising_by last [] [] same = refl
rising_by last [] (l ∷ listed) same = absurd cc
rising_by last (f ∷ files) [] same = absurd cc
rising_by last (f ∷ files) (l ∷ listed) same =
    let name : f.0 ≡ l.name = cc in
    let rest : map (λ (g : Bytes × Bytes). g.0) files ≡ map (λ (m : ListedFile). m.name) listed = cc in
    ap (λ (n : Bytes). is_above last n && is_rising (Some n) (names_rise files)) name ∙ ap (λ (b : Bool). is_above last l.name && b) (rising_by (Some l.name) files listed rest)

tells_all : (told : Option (List (Bytes × Bytes))) (listed : List ListedFile) (n : ℕ) (files : List (Bytes × Bytes)) → IfSome told (λ x. listed ≡ map listed_of x) → length listed ≤ n → TellsFirst told n files → TellsAll told files
tells_all None listed n files is all first = tt
tells_all (Some told) listed n files is all first =
    let many : length listed ≡ length told = ap (λ (l : List ListedFile). length l) is ∙ length-map told listed_of in
    first ∙ take_all n told (omega arith)

pub read_all : (told : Option (List (Bytes × Bytes))) (listed : List ListedFile) (now : Option (List ListedFile)) (n : ℕ) (reads : List ReadFile) → IfSome told (λ x. listed ≡ map listed_of x) → IsListing listed → now ≡ Some listed
    → length listed ≤ n
    → ReadFirst told listed n reads → Surveyed told now reads
read_all told listed now n reads is listing now_is all first =
    let whole : take n listed ≡ listed = take_all n listed all in
    let names : map (λ (f : Bytes × Bytes). f.0) first.files ≡ map (λ (f : ListedFile). f.name) listed = first.names_are ∙ ap (λ (l : List ListedFile). map (λ (f : ListedFile). f.name) l) whole in
    let many : length first.files ≡ length listed = sym (length-map first.files (λ (f : Bytes × Bytes). f.0)) ∙ ap (λ (l : List Bytes). length l) names ∙ length-map listed (λ (f : ListedFile). f.name) in
    subst (λ (o : Option (List ListedFile)). Surveyed told o reads) (sym now_is) (record {
      files = first.files;
      reads_are = first.reads_are;
      tells = tells_all told listed n first.files is all first.tells;
      short = first.short;
      few = let few : length listed < 2 ^ 32 = listing.few in omega arith;
      many = sym many;
      rising = rising_by None first.files listed names ∙ listing.rising;
    })
