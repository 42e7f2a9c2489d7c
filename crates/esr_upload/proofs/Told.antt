-- A file that was read to its end.
use Rattle.std.proofs.Common.{◌≡◌, ◌≢◌, ◌⊎◌, inl, inr, ℕ, zero, suc, ◌+◌, ◌<◌, Bool, true, false, not, ◌&&◌, eqb, bytes_eq, List, [], ◌∷◌, ◌++◌, length, Option, Some, None, option_map, IfSome, slice_get, refl, sym, ap, ◌∙◌, subst, arith, append-nil, length-append}
use Rattle.std.specs.Io.KnownBytes.{Consumes, IsAtEnd}
use Rattle.std.proofs.lemmas.Bool.{eq-eqb, eqb-true, and_from, and_parts}
use Rattle.std.proofs.lemmas.List.{nil_from_length}
use Rattle.std.proofs.lemmas.Slice.Eq.{bytes_eq-Decides}
use Rattle.esr_names.specs.declared.blob.ShardId.{ShardId}
use Rattle.esr_model.specs.Values.{Bytes}
use Rattle.esr_core.specs.World.{Ticket}
use Rattle.esr_hash.specs.declared.hasher.Hasher.{Hasher}
use Rattle.esr_hash.specs.declared.print.Print.{Print}
use Rattle.esr_hash.specs.Fed.{HasFed}
use Rattle.esr_hash.specs.Prints.{print_of}
use Rattle.esr_source.specs.Files.{bytes_at}
use Rattle.esr_parts.specs.Reads.{Tells}
use Rattle.esr_shardidx.specs.declared.entry.FileEntry.{FileEntry as CodeEntry}
use Rattle.esr_core.specs.Entry.{Moment}
use Rattle.esr_desk.specs.Start.{Start}
use Rattle.esr_desk.specs.Told.{TellsAll}
use Rattle.esr_upload.specs.Stored.{HasPrint, Stored}
use Rattle.esr_upload.specs.Pieces.{PutParts, PartsTold}

-- all that is told was read
read_all : (told left : Option Bytes) (bytes : Bytes) (e : CodeEntry) → HasPrint told e → Consumes told left bytes → IsAtEnd left ⊎ (length bytes ≡ e.print.len) → Tells told bytes
read_all None left bytes e print took ends = tt
read_all (Some b) None bytes e print took ends = absurd took
read_all (Some b) (Some rest) bytes e print took (inl ended) = took ∙ ap (λ (l : Bytes). bytes ++ l) ended ∙ append-nil bytes
read_all (Some b) (Some rest) bytes e print took (inr whole) =
    let size : length b ≡ e.print.len = ap (λ (p : Print). p.len) print in
    let sum : length b ≡ length bytes + length rest = ap (λ (l : Bytes). length l) took ∙ length-append bytes rest in
    let none : rest ≡ [] = nil_from_length rest (omega (arith, size, sum, whole)) in
    took ∙ ap (λ (l : Bytes). bytes ++ l) none ∙ append-nil bytes

module _ (s : Start) (told left_old left : Option Bytes) (hasher : Hasher) (at : ShardId) (e : CodeEntry) (old new : Ticket) (second : Print) where
  read_told : left_old ≡ told → HasPrint told e → (put : PutParts s left_old left hasher at e old new) → Tells told put.bytes
  read_told began print put = read_all told left put.bytes e print (subst (λ (o : Option Bytes). Consumes o left put.bytes) began put.took) put.ends

  pub stored_all : left_old ≡ told → HasPrint told e → PutParts s left_old left hasher at e old new → ((m : List ℕ) → HasFed hasher m → second ≡ print_of m) → e.print ≡ second → Stored s told at.index.number at.number e old new
  stored_all began print put hashed same =
      let own : print_of put.bytes ≡ e.print = sym (hashed put.bytes put.fed) ∙ sym same in
      record {
        bytes = put.bytes;
        tells = read_told began print put;
        print = own;
        is = put.is (ap (λ (p : Print). p.len) own);
      }

-- the ticket tells each step on a file that had the print of its entry
pub all_told : (s : Start) (log : List Moment) (who : ℕ) (hasher : Hasher) (e : CodeEntry) (second : Print) → PartsTold s log who hasher e.print.len → ((m : List ℕ) → HasFed hasher m → second ≡ print_of m) → e.print ≡ second
    → TellsAll s log who
all_told s log who hasher e second parts hashed same =
    let own : print_of parts.bytes ≡ e.print = sym (hashed parts.bytes parts.fed) ∙ sym same in
    parts.tells (ap (λ (p : Print). p.len) own)

-- a told file has the print of its entry when it is read again
told_print : (told : Option Bytes) (bytes : Bytes) (e : CodeEntry) (second : Print) → HasPrint told e → Tells told bytes → second ≡ print_of bytes → IfSome told (λ b. e.print ≡ second)
told_print None bytes e second print tells hashed = tt
told_print (Some b) bytes e second print tells hashed = sym print ∙ ap print_of tells ∙ sym hashed

-- the bytes of a file within the list are told
at_place : (fs : List (Bytes × Bytes)) (i : ℕ) (P : Type 0) → i < length fs → IfSome (option_map (λ (f : Bytes × Bytes). f.1) (slice_get fs i)) (λ b. P) → P
at_place [] i P within h = absurd (omega (arith, within))
at_place (f ∷ fs) zero P within h = h
at_place (f ∷ fs) (suc i) P within h = at_place fs i P (omega (arith, within)) h

untold : (files : Option (List (Bytes × Bytes))) (file : ℕ) (first second : Print) → IfSome files (λ fs. file < length fs) → IfSome (bytes_at files file) (λ b. first ≡ second) → first ≢ second → files ≡ None
untold None file first second within same differ = refl
untold (Some fs) file first second within same differ = absurd (differ (at_place fs file (first ≡ second) within same))

pub changed_untold : (s : Start) (files : Option (List (Bytes × Bytes))) (file : ℕ) (left_old left : Option Bytes) (hasher : Hasher) (at : ShardId) (e : CodeEntry) (old new : Ticket) (second : Print)
    → IfSome files (λ fs. file < length fs) → left_old ≡ bytes_at files file → HasPrint (bytes_at files file) e → PutParts s left_old left hasher at e old new
    → ((m : List ℕ) → HasFed hasher m → second ≡ print_of m) → e.print ≢ second → (e.print ≢ second) × (files ≡ None)
changed_untold s files file left_old left hasher at e old new second within began print put hashed differ = (
  differ,
  untold files file e.print second within
      (told_print (bytes_at files file) put.bytes e second print (read_told s (bytes_at files file) left_old left hasher at e old new second began print put) (hashed put.bytes put.fed)) differ,
)

-- ---- whether prints are equal

abbrev same : Print → Print → Bool
same a b = eqb a.len b.len && bytes_eq a.sha256 b.sha256

of_not : (b : Bool) → not b ≡ false → b ≡ true
of_not true h = refl
of_not false h = absurd cc

not_true : (b : Bool) → not b ≡ true → b ≡ true → ⊥
not_true true h is = cc
not_true false h is = cc

pub prints_same : (a b : Print) (differ : Bool) → differ ≡ not (same a b) → differ ≡ false → a ≡ b
prints_same a b differ is equal =
    let parts = and_parts (eqb a.len b.len) (bytes_eq a.sha256 b.sha256) (of_not (same a b) (sym is ∙ equal)) in
    let made : ℕ → List ℕ → Print = λ len sha256. record { len = len; sha256 = sha256 } in
    ap (λ (len : ℕ). made len a.sha256) (eqb-true a.len b.len parts.0) ∙ ap (λ (digest : List ℕ). made b.len digest) ((bytes_eq-Decides a.sha256 b.sha256).0 parts.1)

pub prints_differ : (a b : Print) (differ : Bool) → differ ≡ not (same a b) → differ ≡ true → a ≢ b
prints_differ a b differ is other = λ equal.
    not_true (same a b) (sym is ∙ other)
    (and_from (eqb a.len b.len) (bytes_eq a.sha256 b.sha256) (eq-eqb a.len b.len (ap (λ (p : Print). p.len) equal)) ((bytes_eq-Decides a.sha256 b.sha256).1 (ap (λ (p : Print). p.sha256) equal)))
