-- The bytes of stored files.
use Rattle.std.proofs.Common.{◌≡◌, ℕ, Bool, true, false, not, length, refl, sym, ◌∙◌}
use Rattle.std.specs.Str.{bytes_eq}
use Rattle.std.proofs.lemmas.Bool.{true≢false, not-false}
use Rattle.std.proofs.lemmas.Slice.Eq.{bytes_eq-Decides}
use Rattle.esr_hash.specs.Prints.{print_of}
use Rattle.esr_formats.specs.Formats.{formats}
use Rattle.esr_model.specs.Names.{BlobName}
use Rattle.esr_model.specs.Values.{Bytes, FileEntry, Formats}
use Rattle.esr_model.specs.Image.{FileStands}
use Rattle.esr_plain.specs.Exactly.{Always}
use Rattle.esr_plain.specs.Joined.{IsJoined}

pub digest_is : Always (λ f. (bytes : Bytes) → f.digest bytes ≡ (print_of bytes).sha256)
unfolding formats
digest_is known told bytes = refl

differ_not : (b : Bool) → b ≡ true → not b ≡ true → ⊥
differ_not true e h = true≢false (sym h)
differ_not false e h = true≢false (sym e)

pub bytes_differ : (a b : Bytes) (r : Bool) → r ≡ not (bytes_eq a b) → r ≡ true → a ≡ b → ⊥
bytes_differ a b r is yes_is same = differ_not (bytes_eq a b) ((bytes_eq-Decides a b).1 same) (sym is ∙ yes_is)

pub bytes_same : (a b : Bytes) (r : Bool) → r ≡ not (bytes_eq a b) → r ≡ false → a ≡ b
bytes_same a b r is no_is = (bytes_eq-Decides a b).0 (not-false (bytes_eq a b) (sym is ∙ no_is))

pub joined_of : (f : Formats) (has : BlobName → Bytes → Type 0) (index shard : ℕ) (e : FileEntry) (bytes : Bytes) → FileStands f has index shard e bytes → IsJoined has index shard e bytes
joined_of f has index shard e bytes s = record { parts = s.parts; there = s.there; full = s.full; joined = s.joined }

pub file_of : (f : Formats) (has : BlobName → Bytes → Type 0) (index shard : ℕ) (e : FileEntry) (bytes : Bytes) → IsJoined has index shard e bytes → length bytes ≡ e.len → f.digest bytes ≡ e.digest
    → FileStands f has index shard e bytes
file_of f has index shard e bytes j len digest = record { parts = j.parts; there = j.there; full = j.full; joined = j.joined; len = len; digest = digest }
