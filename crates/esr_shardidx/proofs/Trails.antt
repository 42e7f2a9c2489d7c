-- Names of files that are known.
use Rattle.std.proofs.Common.{◌≡◌, ◌<◌, ◌^◌, ℕ, true, List, Some, sym, ap, ◌∙◌}
use Rattle.std.specs.Str.{bytes_eq}
use Rattle.std.proofs.lemmas.Slice.Eq.{bytes_eq-Decides}
use Rattle.esr_names.specs.declared.ids.Id.{Id}
use Rattle.esr_shardidx.specs.Entries.{file_text, read_file}
use Rattle.esr_shardidx.specs.RoundTrip.{read_file-file_text}

-- a name that is that of a file is read as its id
pub name_read : (u : Id) (own name : List ℕ) → u.number < 2 ^ 128 → own ≡ file_text u → bytes_eq own name ≡ true → read_file name ≡ Some u
name_read u own name fits told same =
    let is : own ≡ name = (bytes_eq-Decides own name).0 same in
    ap read_file (sym is ∙ told) ∙ read_file-file_text u fits
