-- What is told of files in memory.
use Rattle.std.proofs.Common.{◌≡◌, List, map, Option, Some, None, option_map, IfSome, sym, ◌∙◌}
use Rattle.std.proofs.lemmas.Simd.{map-map}
use Rattle.esr_source.specs.declared.files.ListedFile.{ListedFile}
use Rattle.esr_source.specs.declared.files.MemFile.{MemFile}
use Rattle.esr_source.specs.Files.{listed_of, told_file}
use Rattle.esr_source.specs.MemSources.{listing, told_files}

-- what is listed of files is what is listed of them as they are told
pub told_by : (files : Option (List MemFile)) (listed : List ListedFile) → Some listed ≡ option_map listing files → IfSome (told_files files) (λ told. listed ≡ map listed_of told)
told_by None listed is = tt
told_by (Some fs) listed is =
    let same : listed ≡ listing fs = cc in
    same ∙ sym (map-map listed_of told_file fs)
