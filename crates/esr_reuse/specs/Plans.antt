-- What is planned for files.
use Rattle.std.specs.Prelude.{◌≡◌, ℕ, ◌+◌, List, [], ◌∷◌, map, Option, Some, None, option_map}
use Rattle.std.specs.List.{AllByRecursion}
use Rattle.esr_hash.specs.declared.print.Print.{Print}
use Rattle.esr_shardidx.specs.declared.entry.FileEntry.{FileEntry as CodeEntry}
use Rattle.esr_model.specs.Values.{Bytes, FileEntry}
use Rattle.esr_model.specs.Uploads.{reused}
use Rattle.esr_formats.specs.Shards.{entry_of}
use Rattle.esr_reuse.specs.declared.reuse.ReadFile.{ReadFile}
use Rattle.esr_reuse.specs.declared.reuse.Planned.{Planned}

-- the name and the print of a file that was read
abbrev pub file_read : ReadFile → Bytes × Print
file_read f = (f.physical, f.print)

-- the name and the print for which something is planned
abbrev pub file_planned : Planned → Bytes × Print
file_planned p = (p.physical, p.print)

-- it reuses the first entry of the base that fits, if one does
abbrev pub Reuses : List FileEntry → Planned → Type 0
Reuses base p = option_map entry_of p.reused ≡ reused base p.physical p.print.len p.print.sha256

-- each file has its plan, in order
pub record IsPlan (base : List FileEntry) (files : List ReadFile) (plans : List Planned) : Type 0 where
  pub named : map file_planned plans ≡ map file_read files
  pub each : AllByRecursion (Reuses base) plans
