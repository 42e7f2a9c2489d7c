use Rattle.std.proofs.Common.{◌≡◌, true, List, Option, Some, None, is_some, refl}
use Rattle.std.specs.Prelude.{◌||◌}
use Rattle.esr_source.specs.declared.files.MemFile.{MemFile}
use Rattle.esr_source.specs.MemSources.{told_files, files_at}
use Rattle.esr_source.specs.Address.{address}
use Rattle.esr_run.specs.Start.{is_absent}
use Rattle.esr_run.proofs.memory.sources_in_memory_tell_all.Goals as goal

told : (o : Option (List MemFile)) → (is_some (told_files o) || is_absent (Some (is_some o))) ≡ true
told None = refl
told (Some files) = refl

pub returns : goal.returns
returns c = λ place name number. told (files_at (address place name number) c.args.sources.now.sources)
