use Rattle.std.proofs.Common.{◌≡◌, ◌∙◌, append-nil}
use Rattle.esr_names.specs.IdText.{id_text}
use Rattle.esr_shardidx.specs.RoundTrip.{IsUtf8-file_text}
use Rattle.esr_shardidx.proofs.writing.file_name.Goals as goal

pub returns-clause-utf8 : goal.returns-clause-utf8
returns-clause-utf8 c =
    let id : c.copy_from_slice.new.self ≡ id_text c.args.file.number = c.copy_from_slice.ensures.after ∙ c.id_text.ensures.text in
    rw (id, append-nil) (IsUtf8-file_text c.args.file)
