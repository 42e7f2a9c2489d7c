use Rattle.std.proofs.Common.{refl}
use Rattle.std.proofs.lemmas.Str.{is_utf8-from_IsUtf8}
use Rattle.esr_json.proofs.writing.write.Goals as goal

pub returns-clause-reads : goal.returns-clause-reads
returns-clause-reads c = rw (is_utf8-from_IsUtf8 _ c.in_ok-bytes.ensures.utf8, c.in_ok-bytes.ensures.reads_back c.requires.1) refl
