use Rattle.esr_json.specs.PlainTexts.{parsed-compact_text}
use Rattle.esr_json.proofs.writing.texts_read_back.Goals as goal

pub returns : goal.returns
returns c = parsed-compact_text
