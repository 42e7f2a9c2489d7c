use Rattle.esr_formats.specs.Globals.{global_of_code, global_kind}
use Rattle.esr_model.specs.Names.{Meta}
use Rattle.esr_plain.proofs.Blobs.{global_is, reading_exact, reading_none}
use Rattle.esr_plain.proofs.reading.global_at.Goals as goal

pub returns-in-Some : goal.returns-in-Some
returns-in-Some c =
    reading_exact global_kind (λ f. f.global) global_of_code c.args.image.now (Meta c.args.uuid.number) c.in_ok-bytes.field-0 c.in-Some.bytes c.as_slice.result.now
    c.read_global.result c.undamaged.result global_is c.in_ok-bytes.ensures c.in-Some.is c.as_slice.ensures c.read_global.ensures.read c.undamaged.ensures

pub returns-in-None : goal.returns-in-None
returns-in-None c = reading_none (λ f. f.global) c.args.image.now (Meta c.args.uuid.number) c.in_ok-bytes.field-0 c.in_ok-bytes.ensures c.in-None.is
