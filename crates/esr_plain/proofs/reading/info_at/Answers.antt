use Rattle.esr_formats.specs.Infos.{info_of_code, info_kind}
use Rattle.esr_model.specs.Names.{Snap}
use Rattle.esr_plain.proofs.Blobs.{info_is, reading_exact, reading_none}
use Rattle.esr_plain.proofs.reading.info_at.Goals as goal

pub returns-in-Some : goal.returns-in-Some
returns-in-Some c =
    reading_exact info_kind (λ f. f.info) info_of_code c.args.image.now (Snap c.args.uuid.number) c.in_ok-bytes.field-0 c.in-Some.bytes c.as_slice.result.now
    c.read_info.result c.undamaged.result info_is c.in_ok-bytes.ensures c.in-Some.is c.as_slice.ensures c.read_info.ensures.read c.undamaged.ensures

pub returns-in-None : goal.returns-in-None
returns-in-None c = reading_none (λ f. f.info) c.args.image.now (Snap c.args.uuid.number) c.in_ok-bytes.field-0 c.in_ok-bytes.ensures c.in-None.is
