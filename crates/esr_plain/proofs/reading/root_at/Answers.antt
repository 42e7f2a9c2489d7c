use Rattle.esr_formats.specs.Roots.{root_of, root_kind}
use Rattle.esr_model.specs.Names.{Root}
use Rattle.esr_plain.proofs.Blobs.{root_is, reading_exact, reading_none}
use Rattle.esr_plain.proofs.reading.root_at.Goals as goal

pub returns-in-Some : goal.returns-in-Some
returns-in-Some c =
    reading_exact root_kind (λ f. f.root) root_of c.args.image.now (Root c.args.n) c.in_ok-bytes.field-0 c.in-Some.bytes c.as_slice.result.now
    c.read_root.result c.undamaged.result root_is c.in_ok-bytes.ensures c.in-Some.is c.as_slice.ensures c.read_root.ensures.read c.undamaged.ensures

pub returns-in-None : goal.returns-in-None
returns-in-None c = reading_none (λ f. f.root) c.args.image.now (Root c.args.n) c.in_ok-bytes.field-0 c.in_ok-bytes.ensures c.in-None.is
