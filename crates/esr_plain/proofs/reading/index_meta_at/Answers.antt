use Rattle.esr_formats.specs.IndexMetas.{index_meta_of, index_meta_kind}
use Rattle.esr_model.specs.Names.{IndexMeta}
use Rattle.esr_plain.proofs.Blobs.{index_meta_is, reading_exact, reading_none}
use Rattle.esr_plain.proofs.reading.index_meta_at.Goals as goal

pub returns-in-Some : goal.returns-in-Some
returns-in-Some c =
    reading_exact index_meta_kind (λ f. f.index_meta) index_meta_of c.args.image.now (IndexMeta c.args.index.number c.args.uuid.number) c.in_ok-bytes.field-0 c.in-Some.bytes
    c.as_slice.result.now c.read_index_meta.result c.undamaged.result index_meta_is c.in_ok-bytes.ensures c.in-Some.is c.as_slice.ensures c.read_index_meta.ensures.read c.undamaged.ensures

pub returns-in-None : goal.returns-in-None
returns-in-None c = reading_none (λ f. f.index_meta) c.args.image.now (IndexMeta c.args.index.number c.args.uuid.number) c.in_ok-bytes.field-0 c.in_ok-bytes.ensures c.in-None.is
