use Rattle.esr_formats.specs.IndexMetas.{index_meta_of}
use Rattle.esr_formats.specs.Refs.{ref_of_code}
use Rattle.esr_formats.specs.Formats.{formats}
use Rattle.esr_model.specs.Names.{IndexMeta}
use Rattle.esr_model.specs.Image.{At}
use Rattle.esr_plain.proofs.Loops.{fails}
use Rattle.esr_plain.proofs.Blobs.{at_one, was_read, was_unread, value_exact}
use Rattle.esr_plain.proofs.info.has_meta.Goals as goal

pub returns-in-Some : goal.returns-in-Some
returns-in-Some c = λ known told.
    let f = formats known told in
    let image = c.args.image.now in
    let name = IndexMeta c.args.index.now.id.number c.args.uuid.number in
    let reads = was_read (λ f. f.index_meta) index_meta_of image name c.in_ok-meta.field-0 c.in-Some.meta c.in_ok-meta.ensures c.in-Some.is known told in
    value_exact (At f image) (at_one f image) name f.index_meta (index_meta_of c.in-Some.meta) (record { index = ref_of_code c.args.index.now; uuid = c.args.uuid.number }) c.is_meta_of.result reads c.is_meta_of.ensures

pub returns-in-None : goal.returns-in-None
returns-in-None c = λ known told.
    fails (was_unread (λ f. f.index_meta) index_meta_of c.args.image.now (IndexMeta c.args.index.now.id.number c.args.uuid.number) c.in_ok-meta.field-0 c.in_ok-meta.ensures c.in-None.is known told
    (record { index = ref_of_code c.args.index.now; uuid = c.args.uuid.number }))
