use Rattle.esr_formats.specs.Infos.{info_of_code}
use Rattle.esr_formats.specs.Globals.{global_of_code}
use Rattle.esr_formats.specs.Formats.{formats}
use Rattle.esr_model.specs.Names.{Meta}
use Rattle.esr_model.specs.Image.{At, global_of}
use Rattle.esr_plain.proofs.Loops.{fails}
use Rattle.esr_plain.proofs.Blobs.{at_one, was_read, was_unread, value_exact}
use Rattle.esr_plain.proofs.info.has_global.Goals as goal

pub returns-in-Some : goal.returns-in-Some
returns-in-Some c = λ known told.
    let f = formats known told in
    let image = c.args.image.now in
    let name = Meta c.args.uuid.number in
    let reads = was_read (λ f. f.global) global_of_code image name c.in_ok-meta.field-0 c.in-Some.meta c.in_ok-meta.ensures c.in-Some.is known told in
    value_exact (At f image) (at_one f image) name f.global (global_of_code c.in-Some.meta) (global_of (info_of_code c.args.info.now)) c.is_global_of.result reads c.is_global_of.ensures

pub returns-in-None : goal.returns-in-None
returns-in-None c = λ known told.
    fails (was_unread (λ f. f.global) global_of_code c.args.image.now (Meta c.args.uuid.number) c.in_ok-meta.field-0 c.in_ok-meta.ensures c.in-None.is known told (global_of (info_of_code c.args.info.now)))
