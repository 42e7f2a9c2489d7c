use Rattle.std.proofs.Common.{◌≡◌, ◌∙◌, ap, Some, None, true, List}
use Rattle.std.specs.FinMap.{empty}
use Rattle.esr_memdepot.specs.Past.{image_left, image_now, held, last_text, left_blob, left_text, all_dated}
use Rattle.esr_memdepot.specs.declared.blob.KeptBlob.{KeptBlob}
use Rattle.esr_memdepot.specs.declared.text.KeptText.{KeptText}
use Rattle.esr_memdepot.specs.declared.plan.Leaves.TheVariants.{Old}
use Rattle.esr_memdepot.proofs.Dates.{image_as_now}
use Rattle.esr_memdepot.proofs.Passing.{left_then}
use Rattle.esr_memdepot.proofs.depot.MemDepot.cut.Goals as goal

pub returns-clause-image : goal.returns-clause-image
returns-clause-image c =
    let d = c.args.self.now in
    let t = c.args.moment in
    let how = c.args.leaves in
    let blobs = c.in_ok-blobs.ensures.held ∙ ap (λ (l : List KeptBlob). held (left_blob t how) l empty) c.deref.ensures.value in
    let texts = c.in_ok-texts.ensures.last ∙ ap (λ (l : List KeptText). last_text (left_text t how) l None) c.deref-2.ensures.value in
    let same : image_now c.in_ok-blobs.blobs.items c.in_ok-texts.texts.items ≡ image_left t how d.blobs.items d.texts.items = λ i. record { blobs = blobs i; text = texts i } in
    let dated : all_dated 0 c.in_ok-blobs.blobs.items c.in_ok-texts.texts.items ≡ true = rw c.in_ok-blobs.ensures.dated c.in_ok-texts.ensures.dated in
    rw c.new-2.ensures (ap Some (image_as_now 0 c.in_ok-blobs.blobs.items c.in_ok-texts.texts.items Old dated ∙ same))

pub returns-clause-left : goal.returns-clause-left
returns-clause-left c i is =
    let d = c.args.self.now in
    let image = returns-clause-image c in
    let e : i ≡ image_left c.args.moment c.args.leaves d.blobs.items d.texts.items = cc in
    left_then d.meter.clock c.args.moment d.blobs.items d.texts.items c.args.leaves i d.dated e
