use Rattle.esr_formats.specs.Roots.{root_of, root_snap_of}
use Rattle.esr_formats.specs.Infos.{info_of_code}
use Rattle.esr_formats.specs.Formats.{formats}
use Rattle.esr_model.specs.Names.{Snap}
use Rattle.esr_model.specs.Image.{At}
use Rattle.esr_plain.proofs.Loops.{so, not_so}
use Rattle.esr_plain.proofs.Blobs.{at_one, was_read, was_unread}
use Rattle.esr_plain.proofs.Infos.{info_agrees, info_unread, info_disagrees}
use Rattle.esr_plain.proofs.info.snap_info.Goals as goal

pub returns-in_default : goal.returns-in_default
returns-in_default c = λ known told.
    let f = formats known told in
    let image = c.args.image.now in
    let snap = root_snap_of c.args.snap.now in
    info_unread f (At f image) (root_of c.args.root.now) snap (was_unread (λ f. f.info) info_of_code image (Snap snap.uuid) c.in_ok-info.field-0 c.in_ok-info.ensures c.in_default.is known told)

pub returns-then-branch : goal.returns-then-branch
returns-then-branch c = λ known told.
    let f = formats known told in
    let image = c.args.image.now in
    let snap = root_snap_of c.args.snap.now in
    let reads = was_read (λ f. f.info) info_of_code image (Snap snap.uuid) c.in_ok-info.field-0 c.in-Some.info c.in_ok-info.ensures c.in-Some.is known told in
    info_agrees f (At f image) (root_of c.args.root.now) snap (info_of_code c.in-Some.info) reads (so c.in_ok-agrees.field-0 (c.in_ok-agrees.ensures known told) c.if-branch.true)

pub returns-else-branch : goal.returns-else-branch
returns-else-branch c = λ known told.
    let f = formats known told in
    let image = c.args.image.now in
    let snap = root_snap_of c.args.snap.now in
    let reads = was_read (λ f. f.info) info_of_code image (Snap snap.uuid) c.in_ok-info.field-0 c.in-Some.info c.in_ok-info.ensures c.in-Some.is known told in
    info_disagrees f (At f image) (root_of c.args.root.now) snap (at_one f image) (info_of_code c.in-Some.info) reads (not_so c.in_ok-agrees.field-0 (c.in_ok-agrees.ensures known told) c.if-branch.false)
