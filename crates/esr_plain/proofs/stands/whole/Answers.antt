use Rattle.std.proofs.lemmas.Result.{IfOk-weaker}
use Rattle.esr_formats.specs.Roots.{root_of}
use Rattle.esr_formats.specs.Formats.{formats}
use Rattle.esr_model.specs.Names.{Root}
use Rattle.esr_model.specs.Image.{At, RootStands, Stands}
use Rattle.esr_plain.specs.Exactly.{Always, IsExactly}
use Rattle.esr_plain.proofs.Blobs.{at_one, was_read, was_unread}
use Rattle.esr_plain.proofs.Standing.{whole_by}
use Rattle.esr_plain.proofs.stands.whole.Goals as goal

pub returns-in-Some : goal.returns-in-Some
returns-in-Some c =
    IfOk-weaker c.root_shelf.result (λ o. Always (λ f. IsExactly (RootStands f (At f c.args.image.now) (root_of c.in-Some.root)) o)) (λ o. Always (λ f. IsExactly (Stands f (At f c.args.image.now) c.args.n) o))
    (λ o exact known told.
    let f = formats known told in
    let reads = was_read (λ f. f.root) root_of c.args.image.now (Root c.args.n) c.in_ok-root.field-0 c.in-Some.root c.in_ok-root.ensures c.in-Some.is known told in
    whole_by f (At f c.args.image.now) (at_one f c.args.image.now) c.args.n (root_of c.in-Some.root) reads o (exact known told))
    c.root_shelf.ensures

pub returns-in-None : goal.returns-in-None
returns-in-None c = λ known told shelf stands. was_unread (λ f. f.root) root_of c.args.image.now (Root c.args.n) c.in_ok-root.field-0 c.in_ok-root.ensures c.in-None.is known told stands.root stands.root_reads
