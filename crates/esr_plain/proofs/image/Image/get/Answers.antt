use Rattle.std.proofs.Common.{Some, sym, ap, ◌∙◌}
use Rattle.std.specs.FinMap as fin
use Rattle.std.specs.Str.{bytes_eq}
use Rattle.esr_plain.proofs.Held.{found_here, not_here, nowhere}
use Rattle.esr_plain.proofs.image.Image.get.Goals as goal

pub returns-then-eq : goal.returns-then-eq
returns-then-eq c =
    let same = sym (ap (bytes_eq c.args.name.now) c.as_slice.ensures) ∙ sym c.eq.ensures ∙ c.if-eq.true in
    ap Some c.as_slice-then-eq.ensures
    ∙ found_here c.deref-blob-items.result.now c.loop-blob.blob-index c.blob-item.result c.args.name.now (fin.get c.args.self.now c.args.name.now) c.loop-blob-test.true c.blob-item.is same c.loop-blob.invariant

pub loop-blob-preserved : goal.loop-blob-preserved
loop-blob-preserved c =
    let other = sym (ap (bytes_eq c.args.name.now) c.as_slice.ensures) ∙ sym c.eq.ensures ∙ c.if-eq.false in
    not_here c.deref-blob-items.result.now c.loop-blob.blob-index c.blob-item.result c.args.name.now (fin.get c.args.self.now c.args.name.now) c.loop-blob-test.true c.blob-item.is other c.loop-blob.invariant

pub returns : goal.returns
returns c = nowhere c.deref-blob-items.result.now c.loop-blob.blob-index c.args.name.now (fin.get c.args.self.now c.args.name.now) c.loop-blob-test.false c.loop-blob.invariant
