use Rattle.std.proofs.Common.{◌≡◌, map, subst}
use Rattle.esr_formats.specs.Names.{name_of}
use Rattle.esr_model.specs.Names.{BlobName}
use Rattle.esr_model.specs.Values.{Has}
use Rattle.esr_plain.proofs.Loops.{holds, so, not_so, has_read, every_read}
use Rattle.esr_plain.proofs.reached.has_name.Goals as goal

pub returns-then-is_same : goal.returns-then-is_same
returns-then-is_same c =
    holds (subst (λ (n : BlobName). Has (map name_of c.args.names.now) n) (so c.is_same.result c.is_same.ensures c.if-is_same.true) (has_read name_of c.args.names.now c.loop-old.old-index _ c.loop-old-test.true))

pub loop-old-preserved : goal.loop-old-preserved
loop-old-preserved c =
    every_read (λ (n : BlobName). n ≡ name_of c.args.name.now → ⊥) name_of c.args.names.now c.loop-old.old-index _ c.loop-old-test.true c.loop-old.invariant (not_so c.is_same.result c.is_same.ensures c.if-is_same.false)
