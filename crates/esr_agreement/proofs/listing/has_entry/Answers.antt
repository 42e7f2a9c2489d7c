use Rattle.std.proofs.Common.{◌≡◌, map, subst}
use Rattle.esr_model.specs.Loops.{has_at, every_more}
use Rattle.esr_formats.specs.Shards.{entry_of}
use Rattle.esr_model.specs.Values.{Has, FileEntry}
use Rattle.esr_agreement.specs.AgreementTests.{so, not_so}
use Rattle.esr_agreement.proofs.Loops.{holds}
use Rattle.esr_agreement.proofs.listing.has_entry.Goals as goal

pub returns-then-is_same : goal.returns-then-is_same
returns-then-is_same c =
    holds (subst (λ (e : FileEntry). Has (map entry_of c.args.entries.now) e) (so c.is_same.result c.is_same.ensures c.if-is_same.true)
    (has_at entry_of c.args.entries.now c.loop-old.old-index c.old-item.result c.loop-old-test.true c.old-item.is))

pub loop-old-preserved : goal.loop-old-preserved
loop-old-preserved c =
    every_more (λ (e : FileEntry). e ≡ entry_of c.args.entry.now → ⊥) entry_of c.args.entries.now c.loop-old.old-index c.old-item.result c.loop-old-test.true c.old-item.is c.loop-old.invariant
    (not_so c.is_same.result c.is_same.ensures c.if-is_same.false)
