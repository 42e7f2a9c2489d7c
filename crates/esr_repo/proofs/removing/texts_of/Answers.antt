use Rattle.std.proofs.Common.{rules, slice_index_or}
use Rattle.esr_names.specs.declared.blob.BlobName.TheVariants.{Root}
use Rattle.esr_repo.proofs.Removals.{has_at, more_read}
use Rattle.esr_repo.proofs.removing.texts_of.Goals as goal

pub write_name-requires : goal.write_name-requires
write_name-requires c = c.requires (slice_index_or c.args.names.now c.loop-name.name-index (Root 0)) (has_at c.args.names.now c.loop-name.name-index (Root 0) (search rules))

pub loop-name-preserved : goal.loop-name-preserved
loop-name-preserved c =
    more_read c.args.names.now c.loop-name.name-index (Root 0) c.loop-name.texts c.push.new.self c.in_ok-write_name.field-0 (search rules) c.loop-name.invariant c.in_ok-push.ensures.ok c.in_ok-write_name.ensures.text c.write_name.ensures.reads
