use Rattle.esr_formats.specs.Shards.{entry_of}
use Rattle.esr_model.specs.Parts.{part_names}
use Rattle.esr_plain.specs.Reach.{OfFile}
use Rattle.esr_plain.proofs.Reaching.{some_more}
use Rattle.esr_plain.proofs.reached.file_names.Goals as goal

pub loop-entry-preserved : goal.loop-entry-preserved
loop-entry-preserved c =
    let i = c.args.shard.index.number in
    let s = c.args.shard.number in
    some_more (OfFile i s) entry_of c.files-entry-items.result.now c.loop-entry.entry-index c.entry-item.result c.loop-entry.names c.push_parts.new.names (part_names i s (entry_of c.entry-item.result)) c.loop-entry-test.true c.entry-item.is
    c.in_ok-push_parts.ensures c.loop-entry.invariant (λ name. (λ has. has, λ has. has))
