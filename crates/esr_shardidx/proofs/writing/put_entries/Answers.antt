use Rattle.std.proofs.Common.{◌<◌, ◌≤◌, length, subst, arith}
use Rattle.esr_shardidx.specs.declared.entry.FileEntry.{FileEntry}
use Rattle.esr_shardidx.specs.Entries.{entry_data}
use Rattle.esr_shardidx.specs.Written.{tokens_of, Adds}
use Rattle.esr_shardidx.proofs.Pieces.{one_added, item_added, items_added}
use Rattle.esr_shardidx.proofs.writing.put_entries.Goals as goal

pub loop-entry-preserved : goal.loop-entry-preserved
loop-entry-preserved c =
    let within : c.loop-entry.entry-index < length c.args.entries.now = omega arith in
    let put = subst (λ (x : FileEntry). Adds c.loop-entry.out c.put_entry.new.out (tokens_of (entry_data x))) c.entry-item.is c.in_ok-put_entry.ensures in
    item_added entry_data c.args.entries.now c.loop-entry.entry-index _ c.args.out.now c.loop-entry.out c.put_entry.new.out within c.loop-entry.invariant put

pub returns : goal.returns
returns c =
    let past : length c.args.entries.now ≤ c.loop-entry.entry-index = omega arith in
    let last = one_added _ _ _ c.in_ok-end_array.ensures.room.0 c.in_ok-end_array.ensures.ok in
    items_added entry_data c.args.entries.now c.loop-entry.entry-index c.args.out.now c.loop-entry.out c.end_array.new.self past c.loop-entry.invariant last
