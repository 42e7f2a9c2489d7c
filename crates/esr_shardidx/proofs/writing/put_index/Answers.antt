use Rattle.std.proofs.Common.{List, map, subst}
use Rattle.serde_json.specs.Data.{array}
use Rattle.serde_json.specs.View.{items_of}
use Rattle.esr_shardidx.specs.declared.entry.FileEntry.{FileEntry}
use Rattle.esr_shardidx.specs.declared.index.SnapList.{SnapList}
use Rattle.esr_shardidx.specs.Entries.{entry_data}
use Rattle.esr_shardidx.specs.Indices.{list_data, shard_index_data}
use Rattle.esr_shardidx.specs.Written.{tokens_of, Adds}
use Rattle.esr_shardidx.proofs.Pieces.{one_added, adds_then}
use Rattle.esr_shardidx.proofs.writing.put_index.Goals as goal

pub returns-clause-put : goal.returns-clause-put
unfolding shard_index_data
returns-clause-put c =
    let begin = one_added c.args.out.now c.begin_object.new.self _ c.in_ok-begin_object.ensures.room.0 c.in_ok-begin_object.ensures.ok in
    let first = one_added c.begin_object.new.self c.key.new.self _ c.in_ok-key.ensures.room.0 c.in_ok-key.ensures.ok in
    let second = one_added c.put_entries.new.out c.key-2.new.self _ c.in_ok-key-2.ensures.room.0 c.in_ok-key-2.ensures.ok in
    let end = one_added _ _ _ c.in_ok-end_object.ensures.room.0 c.in_ok-end_object.ensures.ok in
    let files = subst (λ (es : List FileEntry). Adds c.key.new.self c.put_entries.new.out (tokens_of (array (items_of (map entry_data es))))) c.files-files.ensures.files c.in_ok-put_entries.ensures in
    let lists = subst (λ (ls : List SnapList). Adds c.key-2.new.self c.put_lists.new.out (tokens_of (array (items_of (map list_data ls))))) c.snapshots.ensures c.in_ok-put_lists.ensures in
    adds_then _ _ _ _ _ begin (adds_then _ _ _ _ _ first (adds_then _ _ _ _ _ files (adds_then _ _ _ _ _ second (adds_then _ _ _ _ _ lists end))))
