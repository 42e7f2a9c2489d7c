use Rattle.std.proofs.Common.{List, codes, map, subst}
use Rattle.serde_json.specs.Data.{array}
use Rattle.serde_json.specs.View.{items_of}
use Rattle.esr_names.specs.IdText.{id_text}
use Rattle.esr_names.specs.declared.ids.Id.{Id}
use Rattle.esr_shardidx.specs.declared.entry.FileEntry.{FileEntry}
use Rattle.esr_shardidx.specs.Entries.{entry_data}
use Rattle.esr_shardidx.specs.Snapshots.{shard_snap_data}
use Rattle.esr_shardidx.specs.Written.{tokens_of, text_member, Adds}
use Rattle.esr_shardidx.proofs.Pieces.{one_added, adds_then}
use Rattle.esr_shardidx.proofs.writing.put_snap.Goals as goal

pub returns-clause-put : goal.returns-clause-put
unfolding shard_snap_data
returns-clause-put c =
    let begin = one_added c.args.out.now c.begin_object.new.self _ c.in_ok-begin_object.ensures.room.0 c.in_ok-begin_object.ensures.ok in
    let first = one_added c.begin_object.new.self c.key.new.self _ c.in_ok-key.ensures.room.0 c.in_ok-key.ensures.ok in
    let end = one_added _ _ _ c.in_ok-end_object.ensures.room.0 c.in_ok-end_object.ensures.ok in
    let files = subst (λ (es : List FileEntry). Adds c.key.new.self c.put_entries.new.out (tokens_of (array (items_of (map entry_data es))))) c.files-files.ensures.files c.in_ok-put_entries.ensures in
    let uuid = subst (λ (u : Id). Adds c.put_entries.new.out c.put_uuid.new.out (text_member (codes "uuid") (id_text u.number))) c.uuid.ensures c.in_ok-put_uuid.ensures in
    adds_then _ _ _ _ _ begin (adds_then _ _ _ _ _ first (adds_then _ _ _ _ _ files (adds_then _ _ _ _ _ uuid end)))
