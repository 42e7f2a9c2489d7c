use Rattle.std.proofs.Common.{ℕ, List, map, subst}
use Rattle.esr_model.specs.Loops.{has_at, every_more}
use Rattle.esr_shardidx.specs.declared.entry.FileEntry.{FileEntry as CodeEntry}
use Rattle.esr_shardidx.specs.declared.index.SnapList.{SnapList as CodeList}
use Rattle.esr_formats.specs.Shards.{entry_of, snap_list_of, shard_index_of}
use Rattle.esr_model.specs.Values.{Has, FileEntry, SnapList, ShardFiles}
use Rattle.esr_model.specs.Image.{Lists}
use Rattle.esr_agreement.specs.AgreementTests.{so, not_so}
use Rattle.esr_agreement.proofs.Loops.{holds}
use Rattle.esr_agreement.specs.Lists.{ListsFiles}
use Rattle.esr_agreement.proofs.listing.lists.Goals as goal

listed_by : (held : ShardFiles) (uuid : ℕ) (files : List FileEntry) (l : SnapList) → Has held.snapshots l → ListsFiles held.files uuid files l → Lists held uuid files
listed_by held uuid files l has is = record { list = l; there = has; uuid_is = is.0; entries = is.1 }

pub returns-then-is_list_of : goal.returns-then-is_list_of
returns-then-is_list_of c =
    let held = shard_index_of c.args.held.now in
    let files = map entry_of c.args.files.now in
    let own = snap_list_of c.list-item.result in
    let there = subst (λ (ls : List CodeList). Has (map snap_list_of ls) own) c.snapshots-list-items.ensures (has_at snap_list_of c.snapshots-list-items.result.now c.loop-list.list-index c.list-item.result c.loop-list-test.true c.list-item.is) in
    holds (listed_by held c.args.uuid.number files own there (subst (λ (es : List CodeEntry). ListsFiles (map entry_of es) c.args.uuid.number files own) c.files.ensures.files (so c.is_list_of.result c.is_list_of.ensures c.if-is_list_of.true)))

pub loop-list-preserved : goal.loop-list-preserved
loop-list-preserved c =
    let held = shard_index_of c.args.held.now in
    let files = map entry_of c.args.files.now in
    let own = snap_list_of c.list-item.result in
    every_more (λ (l : SnapList). ListsFiles held.files c.args.uuid.number files l → ⊥) snap_list_of c.snapshots-list-items.result.now c.loop-list.list-index c.list-item.result c.loop-list-test.true c.list-item.is c.loop-list.invariant
    (subst (λ (es : List CodeEntry). ListsFiles (map entry_of es) c.args.uuid.number files own → ⊥) c.files.ensures.files (not_so c.is_list_of.result c.is_list_of.ensures c.if-is_list_of.false))
