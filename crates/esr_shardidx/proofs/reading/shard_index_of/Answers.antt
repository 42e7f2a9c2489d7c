use Rattle.std.proofs.Common.{◌≡◌, List, [], Ok, map, refl, sym, subst}
use Rattle.serde_json.specs.View.{view}
use Rattle.esr_shardidx.specs.declared.entry.FileEntry.{FileEntry}
use Rattle.esr_shardidx.specs.declared.index.SnapList.{SnapList}
use Rattle.esr_shardidx.specs.Indices.{named_by, AreLists, lists_from}
use Rattle.esr_shardidx.specs.Marks.{AreMarked}
use Rattle.esr_shardidx.proofs.IndexTexts.{index_files_from-are, lists_from-are}
use Rattle.esr_shardidx.specs.IndexLists.{IsShardIndex-named}
use Rattle.esr_shardidx.proofs.Marking.{AreMarked-named, kept_files}
use Rattle.esr_shardidx.proofs.ReadSteps.{index_read}
use Rattle.esr_shardidx.proofs.reading.shard_index_of.Goals as goal

pub returns : goal.returns
returns c =
    let entries : List FileEntry = c.in_ok-entries.entries in
    let lists : List SnapList = c.in_ok-snapshots.snapshots in
    let marked = AreMarked-named c.as_slice.result.now lists c.lists_of.new.named.marks.items c.in_ok-snapshots.ensures.named.marks.any in
    let files : c.in_ok-files.files ≡ named_by lists entries =
    kept_files entries c.as_slice.result.now entries c.in_ok-files.files lists lists c.lists_of.new.named.marks.items c.as_slice-2.result.now marked c.as_slice.ensures refl c.in_ok-files.ensures refl c.as_slice-2.ensures.value in
    let listed = subst (λ (es : List FileEntry). lists_from es [] (map view c.in_ok-lists.lists.now) ≡ Ok lists) c.as_slice.ensures c.in_ok-snapshots.ensures.gives in
    index_read (view c.args.value.now) _ _ entries c.in_ok-files.files lists (sym c.in_ok-items.ensures) c.in_ok-entries.ensures.gives (sym c.in_ok-lists.ensures) listed files

pub invariant_of-result : goal.invariant_of-result
invariant_of-result c =
    let entries : List FileEntry = c.in_ok-entries.entries in
    let lists : List SnapList = c.in_ok-snapshots.snapshots in
    let read = index_files_from-are [] _ entries tt tt c.in_ok-entries.ensures.gives in
    let listed = lists_from-are c.as_slice.result.now [] _ lists tt c.in_ok-snapshots.ensures.gives in
    let there = subst (λ (es : List FileEntry). AreLists es [] lists) c.as_slice.ensures listed in
    let marked = AreMarked-named c.as_slice.result.now lists c.lists_of.new.named.marks.items c.in_ok-snapshots.ensures.named.marks.any in
    let files : c.in_ok-files.files ≡ named_by lists entries =
    kept_files entries c.as_slice.result.now entries c.in_ok-files.files lists lists c.lists_of.new.named.marks.items c.as_slice-2.result.now marked c.as_slice.ensures refl c.in_ok-files.ensures refl c.as_slice-2.ensures.value in
    rw files (IsShardIndex-named entries lists read.0 read.1 there)
