use Rattle.std.proofs.Common.{◌≡◌, ◌∙◌, false, List, [], ◌∷◌, ◌++◌, map, sym, ap, subst}
use Rattle.std.specs.List.{list_any}
use Rattle.esr_names.specs.declared.ids.Id.{Id}
use Rattle.esr_shardidx.specs.declared.entry.FileEntry.{FileEntry}
use Rattle.esr_shardidx.specs.declared.index.SnapList.{SnapList}
use Rattle.esr_shardidx.specs.Indices.{Rises, repeats, name_of, has_uuid, insert_files, list_of_snap}
use Rattle.esr_shardidx.proofs.Added.{added, snap_repeats}
use Rattle.esr_shardidx.proofs.index.ShardIndex.with_snap.Goals as goal

pub with_files-requires-clause-rises : goal.with_files-requires-clause-rises
with_files-requires-clause-rises c = subst (λ (es : List FileEntry). Rises es) (sym c.files.ensures.files) c.files.ensures.whole.rises

pub with_files-requires-clause-differ : goal.with_files-requires-clause-differ
with_files-requires-clause-differ c =
    ap (λ (es : List FileEntry). repeats (map name_of es)) c.files-2.ensures.files ∙ snap_repeats [] c.args.snap.now.files c.files-2.ensures.whole.files

-- the index doesn't have the snapshot
fresh : (c : goal.After-from_vec) → list_any (has_uuid c.args.snap.now.uuid) c.args.self.now.snapshots ≡ false
fresh c =
    sym (c.has_list.ensures ∙ ap (λ (u : Id). list_any (has_uuid u) c.snapshots.result.now) c.uuid.ensures ∙ ap (list_any (has_uuid c.args.snap.now.uuid)) c.snapshots.ensures)
    ∙ c.if-has_list.false

pub invariant_of-result : goal.invariant_of-result
invariant_of-result c =
    let all = added c.args.self.now c.args.snap.now c.files.ensures.whole c.files-2.ensures.whole (fresh c) in
    let files : c.from_vec.result ≡ insert_files c.args.self.now.files c.args.snap.now.files =
    c.from_vec.ensures ∙ c.in_ok-files.ensures ∙ ap (λ (es : List FileEntry). insert_files es c.files-2.result.now) c.files.ensures.files ∙ ap (insert_files c.args.self.now.files) c.files-2.ensures.files in
    let lists : c.push.new.self ≡ c.args.self.now.snapshots ++ list_of_snap c.args.snap.now ∷ [] = c.in_ok-push.ensures.ok
    ∙ ap (λ (ls : List SnapList). ls ++ c.in_ok-list_of_snap.field-0 ∷ []) (c.from_vec-snapshots.ensures ∙ c.in_ok-copies_of.ensures ∙ c.snapshots-2.ensures) ∙ ap (λ (l : SnapList). c.args.self.now.snapshots ++ l ∷ []) c.in_ok-list_of_snap.ensures in
    rw (files, lists) all
