use Rattle.std.proofs.Common.{◌≡◌, ◌∙◌, List, sym, ap, subst}
use Rattle.esr_names.specs.declared.ids.Id.{Id}
use Rattle.esr_shardidx.specs.declared.entry.FileEntry.{FileEntry}
use Rattle.esr_shardidx.specs.declared.index.SnapList.{SnapList}
use Rattle.esr_shardidx.specs.Indices.{Rises, named_by, listed_of}
use Rattle.esr_shardidx.specs.IndexLists.{survivors_of-is}
use Rattle.esr_shardidx.proofs.Marking.{kept_files}
use Rattle.esr_shardidx.proofs.ReadSteps.{same_value}
use Rattle.esr_shardidx.proofs.index.ShardIndex.survivors.Goals as goal

pub marks_of-requires : goal.marks_of-requires
marks_of-requires c = subst (λ (es : List FileEntry). Rises es) (sym c.files.ensures.files) c.files.ensures.whole.rises

pub invariant_of-result : goal.invariant_of-result
invariant_of-result c =
    let all = survivors_of-is c.args.self.now c.args.listed.now c.files.ensures.whole in
    let files : c.in_ok-files.files ≡ named_by c.in_ok-snapshots.snapshots c.args.self.now.files =
    kept_files c.args.self.now.files c.files.result.now c.files-2.result.now c.in_ok-files.files c.in_ok-snapshots.snapshots c.as_slice-2.result.now c.in_ok-marks.marks.items
    c.as_slice-3.result.now c.in_ok-marks.ensures c.files.ensures.files c.as_slice-2.ensures c.in_ok-files.ensures c.files-2.ensures.files c.as_slice-3.ensures.value in
    let lists : c.in_ok-snapshots.snapshots ≡ listed_of c.args.listed.now c.args.self.now.snapshots =
    c.in_ok-snapshots.ensures ∙ ap (λ (us : List Id). listed_of us c.snapshots.result.now) c.as_slice.ensures ∙ ap (listed_of c.args.listed.now) c.snapshots.ensures in
    rw (files, lists) all

pub returns : goal.returns
returns c =
    let files : c.in_ok-files.files ≡ named_by c.in_ok-snapshots.snapshots c.args.self.now.files =
    kept_files c.args.self.now.files c.files.result.now c.files-2.result.now c.in_ok-files.files c.in_ok-snapshots.snapshots c.as_slice-2.result.now c.in_ok-marks.marks.items
    c.as_slice-3.result.now c.in_ok-marks.ensures c.files.ensures.files c.as_slice-2.ensures c.in_ok-files.ensures c.files-2.ensures.files c.as_slice-3.ensures.value in
    let lists : c.in_ok-snapshots.snapshots ≡ listed_of c.args.listed.now c.args.self.now.snapshots =
    c.in_ok-snapshots.ensures ∙ ap (λ (us : List Id). listed_of us c.snapshots.result.now) c.as_slice.ensures ∙ ap (listed_of c.args.listed.now) c.snapshots.ensures in
    same_value c.in_ok-files.files _ c.in_ok-snapshots.snapshots _ (files ∙ ap (λ (ls : List SnapList). named_by ls c.args.self.now.files) lists) lists
