use Rattle.std.proofs.Common.{◌≡◌, ℕ, ◌<◌, List, length, arith, sym, ap, ◌∙◌, get_or}
use Rattle.esr_shardidx.specs.declared.entry.FileEntry.{FileEntry}
use Rattle.esr_shardidx.proofs.Tested.{tested_more}
use Rattle.esr_shardidx.proofs.snap.are_snap_files.Goals as goal

pub loop-entry-preserved : goal.loop-entry-preserved
loop-entry-preserved c =
    let files : List FileEntry = c.args.files.now in
    let e : FileEntry = c.entry-item.result in
    let place : c.loop-entry.place ≡ c.loop-entry.entry-index = c.loop-entry.invariant.0 in
    let within : c.loop-entry.place < length files = omega arith in
    let is : e ≡ get_or files c.loop-entry.place e = c.entry-item.is ∙ ap (λ (i : ℕ). get_or files i e) (sym place) in
    let more = tested_more files c.loop-entry.place e within is (sym c.if-not-follows.ensures.follows) c.follows.ensures.typed c.loop-entry.invariant.1 c.loop-entry.invariant.2 in
    (omega arith, more.0, more.1)
