use Rattle.std.proofs.Common.{[], List, map, sym, subst}
use Rattle.std.proofs.lemmas.Result.{IfOk-weaker}
use Rattle.std.specs.List.{AllByRecursion}
use Rattle.esr_shardidx.specs.declared.entry.FileEntry.{FileEntry as CodeEntry}
use Rattle.esr_shardidx.specs.Entries.{IsEntry}
use Rattle.esr_shardidx.specs.RoundTrip.{entries_of}
use Rattle.esr_formats.specs.Shards.{entry_of, shard_snap_of, shard_index_of}
use Rattle.esr_formats.specs.Formats.{formats}
use Rattle.esr_model.specs.Names.{ShardSnap, ShardIndex}
use Rattle.esr_model.specs.Image.{AllPairs, At, Reads}
use Rattle.esr_plain.specs.Exactly.{Always, IsExactly}
use Rattle.esr_plain.specs.Joined.{IsStored, HasFiles}
use Rattle.esr_plain.proofs.Loops.{so, not_so}
use Rattle.esr_plain.proofs.Blobs.{at_one, was_read, was_unread}
use Rattle.esr_plain.proofs.Shards.{no_snap, no_index, not_listed, files_exact}
use Rattle.esr_plain.proofs.shard.shard_files.Goals.{In-Some, In-Some-2}
use Rattle.esr_plain.proofs.shard.shard_files.Goals as goal
use Rattle.esr_model.specs.Image.{Lists}

-- what the snapshot has of the shard, and what the index of the shard reads as
snap_reads : (c : In-Some) → Always (λ f. Reads (At f c.args.image.now) (ShardSnap c.args.shard.index.number c.args.shard.number c.args.uuid.number) f.shard_snap (shard_snap_of c.in-Some.snap))
snap_reads c = was_read (λ f. f.shard_snap) shard_snap_of c.args.image.now (ShardSnap c.args.shard.index.number c.args.shard.number c.args.uuid.number) c.in_ok-snap.field-0 c.in-Some.snap c.in_ok-snap.ensures c.in-Some.is

held_reads : (c : In-Some-2) → Always (λ f. Reads (At f c.args.image.now) (ShardIndex c.args.shard.index.number c.args.shard.number c.args.generation.number) f.shard_index (shard_index_of c.in-Some-2.held))
held_reads c = was_read (λ f. f.shard_index) shard_index_of c.args.image.now (ShardIndex c.args.shard.index.number c.args.shard.number c.args.generation.number) c.in_ok-held.field-0 c.in-Some-2.held c.in_ok-held.ensures c.in-Some-2.is

pub returns-in_default : goal.returns-in_default
returns-in_default c = λ known told.
    let f = formats known told in
    let i = c.args.shard.index.number in
    let s = c.args.shard.number in
    let u = c.args.uuid.number in
    no_snap f (At f c.args.image.now) i s c.args.generation.number u (was_unread (λ f. f.shard_snap) shard_snap_of c.args.image.now (ShardSnap i s u) c.in_ok-snap.field-0 c.in_ok-snap.ensures c.in_default.is known told)

pub returns-in_default-2 : goal.returns-in_default-2
returns-in_default-2 c = λ known told.
    let f = formats known told in
    let i = c.args.shard.index.number in
    let s = c.args.shard.number in
    let g = c.args.generation.number in
    no_index f (At f c.args.image.now) i s g c.args.uuid.number (was_unread (λ f. f.shard_index) shard_index_of c.args.image.now (ShardIndex i s g) c.in_ok-held.field-0 c.in_ok-held.ensures c.in_default-2.is known told)

pub returns-then-not-lists : goal.returns-then-not-lists
returns-then-not-lists c = λ known told.
    let f = formats known told in
    let image = c.args.image.now in
    let shard = c.args.shard in
    let u = c.args.uuid.number in
    let held = shard_index_of c.in-Some-2.held in
    let none = subst (λ (es : List CodeEntry). Lists held u (map entry_of es) → ⊥) c.files.ensures.files (not_so c.lists.result c.lists.ensures c.if-not-lists.true) in
    not_listed f (At f image) shard.index.number shard.number c.args.generation.number u (at_one f image) (shard_snap_of c.in-Some.snap) held
    (snap_reads (goal.at.returns-then-not-lists c).In-Some known told) (held_reads (goal.at.returns-then-not-lists c).In-Some-2 known told) none

pub stored_files-requires : goal.stored_files-requires
stored_files-requires c = subst (AllByRecursion IsEntry) (sym c.files-2.ensures.files) (entries_of [] c.in-Some.snap.files c.files-2.ensures.whole.files)

pub returns : goal.returns
returns c =
    let i = c.args.shard.index.number in
    let s = c.args.shard.number in
    let g = c.args.generation.number in
    let u = c.args.uuid.number in
    let held = shard_index_of c.in-Some-2.held in
    let lists = subst (λ (es : List CodeEntry). Lists held u (map entry_of es)) c.files.ensures.files (so c.lists.result c.lists.ensures c.if-not-lists.false) in
    IfOk-weaker c.stored_files.result (λ o. Always (λ f. IsExactly (AllPairs (IsStored f (At f c.args.image.now) i s) (map entry_of c.files-2.result.now)) o)) (λ o. Always (λ f. IsExactly (HasFiles f (At f c.args.image.now) i s g u) o))
    (λ o exact known told.
    let f = formats known told in
    let has = At f c.args.image.now in
    let stored = subst (λ (es : List CodeEntry). IsExactly (AllPairs (IsStored f has i s) (map entry_of es)) o) c.files-2.ensures.files (exact known told) in
    files_exact f has i s g u (at_one f c.args.image.now) (shard_snap_of c.in-Some.snap) held (snap_reads (goal.at.returns c).In-Some known told) (held_reads (goal.at.returns c).In-Some-2 known told) lists o stored)
    c.stored_files.ensures
