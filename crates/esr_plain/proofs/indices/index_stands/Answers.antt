use Rattle.std.proofs.Common.{List, map, subst}
use Rattle.esr_shardidx.specs.declared.entry.FileEntry.{FileEntry as CodeEntry}
use Rattle.esr_formats.specs.Roots.{root_of}
use Rattle.esr_formats.specs.Shards.{entry_of, shard_index_of}
use Rattle.esr_formats.specs.Formats.{formats}
use Rattle.esr_model.specs.Names.{ShardIndex}
use Rattle.esr_model.specs.Values.{Bytes}
use Rattle.esr_model.specs.Image.{AllPairs, At, Reads}
use Rattle.esr_plain.specs.Exactly.{Always}
use Rattle.esr_plain.specs.Joined.{IsStored}
use Rattle.esr_plain.proofs.Loops.{holds, fails, so, not_so, exact_some, exact_none}
use Rattle.esr_plain.proofs.Blobs.{at_one, was_read, was_unread}
use Rattle.esr_plain.proofs.Standing.{index_unread, index_above, index_lacks, index_with, index_without}
use Rattle.esr_plain.proofs.indices.index_stands.Goals.{In-Some}
use Rattle.esr_plain.proofs.indices.index_stands.Goals as goal

-- what the index reads as
held_reads : (c : In-Some) → Always (λ f. Reads (At f c.args.image.now) (ShardIndex c.args.shard.index.number c.args.shard.number c.args.generation.number) f.shard_index (shard_index_of c.in-Some.held))
held_reads c = was_read (λ f. f.shard_index) shard_index_of c.args.image.now (ShardIndex c.args.shard.index.number c.args.shard.number c.args.generation.number) c.in_ok-held.field-0 c.in-Some.held c.in_ok-held.ensures c.in-Some.is

pub returns-in_default : goal.returns-in_default
returns-in_default c = λ known told.
    let f = formats known told in
    let image = c.args.image.now in
    let shard = c.args.shard in
    let g = c.args.generation.number in
    let none = was_unread (λ f. f.shard_index) shard_index_of image (ShardIndex shard.index.number shard.number g) c.in_ok-held.field-0 c.in_ok-held.ensures c.in_default.is known told in
    fails (index_unread f (At f image) (root_of c.args.root.now) shard.index.number shard.number g none)

pub returns-then-not-are_below : goal.returns-then-not-are_below
returns-then-not-are_below c = λ known told.
    let f = formats known told in
    let image = c.args.image.now in
    let shard = c.args.shard in
    let reads = held_reads (goal.at.returns-then-not-are_below c).In-Some known told in
    fails (index_above f (At f image) (root_of c.args.root.now) shard.index.number shard.number c.args.generation.number (at_one f image) (shard_index_of c.in-Some.held) reads (not_so c.are_below.result c.are_below.ensures c.if-not-are_below.true))

pub returns-then-not-branch : goal.returns-then-not-branch
returns-then-not-branch c = λ known told.
    let f = formats known told in
    let image = c.args.image.now in
    let shard = c.args.shard in
    let reads = held_reads (goal.at.returns-then-not-branch c).In-Some known told in
    fails (index_lacks f (At f image) (root_of c.args.root.now) shard.index.number shard.number c.args.generation.number (at_one f image)
    (shard_index_of c.in-Some.held) reads (not_so c.in_ok-have_snaps.field-0 (c.in_ok-have_snaps.ensures known told) c.if-not-branch.true))

pub returns-in-Some-2 : goal.returns-in-Some-2
returns-in-Some-2 c = λ known told.
    let f = formats known told in
    let has = At f c.args.image.now in
    let i = c.args.shard.index.number in
    let s = c.args.shard.number in
    let reads = held_reads (goal.at.returns-in-Some-2 c).In-Some known told in
    let stored = exact_some (AllPairs (IsStored f has i s) (map entry_of c.files.result.now)) c.in_ok-stored_files.field-0 c.in-Some-2.field-0 c.in-Some-2.is (c.in_ok-stored_files.ensures known told) in
    holds (index_with f has (root_of c.args.root.now) i s c.args.generation.number (shard_index_of c.in-Some.held) c.in-Some-2.field-0 reads
    (so c.are_below.result c.are_below.ensures c.if-not-are_below.false) (so c.in_ok-have_snaps.field-0 (c.in_ok-have_snaps.ensures known told) c.if-not-branch.false)
    (subst (λ (es : List CodeEntry). AllPairs (IsStored f has i s) (map entry_of es) c.in-Some-2.field-0) c.files.ensures.files stored))

pub returns : goal.returns
returns c = λ known told.
    let f = formats known told in
    let has = At f c.args.image.now in
    let i = c.args.shard.index.number in
    let s = c.args.shard.number in
    let reads = held_reads (goal.at.returns c).In-Some known told in
    let none = exact_none (AllPairs (IsStored f has i s) (map entry_of c.files.result.now)) c.in_ok-stored_files.field-0 c.in-None.is (c.in_ok-stored_files.ensures known told) in
    fails (index_without f has (root_of c.args.root.now) i s c.args.generation.number (at_one f c.args.image.now) (shard_index_of c.in-Some.held) reads
    (subst (λ (es : List CodeEntry). (files : List (Bytes × Bytes)) → AllPairs (IsStored f has i s) (map entry_of es) files → ⊥) c.files.ensures.files none))
