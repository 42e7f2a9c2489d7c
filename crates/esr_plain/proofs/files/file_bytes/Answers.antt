use Rattle.std.proofs.Common.{◌≡◌, length, sym, ap, ◌∙◌}
use Rattle.esr_formats.specs.Shards.{entry_of}
use Rattle.esr_formats.specs.Formats.{formats}
use Rattle.esr_model.specs.Values.{Bytes}
use Rattle.esr_model.specs.Image.{At, FileStands}
use Rattle.esr_plain.specs.Exactly.{Always}
use Rattle.esr_plain.specs.Joined.{IsJoined}
use Rattle.esr_plain.proofs.Loops.{exact_some, exact_none}
use Rattle.esr_plain.proofs.Blobs.{at_one}
use Rattle.esr_plain.proofs.Parts.{joined_one}
use Rattle.esr_plain.proofs.Stored.{digest_is, bytes_differ, bytes_same, joined_of, file_of}
use Rattle.esr_plain.proofs.files.file_bytes.Goals.{In-Some}
use Rattle.esr_plain.proofs.files.file_bytes.Goals as goal
use Rattle.esr_hash.specs.Prints.{print_of}
use Rattle.esr_hash.specs.declared.print.Print.{Print}

-- the parts of the file are joined to these bytes
bytes_joined : (c : In-Some) → Always (λ f. IsJoined (At f c.args.image.now) c.args.shard.index.number c.args.shard.number (entry_of c.args.entry.now) c.in-Some.bytes)
bytes_joined c =
    λ known told. exact_some (IsJoined (At (formats known told) c.args.image.now) c.args.shard.index.number c.args.shard.number (entry_of c.args.entry.now)) c.in_ok-bytes.field-0 c.in-Some.bytes c.in-Some.is (c.in_ok-bytes.ensures known told)

-- only they may be the file
same_bytes : (c : In-Some) → Always (λ f. (bytes : Bytes) → FileStands f (At f c.args.image.now) c.args.shard.index.number c.args.shard.number (entry_of c.args.entry.now) bytes → bytes ≡ c.in-Some.bytes)
same_bytes c = λ known told bytes stands.
    let f = formats known told in
    let has = At f c.args.image.now in
    let i = c.args.shard.index.number in
    let s = c.args.shard.number in
    let e = entry_of c.args.entry.now in
    joined_one has (at_one f c.args.image.now) i s e bytes c.in-Some.bytes (joined_of f has i s e bytes stands) (bytes_joined c known told)

pub returns-in_default : goal.returns-in_default
returns-in_default c = λ known told bytes stands.
    let f = formats known told in
    let image = c.args.image.now in
    let i = c.args.shard.index.number in
    let s = c.args.shard.number in
    let e = entry_of c.args.entry.now in
    exact_none (IsJoined (At f image) i s e) c.in_ok-bytes.field-0 c.in_default.is (c.in_ok-bytes.ensures known told) bytes (joined_of f (At f image) i s e bytes stands)

pub returns-then-len-entry : goal.returns-then-len-entry
returns-then-len-entry c = λ known told bytes stands.
    let same = same_bytes (goal.at.returns-then-len-entry c).In-Some known told bytes stands in
    c.if-len-entry.true (c.len.ensures ∙ sym (ap (λ (b : Bytes). length b) same) ∙ stands.len)

pub returns-then-ne : goal.returns-then-ne
returns-then-ne c = λ known told bytes stands.
    let same = same_bytes (goal.at.returns-then-ne c).In-Some known told bytes stands in
    let print = c.print_of.ensures ∙ ap print_of (c.as_slice.ensures ∙ sym same) in
    bytes_differ c.print_of.result.sha256 c.args.entry.now.print.sha256 c.ne.result c.ne.ensures c.if-ne.true (ap (λ (p : Print). p.sha256) print ∙ sym (digest_is known told bytes) ∙ stands.digest)

pub returns : goal.returns
returns c = λ known told.
    let f = formats known told in
    let print = ap print_of (sym c.as_slice.ensures) ∙ sym c.print_of.ensures in
    let digest = digest_is known told c.in-Some.bytes ∙ ap (λ (p : Print). p.sha256) print ∙ bytes_same c.print_of.result.sha256 c.args.entry.now.print.sha256 c.ne.result c.ne.ensures c.if-ne.false in
    file_of f (At f c.args.image.now) c.args.shard.index.number c.args.shard.number (entry_of c.args.entry.now) c.in-Some.bytes (bytes_joined (goal.at.returns c).In-Some known told) (sym c.len.ensures ∙ c.if-len-entry.false) digest
