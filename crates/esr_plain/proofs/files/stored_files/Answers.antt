use Rattle.std.proofs.Common.{◌+◌, List, map, take, sym, ◌∙◌, subst}
use Rattle.esr_formats.specs.Shards.{entry_of}
use Rattle.esr_formats.specs.Formats.{formats}
use Rattle.esr_model.specs.Values.{Bytes}
use Rattle.esr_model.specs.Image.{AllPairs, At, FileStands}
use Rattle.esr_plain.specs.Joined.{IsStored}
use Rattle.esr_plain.proofs.Loops.{exact_some, exact_none, pairs_more, pairs_none}
use Rattle.esr_plain.proofs.files.stored_files.Goals as goal

pub returns-in_default : goal.returns-in_default
returns-in_default c = λ known told.
    let f = formats known told in
    let stored = IsStored f (At f c.args.image.now) c.args.shard.index.number c.args.shard.number in
    let none = exact_none (FileStands f (At f c.args.image.now) c.args.shard.index.number c.args.shard.number (entry_of c.entry-item.result)) c.in_ok-bytes.field-0 c.in_default.is (c.in_ok-bytes.ensures known told) in
    pairs_none stored entry_of c.args.entries.now c.loop-entry.entry-index c.entry-item.result c.loop-entry-test.true c.entry-item.is (λ (file : Bytes × Bytes) is. none file.1 is.1)

pub loop-entry-preserved : goal.loop-entry-preserved
loop-entry-preserved c = λ known told.
    let f = formats known told in
    let stored = IsStored f (At f c.args.image.now) c.args.shard.index.number c.args.shard.number in
    let stands = exact_some (FileStands f (At f c.args.image.now) c.args.shard.index.number c.args.shard.number (entry_of c.entry-item.result)) c.in_ok-bytes.field-0 c.in-Some.bytes c.in-Some.is (c.in_ok-bytes.ensures known told) in
    let file : Bytes × Bytes = (c.in_ok-name.name, c.in-Some.bytes) in
    subst (λ (files : List (Bytes × Bytes)). AllPairs stored (map entry_of (take (c.loop-entry.entry-index + 1) c.args.entries.now)) files) (sym c.in_ok-push.ensures.ok)
    (pairs_more stored entry_of c.args.entries.now c.loop-entry.files c.loop-entry.entry-index c.entry-item.result file c.loop-entry-test.true c.entry-item.is (c.loop-entry.invariant known told)
    (sym (c.in_ok-name.ensures ∙ c.as_str.ensures.text), stands))
