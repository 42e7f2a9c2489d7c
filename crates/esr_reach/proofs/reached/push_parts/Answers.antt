use Rattle.std.proofs.Common.{◌<◌, ◌≤◌, ◌++◌, ◌∙◌, ℕ, List, map, ap, subst}
use Rattle.esr_formats.specs.Names.{name_of}
use Rattle.esr_model.specs.Names.{BlobName}
use Rattle.esr_reach.specs.NamePieces.{parts_pushed, parts_done}
use Rattle.esr_reach.proofs.reached.push_parts.Goals as goal

pub loop-k-preserved : goal.loop-k-preserved
loop-k-preserved c =
    let k = c.loop-k.k in
    let less = subst (λ (n : ℕ). k < n) c.part_count-k-end.ensures.count c.loop-k-test.true in
    parts_pushed c.args.shard c.args.entry.now c.requires.least k c.args.names.now c.loop-k.names c.push.new.self c.part_name.result less c.part_name.ensures c.in_ok-push.ensures.ok c.loop-k.invariant

pub returns : goal.returns
returns c =
    let past = subst (λ (n : ℕ). n ≤ c.loop-k.k) c.part_count-k-end.ensures.count c.loop-k-test.false in
    c.loop-k.invariant ∙ ap (λ (names : List BlobName). map name_of c.args.names.now ++ names) (parts_done c.args.shard c.args.entry.now c.requires.least c.loop-k.k past)
