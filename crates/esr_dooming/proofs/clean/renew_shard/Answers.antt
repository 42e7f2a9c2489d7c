use Rattle.std.proofs.Common.{map, ap, sym, ◌∙◌, subst, option_map}
use Rattle.std.proofs.lemmas.Result.{on_ok_weaker}
use Rattle.std.specs.Option.{option_copied}
use Rattle.esr_model.specs.Values.{ShardFiles}
use Rattle.esr_formats.specs.Ids.{number_of}
use Rattle.esr_formats.specs.Shards.{shard_index_of}
use Rattle.esr_reach.specs.Held.{Holds}
use Rattle.esr_results.specs.Pruned.{pruned_of}
use Rattle.esr_dooming.proofs.Renewing.{renewed_none, renewed_one}
use Rattle.esr_dooming.proofs.clean.renew_shard.Goals as goal

pub returns-then-not-shard : goal.returns-then-not-shard
returns-then-not-shard c = renewed_none c.args.held.now (pruned_of c.args.shard.now) (map number_of c.args.uuids.now) c.if-not-shard.true

pub returns : goal.returns
returns c =
    let p = pruned_of c.args.shard.now in
    let left = map number_of c.args.uuids.now in
    let old = c.args.held.now in
    let new = c.insert.new.self in
    let was = shard_index_of c.in-Some.index.now in
    let at = sym c.get.ensures ∙ ap (option_map shard_index_of) (ap option_copied c.in-Some.is) in
    on_ok_weaker c.insert.result
    (λ holds. renewed_one old new p left was c.if-not-shard.false at (subst (λ (v : ShardFiles). Holds old new p.index p.number v) c.in_ok-index.ensures holds)) c.insert.ensures.ok
