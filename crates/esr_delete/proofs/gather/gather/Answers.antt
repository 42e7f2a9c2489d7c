use Rattle.std.proofs.Common.{◌≡◌, List, [], map, take, get_or, refl, sym, ap, ◌∙◌, subst}
use Rattle.esr_model.specs.Loops.{next, all, item_is}
use Rattle.esr_model.specs.Delete.{PrunedShard}
use Rattle.esr_formats.specs.Ids.{number_of}
use Rattle.esr_formats.specs.Roots.{root_of}
use Rattle.esr_formats.specs.Shards.{shard_index_of}
use Rattle.esr_results.specs.Pruned.{pruned_of, no_shard}
use Rattle.esr_reach.specs.Held.{HeldShard}
use Rattle.esr_desk.specs.Start.{ticket_of}
use Rattle.esr_desk.specs.Grew.{grew_by_none, grew_by_on}
use Rattle.esr_finish.specs.Runs.{taken_on}
use Rattle.esr_delete.specs.Gathered.{IsSoFar}
use Rattle.esr_delete.proofs.Going.{read_same, read_on}
use Rattle.esr_delete.proofs.Fetching.{can_fetch, new_fetch, none_so_far, more_so_far, gathered_all, only_fetches, there_in}
use Rattle.esr_delete.proofs.Numbered.{apart_at, shard_in}
use Rattle.esr_delete.proofs.gather.gather.Goals as goal

pub returns-in_err-shards-clause-read : goal.returns-in_err-shards-clause-read
returns-in_err-shards-clause-read g c = let t = ticket_of g.Q.Desk.start (g.Q.Desk.seen c.args.desk.now) c.args.ticket in read_same t t refl

pub returns-in_err-shards-clause-grew : goal.returns-in_err-shards-clause-grew
returns-in_err-shards-clause-grew g c = grew_by_none g.Q.Desk.start c.args.ticket (g.Q.Desk.seen c.args.desk.now)

pub loop-shard-init : goal.loop-shard-init
loop-shard-init g c =
    let s = g.Q.Desk.start in
    let old = g.Q.Desk.seen c.args.desk.now in
    record {
      so_far = subst (λ (held : List HeldShard). IsSoFar s old old c.args.ticket [] held) (sym c.new-held.ensures) (none_so_far s old c.args.ticket c.requires.unread c.requires.new);
      calls = refl;
    }

pub fetch_index-requires-clause-few : goal.fetch_index-requires-clause-few
fetch_index-requires-clause-few g c κs within =
    let items = c.as_slice-shard-items.result.now in
    let p = pruned_of (get_or items c.loop-shard.shard-index no_shard) in
    c.in_ok-shards.ensures.few p (shard_in items c.in_ok-shards.shards c.loop-shard.shard-index c.as_slice-shard-items.ensures c.loop-shard-test.true)

pub fetch_index-requires-clause-may : goal.fetch_index-requires-clause-may
fetch_index-requires-clause-may g c κs within =
    let s = g.Q.Desk.start in
    let who = c.args.ticket in
    let items = c.as_slice-shard-items.result.now in
    let p = pruned_of (get_or items c.loop-shard.shard-index no_shard) in
    can_fetch (ticket_of s (g.Q.Desk.seen c.args.desk.now) who) (ticket_of s (g.Q.Desk.seen c.loop-shard.desk) who) c.args.clean (root_of c.args.root.now) (map number_of c.args.uuids.now) p c.requires.may c.loop-shard.invariant.so_far.read
    (c.in_ok-shards.ensures.each p (shard_in items c.in_ok-shards.shards c.loop-shard.shard-index c.as_slice-shard-items.ensures c.loop-shard-test.true))

pub fetch_index-requires-clause-new : goal.fetch_index-requires-clause-new
fetch_index-requires-clause-new g c κs within =
    let items = c.as_slice-shard-items.result.now in
    let k = c.loop-shard.shard-index in
    new_fetch (map pruned_of (take k items)) g.Q.Desk.start (g.Q.Desk.seen c.loop-shard.desk) c.args.ticket (pruned_of (get_or items k no_shard)) c.loop-shard.invariant.so_far.made
    (apart_at (root_of c.args.root.now) items c.in_ok-shards.shards k c.as_slice-shard-items.ensures c.in_ok-shards.ensures.of_root c.loop-shard-test.true)

pub loop-shard-preserved : goal.loop-shard-preserved
loop-shard-preserved g c =
    let s = g.Q.Desk.start in
    let who = c.args.ticket in
    let old = g.Q.Desk.seen c.args.desk.now in
    let new = g.Q.Desk.seen c.fetch_index.new.desk in
    let items = c.as_slice-shard-items.result.now in
    let k = c.loop-shard.shard-index in
    let item = get_or items k no_shard in
    let p = pruned_of item in
    let less = c.loop-shard-test.true in
    let there =
    there_in (root_of c.args.root.now) (ticket_of s old who).root (map pruned_of c.in_ok-shards.shards) p c.requires.may.root_is c.in_ok-shards.ensures.of_root (shard_in items c.in_ok-shards.shards k c.as_slice-shard-items.ensures less) in
    let more =
    more_so_far s old (g.Q.Desk.seen c.loop-shard.desk) new who (map pruned_of (take k items)) c.loop-shard.held c.insert.new.self p (shard_index_of c.in_ok-index.index) c.loop-shard.invariant.so_far there
    (apart_at (root_of c.args.root.now) items c.in_ok-shards.shards k c.as_slice-shard-items.ensures c.in_ok-shards.ensures.of_root less) c.in_ok-index.ensures.fetched
    c.fetch_index.ensures.made c.fetch_index.ensures.read c.fetch_index.ensures.grew c.in_ok-insert.ensures.ok in
    record {
      so_far = subst (λ (shards : List PrunedShard). IsSoFar s old new who shards c.insert.new.self) (sym (next pruned_of items k item less (item_is items k no_shard less))) more;
      calls = c.fetch_index.ensures.calls ∙ c.loop-shard.invariant.calls;
    }

pub returns-in_err-index-clause-read : goal.returns-in_err-index-clause-read
returns-in_err-index-clause-read g c =
    let s = g.Q.Desk.start in
    let who = c.args.ticket in
    read_on (ticket_of s (g.Q.Desk.seen c.args.desk.now) who) (ticket_of s (g.Q.Desk.seen c.loop-shard.desk) who) (ticket_of s (g.Q.Desk.seen c.fetch_index.new.desk) who) c.loop-shard.invariant.so_far.read c.fetch_index.ensures.read

pub returns-in_err-index-clause-grew : goal.returns-in_err-index-clause-grew
returns-in_err-index-clause-grew g c =
    let seen = g.Q.Desk.seen in
    grew_by_on g.Q.Desk.start c.args.ticket (seen c.args.desk.now) (seen c.loop-shard.desk) (seen c.fetch_index.new.desk) c.loop-shard.invariant.so_far.grew c.fetch_index.ensures.grew

pub returns-in_err-insert-clause-read : goal.returns-in_err-insert-clause-read
returns-in_err-insert-clause-read g c =
    let s = g.Q.Desk.start in
    let who = c.args.ticket in
    read_on (ticket_of s (g.Q.Desk.seen c.args.desk.now) who) (ticket_of s (g.Q.Desk.seen c.loop-shard.desk) who) (ticket_of s (g.Q.Desk.seen c.fetch_index.new.desk) who) c.loop-shard.invariant.so_far.read c.fetch_index.ensures.read

pub returns-in_err-insert-clause-grew : goal.returns-in_err-insert-clause-grew
returns-in_err-insert-clause-grew g c =
    let seen = g.Q.Desk.seen in
    grew_by_on g.Q.Desk.start c.args.ticket (seen c.args.desk.now) (seen c.loop-shard.desk) (seen c.fetch_index.new.desk) c.loop-shard.invariant.so_far.grew c.fetch_index.ensures.grew

pub returns-clause-ok : goal.returns-clause-ok
returns-clause-ok g c =
    let s = g.Q.Desk.start in
    let who = c.args.ticket in
    let old = g.Q.Desk.seen c.args.desk.now in
    let new = g.Q.Desk.seen c.loop-shard.desk in
    let items = c.as_slice-shard-items.result.now in
    let whole : map pruned_of (take c.loop-shard.shard-index items) ≡ map pruned_of c.in_ok-shards.shards = all pruned_of items c.loop-shard.shard-index c.loop-shard-test.false ∙ ap (map pruned_of) c.as_slice-shard-items.ensures in
    gathered_all s old new who c.args.clean (root_of c.args.root.now) (map number_of c.args.uuids.now) (map pruned_of c.in_ok-shards.shards) c.loop-shard.held c.requires.may
    (subst (λ (shards : List PrunedShard). IsSoFar s old new who shards c.loop-shard.held) whole c.loop-shard.invariant.so_far) c.in_ok-shards.ensures.all

pub returns-clause-made : goal.returns-clause-made
returns-clause-made g c =
    only_fetches (map pruned_of (take c.loop-shard.shard-index c.as_slice-shard-items.result.now)) g.Q.Desk.start (g.Q.Desk.seen c.loop-shard.desk) c.args.ticket c.loop-shard.invariant.so_far.made

pub returns-clause-read : goal.returns-clause-read
returns-clause-read g c = c.loop-shard.invariant.so_far.read

pub returns-clause-grew : goal.returns-clause-grew
returns-clause-grew g c = c.loop-shard.invariant.so_far.grew

pub fetch_index-requires-clause-mine : goal.fetch_index-requires-clause-mine
fetch_index-requires-clause-mine g c κs within = taken_on (g.Q.Desk.calls c.args.desk.now) (g.Q.Desk.calls c.loop-shard.desk) c.args.ticket c.loop-shard.invariant.calls c.requires.mine

pub returns-in_err-index-clause-calls : goal.returns-in_err-index-clause-calls
returns-in_err-index-clause-calls g c = c.fetch_index.ensures.calls ∙ c.loop-shard.invariant.calls

pub returns-in_err-insert-clause-calls : goal.returns-in_err-insert-clause-calls
returns-in_err-insert-clause-calls g c = c.fetch_index.ensures.calls ∙ c.loop-shard.invariant.calls
