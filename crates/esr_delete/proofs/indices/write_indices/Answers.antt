use Rattle.std.proofs.Common.{◌≡◌, ◌+◌, ℕ, List, map, take, get_or, refl, sym, ap, ◌∙◌, subst}
use Rattle.esr_model.specs.Loops.{next, all, item_is}
use Rattle.esr_model.specs.Delete.{PrunedShard, next_after, kept_count, left_uuids, uuids_of, pruned_blobs}
use Rattle.esr_formats.specs.Ids.{number_of}
use Rattle.esr_formats.specs.Roots.{root_of}
use Rattle.esr_results.specs.Pruned.{pruned_of, no_shard}
use Rattle.esr_desk.specs.Start.{formats_of, ticket_of}
use Rattle.esr_finish.specs.Runs.{taken_on, went_not, went_on}
use Rattle.esr_delete.specs.Planned.{Notes}
use Rattle.esr_delete.proofs.Numbered.{shard_in}
use Rattle.esr_delete.proofs.Indexing.{notes_none, has_room, next_more, left_of_draft, index_of, notes_more, notes_all, first_next}
use Rattle.esr_delete.proofs.indices.write_indices.Goals as goal
use Rattle.esr_delete.proofs.indices.write_indices.Goals.{In_ok-left}

-- the snapshots that are left are those of the plan
left_is : (g : _) (c : In_ok-left g) → map number_of c.in_ok-left.left ≡ left_uuids c.requires.may.uuids (uuids_of (ticket_of g.Q.Desk.start (g.Q.Desk.seen c.args.desk.now) c.args.ticket).root)
left_is g c =
    let s = g.Q.Desk.start in
    let t = ticket_of s (g.Q.Desk.seen c.args.desk.now) c.args.ticket in
    let d = c.args.draft.now in
    let free = c.requires.may in
    c.in_ok-left.ensures ∙ left_of_draft s t free.uuids c.args.held.now (map pruned_of d.shards) d.first.number (root_of d.root) free.draft

pub returns-in_err-left-clause-went : goal.returns-in_err-left-clause-went
returns-in_err-left-clause-went g c = went_not g.Q.Desk.start (g.Q.Desk.seen c.args.desk.now) c.args.ticket

pub loop-shard-init : goal.loop-shard-init
loop-shard-init g c =
    let s = g.Q.Desk.start in
    let old = g.Q.Desk.seen c.args.desk.now in
    record {
      notes = notes_none s (ticket_of s old c.args.ticket);
      next = first_next c.args.draft.now.first.number;
      tells = c.requires.tells;
      went = went_not s old c.args.ticket;
      calls = refl;
    }

pub write_shard-requires-clause-few : goal.write_shard-requires-clause-few
write_shard-requires-clause-few g c κs within =
    let items = c.as_slice-shard-items.result.now in
    c.requires.few (pruned_of (get_or items c.loop-shard.shard-index no_shard)) (shard_in items c.args.draft.now.shards c.loop-shard.shard-index c.as_slice-shard-items.ensures c.loop-shard-test.true)

pub write_shard-requires-clause-room : goal.write_shard-requires-clause-room
write_shard-requires-clause-room g c κs within =
    has_room c.as_slice-shard-items.result.now c.args.draft.now.shards c.args.draft.now.first.number c.loop-shard.shard-index
    c.loop-shard.next.number c.as_slice-shard-items.ensures c.loop-shard-test.true c.loop-shard.invariant.next c.requires.may.draft.range

pub write_shard-requires-clause-may : goal.write_shard-requires-clause-may
write_shard-requires-clause-may g c κs within =
    let s = g.Q.Desk.start in
    let old = ticket_of s (g.Q.Desk.seen c.args.desk.now) c.args.ticket in
    let mid = ticket_of s (g.Q.Desk.seen c.loop-shard.desk) c.args.ticket in
    let items = c.as_slice-shard-items.result.now in
    let k = c.loop-shard.shard-index in
    let d = c.args.draft.now in
    let first = d.first.number in
    let left = map number_of c.in_ok-left.left in
    index_of s old mid c.args.held.now items d.shards k first c.loop-shard.next.number (root_of d.root) left c.requires.may c.as_slice-shard-items.ensures c.loop-shard-test.true (left_is g (goal.at.write_shard-requires-clause-may g c).In_ok-left)
    c.loop-shard.invariant.next
    c.loop-shard.invariant.notes
    (shard_in items d.shards k c.as_slice-shard-items.ensures c.loop-shard-test.true)

pub loop-shard-preserved : goal.loop-shard-preserved
loop-shard-preserved g c =
    let s = g.Q.Desk.start in
    let who = c.args.ticket in
    let old = g.Q.Desk.seen c.args.desk.now in
    let mid = g.Q.Desk.seen c.loop-shard.desk in
    let new = g.Q.Desk.seen c.write_shard.new.desk in
    let items = c.as_slice-shard-items.result.now in
    let k = c.loop-shard.shard-index in
    let item = get_or items k no_shard in
    let first = c.args.draft.now.first.number in
    let before = map pruned_of (take k items) in
    let left = map number_of c.in_ok-left.left in
    let more = next pruned_of items k item c.loop-shard-test.true (item_is items k no_shard c.loop-shard-test.true) in
    record {
      notes = notes_more s (ticket_of s old who) (ticket_of s mid who) (ticket_of s new who) items k first c.loop-shard.next.number left item more c.loop-shard.invariant.next c.loop-shard.invariant.notes c.in_ok-next.ensures.ok;
      next = c.in_ok-next.ensures.next ∙ ap (λ (n : ℕ). next_after n (pruned_of item)) c.loop-shard.invariant.next ∙ next_more first before (pruned_of item) ∙ ap (λ (ps : List PrunedShard). first + kept_count ps) (sym more);
      tells = c.in_ok-next.ensures.tells;
      went = went_on s old mid new who c.loop-shard.invariant.went c.write_shard.ensures.went;
      calls = c.write_shard.ensures.calls ∙ c.loop-shard.invariant.calls;
    }

pub returns-in_err-next-clause-went : goal.returns-in_err-next-clause-went
returns-in_err-next-clause-went g c =
    let seen = g.Q.Desk.seen in
    went_on g.Q.Desk.start (seen c.args.desk.now) (seen c.loop-shard.desk) (seen c.write_shard.new.desk) c.args.ticket c.loop-shard.invariant.went c.write_shard.ensures.went

pub returns-clause-ok : goal.returns-clause-ok
returns-clause-ok g c =
    let s = g.Q.Desk.start in
    let who = c.args.ticket in
    let old = ticket_of s (g.Q.Desk.seen c.args.desk.now) who in
    let new = ticket_of s (g.Q.Desk.seen c.loop-shard.desk) who in
    let d = c.args.draft.now in
    let items = c.as_slice-shard-items.result.now in
    let left = map number_of c.in_ok-left.left in
    let whole : map pruned_of (take c.loop-shard.shard-index items) ≡ map pruned_of d.shards = all pruned_of items c.loop-shard.shard-index c.loop-shard-test.false ∙ ap (map pruned_of) c.as_slice-shard-items.ensures in
    notes_all s old new c.args.held.now (map pruned_of d.shards) d.first.number (root_of d.root) left c.requires.may (left_is g (goal.at.returns-clause-ok g c).In_ok-left)
    (subst (λ (ps : List PrunedShard). Notes s old new (pruned_blobs (formats_of s) old.read left d.first.number ps)) whole c.loop-shard.invariant.notes)

pub write_shard-requires-clause-mine : goal.write_shard-requires-clause-mine
write_shard-requires-clause-mine g c κs within = taken_on (g.Q.Desk.calls c.args.desk.now) (g.Q.Desk.calls c.loop-shard.desk) c.args.ticket c.loop-shard.invariant.calls c.requires.mine

pub returns-in_err-next-clause-calls : goal.returns-in_err-next-clause-calls
returns-in_err-next-clause-calls g c = c.write_shard.ensures.calls ∙ c.loop-shard.invariant.calls
