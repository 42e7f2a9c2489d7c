use Rattle.std.proofs.Common.{map, sym, ap, ◌∙◌, option_map}
use Rattle.std.specs.Option.{option_copied}
use Rattle.esr_formats.specs.Ids.{number_of}
use Rattle.esr_formats.specs.Shards.{shard_index_of}
use Rattle.esr_results.specs.Pruned.{pruned_of}
use Rattle.esr_desk.specs.Start.{ticket_of}
use Rattle.esr_finish.specs.Runs.{went_not}
use Rattle.esr_delete.proofs.Indexing.{is_own, may_store, notes_one, notes_not, next_kept, next_gone}
use Rattle.esr_delete.proofs.indices.write_shard.Goals as goal

pub returns-then-not-shard-clause-ok : goal.returns-then-not-shard-clause-ok
returns-then-not-shard-clause-ok g c = notes_not g.Q.Desk.start (ticket_of g.Q.Desk.start (g.Q.Desk.seen c.args.desk.now) c.args.ticket) (map number_of c.args.uuids.now) (pruned_of c.args.shard.now) c.args.id.number c.if-not-shard.true

pub returns-then-not-shard-clause-next : goal.returns-then-not-shard-clause-next
returns-then-not-shard-clause-next g c = next_gone (pruned_of c.args.shard.now) c.args.id.number c.if-not-shard.true

pub returns-then-not-shard-clause-went : goal.returns-then-not-shard-clause-went
returns-then-not-shard-clause-went g c = went_not g.Q.Desk.start (g.Q.Desk.seen c.args.desk.now) c.args.ticket

pub write_index-requires-clause-may : goal.write_index-requires-clause-may
write_index-requires-clause-may g c κs within =
    let s = g.Q.Desk.start in
    let t = ticket_of s (g.Q.Desk.seen c.args.desk.now) c.args.ticket in
    let p = pruned_of c.args.shard.now in
    let left = map number_of c.args.uuids.now in
    let files = shard_index_of c.in-Some.index.now in
    may_store s t c.args.held.now left p c.args.id.number files c.requires.may
    (is_own s t c.args.held.now left p c.args.id.number c.requires.may c.in-Some.index.now (sym (ap (option_map shard_index_of) (ap option_copied c.in-Some.is)) ∙ c.get.ensures)) c.if-not-shard.false

pub write_index-requires-clause-new : goal.write_index-requires-clause-new
write_index-requires-clause-new g c κs within = c.requires.may.new c.if-not-shard.false

pub returns-clause-ok : goal.returns-clause-ok
returns-clause-ok g c =
    let s = g.Q.Desk.start in
    let who = c.args.ticket in
    let t = ticket_of s (g.Q.Desk.seen c.args.desk.now) who in
    let p = pruned_of c.args.shard.now in
    let left = map number_of c.args.uuids.now in
    let files = shard_index_of c.in-Some.index.now in
    notes_one s t (ticket_of s (g.Q.Desk.seen c.write_index.new.desk) who) c.args.held.now left p c.args.id.number files c.requires.may
    (is_own s t c.args.held.now left p c.args.id.number c.requires.may c.in-Some.index.now (sym (ap (option_map shard_index_of) (ap option_copied c.in-Some.is)) ∙ c.get.ensures)) c.if-not-shard.false c.in_ok-write_index.ensures.ok

pub returns-clause-next : goal.returns-clause-next
returns-clause-next g c = next_kept (pruned_of c.args.shard.now) c.args.id.number c.if-not-shard.false
