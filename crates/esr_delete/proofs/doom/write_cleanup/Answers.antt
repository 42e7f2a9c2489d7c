use Rattle.std.proofs.Common.{true, map, refl, sym, ap, ◌∙◌, subst}
use Rattle.std.specs.BTreeSet.{contains}
use Rattle.esr_names.specs.contracts.blob.BlobNameOrd.TheImpl as name_block
use Rattle.esr_core.specs.World.{Ticket}
use Rattle.esr_root.specs.Root.{Root}
use Rattle.esr_formats.specs.Names.{name_of}
use Rattle.esr_formats.specs.Roots.{root_of}
use Rattle.esr_results.specs.Pruned.{pruned_of}
use Rattle.esr_desk.specs.declared.hand.Hand.TheVariants as hands
use Rattle.esr_desk.specs.Evidence.{evidence}
use Rattle.esr_desk.specs.Listing.{page_of}
use Rattle.esr_desk.specs.Start.{formats_of, ticket_of}
use Rattle.esr_unit.specs.Shown.{Shown}
use Rattle.esr_unit.specs.Refusals.{passed_on}
use Rattle.esr_finish.specs.Runs.{taken_on}
use Rattle.esr_delete.specs.Ticket.{IsRooted, IsReady}
use Rattle.esr_delete.specs.Listing.{IsLister}
use Rattle.esr_delete.proofs.Cleaning.{places_once, each_now, names_doomed}
use Rattle.esr_delete.proofs.Listing.{lists_next, root_still, lists_on}
use Rattle.esr_delete.proofs.Preparing.{cleanup_ready, went_none, went_then_put}
use Rattle.esr_delete.proofs.doom.write_cleanup.Goals as goal
use Rattle.esr_delete.proofs.doom.write_cleanup.Goals.{In_ok-reached}

-- ---- what the root reaches

pub reached_by-requires-clause-some : goal.reached_by-requires-clause-some
reached_by-requires-clause-some g c = c.requires.may.draft.some_held

pub reached_by-requires-clause-once : goal.reached_by-requires-clause-once
reached_by-requires-clause-once g c = places_once (ticket_of g.Q.Desk.start (g.Q.Desk.seen c.args.desk.now) c.args.ticket).root (map pruned_of c.args.draft.shards) c.requires.may.draft.of_root

pub reached_by-requires-clause-each : goal.reached_by-requires-clause-each
reached_by-requires-clause-each g c = λ now after.
    let s = g.Q.Desk.start in
    let d = c.args.draft in
    each_now s (ticket_of s (g.Q.Desk.seen c.args.desk.now) c.args.ticket) c.requires.may.uuids c.args.held now (map pruned_of d.shards) d.first.number (root_of d.root) c.requires.may.draft c.requires.mode after

pub returns-in_err-reached-clause-went : goal.returns-in_err-reached-clause-went
returns-in_err-reached-clause-went g c =
    let lists = lists_next g.Q.Desk.start (ticket_of g.Q.Desk.start (g.Q.Desk.seen c.args.desk.now) c.args.ticket) c.args.held (map pruned_of c.args.draft.shards) c.args.draft.first.number (root_of c.args.draft.root) c.requires.may c.requires.mode in
    went_none g.Q.Desk.start (g.Q.Desk.seen c.args.desk.now) c.args.ticket lists.uuids lists.plan lists.work

-- ---- what is listed

lister_at : (g : _) (c : In_ok-reached g) → IsLister (ticket_of g.Q.Desk.start (g.Q.Desk.seen c.args.desk.now) c.args.ticket)
lister_at g c =
    let s = g.Q.Desk.start in
    let d = c.args.draft in
    lists_next s (ticket_of s (g.Q.Desk.seen c.args.desk.now) c.args.ticket) c.args.held (map pruned_of d.shards) d.first.number (root_of d.root) c.requires.may c.requires.mode

pub list_unreached-requires-clause-may : goal.list_unreached-requires-clause-may
list_unreached-requires-clause-may g c κs within = lister_at g (goal.at.list_unreached-requires-clause-may g c).In_ok-reached

pub returns-in_err-listed-clause-trouble : goal.returns-in_err-listed-clause-trouble
returns-in_err-listed-clause-trouble g c =
    let e = evidence g.Q.Stage.Counted.faults g.Q.Fetch.Counted.faults g.Q.Shard.Counted.faults g.Q.Target.Counted.faults g.Q.Shard.Shard.told g.Q.Target.Target.told in
    passed_on c.from_residual-in_err-listed.result (Shown hands.Delete e ⊥ g.Q.Desk.start (g.Q.Desk.seen c.list_unreached.new.desk) c.args.ticket) c.in_err-listed.field-0.0 c.from_residual-in_err-listed.ensures.1 c.in_err-listed.ensures.trouble

-- ---- its root

pub write_root-requires-clause-mine : goal.write_root-requires-clause-mine
write_root-requires-clause-mine g c κs within = taken_on (g.Q.Desk.calls c.args.desk.now) (g.Q.Desk.calls c.list_unreached.new.desk) c.args.ticket c.list_unreached.ensures.calls c.requires.mine

pub write_root-requires-clause-pruner : goal.write_root-requires-clause-pruner
write_root-requires-clause-pruner g c κs within =
    let s = g.Q.Desk.start in
    let who = c.args.ticket in
    let whole = c.in_ok-listed.ensures.ok in
    lists_on (ticket_of s (g.Q.Desk.seen c.args.desk.now) who) (ticket_of s (g.Q.Desk.seen c.list_unreached.new.desk) who) whole.pages true (lister_at g (goal.at.write_root-requires-clause-pruner g c).In_ok-reached) whole.is

pub write_root-requires-clause-may : goal.write_root-requires-clause-may
write_root-requires-clause-may g c κs within =
    let s = g.Q.Desk.start in
    let who = c.args.ticket in
    let whole = c.in_ok-listed.ensures.ok in
    root_still s (ticket_of s (g.Q.Desk.seen c.args.desk.now) who) (ticket_of s (g.Q.Desk.seen c.list_unreached.new.desk) who) whole.pages true (root_of c.args.draft.root) whole.is c.requires.may.next

pub write_root-requires-clause-untried : goal.write_root-requires-clause-untried
write_root-requires-clause-untried g c κs within = ap (λ (t : Ticket). t.tried_latest) c.in_ok-listed.ensures.ok.is ∙ c.requires.may.untried

pub returns-in_err-generation-clause-trouble : goal.returns-in_err-generation-clause-trouble
returns-in_err-generation-clause-trouble g c =
    let e = evidence g.Q.Stage.Counted.faults g.Q.Fetch.Counted.faults g.Q.Shard.Counted.faults g.Q.Target.Counted.faults g.Q.Shard.Shard.told g.Q.Target.Target.told in
    passed_on c.from_residual-in_err-generation.result (Shown hands.Delete e ⊥ g.Q.Desk.start (g.Q.Desk.seen c.write_root.new.desk) c.args.ticket)
    c.in_err-generation.field-0.0 c.from_residual-in_err-generation.ensures.1 c.in_err-generation.ensures.trouble

pub returns-in_err-generation-clause-went : goal.returns-in_err-generation-clause-went
returns-in_err-generation-clause-went g c =
    went_then_put g.Q.Desk.start (g.Q.Desk.seen c.args.desk.now) (g.Q.Desk.seen c.list_unreached.new.desk) (g.Q.Desk.seen c.write_root.new.desk) c.args.ticket c.list_unreached.ensures.went c.write_root.ensures.went

pub returns-in_err-generation-clause-calls : goal.returns-in_err-generation-clause-calls
returns-in_err-generation-clause-calls g c = c.write_root.ensures.calls ∙ c.list_unreached.ensures.calls

pub returns-in_err-names-clause-went : goal.returns-in_err-names-clause-went
returns-in_err-names-clause-went g c =
    went_then_put g.Q.Desk.start (g.Q.Desk.seen c.args.desk.now) (g.Q.Desk.seen c.list_unreached.new.desk) (g.Q.Desk.seen c.write_root.new.desk) c.args.ticket c.list_unreached.ensures.went c.write_root.ensures.went

pub returns-in_err-names-clause-calls : goal.returns-in_err-names-clause-calls
returns-in_err-names-clause-calls g c = c.write_root.ensures.calls ∙ c.list_unreached.ensures.calls

-- ---- what is doomed

pub returns-clause-ok : goal.returns-clause-ok
returns-clause-ok g c =
    let s = g.Q.Desk.start in
    let who = c.args.ticket in
    let t = ticket_of s (g.Q.Desk.seen c.args.desk.now) who in
    let new = ticket_of s (g.Q.Desk.seen c.write_root.new.desk) who in
    let d = c.args.draft in
    let shards = map pruned_of d.shards in
    let first = d.first.number in
    let root = root_of d.root in
    let may = c.requires.may in
    let whole = c.in_ok-listed.ensures.ok in
    let (now, after, set) = c.in_ok-reached.ensures in
    let n = c.in_ok-generation.generation in
    let rooted = subst (λ (u : Ticket). IsRooted (formats_of s) u new root n) whole.is c.in_ok-generation.ensures.ok in
    subst (λ (r : Root). IsReady s t new (root_of r) (map name_of c.in_ok-names.names)) (sym c.into_root.ensures)
    (cleanup_ready s t new c.args.held shards first root n (page_of whole.pages) true may rooted (map name_of c.in_ok-names.names) c.requires.mode refl
    (names_doomed s t may.uuids c.args.held now shards first root may.draft c.requires.mode after (contains name_block.ghosts.cmp c.in_ok-reached.reached) set whole.pages n c.in_ok-listed.listed c.in_ok-names.names whole.found c.in_ok-names.ensures))

pub returns-clause-root : goal.returns-clause-root
returns-clause-root g c = ap root_of c.into_root.ensures

pub returns-clause-put : goal.returns-clause-put
returns-clause-put g c = c.in_ok-generation.ensures.put refl

pub returns-clause-went : goal.returns-clause-went
returns-clause-went g c =
    went_then_put g.Q.Desk.start (g.Q.Desk.seen c.args.desk.now) (g.Q.Desk.seen c.list_unreached.new.desk) (g.Q.Desk.seen c.write_root.new.desk) c.args.ticket c.list_unreached.ensures.went c.write_root.ensures.went

pub returns-clause-calls : goal.returns-clause-calls
returns-clause-calls g c = c.write_root.ensures.calls ∙ c.list_unreached.ensures.calls
