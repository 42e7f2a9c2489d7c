use Rattle.std.proofs.Common.{ℕ, false, Some, map, sym, subst, ap, ◌∙◌, to_z, of_z, w64, rules}
use Rattle.std.proofs.lemmas.Int.{to_z-of_z}
use Rattle.esr_model.specs.Delete.{doomed_names}
use Rattle.esr_core.specs.Pruning.{delete_swap}
use Rattle.esr_root.specs.Root.{Root}
use Rattle.esr_formats.specs.Clusters.{count_of}
use Rattle.esr_formats.specs.Ids.{number_of}
use Rattle.esr_formats.specs.Names.{name_of}
use Rattle.esr_formats.specs.Roots.{root_of}
use Rattle.esr_results.specs.Pruned.{pruned_of}
use Rattle.esr_dooming.specs.Pieces.{root_count}
use Rattle.esr_desk.specs.declared.hand.Hand.TheVariants as hands
use Rattle.esr_desk.specs.Evidence.{evidence}
use Rattle.esr_desk.specs.Start.{formats_of, ticket_of}
use Rattle.esr_unit.specs.Shown.{Shown}
use Rattle.esr_unit.specs.Refusals.{passed_on}
use Rattle.esr_delete.specs.Ticket.{IsReady}
use Rattle.esr_delete.proofs.Going.{uuids_same}
use Rattle.esr_delete.proofs.Preparing.{delete_ready, went_put}
use Rattle.esr_delete.proofs.Rooting.{pruner_of}
use Rattle.esr_delete.proofs.Uniting.{root_counts}
use Rattle.esr_delete.proofs.doom.write_delete.Goals as goal

pub write_root-requires-clause-pruner : goal.write_root-requires-clause-pruner
write_root-requires-clause-pruner g c κs within =
    pruner_of g.Q.Desk.start (ticket_of g.Q.Desk.start (g.Q.Desk.seen c.args.desk.now) c.args.ticket) c.args.held.now (map pruned_of c.args.draft.shards) c.args.draft.first.number (root_of c.args.draft.root) false c.requires.may c.requires.mode

pub write_root-requires-clause-may : goal.write_root-requires-clause-may
write_root-requires-clause-may g c κs within = c.requires.may.next

pub write_root-requires-clause-untried : goal.write_root-requires-clause-untried
write_root-requires-clause-untried g c κs within = c.requires.may.untried

pub returns-in_err-write_root-clause-trouble : goal.returns-in_err-write_root-clause-trouble
returns-in_err-write_root-clause-trouble g c =
    let e = evidence g.Q.Stage.Counted.faults g.Q.Fetch.Counted.faults g.Q.Shard.Counted.faults g.Q.Target.Counted.faults g.Q.Shard.Shard.told g.Q.Target.Target.told in
    passed_on c.from_residual.result (Shown hands.Delete e ⊥ g.Q.Desk.start (g.Q.Desk.seen c.write_root.new.desk) c.args.ticket) c.in_err-write_root.field-0.0 c.from_residual.ensures.1 c.in_err-write_root.ensures.trouble

pub returns-in_err-write_root-clause-went : goal.returns-in_err-write_root-clause-went
returns-in_err-write_root-clause-went g c =
    let own = pruner_of g.Q.Desk.start (ticket_of g.Q.Desk.start (g.Q.Desk.seen c.args.desk.now) c.args.ticket) c.args.held.now
    (map pruned_of c.args.draft.shards) c.args.draft.first.number (root_of c.args.draft.root) false c.requires.may c.requires.mode in
    went_put g.Q.Desk.start (g.Q.Desk.seen c.args.desk.now) (g.Q.Desk.seen c.write_root.new.desk) c.args.ticket own.uuids own.plan own.work c.write_root.ensures.went

pub returns-in_err-names-clause-went : goal.returns-in_err-names-clause-went
returns-in_err-names-clause-went g c =
    let own = pruner_of g.Q.Desk.start (ticket_of g.Q.Desk.start (g.Q.Desk.seen c.args.desk.now) c.args.ticket) c.args.held.now
    (map pruned_of c.args.draft.shards) c.args.draft.first.number (root_of c.args.draft.root) false c.requires.may c.requires.mode in
    went_put g.Q.Desk.start (g.Q.Desk.seen c.args.desk.now) (g.Q.Desk.seen c.write_root.new.desk) c.args.ticket own.uuids own.plan own.work c.write_root.ensures.went

pub returns-clause-ok : goal.returns-clause-ok
returns-clause-ok g c =
    let s = g.Q.Desk.start in
    let who = c.args.ticket in
    let d = c.args.draft in
    let may = c.requires.may in
    let (plan, work) = c.requires.named in
    let uuids = map number_of c.args.uuids.now in
    subst (λ (r : Root). IsReady s (ticket_of s (g.Q.Desk.seen c.args.desk.now) who) (ticket_of s (g.Q.Desk.seen c.write_root.new.desk) who) (root_of r) (map name_of c.in_ok-names.names)) (sym c.into_root.ensures)
    (delete_ready s (ticket_of s (g.Q.Desk.seen c.args.desk.now) who) (ticket_of s (g.Q.Desk.seen c.write_root.new.desk) who) c.args.held.now
    (map pruned_of d.shards) d.first.number (root_of d.root) c.in_ok-write_root.field-0 may c.in_ok-write_root.ensures.ok c.requires.mode
    (count_of c.args.copy.now.safe) (root_of c.args.copy.now.root) uuids (map name_of c.in_ok-names.names) c.requires.copied (sym c.requires.safe)
    (uuids_same uuids may.uuids plan (Some (delete_swap (formats_of s) (ticket_of s (g.Q.Desk.seen c.args.desk.now) who).clean
    (ticket_of s (g.Q.Desk.seen c.args.desk.now) who).root (ticket_of s (g.Q.Desk.seen c.args.desk.now) who).read may.uuids (map pruned_of d.shards) d.first.number))
    (sym work ∙ may.work))
    (λ held. c.in_ok-names.ensures (formats_of s) may.draft.blobs held
    ∙ ap (λ (n : ℕ). doomed_names (formats_of s) n (root_of c.args.copy.now.root) (root_of d.root) uuids may.draft.blobs)
    (ap root_count c.last_root-number.ensures.place ∙ root_counts (to_z w64 (of_z w64 c.args.copy.now.safe)) ∙ ap count_of (to_z-of_z w64 c.args.copy.now.safe (search rules)))))

pub returns-clause-root : goal.returns-clause-root
returns-clause-root g c = ap root_of c.into_root.ensures

pub returns-clause-went : goal.returns-clause-went
returns-clause-went g c =
    let own = pruner_of g.Q.Desk.start (ticket_of g.Q.Desk.start (g.Q.Desk.seen c.args.desk.now) c.args.ticket) c.args.held.now
    (map pruned_of c.args.draft.shards) c.args.draft.first.number (root_of c.args.draft.root) false c.requires.may c.requires.mode in
    went_put g.Q.Desk.start (g.Q.Desk.seen c.args.desk.now) (g.Q.Desk.seen c.write_root.new.desk) c.args.ticket own.uuids own.plan own.work c.write_root.ensures.went
