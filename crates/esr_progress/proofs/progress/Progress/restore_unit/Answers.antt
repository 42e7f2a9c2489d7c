use Rattle.std.proofs.Common.{◌≡◌, ◌<◌, ℕ, None, List, arith, length, w64, to_z, of_z, subst, ap}
use Rattle.std.specs.Prelude.{IfSome, slice_get}
use Rattle.std.proofs.Math.ListN.{set}
use Rattle.std.proofs.lemmas.Int.{to_z-of_z}
use Rattle.std.proofs.lemmas.Option.{slice_get_within}
use Rattle.esr_formats.specs.Roots.{root_of}
use Rattle.esr_formats.specs.Clusters.{count_of}
use Rattle.esr_ops.specs.declared.unit.Copied.{Copied}
use Rattle.esr_ops.specs.Plan.{RestorePlan}
use Rattle.esr_progress.specs.Choice.{NoneUnread, given_restore}
use Rattle.esr_progress.proofs.Unread.{none_is_unread, unread_in, restore_there, unread_within, restore_numbers, restore_is}
use Rattle.esr_progress.proofs.Bases.{none_based}
use Rattle.esr_progress.proofs.progress.Progress.restore_unit.Goals as goal

pub returns-in_default-clause-unit : goal.returns-in_default-clause-unit
returns-in_default-clause-unit c w term is =
    none_is_unread c.self.inside.ops.items c.self.inside.deletes.items c.self.inside.completed.items c.self.inside.tickets c.self.inside.next_op c.self.inside.restores.items c.args.self.now c.self.view_is c.self.invariant w is.plan
    (subst (λ (es : List (ℕ × RestorePlan)). NoneUnread es (length es)) c.deref.ensures.value c.in_default.ensures)

pub index-restore-requires : goal.index-restore-requires
index-restore-requires c =
    let r = c.in-Some.ensures in
    let lt : c.in-Some.at < length c.deref.result.now = slice_get_within c.deref.result.now c.in-Some.at r.e r.there in
    omega (arith, c.deref.ensures.len)

pub shard-shard-requires : goal.shard-shard-requires
shard-shard-requires c = unread_within c.self.inside.restores.items c.deref.result.now c.deref.ensures.value c.in-Some.at c.in-Some.i c.in-Some.ensures c.index-restore.result.now c.index-restore.ensures

pub work-requires : goal.work-requires
work-requires c = unread_within c.self.inside.restores.items c.deref.result.now c.deref.ensures.value c.in-Some.at c.in-Some.i c.in-Some.ensures c.index-restore.result.now c.index-restore.ensures

pub given_restores-requires : goal.given_restores-requires
given_restores-requires c =
    let r = c.in-Some.ensures in
    let lt : c.in-Some.at < length c.deref.result.now = slice_get_within c.deref.result.now c.in-Some.at r.e r.there in
    omega (arith, c.deref.ensures.len, c.deref-2.ensures.len)

pub with_reader-requires-clause-numbers : goal.with_reader-requires-clause-numbers
with_reader-requires-clause-numbers c =
    restore_numbers c.self.inside.restores.items c.deref-2.result.now c.deref-2.ensures.value c.self.inside.ops.items c.self.inside.deletes.items
    c.self.inside.completed.items c.self.inside.tickets c.self.inside.next_op c.args.self.now c.self.view_is c.self.invariant
    c.in-Some.at c.index-restore.result.now
    (restore_there c.self.inside.restores.items c.deref.result.now c.deref.ensures.value c.in-Some.at c.in-Some.i c.in-Some.ensures c.index-restore.result.now c.index-restore.ensures)
    c.shard-shard.result c.next-ticket.result c.in_ok-restores.restores.items c.in_ok-restores.ensures

pub returns-clause-unit : goal.returns-clause-unit
returns-clause-unit c w term is =
    let copy : Copied = record { safe = to_z w64 (of_z w64 c.args.safe); root = c.in_ok-try_clone.field-0; base = None } in
    let given_is = subst (λ (es : List (ℕ × RestorePlan)). IfSome (slice_get es c.in-Some.at) (λ (x : ℕ × RestorePlan). c.in_ok-restores.restores.items ≡ set es c.in-Some.at (given_restore c.shard-shard.result c.next-ticket.result x)))
    c.deref-2.ensures.value c.in_ok-restores.ensures in
    restore_is c.self.inside.ops.items c.self.inside.deletes.items c.self.inside.completed.items c.self.inside.tickets
    c.self.inside.next_op c.self.inside.restores.items c.args.self.now c.self.view_is c.self.invariant w is.plan c.in-Some.at c.in-Some.i
    (unread_in c.self.inside.restores.items c.deref.result.now c.deref.ensures.value c.in-Some.at c.in-Some.i c.in-Some.ensures) c.index-restore.result.now
    (restore_there c.self.inside.restores.items c.deref.result.now c.deref.ensures.value c.in-Some.at c.in-Some.i c.in-Some.ensures c.index-restore.result.now c.index-restore.ensures)
    c.rule.ensures c.next-ticket.result c.next-ticket.ensures c.number.result c.number.ensures c.in_ok-work.field-0 c.shard-shard.result copy c.shard-shard.ensures c.in_ok-work.ensures
    (root_of c.args.root.now) (count_of c.args.safe) is.safe_is is.root_is
    (ap count_of (to_z-of_z w64 c.args.safe c.ranges.safe)) (ap root_of c.in_ok-try_clone.ensures) c.in_ok-restores.restores.items given_is c.in_ok-with_reader.field-0 c.in_ok-with_reader.ensures

pub returns-clause-base : goal.returns-clause-base
returns-clause-base c = none_based c.in_ok-work.field-0
