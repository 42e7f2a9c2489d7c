use Rattle.std.proofs.Common.{◌≡◌, ◌<◌, ℕ, List, arith, length, w64, to_z, of_z, refl, subst, ap}
use Rattle.std.specs.Prelude.{IfSome, slice_get}
use Rattle.std.proofs.Math.ListN.{set}
use Rattle.std.proofs.lemmas.Int.{to_z-of_z}
use Rattle.std.proofs.lemmas.Option.{slice_get_within}
use Rattle.esr_core.specs.World.{Op}
use Rattle.esr_formats.specs.Roots.{root_of}
use Rattle.esr_formats.specs.Clusters.{count_of}
use Rattle.esr_ops.specs.declared.unit.Copied.{Copied}
use Rattle.esr_progress.specs.Choice.{IsBaseFor, given_entry}
use Rattle.esr_progress.proofs.Choices.{none_in, ready_in, read_there, possible_there}
use Rattle.esr_progress.proofs.NextUnits.{nothing, next_is, same_numbers}
use Rattle.esr_progress.proofs.Bases.{unit_based}
use Rattle.esr_progress.proofs.progress.Progress.op_unit.Goals as goal

pub returns-in_default-clause-unit : goal.returns-in_default-clause-unit
returns-in_default-clause-unit c w is =
    nothing c.self.inside.ops.items c.self.inside.deletes.items c.self.inside.completed.items c.self.inside.tickets c.self.inside.next_op c.self.inside.restores.items c.args.self.now c.self.view_is c.self.invariant
    (root_of c.args.root.now) (count_of c.args.safe) c.args.term w is
    (none_in c.self.inside.ops.items c.deref.result.now c.deref.ensures.value c.self.inside.deletes.items c.deref-2.result.now c.deref-2.ensures.value c.self.inside.completed.items c.deref-3.result.now
    c.deref-3.ensures.value c.self.inside.tickets c.self.inside.tickets refl c.self.inside.restores.items c.deref-4.result.now c.deref-4.ensures.value c.args.term c.in_default.ensures)

pub index-op-requires : goal.index-op-requires
index-op-requires c =
    let r = c.in-Some.ensures in
    let lt : c.in-Some.at < length c.deref.result.now = slice_get_within c.deref.result.now c.in-Some.at r.e r.there in
    omega (arith, c.deref.ensures.len)

pub seat_kind-seat-requires : goal.seat_kind-seat-requires
seat_kind-seat-requires c =
    possible_there c.self.inside.ops.items c.deref.result.now c.deref.ensures.value c.deref-2.result.now c.deref-3.result.now
    c.self.inside.tickets c.deref-4.result.now c.args.term c.in-Some.at c.in-Some.kind c.in-Some.ensures c.index-op.result.now c.index-op.ensures

pub work_of-requires : goal.work_of-requires
work_of-requires c =
    possible_there c.self.inside.ops.items c.deref.result.now c.deref.ensures.value c.deref-2.result.now c.deref-3.result.now
    c.self.inside.tickets c.deref-4.result.now c.args.term c.in-Some.at c.in-Some.kind c.in-Some.ensures c.index-op.result.now c.index-op.ensures

pub given_ops-requires : goal.given_ops-requires
given_ops-requires c =
    let r = c.in-Some.ensures in
    let lt : c.in-Some.at < length c.deref.result.now = slice_get_within c.deref.result.now c.in-Some.at r.e r.there in
    omega (arith, c.deref.ensures.len, c.deref-6.ensures.len)

pub with_seat-requires-clause-numbers : goal.with_seat-requires-clause-numbers
with_seat-requires-clause-numbers c =
    same_numbers c.self.inside.ops.items c.deref-6.result.now c.deref-6.ensures.value c.self.inside.deletes.items c.self.inside.completed.items
    c.self.inside.tickets c.self.inside.next_op c.self.inside.restores.items c.args.self.now c.self.view_is c.self.invariant
    c.in-Some.at c.index-op.result.now
    (read_there c.self.inside.ops.items c.deref.result.now c.deref.ensures.value c.deref-2.result.now c.deref-3.result.now c.self.inside.tickets
    c.deref-4.result.now c.args.term c.in-Some.at c.in-Some.kind c.in-Some.ensures c.index-op.result.now c.index-op.ensures)
    c.seat_kind-seat.result c.next-ticket.result c.in_ok-ops.ops.items c.in_ok-ops.ensures

pub returns-clause-unit : goal.returns-clause-unit
returns-clause-unit c w is =
    let copy : Copied = record { safe = to_z w64 (of_z w64 c.args.safe); root = c.in_ok-try_clone.field-0; base = c.base_of.result } in
    let base = subst (λ (es : List (ℕ × Op)). IsBaseFor (root_of c.args.root.now) es c.seat_kind-seat.result c.base_of.result) c.deref-5.ensures.value c.base_of.ensures in
    let given_is = subst (λ (es : List (ℕ × Op)). IfSome (slice_get es c.in-Some.at) (λ (x : ℕ × Op). c.in_ok-ops.ops.items ≡ set es c.in-Some.at (given_entry c.seat_kind-seat.result c.next-ticket.result x)))
    c.deref-6.ensures.value c.in_ok-ops.ensures in
    next_is c.self.inside.ops.items c.self.inside.deletes.items c.self.inside.completed.items c.self.inside.tickets c.self.inside.next_op c.self.inside.restores.items c.args.self.now c.self.view_is c.self.invariant
    (root_of c.args.root.now) (count_of c.args.safe) c.args.term w is c.in-Some.at c.in-Some.kind
    (ready_in c.self.inside.ops.items c.deref.result.now c.deref.ensures.value c.self.inside.deletes.items c.deref-2.result.now c.deref-2.ensures.value c.self.inside.completed.items c.deref-3.result.now
    c.deref-3.ensures.value c.self.inside.tickets c.self.inside.tickets refl c.self.inside.restores.items c.deref-4.result.now c.deref-4.ensures.value c.args.term c.in-Some.at c.in-Some.kind c.in-Some.ensures)
    c.index-op.result.now
    (read_there c.self.inside.ops.items c.deref.result.now c.deref.ensures.value c.deref-2.result.now c.deref-3.result.now c.self.inside.tickets
    c.deref-4.result.now c.args.term c.in-Some.at c.in-Some.kind c.in-Some.ensures c.index-op.result.now c.index-op.ensures)
    c.rule.ensures c.next-ticket.result c.next-ticket.ensures c.number.result c.number.ensures c.in_ok-work_of.field-0 c.seat_kind-seat.result copy c.in_ok-work_of.ensures c.seat_kind-seat.ensures base
    (ap count_of (to_z-of_z w64 c.args.safe c.ranges.safe)) (ap root_of c.in_ok-try_clone.ensures) c.in_ok-ops.ops.items given_is c.in_ok-with_seat.field-0 c.in_ok-with_seat.ensures

pub returns-clause-base : goal.returns-clause-base
returns-clause-base c =
    let base = subst (λ (es : List (ℕ × Op)). IsBaseFor (root_of c.args.root.now) es c.seat_kind-seat.result c.base_of.result) c.deref-5.ensures.value c.base_of.ensures in
    let possible =
    possible_there c.self.inside.ops.items c.deref.result.now c.deref.ensures.value c.deref-2.result.now c.deref-3.result.now c.self.inside.tickets
    c.deref-4.result.now c.args.term c.in-Some.at c.in-Some.kind c.in-Some.ensures c.index-op.result.now c.index-op.ensures in
    unit_based (root_of c.args.root.now) c.self.inside.ops.items c.index-op.result.now.1 c.in-Some.kind c.in_ok-work_of.field-0 c.seat_kind-seat.result c.base_of.result possible c.in_ok-work_of.ensures c.seat_kind-seat.ensures base
