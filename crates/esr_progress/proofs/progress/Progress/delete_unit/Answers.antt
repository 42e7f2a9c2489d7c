use Rattle.std.proofs.Common.{◌<◌, None, length, w64, to_z, of_z, refl, sym, ap, ◌∙◌, arith}
use Rattle.std.specs.List.{position}
use Rattle.std.proofs.lemmas.Int.{to_z-of_z}
use Rattle.std.proofs.lemmas.Option.{slice_get_read}
use Rattle.esr_formats.specs.Roots.{root_of}
use Rattle.esr_formats.specs.Clusters.{count_of}
use Rattle.esr_ops.specs.declared.unit.Copied.{Copied}
use Rattle.esr_progress.specs.Choice.{delete_ready}
use Rattle.esr_ops.specs.Tests.{place_within}
use Rattle.esr_progress.proofs.NextDeletes.{copied_numbers, no_delete, delete_is}
use Rattle.esr_progress.proofs.Bases.{none_based}
use Rattle.esr_progress.proofs.progress.Progress.delete_unit.Goals as goal

pub returns-in_default-clause-unit : goal.returns-in_default-clause-unit
returns-in_default-clause-unit c w is =
    let s = c.self.inside in
    let found = sym (c.find_delete.ensures ∙ (λ j. position (delete_ready (c.deref.ensures.value j) (c.deref-2.ensures.value j) s.tickets c.args.term) (c.deref-2.ensures.value j))) ∙ c.in_default.is in
    no_delete s.ops.items s.deletes.items s.completed.items s.tickets s.next_op s.restores.items c.args.self.now c.self.view_is c.self.invariant (root_of c.args.root.now) (count_of c.args.safe) c.args.term w is found

pub index-delete-requires : goal.index-delete-requires
index-delete-requires c =
    let s = c.self.inside in
    let found = sym (c.find_delete.ensures ∙ (λ j. position (delete_ready (c.deref.ensures.value j) (c.deref-2.ensures.value j) s.tickets c.args.term) (c.deref-2.ensures.value j))) ∙ c.in-Some.is in
    let lt : c.in-Some.at < length s.deletes.items = (place_within (delete_ready s.ops.items s.deletes.items s.tickets c.args.term) s.deletes.items c.in-Some.at found).0 in
    omega arith

pub with_seat-requires-clause-numbers : goal.with_seat-requires-clause-numbers
with_seat-requires-clause-numbers c =
    let s = c.self.inside in
    copied_numbers s.ops.items c.in_ok-ops.ops.items (c.in_ok-ops.ensures ∙ c.deref-3.ensures.value) s.deletes.items s.completed.items s.tickets s.next_op s.restores.items c.args.self.now c.self.view_is c.self.invariant

pub returns-clause-unit : goal.returns-clause-unit
returns-clause-unit c w is =
    let s = c.self.inside in
    let copy : Copied = record { safe = to_z w64 (of_z w64 c.args.safe); root = c.in_ok-try_clone.field-0; base = None } in
    let found = sym (c.find_delete.ensures ∙ (λ j. position (delete_ready (c.deref.ensures.value j) (c.deref-2.ensures.value j) s.tickets c.args.term) (c.deref-2.ensures.value j))) ∙ c.in-Some.is in
    let lt = (place_within (delete_ready s.ops.items s.deletes.items s.tickets c.args.term) s.deletes.items c.in-Some.at found).0 in
    delete_is s.ops.items s.deletes.items s.completed.items s.tickets s.next_op s.restores.items c.args.self.now c.self.view_is c.self.invariant (root_of c.args.root.now) (count_of c.args.safe) c.args.term w is
    c.in-Some.at c.index-delete.result.now found (slice_get_read s.deletes.items (length s.deletes.items) c.in-Some.at c.index-delete.result.now refl lt c.index-delete.ensures)
    c.next-ticket.result c.next-ticket.ensures c.number.result c.number.ensures c.in_ok-work.field-0 c.kind.result c.gives_cleanup.result copy c.in_ok-work.ensures c.kind.ensures c.gives_cleanup.ensures
    (ap count_of (to_z-of_z w64 c.args.safe c.ranges.safe)) (ap root_of c.in_ok-try_clone.ensures) c.in_ok-ops.ops.items (c.in_ok-ops.ensures ∙ c.deref-3.ensures.value) c.in_ok-with_seat.field-0 c.in_ok-with_seat.ensures

pub returns-clause-base : goal.returns-clause-base
returns-clause-base c = none_based c.in_ok-work.field-0
