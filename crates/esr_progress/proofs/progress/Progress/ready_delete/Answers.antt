use Rattle.std.proofs.Common.{◌<◌, length, refl, sym, ◌∙◌, arith}
use Rattle.std.specs.List.{position}
use Rattle.std.proofs.lemmas.Option.{slice_get_read}
use Rattle.esr_progress.specs.Choice.{delete_ready}
use Rattle.esr_ops.specs.Tests.{place_within}
use Rattle.esr_progress.proofs.NextDeletes.{no_delete, lowest_delete}
use Rattle.esr_progress.proofs.progress.Progress.ready_delete.Goals as goal

pub returns-in_default : goal.returns-in_default
returns-in_default c w is term_is =
    let s = c.self.inside in
    let found = sym (c.find_delete.ensures ∙ (λ j. position (delete_ready (c.deref.ensures.value j) (c.deref-2.ensures.value j) s.tickets c.args.term) (c.deref-2.ensures.value j))) ∙ c.in_default.is in
    no_delete s.ops.items s.deletes.items s.completed.items s.tickets s.next_op s.restores.items c.args.self.now c.self.view_is c.self.invariant
    w.root w.safe c.args.term w (record { plan = is; root_is = refl; safe_is = refl; term_is = term_is }) found

pub index-requires : goal.index-requires
index-requires c =
    let s = c.self.inside in
    let found = sym (c.find_delete.ensures ∙ (λ j. position (delete_ready (c.deref.ensures.value j) (c.deref-2.ensures.value j) s.tickets c.args.term) (c.deref-2.ensures.value j))) ∙ c.in-Some.is in
    let lt : c.in-Some.at < length s.deletes.items = (place_within (delete_ready s.ops.items s.deletes.items s.tickets c.args.term) s.deletes.items c.in-Some.at found).0 in
    omega arith

pub returns : goal.returns
returns c w is term_is =
    let s = c.self.inside in
    let found = sym (c.find_delete.ensures ∙ (λ j. position (delete_ready (c.deref.ensures.value j) (c.deref-2.ensures.value j) s.tickets c.args.term) (c.deref-2.ensures.value j))) ∙ c.in-Some.is in
    let lt = (place_within (delete_ready s.ops.items s.deletes.items s.tickets c.args.term) s.deletes.items c.in-Some.at found).0 in
    lowest_delete s.ops.items s.deletes.items s.completed.items s.tickets s.next_op s.restores.items c.args.self.now c.self.view_is c.self.invariant
    w.root w.safe c.args.term w (record { plan = is; root_is = refl; safe_is = refl; term_is = term_is }) c.in-Some.at c.index.result.now found
    (slice_get_read s.deletes.items (length s.deletes.items) c.in-Some.at c.index.result.now refl lt c.index.ensures) c.number.result c.number.ensures
