use Rattle.std.proofs.Common.{List, length, refl, ap, ◌∙◌}
use Rattle.esr_core.specs.Entry.{Entry, Refused, DepotFault}
use Rattle.esr_repo.specs.May.{infos_after}
use Rattle.esr_depot.specs.Changes.{Swapped, SwapMay}
use Rattle.esr_formats.specs.Clusters.{cluster_of, cluster_kind}
use Rattle.esr_desk.specs.Entries.{step_of, answer_of}
use Rattle.esr_names.specs.declared.ids.Id.{Id}
use Rattle.esr_repo.specs.Repo.{Kept}
use Rattle.esr_repo.proofs.BlobCalls.{before_step, Pushed, wanting}
use Rattle.esr_repo.proofs.Swaps.{swap_ok, swap_fault}
use Rattle.esr_repo.proofs.Pasts.{made_whole, wanting_whole, same_infos}
use Rattle.esr_repo.proofs.Failing.{no_fault, told_none, failed_so, same_faults, unfailed_faults, fallen_faults}
use Rattle.esr_repo.proofs.Calms.{calm_goes, calm_failed, calm_wanting}
use Rattle.esr_repo.proofs.repo.Repo.swap.Goals as goal

pub invariant_of-self : goal.invariant_of-self
invariant_of-self g c =
    let b = before_step c.laws.ensures c.self.invariant.0.repo c.self.view_is c.requires.live in
    let e : Entry = record { who = c.args.who; step = step_of c.args.step; reply = answer_of c.args.answer } in
    let p : Pushed c.self.inside.history.items c.put_record.new.history.items c.push_reserved.new.self.items e = record { reserved = c.in-Ok.ensures.entries; pushed = c.push_reserved.ensures.items } in (
      made_whole b g.K.Told.past c.self.invariant.0.past (g.met.D.Depot.only_now c.put_record.new.depot)
          (swap_ok b (g.D.Depot.look c.put_record.new.depot) c.args.who (step_of c.args.step) (answer_of c.args.answer) c.args.renewed.cluster c.args.renewed.root c.args.renewed.left
          c.args.renewed.info c.args.renewed.progress c.args.renewed.next.number c.requires.may c.requires.goes (cluster_kind.text (cluster_of c.args.renewed.cluster)) refl c.in-Ok.ensures.reads
          c.in-Ok.field-0 c.in-Ok.ensures.call c.put_record.new.history.items c.push_reserved.new.self.items p
          (record { cluster = c.keep.new.cluster; root = c.keep.new.root; infos = c.keep.new.infos.items; plan = c.keep.new.progress; next = c.keep.new.next.number })
          (record {
            cluster_new = c.keep.ensures.cluster;
            root_new = c.keep.ensures.root;
            infos_new = c.keep.ensures.infos ∙ ap (infos_after c.args.renewed.left c.args.renewed.info) c.in-Ok.ensures.infos;
            plan_new = c.keep.ensures.progress;
            next_new = ap (λ (n : Id). n.number) c.keep.ensures.next;
          })),
      unfailed_faults c.self.invariant.1 p (g.D.Counted.faults c.put_record.new.depot) (told_none (answer_of c.args.answer) c.requires.may.answers) c.in-Ok.ensures.cause.later,
      calm_goes (g.D.Depot.look c.self.inside.depot).sure c.self.invariant.2 p (g.D.Depot.look c.put_record.new.depot).sure (no_fault (answer_of c.args.answer) (told_none (answer_of c.args.answer) c.requires.may.answers)) c.in-Ok.ensures.sure.spent,
    )

pub returns-in-Ok-clause-step : goal.returns-in-Ok-clause-step
returns-in-Ok-clause-step g c =
    let b = before_step c.laws.ensures c.self.invariant.0.repo c.self.view_is c.requires.live in
    (swap_ok b (g.D.Depot.look c.put_record.new.depot) c.args.who (step_of c.args.step) (answer_of c.args.answer) c.args.renewed.cluster c.args.renewed.root c.args.renewed.left
    c.args.renewed.info c.args.renewed.progress c.args.renewed.next.number c.requires.may c.requires.goes (cluster_kind.text (cluster_of c.args.renewed.cluster)) refl c.in-Ok.ensures.reads
    c.in-Ok.field-0 c.in-Ok.ensures.call c.put_record.new.history.items c.push_reserved.new.self.items (record { reserved = c.in-Ok.ensures.entries; pushed = c.push_reserved.ensures.items })
    (record { cluster = c.keep.new.cluster; root = c.keep.new.root; infos = c.keep.new.infos.items; plan = c.keep.new.progress; next = c.keep.new.next.number })
    (record {
      cluster_new = c.keep.ensures.cluster;
      root_new = c.keep.ensures.root;
      infos_new = c.keep.ensures.infos ∙ ap (infos_after c.args.renewed.left c.args.renewed.info) c.in-Ok.ensures.infos;
      plan_new = c.keep.ensures.progress;
      next_new = ap (λ (n : Id). n.number) c.keep.ensures.next;
    })).added

pub invariant_of-self-in-Err-Memory : goal.invariant_of-self-in-Err-Memory
invariant_of-self-in-Err-Memory g c =
    let k : Kept = record { cluster = c.self.inside.cluster; root = c.self.inside.root; infos = c.self.inside.infos.items; plan = c.self.inside.progress; next = c.self.inside.next.number } in
    let b = before_step c.laws.ensures c.self.invariant.0.repo c.self.view_is c.requires.live in (
      same_infos k c.put_record.new.infos.items c.in-Err-Memory.ensures.infos (wanting_whole b g.K.Told.past c.self.invariant.0.past (g.D.Depot.look c.put_record.new.depot) c.put_record.new.history.items c.in-Err-Memory.ensures.entries
          (λ _. Swapped (cluster_kind.text (cluster_of c.args.renewed.cluster))) (SwapMay (cluster_kind.text (cluster_of c.args.renewed.cluster)))
          c.in-Err-Memory.field-0 c.in-Err-Memory.field-0-is c.in-Err-Memory.ensures.call),
      same_faults c.put_record.new.history.items (g.D.Counted.faults c.put_record.new.depot) c.self.invariant.1 c.in-Err-Memory.ensures.cause.later c.in-Err-Memory.ensures.entries,
      calm_wanting c.self.invariant.2 (g.D.Depot.look c.put_record.new.depot) c.put_record.new.history.items c.in-Err-Memory.ensures.entries (λ _. Swapped (cluster_kind.text (cluster_of c.args.renewed.cluster)))
          (SwapMay (cluster_kind.text (cluster_of c.args.renewed.cluster))) c.in-Err-Memory.field-0 c.in-Err-Memory.field-0-is c.in-Err-Memory.ensures.call,
    )

pub returns-in-Err-Memory-clause-step : goal.returns-in-Err-Memory-clause-step
returns-in-Err-Memory-clause-step g c =
    let b = before_step c.laws.ensures c.self.invariant.0.repo c.self.view_is c.requires.live in
    (wanting b (g.D.Depot.look c.put_record.new.depot) c.put_record.new.history.items c.in-Err-Memory.ensures.entries
    (λ _. Swapped (cluster_kind.text (cluster_of c.args.renewed.cluster))) (SwapMay (cluster_kind.text (cluster_of c.args.renewed.cluster)))
    c.in-Err-Memory.field-0 c.in-Err-Memory.field-0-is c.in-Err-Memory.ensures.call).0

pub invariant_of-self-in-Err-Failed : goal.invariant_of-self-in-Err-Failed
invariant_of-self-in-Err-Failed g c =
    let k : Kept = record { cluster = c.self.inside.cluster; root = c.self.inside.root; infos = c.self.inside.infos.items; plan = c.self.inside.progress; next = c.self.inside.next.number } in
    let b = before_step c.laws.ensures c.self.invariant.0.repo c.self.view_is c.requires.live in
    let e : Entry = record { who = c.args.who; step = step_of c.args.step; reply = Refused DepotFault } in
    let p : Pushed c.self.inside.history.items c.put_record.new.history.items c.push_reserved-in-Err-Failed.new.self.items e = record { reserved = c.in-Err-Failed.ensures.entries; pushed = c.push_reserved-in-Err-Failed.ensures.items } in (
      same_infos k c.put_record.new.infos.items c.in-Err-Failed.ensures.infos (made_whole b g.K.Told.past c.self.invariant.0.past (g.met.D.Depot.only_now c.put_record.new.depot)
          (swap_fault b (g.D.Depot.look c.put_record.new.depot) c.args.who (step_of c.args.step) (answer_of c.args.answer) c.args.renewed.cluster c.args.renewed.root c.args.renewed.left
          c.args.renewed.info c.args.renewed.progress c.args.renewed.next.number c.requires.may c.requires.goes (cluster_kind.text (cluster_of c.args.renewed.cluster)) refl c.in-Err-Failed.ensures.reads
          c.in-Err-Failed.field-0 c.in-Err-Failed.field-0-is c.in-Err-Failed.ensures.call c.put_record.new.history.items c.push_reserved-in-Err-Failed.new.self.items p c.len-place.result)),
      fallen_faults c.self.invariant.1 p (g.D.Counted.faults c.put_record.new.depot) _ c.len-place.result c.in-Err-Failed.ensures.cause (failed_so c.in-Err-Failed.field-0 c.in-Err-Failed.field-0-is)
          (c.len-place.ensures ∙ c.put_record.new.history.ok.0 ∙ ap (λ (l : List Entry). length l) c.in-Err-Failed.ensures.entries) c.requires.may.swaps refl,
      calm_failed (g.D.Depot.look c.self.inside.depot).sure c.self.invariant.2 p (g.D.Depot.look c.put_record.new.depot).sure _ c.in-Err-Failed.ensures.sure (failed_so c.in-Err-Failed.field-0 c.in-Err-Failed.field-0-is),
    )

pub returns-in-Err-Failed-clause-step : goal.returns-in-Err-Failed-clause-step
returns-in-Err-Failed-clause-step g c =
    let b = before_step c.laws.ensures c.self.invariant.0.repo c.self.view_is c.requires.live in
    (swap_fault b (g.D.Depot.look c.put_record.new.depot) c.args.who (step_of c.args.step) (answer_of c.args.answer) c.args.renewed.cluster c.args.renewed.root c.args.renewed.left
    c.args.renewed.info c.args.renewed.progress c.args.renewed.next.number c.requires.may c.requires.goes (cluster_kind.text (cluster_of c.args.renewed.cluster)) refl c.in-Err-Failed.ensures.reads
    c.in-Err-Failed.field-0 c.in-Err-Failed.field-0-is c.in-Err-Failed.ensures.call c.put_record.new.history.items c.push_reserved-in-Err-Failed.new.self.items
    (record { reserved = c.in-Err-Failed.ensures.entries; pushed = c.push_reserved-in-Err-Failed.ensures.items }) c.len-place.result).added
