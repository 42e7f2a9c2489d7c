use Rattle.std.proofs.Common.{le_refl}
use Rattle.esr_core.specs.Entry.{Entry}
use Rattle.esr_desk.specs.Entries.{step_of, answer_of}
use Rattle.esr_repo.specs.Repo.{Kept}
use Rattle.esr_repo.proofs.Plain.{note_added, note_repo}
use Rattle.esr_repo.proofs.BlobCalls.{Pushed}
use Rattle.esr_repo.proofs.Pasts.{noted_whole}
use Rattle.esr_repo.proofs.Failing.{no_fault, noted_none, unfailed_faults}
use Rattle.esr_repo.proofs.Calms.{no_call, calm_goes}
use Rattle.esr_repo.proofs.repo.Repo.note.Goals as goal

pub invariant_of-self-2 : goal.invariant_of-self-2
invariant_of-self-2 g c =
    let k : Kept = record { cluster = c.self.inside.cluster; root = c.self.inside.root; infos = c.self.inside.infos.items; plan = c.self.inside.progress; next = c.self.inside.next.number } in
    let e : Entry = record { who = c.args.who; step = step_of c.args.step; reply = answer_of c.args.answer } in
    let p : Pushed c.self.inside.history.items c.reserve.new.self.items c.push_reserved.new.self.items e = record { reserved = c.reserve.ensures.items; pushed = c.push_reserved.ensures.items } in (
      noted_whole c.laws.ensures (g.D.Depot.look c.self.inside.depot) g.K.Told.start g.K.Told.clock g.K.Told.past c.self.inside.history.items c.reserve.new.self.items c.push_reserved.new.self.items e c.self.invariant.0
          (g.met.D.Depot.only_now c.self.inside.depot) c.requires.may.plain c.reserve.ensures.items c.push_reserved.ensures.items
          (note_repo c.laws.ensures (g.D.Depot.look c.self.inside.depot) g.K.Told.start g.K.Told.clock c.self.inside.history.items c.reserve.new.self.items c.push_reserved.new.self.items k c.self.inside.deposed c.args.self.now e
          c.self.invariant.0.repo c.self.view_is c.reserve.ensures.items c.push_reserved.ensures.items c.requires.live c.args.progress c.args.next.number c.requires.may c.requires.goes c.renew.new.place c.renew.ensures),
      unfailed_faults c.self.invariant.1 p (g.D.Counted.faults c.self.inside.depot) (noted_none c.requires.may) (le_refl (g.D.Counted.faults c.self.inside.depot)),
      calm_goes (g.D.Depot.look c.self.inside.depot).sure c.self.invariant.2 p (g.D.Depot.look c.self.inside.depot).sure (no_fault (answer_of c.args.answer) (noted_none c.requires.may)) (no_call (g.D.Depot.look c.self.inside.depot).sure),
    )

pub returns-clause-step : goal.returns-clause-step
returns-clause-step g c =
    let k : Kept = record { cluster = c.self.inside.cluster; root = c.self.inside.root; infos = c.self.inside.infos.items; plan = c.self.inside.progress; next = c.self.inside.next.number } in
    let e : Entry = record { who = c.args.who; step = step_of c.args.step; reply = answer_of c.args.answer } in
    note_added c.laws.ensures (g.D.Depot.look c.self.inside.depot) g.K.Told.start g.K.Told.clock c.self.inside.history.items c.reserve.new.self.items c.push_reserved.new.self.items k c.self.inside.deposed c.args.self.now e
    c.self.invariant.0.repo c.self.view_is c.reserve.ensures.items c.push_reserved.ensures.items c.requires.live c.args.progress c.args.next.number c.requires.may c.requires.goes c.renew.new.place c.renew.ensures
