use Rattle.esr_desk.specs.Entries.{step_of}
use Rattle.esr_desk.specs.Refusals.{refusal_of}
use Rattle.esr_repo.specs.Repo.{Kept}
use Rattle.esr_repo.proofs.Repos.{kept_now}
use Rattle.esr_repo.proofs.Plain.{may_refuse, refused_tickets}
use Rattle.esr_repo.proofs.repo.Repo.refuse.Goals as goal

pub note-requires-clause-may : goal.note-requires-clause-may
note-requires-clause-may g c =
    let k : Kept = record { cluster = c.self.inside.cluster; root = c.self.inside.root; infos = c.self.inside.infos.items; plan = c.self.inside.progress; next = c.self.inside.next.number } in
    let now = kept_now (g.D.Depot.look c.self.inside.depot) g.K.Told.start g.K.Told.clock c.self.inside.history.items k c.self.inside.deposed c.args.self.now c.self.invariant.0.repo c.self.view_is c.requires.live in
    may_refuse g.K.Told.start c.args.self.now c.args.who (step_of c.args.step) (refusal_of c.args.refusal) c.self.inside.next.number now.1.next c.requires.may

pub returns-in-Ok-clause-kept : goal.returns-in-Ok-clause-kept
returns-in-Ok-clause-kept g c = refused_tickets g.K.Told.start c.args.self.now c.note.new.self c.args.who (step_of c.args.step) (refusal_of c.args.refusal) c.requires.may.plain c.in-Ok.ensures.step
