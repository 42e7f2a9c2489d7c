use Rattle.std.proofs.Common.{map, refl, Ok, Err, inr}
use Rattle.esr_core.specs.Entry.{LookStep, Looked}
use Rattle.esr_formats.specs.Roots.{root_snap_of}
use Rattle.esr_formats.specs.Clusters.{count_of}
use Rattle.esr_desk.specs.declared.unit.Look.{Look as Answer}
use Rattle.esr_run.proofs.Making.{made_refused, looked_none}
use Rattle.esr_quiet.specs.Asking.{asking_stepped}
use Rattle.esr_run.proofs.Lines.{line_asked}
use Rattle.esr_run.proofs.carry.list.Goals as goal

pub returns-in-Err-clause-asked : goal.returns-in-Err-clause-asked
returns-in-Err-clause-asked g c alone =
    line_asked c.steps_stay.ensures g.Q.Desk.start c.requires.numbered c.requires.ops alone c.requires.earlier (g.Q.Desk.seen c.args.desk.now)
    (g.Q.Desk.seen c.look.new.self) LookStep (λ (l : Answer). Looked (map root_snap_of l.listing) (count_of l.safe)) (Err c.in-Err.refusal)
    (inr refl) (λ l. looked_none (map root_snap_of l.listing) (count_of l.safe)) c.in-Err.ensures.step

pub returns-clause-asked : goal.returns-clause-asked
returns-clause-asked g c alone =
    line_asked c.steps_stay.ensures g.Q.Desk.start c.requires.numbered c.requires.ops alone c.requires.earlier (g.Q.Desk.seen c.args.desk.now)
    (g.Q.Desk.seen c.look.new.self) LookStep (λ (l : Answer). Looked (map root_snap_of l.listing) (count_of l.safe)) (Ok c.in_default.field-0)
    (inr refl) (λ l. looked_none (map root_snap_of l.listing) (count_of l.safe)) c.in_default.ensures.step

pub returns-in-Err-clause-made : goal.returns-in-Err-clause-made
returns-in-Err-clause-made g c = made_refused g.Q.Desk.start (g.Q.Desk.seen c.args.desk.now) (g.Q.Desk.seen c.look.new.self) LookStep c.in-Err.refusal refl c.in-Err.ensures.step.0

pub returns-clause-made : goal.returns-clause-made
returns-clause-made g c =
    asking_stepped g.Q.Desk.start (g.Q.Desk.seen c.args.desk.now) (g.Q.Desk.seen c.look.new.self) LookStep (Looked (map root_snap_of c.in_default.field-0.listing) (count_of c.in_default.field-0.safe)) c.in_default.ensures.step
