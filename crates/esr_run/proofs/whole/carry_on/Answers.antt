use Rattle.std.proofs.Common.{◌⊎◌, List, [], OnOk, sym, subst}
use Rattle.esr_core.specs.Entry.{Moment}
use Rattle.esr_script.specs.declared.item.ScriptLine.{ScriptLine}
use Rattle.esr_complete.specs.Lines.{steps_of}
use Rattle.esr_run.specs.Made.{MadeFirst, HasFallen, AreDone}
use Rattle.esr_run.proofs.Making.{apart_first, done_on}
use Rattle.esr_run.proofs.Falling.{done_fallen}
use Rattle.esr_run.specs.Checked.{asks_check}
use Rattle.esr_run.specs.Verified.{AreWhole}
use Rattle.esr_run.proofs.Verifying.{begun_may}
use Rattle.esr_run.proofs.Taking.{are_few}
use Rattle.esr_run.proofs.whole.carry_on.Goals as goal

pub returns-clause-done : goal.returns-clause-done
returns-clause-done g c =
    subst (λ (lines : List ScriptLine). OnOk c.carry-desk.result.1 (AreDone g.K.Told.start c.args.host.now.moment lines [] c.into_parts-repo.result.0 ⊎ HasFallen g.K.Told.start c.args.host.now.moment lines [] c.into_parts-repo.result.0))
    c.as_slice-lines.ensures
    (done_fallen c.refusals.ensures g.K.Told.start c.args.host.now.moment c.as_slice-lines.result.now c.new-desk.result c.carry-desk.result.0 c.into_parts-repo.result.0 c.carry-desk.result.1
    (done_on g.K.Told.start c.args.host.now.moment c.as_slice-lines.result.now c.new-desk.result c.carry-desk.result.0 c.into_parts-repo.result.0
    c.carry-desk.result.1 c.carry-desk.ensures.done c.into_parts-repo.ensures.repo c.new-desk.ensures c.requires.numbered c.requires.readers)
    c.carry-desk.ensures.made c.into_parts-repo.ensures.repo c.new-desk.ensures c.requires.alive)

pub carry-desk-requires-clause-waits : goal.carry-desk-requires-clause-waits
carry-desk-requires-clause-waits g c κs within = c.requires.waits

pub carry-desk-requires-clause-may : goal.carry-desk-requires-clause-may
carry-desk-requires-clause-may g c κs within = begun_may g.K.Told.start c.args.asked.now.workers (asks_check c.as_slice-lines.result.now) c.new-desk.result c.new-desk.ensures c.requires.nobody

pub carry-desk-requires-clause-numbered : goal.carry-desk-requires-clause-numbered
carry-desk-requires-clause-numbered g c κs within = c.requires.numbered

pub carry-desk-requires-clause-earlier : goal.carry-desk-requires-clause-earlier
carry-desk-requires-clause-earlier g c κs within = c.requires.earlier

pub returns-clause-made : goal.returns-clause-made
returns-clause-made g c =
    subst (λ (lines : List ScriptLine). MadeFirst g.K.Told.start (steps_of c.args.host.now.moment lines) [] c.into_parts-repo.result.0) c.as_slice-lines.ensures
    (subst (λ (new : List Moment). MadeFirst g.K.Told.start (steps_of c.args.host.now.moment c.as_slice-lines.result.now) [] new) (sym c.into_parts-repo.ensures.repo)
    (subst (λ (old : List Moment). MadeFirst g.K.Told.start (steps_of c.args.host.now.moment c.as_slice-lines.result.now) old c.carry-desk.result.0) c.new-desk.ensures c.carry-desk.ensures.made))

pub returns-clause-whole : goal.returns-clause-whole
returns-clause-whole g c =
    subst (AreWhole g.K.Told.start c.args.asked.now.workers (asks_check c.args.asked.now.script)) (sym c.into_parts-repo.ensures.repo)
    (subst (λ (lines : List ScriptLine). AreWhole g.K.Told.start c.args.asked.now.workers (asks_check lines) c.carry-desk.result.0) c.as_slice-lines.ensures c.carry-desk.ensures.whole)

pub returns-clause-few : goal.returns-clause-few
returns-clause-few g c =
    are_few c.args.asked.now.workers c.new-desk.result c.carry-desk.result.0 c.into_parts-repo.result.0 c.as_slice-lines.result.now
    c.args.asked.now.script c.carry-desk.ensures.takes c.carry-desk.ensures.elects c.into_parts-repo.ensures.repo c.new-desk.ensures
    c.as_slice-lines.ensures

pub returns-clause-apart : goal.returns-clause-apart
returns-clause-apart g c =
    apart_first g.K.Told.start c.new-desk.result c.carry-desk.result.0 c.into_parts-repo.result.0 c.carry-desk.ensures.apart c.into_parts-repo.ensures.repo c.new-desk.ensures c.requires.numbered c.requires.readers
