use Rattle.std.proofs.Common.{◌∙◌, sym, ap, subst}
use Rattle.esr_desk.specs.Evidence.{NeverFailed}
use Rattle.esr_desk.specs.Start.{Legal}
use Rattle.esr_handle.specs.Turned.{Seen}
use Rattle.esr_test_steps.proofs.Sharing.{nothing_since, first_is_new}
use Rattle.esr_test_steps.proofs.both.sit_told.Goals as goal

pub new-requires-clause-before : goal.new-requires-clause-before
new-requires-clause-before g c = λ lives within. c.requires.picked

pub new-requires-2 : goal.new-requires-2
new-requires-2 g c = nothing_since g.B.Since.before c.new.result (c.new.ensures ∙ sym c.requires.picked)

pub sit_at-requires-clause-new : goal.sit_at-requires-clause-new
sit_at-requires-clause-new g c = λ lives within.
    first_is_new g.Q.Desk.start g.B.Since.before c.in-Ok.lock c.in-Ok.pass c.new.result c.in-Ok.ensures.ok (subst (Legal g.Q.Desk.start) (sym c.requires.picked) c.is_legal.ensures.legal)
    (λ quiet. subst NeverFailed (sym c.requires.picked) (c.never_fails.ensures quiet))

pub sit_at-requires-clause-all : goal.sit_at-requires-clause-all
sit_at-requires-clause-all g c = λ lives within. ap (λ (p : Seen). p.left) c.in-Ok.ensures.ok
