use Rattle.std.proofs.Common.{◌≡◌, Bool, true, refl, sym, ap, ◌∙◌, subst}
use Rattle.esr_quiet.specs.Asked.{GrewAsking}
use Rattle.esr_quiet.specs.Asking.{asking_none}
use Rattle.esr_complete.specs.Lines.{steps_of_item}
use Rattle.esr_script.specs.declared.item.Item.{Item}
use Rattle.esr_script.specs.declared.item.Kind.TheVariants as kinds
use Rattle.esr_script.specs.Kinds.{kind_of, is_check}
use Rattle.esr_run.specs.Made.{LineMade, AddsOnly}
use Rattle.esr_run.specs.Verified.{MayVerify, VerifiesOn}
use Rattle.esr_run.proofs.Alone.{asks_same}
use Rattle.esr_run.proofs.Taking.{asks_elect}
use Rattle.esr_run.proofs.Waiting.{check_is, verify_is, failover_is, asks_adds}
use Rattle.esr_run.proofs.carry.carry_step.Goals as goal

-- ---- one step

pub returns-in-Ask-clause-made : goal.returns-in-Ask-clause-made
returns-in-Ask-clause-made g c = c.ask_item.ensures.made

pub returns-in-Ask-clause-rests : goal.returns-in-Ask-clause-rests
returns-in-Ask-clause-rests g c rest = (c.ask_item.ensures.asked c.requires.alone).rests rest

pub returns-in-Ask-clause-spent : goal.returns-in-Ask-clause-spent
returns-in-Ask-clause-spent g c = (c.ask_item.ensures.asked c.requires.alone).spent

pub returns-in-Ask-clause-checked : goal.returns-in-Ask-clause-checked
returns-in-Ask-clause-checked g c check = let both : kinds.Ask ≡ kinds.Check = sym c.in-Ask.is ∙ c.kind.ensures ∙ ap kind_of check in absurd cc

pub returns-in-Ask-clause-takes : goal.returns-in-Ask-clause-takes
returns-in-Ask-clause-takes g c = (c.ask_item.ensures.asked c.requires.alone).takes

pub returns-in-Ask-clause-elects : goal.returns-in-Ask-clause-elects
returns-in-Ask-clause-elects g c = asks_elect (g.Q.Desk.seen c.args.desk.now) (g.Q.Desk.seen c.ask_item.new.desk) (c.ask_item.ensures.asked c.requires.alone).only

pub returns-in-Ask-clause-begun : goal.returns-in-Ask-clause-begun
returns-in-Ask-clause-begun g c verify = let both : kinds.Ask ≡ kinds.Verify = sym c.in-Ask.is ∙ c.kind.ensures ∙ ap kind_of verify in absurd cc

pub returns-in-Ask-clause-only : goal.returns-in-Ask-clause-only
returns-in-Ask-clause-only g c = asks_adds c.args.item.now (g.Q.Desk.seen c.args.desk.now) (g.Q.Desk.seen c.ask_item.new.desk) (sym c.kind.ensures ∙ c.in-Ask.is) (c.ask_item.ensures.asked c.requires.alone).only

pub returns-in-Ask-clause-verified : goal.returns-in-Ask-clause-verified
returns-in-Ask-clause-verified g c checks asks may = (c.ask_item.ensures.asked c.requires.alone).verified c.args.workers checks may

-- ---- a check

pub returns-in-Check-clause-made : goal.returns-in-Check-clause-made
returns-in-Check-clause-made g c =
    subst (λ (i : Item). LineMade g.Q.Desk.start (steps_of_item c.args.moment i) (g.Q.Desk.seen c.args.desk.now) (g.Q.Desk.seen c.check.new.desk) c.check.result)
    (sym (check_is c.args.item.now (sym c.kind.ensures ∙ c.in-Check.is))) c.check.ensures.made

pub returns-in-Check-clause-checked : goal.returns-in-Check-clause-checked
returns-in-Check-clause-checked g c check = c.check.ensures.checked

pub returns-in-Check-clause-begun : goal.returns-in-Check-clause-begun
returns-in-Check-clause-begun g c verify = let both : kinds.Check ≡ kinds.Verify = sym c.in-Check.is ∙ c.kind.ensures ∙ ap kind_of verify in absurd cc

pub returns-in-Check-clause-only : goal.returns-in-Check-clause-only
returns-in-Check-clause-only g c = subst (λ (i : Item). AddsOnly i (g.Q.Desk.seen c.args.desk.now) (g.Q.Desk.seen c.check.new.desk)) (sym (check_is c.args.item.now (sym c.kind.ensures ∙ c.in-Check.is))) tt

pub returns-in-Check-clause-verified : goal.returns-in-Check-clause-verified
returns-in-Check-clause-verified g c checks asks may =
    let yes_check : true ≡ checks = sym (asks (ap is_check (check_is c.args.item.now (sym c.kind.ensures ∙ c.in-Check.is)))) in
    subst (λ (b : Bool). VerifiesOn g.Q.Desk.start c.args.workers b (g.Q.Desk.seen c.check.new.desk) c.check.result) yes_check
    (c.check.ensures.verified c.args.workers (subst (λ (b : Bool). MayVerify g.Q.Desk.start c.args.workers b (g.Q.Desk.seen c.args.desk.now)) (sym yes_check) may))

-- ---- a verification

pub returns-in-Verify-clause-made : goal.returns-in-Verify-clause-made
returns-in-Verify-clause-made g c =
    subst (λ (i : Item). LineMade g.Q.Desk.start (steps_of_item c.args.moment i) (g.Q.Desk.seen c.args.desk.now) (g.Q.Desk.seen c.verify.new.desk) c.verify.result)
    (sym (verify_is c.args.item.now (sym c.kind.ensures ∙ c.in-Verify.is))) c.verify.ensures.made

pub returns-in-Verify-clause-checked : goal.returns-in-Verify-clause-checked
returns-in-Verify-clause-checked g c check = let both : kinds.Verify ≡ kinds.Check = sym c.in-Verify.is ∙ c.kind.ensures ∙ ap kind_of check in absurd cc

pub returns-in-Verify-clause-begun : goal.returns-in-Verify-clause-begun
returns-in-Verify-clause-begun g c verify = c.verify.ensures.begun

pub returns-in-Verify-clause-only : goal.returns-in-Verify-clause-only
returns-in-Verify-clause-only g c = subst (λ (i : Item). AddsOnly i (g.Q.Desk.seen c.args.desk.now) (g.Q.Desk.seen c.verify.new.desk)) (sym (verify_is c.args.item.now (sym c.kind.ensures ∙ c.in-Verify.is))) tt

pub returns-in-Verify-clause-verified : goal.returns-in-Verify-clause-verified
returns-in-Verify-clause-verified g c checks asks may = c.verify.ensures.verified checks may

-- ---- a failover

pub returns-in-Failover-clause-made : goal.returns-in-Failover-clause-made
returns-in-Failover-clause-made g c =
    subst (λ (i : Item). GrewAsking g.Q.Desk.start (steps_of_item c.args.moment i) (g.Q.Desk.seen c.args.desk.now) (g.Q.Desk.seen c.args.desk.now))
    (sym (failover_is c.args.item.now (sym c.kind.ensures ∙ c.in-Failover.is))) (asking_none g.Q.Desk.start (g.Q.Desk.seen c.args.desk.now))

pub returns-in-Failover-clause-checked : goal.returns-in-Failover-clause-checked
returns-in-Failover-clause-checked g c check = let both : kinds.Failover ≡ kinds.Check = sym c.in-Failover.is ∙ c.kind.ensures ∙ ap kind_of check in absurd cc

pub returns-in-Failover-clause-begun : goal.returns-in-Failover-clause-begun
returns-in-Failover-clause-begun g c verify = let both : kinds.Failover ≡ kinds.Verify = sym c.in-Failover.is ∙ c.kind.ensures ∙ ap kind_of verify in absurd cc

pub returns-in-Failover-clause-only : goal.returns-in-Failover-clause-only
returns-in-Failover-clause-only g c =
    subst (λ (i : Item). AddsOnly i (g.Q.Desk.seen c.args.desk.now) (g.Q.Desk.seen c.args.desk.now))
    (sym (failover_is c.args.item.now (sym c.kind.ensures ∙ c.in-Failover.is))) (asks_same (g.Q.Desk.seen c.args.desk.now) (g.Q.Desk.seen c.args.desk.now) refl)
