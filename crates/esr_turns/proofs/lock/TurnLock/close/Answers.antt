use Rattle.std.proofs.Common.{Option, ◌+◌, sym, ap, ◌∙◌, unwrap_or}
use mathlib.Core.Option.{some-injective}
use Rattle.esr_turns.specs.Places.{places_from}
use Rattle.esr_turns.specs.Passes.{Holder}
use Rattle.esr_turns.proofs.Keeps.{closes}
use Rattle.esr_turns.proofs.lock.TurnLock.close.Goals as goal

pub unreachable-requires : goal.unreachable-requires
unreachable-requires g c =
    let all = ap (λ (h : Holder g.row.T.Denot g.row.T-Event.Denot). h.left + h.used) c.pass.view_is ∙ c.requires.all in
    let last = closes _ _ _ _ _ _ _ c.close_with-closed.ensures.values.2 c.pass.invariant.1 all in
    c.in_default.not-Some last.0 (some-injective _ _ (sym c.take-slot.ensures.value ∙ last.1))

pub returns-clause-history : goal.returns-clause-history
returns-clause-history g c =
    let all = ap (λ (h : Holder g.row.T.Denot g.row.T-Event.Denot). h.left + h.used) c.pass.view_is ∙ c.requires.all in
    let last = closes _ _ _ _ _ _ _ c.close_with-closed.ensures.values.2 c.pass.invariant.1 all in
    let same = sym c.in-Some.is ∙ some-injective _ _ (sym c.take-slot.ensures.value ∙ last.1) in
    ap (λ (o : Option g.row.T.Denot). g.T.Logged.history (unwrap_or o last.0)) same ∙ last.2 ∙ ap (λ (h : Holder g.row.T.Denot g.row.T-Event.Denot). h.seen) c.pass.view_is

pub returns-clause-mine : goal.returns-clause-mine
returns-clause-mine g c =
    let all = ap (λ (h : Holder g.row.T.Denot g.row.T-Event.Denot). h.left + h.used) c.pass.view_is ∙ c.requires.all in
    let last = closes _ _ _ _ _ _ _ c.close_with-closed.ensures.values.2 c.pass.invariant.1 all in
    ap (λ (h : Holder g.row.T.Denot g.row.T-Event.Denot). h.mine) (sym c.pass.view_is) ∙ last.3 ∙ ap (λ (h : Holder g.row.T.Denot g.row.T-Event.Denot). places_from 0 h.seen) c.pass.view_is

pub returns-clause-value : goal.returns-clause-value
returns-clause-value g c =
    let all = ap (λ (h : Holder g.row.T.Denot g.row.T-Event.Denot). h.left + h.used) c.pass.view_is ∙ c.requires.all in
    let last = closes _ _ _ _ _ _ _ c.close_with-closed.ensures.values.2 c.pass.invariant.1 all in
    let same = sym c.in-Some.is ∙ some-injective _ _ (sym c.take-slot.ensures.value ∙ last.1) in
    ap (λ (h : Holder g.row.T.Denot g.row.T-Event.Denot). h.put) (sym c.pass.view_is) ∙ last.4 ∙ sym same
