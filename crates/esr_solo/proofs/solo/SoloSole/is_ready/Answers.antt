use Rattle.std.proofs.Common.{◌≡◌, ◌+◌, ◌^◌, true, false, List, IfOk, length, subst, arith}
use Rattle.esr_core.specs.Ready.{AnyReady}
use Rattle.esr_core.specs.Entry.{Moment}
use Rattle.esr_desk.specs.Start.{world_of}
use Rattle.esr_solo.proofs.solo.SoloSole.is_ready.Goals as goal

pub is_ready-requires : goal.is_ready-requires
is_ready-requires g c =
    let turns : length c.self.inside.repo + c.self.inside.left ≡ 2 ^ 40 = c.self.invariant.0 in
    record { room = omega (arith, turns) }

pub returns-clause-ready : goal.returns-clause-ready
returns-clause-ready g c =
    subst (λ (log : List Moment). IfOk c.is_ready.result (λ any. any ≡ true → (world_of g.K.Told.start log).deposed ≡ false → AnyReady (world_of g.K.Told.start log))) c.self.view_is c.is_ready.ensures.ready

pub returns-clause-none : goal.returns-clause-none
returns-clause-none g c =
    subst (λ (log : List Moment). IfOk c.is_ready.result (λ any. any ≡ false → AnyReady (world_of g.K.Told.start log) → ⊥)) c.self.view_is c.is_ready.ensures.none
