use Rattle.std.proofs.Common.{List, Option, [], ◌∷◌, sym, subst}
use Rattle.atomic_table.specs.Table.{opening}
use Rattle.esr_turns.specs.Rule.{Kept}
use Rattle.esr_turns.specs.Views.{newcomer}
use Rattle.esr_turns.proofs.Keeps.{begins}
use Rattle.esr_turns.proofs.lock.TurnLock.new.Goals as goal

pub new-requires : goal.new-requires
new-requires g c =
    let P : List (Option g.row.T.Denot) × g.row.T.Denot → Type 0 = λ y. Kept g.T.Logged.history g.T.Logged.of g.T.Logged.gave (opening (0 ∷ 0 ∷ 0 ∷ []) y.0 (newcomer y.1)) in
    subst P (λ i. (sym c.in_ok-slots.ensures.ok i, sym c.of-first.ensures i)) (begins g.T.Logged.history g.T.Logged.of g.T.Logged.gave c.args.value c.requires)
