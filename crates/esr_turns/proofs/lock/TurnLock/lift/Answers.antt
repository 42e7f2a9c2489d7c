use Rattle.std.proofs.Common.{rules, ◌≡◌, ℕ, List, Option, Some, ◌∷◌, sym, refl, subst}
use Rattle.atomic_table.specs.Table.{rest}
use Rattle.esr_turns.proofs.lock.TurnLock.lift.Goals as goal

pub exchange-requires : goal.exchange-requires
exchange-requires g c =
    let full = c.requires.full in
    let P : List (ℕ × Option g.row.T.Denot) → Type 0 = λ l. l ≡ (0, Some full.0) ∷ rest l in
    (search rules, (Some full.0, subst P (sym full.1) refl))
