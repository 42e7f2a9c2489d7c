-- What alone may stop the opening of an image that a run, or a crash in it, leaves.
use Rattle.std.specs.Prelude.{◌≡◌, ◌-◌, ◌^◌}
use Rattle.esr_opening.specs.Found.{Obstacle, Damage, LastTerm}

-- the last term, which is no damage
abbrev pub IsNoDamage : Obstacle → Type 0
IsNoDamage (Damage name why) = ⊥
IsNoDamage (LastTerm term) = term ≡ 2 ^ 63 - 1
