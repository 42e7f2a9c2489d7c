-- A caller that may begin a verification.
use Rattle.std.specs.Prelude.{◌≡◌}
use Rattle.esr_core.specs.World.{Caller, no_caller}

-- it has at most looked: it has fetched nothing since, and no verification is open
abbrev pub IsIdle : Caller → Type 0
IsIdle c = c ≡ record no_caller { looked = c.looked }
