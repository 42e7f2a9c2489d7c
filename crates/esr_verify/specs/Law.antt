-- The law of the core on which a verification rests, that of refusals aside.
use Rattle.std.specs.Prelude.{◌≡◌, true, false, List}
use Rattle.esr_model.specs.Values.{Formats}
use Rattle.esr_core.specs.World.{World}
use Rattle.esr_core.specs.Entry.{Moment}
use Rattle.esr_core.specs.History.{world_from}
use Rattle.esr_core.specs.Refusing.{SwapFailed}

-- a world that wasn't deposed is deposed only after a record swap that failed
abbrev pub DeposesSo : Type 0
DeposesSo = (f : Formats) (w : World) (log : List Moment) → w.deposed ≡ false → (world_from f w log).deposed ≡ true → SwapFailed log
