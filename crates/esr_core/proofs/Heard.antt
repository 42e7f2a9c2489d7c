-- What a moment makes of what was done so far.
use Rattle.std.proofs.Common.{refl}
use Rattle.esr_model.specs.Values.{Formats}
use Rattle.esr_core.specs.World.{World}
use Rattle.esr_core.specs.Past.{with_entry}
use Rattle.esr_core.specs.Entry.{Moment}
use Rattle.esr_core.specs.After.{caller_after, stepped, after}
use Rattle.esr_core.specs.Laws.Asides.{Aside}
use Rattle.esr_core.proofs.Besides.{aside_called}

-- it changes nothing else
pub aside_heard : (f : Formats) (w : World) (m : Moment) → Aside (stepped f w m) (after f w m)
aside_heard f w m = aside_called (stepped f w m) (after f w m) (caller_after f (stepped f w m).caller m.entry.who m.entry.step m.entry.reply m.image) (with_entry w.entries m.entry) refl
