-- A run of which no line asks for a snapshot asks nothing of the sources.
use Rattle.std.specs.Prelude.{◌≡◌, List}
use Rattle.esr_model.specs.Values.{Bytes, Has, Formats}
use Rattle.esr_core.specs.World.{World}
use Rattle.esr_core.specs.Entry.{Moment}
use Rattle.esr_script.specs.declared.item.AskedIndex.{AskedIndex}
use Rattle.esr_script.specs.declared.item.Item.TheVariants as items
use Rattle.esr_script.specs.declared.item.ScriptLine.{ScriptLine}
use Rattle.esr_run.specs.Images.{TellsWork}

-- no line asks for a snapshot
abbrev pub AreWithoutSnapshot : List ScriptLine → Type 0
AreWithoutSnapshot lines = (line : ScriptLine) (name : Bytes) (indices : List AskedIndex) → Has lines line → line.item ≡ items.Snapshot name indices → ⊥

-- then what each image asks of sources and digests holds, whatever they are
abbrev pub NeedsNoSource : Formats → World → List ScriptLine → List Moment → Type 0
NeedsNoSource f world lines log = AreWithoutSnapshot lines → TellsWork f world log
