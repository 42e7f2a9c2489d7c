-- Where no line asks for a snapshot nothing is asked of the sources.
use Rattle.std.proofs.Common.{◌≡◌, ℕ, List, ◌++◌, Option, Some, None, sym, ap, ◌∙◌, subst, nat_cmp}
use Rattle.std.specs.FinMap as fin
use Rattle.esr_model.specs.Values.{Bytes, Has, Formats, RootData, ClusterRecord}
use Rattle.esr_model.specs.Image.{Blobs}
use Rattle.esr_core.specs.World.{World, Op, opened}
use Rattle.esr_core.specs.Entry.{AskedIndex, Snapshot, Step, AskStep, Moment}
use Rattle.esr_core.specs.History.{IsLegal}
use Rattle.esr_core.specs.Tracked.{Tracked}
use Rattle.esr_law.specs.Digests.{AskNoSnapshot, AreClones}
use Rattle.esr_quiet.specs.Asked.{is_line_ask, as_asked, asked_steps}
use Rattle.esr_complete.specs.Lines.{steps_of_item, steps_of}
use Rattle.esr_complete.specs.ItemSteps.{only_step, snapshot_item}
use Rattle.esr_script.specs.declared.item.AskedIndex.{AskedIndex as LineIndex}
use Rattle.esr_script.specs.declared.item.Item.{Item}
use Rattle.esr_script.specs.declared.item.Item.TheVariants as items
use Rattle.esr_script.specs.declared.item.ScriptLine.{ScriptLine}
use Rattle.esr_run.specs.Laws.{Laws}
use Rattle.esr_run.specs.Sourceless.{AreWithoutSnapshot, NeedsNoSource}
use Rattle.esr_run.proofs.Completing.{asked_true, in_asked, in_wanted, of_line}

-- what another item asks for is no snapshot
none_asked : (moment : ℕ) (item : Item) (name : Bytes) (indices : List AskedIndex) (when : ℕ) → ((called : Bytes) (of : List LineIndex) → item ≡ items.Snapshot called of → ⊥)
    → Has (steps_of_item moment item) (AskStep (Snapshot name indices when)) → ⊥
none_asked moment item name indices when none h =
    let (of, is, same) = snapshot_item moment item name indices when (only_step moment item (AskStep (Snapshot name indices when)) h) in
    none name of is

asks_none : (moment : ℕ) (lines : List ScriptLine) (rest : List Step) (log : List Moment) → asked_steps log ++ rest ≡ steps_of moment lines → AreWithoutSnapshot lines → AskNoSnapshot log
asks_none moment lines rest log asked without m has who name indices when is =
    let step : Has (asked_steps log) (as_asked m.entry.step) = in_asked log m has (asked_true m.entry who (ap is_line_ask is)) in
    let from = of_line moment lines (as_asked m.entry.step) (in_wanted (asked_steps log) rest (steps_of moment lines) (as_asked m.entry.step) asked step) in
    none_asked moment from.line.item name indices when (λ called of e. without from.line called of from.there e) (subst (λ (x : Step). Has (steps_of_item moment from.line.item) (as_asked x)) is from.step_is)

-- the opened world has no open snapshot
opened_clones : (blobs : Blobs) (cluster : ClusterRecord) (root : RootData) → AreClones (opened blobs cluster root).ops
opened_clones blobs cluster root o op there none = none_some (sym (fin.get-empty nat_cmp o) ∙ there)
  where
    none_some : ◌≡◌ {A = Option Op} None (Some op) → ⊥
    none_some e = cc

pub needs_no_source : (laws : Laws) (f : Formats) (size moment : ℕ) (lines : List ScriptLine) (rest : List Step) (blobs : Blobs) (cluster : ClusterRecord) (root : RootData) (log : List Moment) → Tracked (opened blobs cluster root)
    → IsLegal f size (opened blobs cluster root) log
    → asked_steps log ++ rest ≡ steps_of moment lines → NeedsNoSource f (opened blobs cluster root) lines log
needs_no_source laws f size moment lines rest blobs cluster root log tracked legal asked without =
    let w : World = opened blobs cluster root in
    let none : AskNoSnapshot log = asks_none moment lines rest log asked without in
    record { known = laws.told f size w log tracked (opened_clones blobs cluster root) legal none; honest = laws.honest f size w log tracked (opened_clones blobs cluster root) legal none }
