use Rattle.std.proofs.Common.{◌≡◌, ◌∷◌, [], ◌++◌, ◌+◌, ℕ, List, Ok, true, false, drop, map, sym, ap, ◌∙◌, subst, arith, refl}
use Rattle.std.specs.List.{list_any}
use Rattle.std.proofs.lemmas.Bool.{not-true, not-false}
use Rattle.serde_json.specs.Data.{Data}
use Rattle.serde_json.specs.View.{view}
use Rattle.esr_shardidx.specs.declared.entry.FileEntry.{FileEntry}
use Rattle.esr_shardidx.specs.Entries.{entry_of}
use Rattle.esr_shardidx.specs.Snapshots.{has_name, snap_files_from}
use Rattle.esr_shardidx.proofs.Repeats.{Holds, Holds-none, Holds-push}
use Rattle.esr_shardidx.proofs.ReadSteps.{values_from, snap_file_again, snap_file_new}
use Rattle.esr_shardidx.proofs.reading.snap_files_of.Goals as goal

pub returns-then-not-branch : goal.returns-then-not-branch
returns-then-not-branch c =
    let i : ℕ = c.loop-value.value-index in
    let rest : List Data = map view (drop (i + 1) c.args.values.now) in
    let files : List FileEntry = c.loop-value.files in
    let next = values_from c.args.values.now i c.value-item.result (omega arith) c.value-item.is in
    let read : entry_of [] files (view c.value-item.result) ≡ Ok c.in_ok-entry.entry = subst (λ (es : List FileEntry). entry_of [] es (view c.value-item.result) ≡ Ok c.in_ok-entry.entry) c.as_slice.ensures c.in_ok-entry.ensures in
    let there : list_any (has_name c.in_ok-entry.entry.name) files ≡ true = sym (c.loop-value.invariant.0 c.in_ok-entry.entry.name.number) ∙ not-false _ (sym c.in_ok-insert.ensures.added ∙ c.if-not-branch.true) in
    c.loop-value.invariant.1 ∙ ap (snap_files_from files) next ∙ snap_file_again files (view c.value-item.result) rest c.in_ok-entry.entry read there

pub loop-value-preserved : goal.loop-value-preserved
loop-value-preserved c =
    let i : ℕ = c.loop-value.value-index in
    let rest : List Data = map view (drop (i + 1) c.args.values.now) in
    let files : List FileEntry = c.loop-value.files in
    let next = values_from c.args.values.now i c.value-item.result (omega arith) c.value-item.is in
    let read : entry_of [] files (view c.value-item.result) ≡ Ok c.in_ok-entry.entry = subst (λ (es : List FileEntry). entry_of [] es (view c.value-item.result) ≡ Ok c.in_ok-entry.entry) c.as_slice.ensures c.in_ok-entry.ensures in
    let new : list_any (has_name c.in_ok-entry.entry.name) files ≡ false = sym (c.loop-value.invariant.0 c.in_ok-entry.entry.name.number) ∙ not-true _ (sym c.in_ok-insert.ensures.added ∙ c.if-not-branch.false) in
    let pushed : c.push.new.self ≡ files ++ c.in_ok-entry.entry ∷ [] = c.in_ok-push.ensures.ok in
    let key : FileEntry → ℕ = λ e. e.name.number in (
      subst (λ (es : List FileEntry). Holds key c.insert.new.self es) (sym pushed) (Holds-push key c.loop-value.ids c.insert.new.self files c.in_ok-entry.entry c.loop-value.invariant.0 c.in_ok-insert.ensures.updates),
      c.loop-value.invariant.1 ∙ ap (snap_files_from files) next ∙ snap_file_new files (view c.value-item.result) rest c.in_ok-entry.entry read new ∙ ap (λ (es : List FileEntry). snap_files_from es rest) (sym pushed),
    )
