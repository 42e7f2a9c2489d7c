use Rattle.std.proofs.Common.{◌≡◌, ◌∷◌, [], ◌++◌, ◌+◌, ℕ, List, Ok, drop, map, sym, ap, ◌∙◌, subst, arith}
use Rattle.serde_json.specs.Data.{Data}
use Rattle.serde_json.specs.View.{view}
use Rattle.esr_shardidx.specs.declared.entry.FileEntry.{FileEntry}
use Rattle.esr_shardidx.specs.Entries.{entry_of, last_of}
use Rattle.esr_shardidx.specs.Indices.{Rises, is_at, index_files_from}
use Rattle.esr_shardidx.proofs.ReadSteps.{values_from, index_file_again, index_file_new}
use Rattle.esr_shardidx.proofs.reading.index_files_of.Goals as goal

pub returns-then-id_stays-clause-gives : goal.returns-then-id_stays-clause-gives
returns-then-id_stays-clause-gives c =
    let files : List FileEntry = c.loop-value.files in
    let i : ℕ = c.loop-value.value-index in
    let rest : List Data = map view (drop (i + 1) c.args.values.now) in
    let next = values_from c.args.values.now i c.value-item.result (omega arith) c.value-item.is in
    let read : entry_of files [] (view c.value-item.result) ≡ Ok c.in_ok-entry.entry = subst (λ (es : List FileEntry). entry_of es [] (view c.value-item.result) ≡ Ok c.in_ok-entry.entry) c.as_slice.ensures c.in_ok-entry.ensures in
    let last = ap (λ (es : List FileEntry). is_at c.in_ok-entry.entry.name (last_of es)) (sym c.as_slice-in-loop-value.ensures) ∙ sym c.id_stays.ensures ∙ c.if-id_stays.true in
    c.loop-value.invariant.1 ∙ ap (index_files_from files) next ∙ index_file_again files (view c.value-item.result) rest c.in_ok-entry.entry c.loop-value.invariant.0 read last

pub loop-value-preserved : goal.loop-value-preserved
loop-value-preserved c =
    let files : List FileEntry = c.loop-value.files in
    let i : ℕ = c.loop-value.value-index in
    let rest : List Data = map view (drop (i + 1) c.args.values.now) in
    let next = values_from c.args.values.now i c.value-item.result (omega arith) c.value-item.is in
    let read : entry_of files [] (view c.value-item.result) ≡ Ok c.in_ok-entry.entry = subst (λ (es : List FileEntry). entry_of es [] (view c.value-item.result) ≡ Ok c.in_ok-entry.entry) c.as_slice.ensures c.in_ok-entry.ensures in
    let last = ap (λ (es : List FileEntry). is_at c.in_ok-entry.entry.name (last_of es)) (sym c.as_slice-in-loop-value.ensures) ∙ sym c.id_stays.ensures ∙ c.if-id_stays.false in
    let new = index_file_new files (view c.value-item.result) rest c.in_ok-entry.entry c.loop-value.invariant.0 read last in
    let pushed : c.push.new.self ≡ files ++ c.in_ok-entry.entry ∷ [] = c.in_ok-push.ensures.ok in (
      subst (λ (es : List FileEntry). Rises es) (sym pushed) new.0,
      c.loop-value.invariant.1 ∙ ap (index_files_from files) next ∙ new.1 ∙ ap (λ (es : List FileEntry). index_files_from es rest) (sym pushed),
    )
