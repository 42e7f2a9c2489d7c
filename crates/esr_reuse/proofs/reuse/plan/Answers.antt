use Rattle.std.proofs.Common.{◌≡◌, ◌+◌, List, [], ◌∷◌, ◌++◌, take, slice_index_or, map, refl, sym, ◌∙◌, ap, subst}
use Rattle.std.proofs.lemmas.List.{take_more}
use Rattle.esr_formats.specs.Shards.{entry_of}
use Rattle.esr_reuse.specs.declared.reuse.ReadFile.{ReadFile}
use Rattle.esr_reuse.specs.declared.reuse.Planned.{Planned}
use Rattle.esr_reuse.specs.Plans.{IsPlan}
use Rattle.esr_reuse.proofs.Found.{plan_more}
use Rattle.esr_reuse.proofs.reuse.plan.Goals as goal

pub loop-file-preserved : goal.loop-file-preserved
loop-file-preserved c =
    let base = map entry_of c.args.base.now.files in
    let files = c.args.files.now in
    let i = c.loop-file.file-index in
    let f = c.file-item.result in
    let p : Planned = record { physical = c.in_ok-try_clone.field-0; print = f.print; reused = c.in_ok-reusable.field-0 } in
    let front = take_more files i f c.loop-file-test.true ∙ sym (ap (λ (x : ReadFile). take i files ++ x ∷ []) c.file-item.is) in
    let more = plan_more base (take i files) c.loop-file.plans f p c.loop-file.invariant c.in_ok-try_clone.ensures refl c.in_ok-reusable.ensures in
    subst (λ (fs : List ReadFile). IsPlan base fs c.push.new.self) (sym front)
    (subst (λ (ps : List Planned). IsPlan base (take i files ++ f ∷ []) ps) (sym c.in_ok-push.ensures.ok) more)
