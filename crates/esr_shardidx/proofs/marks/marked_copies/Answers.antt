use Rattle.std.proofs.Common.{◌≡◌, ◌∷◌, [], ◌++◌, ◌+◌, ◌<◌, ℕ, List, length, drop, sym, ap, ◌∙◌, arith}
use Rattle.std.proofs.lemmas.List.{drop_all, append-nil}
use Rattle.esr_shardidx.specs.declared.entry.FileEntry.{FileEntry}
use Rattle.esr_shardidx.specs.Marks.{marked_of}
use Rattle.esr_shardidx.proofs.Marking.{marked_next}
use Rattle.esr_shardidx.proofs.marks.marked_copies.Goals as goal
use Rattle.esr_shardidx.proofs.marks.marked_copies.Goals.{then-marks-place-ne0+in_ok-try_clone+in_ok-push, else-marks-place-ne0}

pub loop-place-preserved : goal.loop-place-preserved
loop-place-preserved c =
    let es : List FileEntry = c.args.entries.now in
    let ms : List ℕ = c.args.marks.now in
    let i : ℕ = c.loop-place.place in
    let within : i < length es = omega arith in
    let next = marked_next es ms c.loop-place.copies i c.index-entries-place.result within c.requires c.index-entries-place.is c.loop-place.invariant in
    let rest : List FileEntry = marked_of (drop (i + 1) es) (drop (i + 1) ms) in
    elim c.if-marks-place-ne0.branch [
      | then-marks-place-ne0+in_ok-try_clone+in_ok-push w ↦
          let pushed = w.in_ok-push.ensures.ok ∙ ap (λ (e : FileEntry). c.loop-place.copies ++ e ∷ []) w.in_ok-try_clone.ensures in
          next.0 w.if-marks-place-ne0.true ∙ ap (λ (xs : List FileEntry). xs ++ rest) (sym (w.copies-is ∙ pushed))
      | else-marks-place-ne0 w ↦ next.1 w.if-marks-place-ne0.false ∙ ap (λ (xs : List FileEntry). xs ++ rest) (sym w.copies-is)
    ]

pub returns : goal.returns
returns c =
    let none : drop c.loop-place.place c.args.entries.now ≡ [] = drop_all c.loop-place.place c.args.entries.now (omega arith) in
    let ms : List ℕ = drop c.loop-place.place c.args.marks.now in
    sym (c.loop-place.invariant ∙ ap (λ (es : List FileEntry). c.loop-place.copies ++ marked_of es ms) none ∙ append-nil c.loop-place.copies)
