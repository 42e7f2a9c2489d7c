use Rattle.std.proofs.Common.{◌≡◌, ◌∷◌, [], ◌++◌, ◌+◌, ◌<◌, ℕ, List, Bool, true, false, not, length, take, filter, refl, sym, ap, ◌∙◌, arith}
use Rattle.std.proofs.lemmas.List.{take_more, append_assoc, append-nil}
use Rattle.std.proofs.lemmas.List.Elements.{filter-append}
use Rattle.esr_shardidx.specs.declared.entry.FileEntry.{FileEntry}
use Rattle.esr_shardidx.specs.Indices.{has_file}
use Rattle.esr_shardidx.proofs.change.add_fresh.Goals as goal
use Rattle.esr_shardidx.proofs.change.add_fresh.Goals.{then-not-is_there+in_ok-try_clone+in_ok-push, else-not-is_there}

pub loop-entry-preserved : goal.loop-entry-preserved
loop-entry-preserved c =
    let i : ℕ = c.loop-entry.entry-index in
    let more : List FileEntry = c.args.more.now in
    let e : FileEntry = c.entry-item.result in
    let q : FileEntry → Bool = λ x. not (has_file c.args.entries.now x.name) in
    let old : List FileEntry = c.args.files.now.items in
    let within : i < length more = omega arith in
    let front : take (i + 1) more ≡ take i more ++ e ∷ [] = take_more more i e within ∙ ap (λ (x : FileEntry). take i more ++ x ∷ []) (sym c.entry-item.is) in
    let split : filter q (take (i + 1) more) ≡ filter q (take i more) ++ filter q (e ∷ []) = ap (filter q) front ∙ filter-append q (take i more) (e ∷ []) in
    let before : c.loop-entry.files.items ≡ old ++ filter q (take i more) = c.loop-entry.invariant in
    elim c.if-not-is_there.branch [
      | then-not-is_there+in_ok-try_clone+in_ok-push w ↦
          let absent : has_file c.args.entries.now e.name ≡ false = sym c.is_there.ensures ∙ w.if-not-is_there.true in
          let one : filter q (e ∷ []) ≡ e ∷ [] = rw absent refl in
          let pushed : c.if-not-is_there.files.items ≡ c.loop-entry.files.items ++ e ∷ [] =
          ap (λ (v : _). v.items) w.files-is ∙ w.in_ok-push.ensures.items ∙ ap (λ (x : FileEntry). c.loop-entry.files.items ++ x ∷ []) w.in_ok-try_clone.ensures in
          pushed ∙ ap (λ (xs : List FileEntry). xs ++ e ∷ []) before ∙ append_assoc old (filter q (take i more)) (e ∷ [])
          ∙ ap (λ (xs : List FileEntry). old ++ (filter q (take i more) ++ xs)) (sym one) ∙ ap (λ (xs : List FileEntry). old ++ xs) (sym split)
      | else-not-is_there w ↦
          let there : has_file c.args.entries.now e.name ≡ true = sym c.is_there.ensures ∙ w.if-not-is_there.false in
          let none : filter q (e ∷ []) ≡ [] = rw there refl in
          ap (λ (v : _). v.items) w.files-is ∙ before ∙ ap (λ (xs : List FileEntry). old ++ xs) (sym (split ∙ ap (λ (xs : List FileEntry). filter q (take i more) ++ xs) none ∙ append-nil (filter q (take i more))))
    ]
