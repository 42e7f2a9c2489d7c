use Rattle.std.proofs.Common.{◌≡◌, ◌∷◌, [], ◌++◌, ◌+◌, ◌<◌, ◌||◌, ℕ, List, length, take, replicate, refl, rules, sym, ap, ◌∙◌, subst, arith}
use Rattle.std.proofs.lemmas.List.{take_more}
use Rattle.esr_names.specs.declared.ids.Id.{Id}
use Rattle.esr_shardidx.specs.declared.index.SnapList.{SnapList}
use Rattle.esr_shardidx.specs.Indices.{is_named}
use Rattle.esr_shardidx.specs.Marks.{AreMarked, is_among}
use Rattle.esr_shardidx.proofs.Marking.{AreMarked-none, AreMarked-list}
use Rattle.esr_shardidx.proofs.change.marks_of.Goals as goal

pub loop-list-init : goal.loop-list-init
loop-list-init c =
    let zeros : c.in_ok-marks.marks.items ≡ replicate {A = ℕ} (length c.args.entries.now) 0 = search rules in
    subst (λ (ms : List ℕ). AreMarked (is_named []) c.args.entries.now ms) (sym zeros) (AreMarked-none c.args.entries.now (length c.args.entries.now) refl)

pub loop-list-preserved : goal.loop-list-preserved
loop-list-preserved c =
    let i : ℕ = c.loop-list.list-index in
    let lists : List SnapList = c.args.lists.now in
    let l : SnapList = c.list-item.result in
    let within : i < length lists = omega arith in
    let front : take (i + 1) lists ≡ take i lists ++ l ∷ [] = take_more lists i l within ∙ ap (λ (x : SnapList). take i lists ++ x ∷ []) (sym c.list-item.is) in
    let marked = c.mark_files.ensures (is_named (take i lists)) c.loop-list.invariant in
    let own = subst (λ (us : List Id). AreMarked (λ e. is_named (take i lists) e || is_among us e) c.args.entries.now c.mark_files.new.marks.items) c.as_slice.ensures marked in
    subst (λ (ls : List SnapList). AreMarked (is_named ls) c.args.entries.now c.mark_files.new.marks.items) (sym front) (AreMarked-list c.args.entries.now (take i lists) l c.mark_files.new.marks.items own)
