use Rattle.std.proofs.Common.{◌≡◌, ℕ, List, ◌∷◌, ◌++◌, sym, ap, ◌∙◌, append_assoc}
use Rattle.std.specs.Vec.Iter.{into_iter_items}
use Rattle.esr_desk.specs.declared.target.RestoredTarget.{RestoredTarget}
use Rattle.esr_targets.specs.declared.target.Restored.{Restored}
use Rattle.esr_targets.specs.Listed.{line_of, listed_at, listed}
use Rattle.esr_targets.proofs.list.listed.Goals as goal

-- one target more, under its line if it has one
listed_more : {T : Type 0} (ops : List (ℕ × ℕ)) (all found next kept : List (Restored T)) (left rest : List (RestoredTarget T)) (r : RestoredTarget T) → left ≡ r ∷ rest → kept ≡ listed_at r (line_of ops r.op) → next ≡ found ++ kept
    → all ≡ found ++ listed ops left → all ≡ next ++ listed ops rest
listed_more {T} ops all found next kept left rest r first at pushed so_far =
    so_far ∙ ap (λ (rs : List (RestoredTarget T)). found ++ listed ops rs) first ∙ sym (append_assoc found (listed_at r (line_of ops r.op)) (listed ops rest))
    ∙ ap (λ (l : List (Restored T)). (found ++ l) ++ listed ops rest) (sym at) ∙ ap (λ (l : List (Restored T)). l ++ listed ops rest) (sym pushed)

pub loop-filled-preserved : goal.loop-filled-preserved
loop-filled-preserved g c =
    listed_more c.args.ops.now (listed c.args.ops.now c.args.restored) c.loop-filled.found.items c.keep.new.list.items _ (into_iter_items c.loop-filled.filled-iterator) (into_iter_items c.next.new.self) c.in-Some.filled
    c.in-Some.ensures.steps.0 c.listed_at.ensures c.in_ok-keep.ensures c.loop-filled.invariant
