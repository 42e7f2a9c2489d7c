use Rattle.std.proofs.Common.{◌≡◌, ◌+◌, ℕ, List, [], replicate, rules, subst, sym}
use Rattle.esr_shardidx.specs.declared.index.SnapList.{SnapList}
use Rattle.esr_shardidx.specs.Marks.{AreMarks}
use Rattle.esr_shardidx.proofs.Repeats.{Holds-none}
use Rattle.esr_shardidx.proofs.Marking.{AreMarks-none}
use Rattle.esr_shardidx.proofs.marks.Named.new.Goals as goal

pub returns : goal.returns
returns c =
    let zeros : c.in_ok-vec.field-0.items ≡ replicate {A = ℕ} c.args.len 0 = search rules in
    λ files len. record {
      uuids = Holds-none (λ (l : SnapList). l.uuid.number) _ c.new.ensures.empty;
      marks = subst (λ (ms : List ℕ). AreMarks files [] [] 1 ms) (sym zeros) (AreMarks-none files c.args.len len);
    }
