use Rattle.std.proofs.Common.{List, ℕ, codes, subst}
use Rattle.esr_shardidx.specs.Written.{text_member, Adds}
use Rattle.esr_shardidx.proofs.Pieces.{one_added, adds_then}
use Rattle.esr_shardidx.proofs.writing.put_members.Goals as goal

pub returns : goal.returns
returns c =
    let key = one_added _ _ _ c.in_ok-key.ensures.room.0 c.in_ok-key.ensures.ok in
    let name = adds_then _ _ _ _ _ key c.in_ok-put_file.ensures in
    let physical = subst (λ (s : List ℕ). Adds c.put_number-2.new.out c.put_text.new.out (text_member (codes "physical_name") s)) c.as_str.ensures.text c.in_ok-put_text.ensures in
    let last = adds_then _ _ _ _ _ physical c.in_ok-put_digest.ensures in
    adds_then _ _ _ _ _ c.in_ok-put_number.ensures (adds_then _ _ _ _ _ name (adds_then _ _ _ _ _ c.in_ok-put_number-2.ensures last))
