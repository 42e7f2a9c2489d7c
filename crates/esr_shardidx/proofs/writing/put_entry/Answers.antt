use Rattle.esr_shardidx.specs.Entries.{entry_data}
use Rattle.esr_shardidx.proofs.Pieces.{one_added, adds_then}
use Rattle.esr_shardidx.proofs.writing.put_entry.Goals as goal

pub returns : goal.returns
unfolding entry_data
returns c =
    let begin = one_added _ _ _ c.in_ok-begin_object.ensures.room.0 c.in_ok-begin_object.ensures.ok in
    let end = one_added _ _ _ c.in_ok-end_object.ensures.room.0 c.in_ok-end_object.ensures.ok in
    adds_then _ _ _ _ _ begin (adds_then _ _ _ _ _ c.in_ok-put_members.ensures end)
