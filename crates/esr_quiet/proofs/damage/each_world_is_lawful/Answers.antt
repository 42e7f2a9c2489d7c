use Rattle.esr_desk.specs.Start.{formats_of}
use Rattle.esr_quiet.proofs.OverKept.{kept_front}
use Rattle.esr_quiet.proofs.damage.each_world_is_lawful.Goals as goal

pub returns : goal.returns
returns c = λ s log over.
    record {
      over = over;
      lawful = λ front back is.
          let h = kept_front s log over front back is in
          (_, c.each_history_is_lawful.ensures (formats_of s) s.part_size h.image h.shelf s.world front h.kept h.opened h.legal h.told);
    }
