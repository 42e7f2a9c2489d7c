use Rattle.esr_desk.specs.Start.{formats_of}
use Rattle.esr_quiet.proofs.Alone.{all_alone}
use Rattle.esr_quiet.proofs.Core.{CoreLaws}
use Rattle.esr_quiet.proofs.Freeing.{histories_free}
use Rattle.esr_quiet.specs.PrefixLaws.{smooth_front}
use Rattle.esr_quiet.proofs.law.each_world_is_free.Goals as goal

pub returns : goal.returns
returns c = λ s log smooth.
    let laws : CoreLaws = record { opened = c.opening_is_lawful.ensures; lawful = c.each_history_is_lawful.ensures; tracked = c.each_history_is_tracked.ensures; ranked = c.each_history_is_ranked.ensures } in
    record {
      lawful = λ front back is.
          let h = smooth_front s log smooth front back is in
          (_, laws.lawful (formats_of s) s.part_size h.image h.shelf s.world front h.kept h.opened h.legal h.told);
      free = λ front back is.
          let h = smooth_front s log smooth front back is in
          histories_free laws (formats_of s) s.part_size h.image h.shelf s.world front h.kept h.opened h.legal h.told h.calm (all_alone c.each_step_is_one_change.ensures s front h.image h.opened h.tests_apart);
    }
