use Rattle.esr_targets.proofs.Laws.{ReaderLaws, ShelfLaws}
use Rattle.esr_targets.proofs.Targets.{are_of_lines}
use Rattle.esr_targets.proofs.law.each_target_is_of_its_line.Goals as goal

pub returns : goal.returns
returns g c = λ e s moment lines log rest restored tracked reads legal numbered same targets.
    let laws : ReaderLaws = record {
      takes = c.answers_tell_their_steps.ensures.gave;
      began = c.answers_tell_their_steps.ensures.began;
      tracked = c.each_history_is_tracked.ensures;
      read_tracked = c.each_history_tracks_restores.ensures;
      given = c.readers_stay_as_given.ensures.given;
      stay = c.readers_stay_as_given.ensures.stay;
      of = c.readers_are_of_their_ask.ensures.of;
      apart = c.readers_are_of_their_ask.ensures.apart;
      one_id = c.readers_are_of_their_ask.ensures.one_id;
      numbered = c.readers_are_of_their_ask.ensures.numbered;
      rises = c.readers_are_of_their_ask.ensures.rises;
      once = c.no_shard_is_restored_twice.ensures;
    } in
    let shelf_laws : ShelfLaws = record {
      opening = c.opening_is_lawful.ensures;
      opened_reads = c.opened_restores_are_lawful.ensures;
      lawful = c.each_history_is_lawful.ensures;
      gives = c.restores_give_the_shelf_of_their_ask.ensures;
      asked = c.asked_snapshots_are_on_the_shelf.ensures;
    } in
    are_of_lines laws shelf_laws s tracked reads log legal e moment lines rest numbered same restored targets
