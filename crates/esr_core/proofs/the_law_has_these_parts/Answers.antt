use Rattle.esr_core.proofs.the_law_has_these_parts.Goals as goal

pub returns : goal.returns
returns c = record {
  kept = λ f w shelf l. l.lawful.sound.rooted.kept;
  generations = λ f w shelf l. l.lawful.sound.carried;
  committed = λ f w shelf k t l there. l.lawful.sound.rooted.tickets k t there;
  shards = λ f w shelf l. l.written;
  metadata = λ f w shelf l. l.texts;
  doomed = λ f w shelf name l m. l.ids.doomed name m;
  one_swap = λ f w shelf j k l a b. l.lawful.queue.one_swap j k a b;
  queue = λ f w shelf l. l.lawful.queue;
  ids = λ f w shelf l. (l.ids, l.in_term);
}
