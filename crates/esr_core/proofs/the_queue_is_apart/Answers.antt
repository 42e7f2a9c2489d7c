use Rattle.esr_core.proofs.the_queue_is_apart.Goals as goal

pub returns : goal.returns
returns c = record {
  one = λ f w shelf j k t u index shard l a b ao bo ai bi. l.lawful.sound.carried.one_shard j k t u a b ao bo index shard ai bi;
  behind = λ f w shelf o op s l e b m. l.lawful.queue.behind o op s e b m;
  source = λ f w shelf o u op l e is. (l.lawful.queue.sources o op u e is).0;
  sole = λ f w shelf l. l.lawful.queue.sole;
}
