use Rattle.std.proofs.Common.{◌≡◌, [], ◌∷◌, map, ap, sym, ◌∙◌, subst}
use Rattle.std.proofs.lemmas.Result.{on_ok_weaker}
use Rattle.esr_model.specs.Names.{ShardIndex}
use Rattle.esr_model.specs.Values.{Bytes, ShardFiles}
use Rattle.esr_model.specs.Delete.{surviving}
use Rattle.esr_formats.specs.Ids.{number_of}
use Rattle.esr_formats.specs.Shards.{shard_index_of, shard_index_kind}
use Rattle.esr_desk.specs.Start.{ticket_of}
use Rattle.esr_finish.specs.Ticket.{MayStore, Puts}
use Rattle.esr_finish.specs.Runs.{went_not}
use Rattle.esr_delete.proofs.Fetching.{index_laid}
use Rattle.esr_delete.proofs.indices.write_index.Goals as goal

pub returns-in_err-index-clause-went : goal.returns-in_err-index-clause-went
returns-in_err-index-clause-went g c = went_not g.Q.Desk.start (g.Q.Desk.seen c.args.desk.now) c.args.ticket

pub returns-in_err-text-clause-went : goal.returns-in_err-text-clause-went
returns-in_err-text-clause-went g c = went_not g.Q.Desk.start (g.Q.Desk.seen c.args.desk.now) c.args.ticket

pub put-requires-clause-layout : goal.put-requires-clause-layout
put-requires-clause-layout g c κs within = index_laid c.args.shard c.args.id c.requires.few

pub put-requires-clause-may : goal.put-requires-clause-may
put-requires-clause-may g c κs within =
    let s = g.Q.Desk.start in
    let text = λ (v : ShardFiles). shard_index_kind.text v in
    let text_is : c.as_slice.result.now ≡ shard_index_kind.text (surviving (map number_of c.args.uuids.now) (shard_index_of c.args.index.now)) = c.as_slice.ensures ∙ c.in_ok-text.ensures.text ∙ ap text c.in_ok-index.ensures in
    subst (λ (b : Bytes). MayStore s (ticket_of s (g.Q.Desk.seen c.args.desk.now) c.args.ticket) (ShardIndex c.args.shard.index.number c.args.shard.number c.args.id.number) b) (sym text_is) c.requires.may

pub returns-clause-ok : goal.returns-clause-ok
returns-clause-ok g c =
    let s = g.Q.Desk.start in
    let text = λ (v : ShardFiles). shard_index_kind.text v in
    let text_is : c.as_slice.result.now ≡ shard_index_kind.text (surviving (map number_of c.args.uuids.now) (shard_index_of c.args.index.now)) = c.as_slice.ensures ∙ c.in_ok-text.ensures.text ∙ ap text c.in_ok-index.ensures in
    on_ok_weaker c.put.result
    (λ puts. subst (λ (b : Bytes). Puts s (g.Q.Desk.seen c.args.desk.now) (g.Q.Desk.seen c.put.new.desk) c.args.ticket ((ShardIndex c.args.shard.index.number c.args.shard.number c.args.id.number, b) ∷ [])) text_is puts) c.put.ensures.ok
