use Rattle.std.proofs.Common.{◌≡◌, ℕ, Option, Some, None, option_map, inl, ◌∙◌, sym, ap, subst}
use Rattle.std.specs.Option.{option_copied}
use Rattle.esr_core.specs.World.{Ticket}
use Rattle.esr_names.specs.declared.ids.Id.{Id}
use Rattle.esr_formats.specs.Ids.{number_of}
use Rattle.esr_formats.specs.Shards.{shard_index_of}
use Rattle.esr_desk.specs.Start.{ticket_of}
use Rattle.esr_upload.specs.Base.{HasFetched}
use Rattle.esr_upload.specs.Runs.{went_none}
use Rattle.esr_upload.proofs.Faults.{no_index, list_ahead, was_ahead, read_at}
use Rattle.esr_upload.proofs.unit.base_of.Goals as goal

-- ---- there is no base

pub returns-in-None-clause-based : goal.returns-in-None-clause-based
returns-in-None-clause-based g c =
    no_index g.Q.Desk.start c.args.at.index.number c.args.at.number c.args.uuid (ticket_of g.Q.Desk.start (g.Q.Desk.seen c.args.desk.now) c.args.ticket) c.new.result
    (c.requires.base ∙ ap (λ (o : Option Id). option_map number_of o) c.in-None.is) c.new.ensures

pub returns-in-None-clause-went : goal.returns-in-None-clause-went
returns-in-None-clause-went g c = went_none g.Q.Desk.start (g.Q.Desk.seen c.args.desk.now) c.args.ticket

pub returns-in-None-clause-tells : goal.returns-in-None-clause-tells
returns-in-None-clause-tells g c = c.requires.tells

pub returns-in-None-clause-fetched : goal.returns-in-None-clause-fetched
returns-in-None-clause-fetched g c = subst (λ (o : Option Id). HasFetched (g.Q.Desk.seen c.args.desk.now) c.args.ticket c.args.at.index.number c.args.at.number o) (sym c.in-None.is) tt

-- ---- there is one

pub read_base-requires-clause-base : goal.read_base-requires-clause-base
read_base-requires-clause-base g c κs within = c.requires.base ∙ ap (λ (o : Option Id). option_map number_of o) c.in-Some.is

pub returns-in-Some-list-clause-trouble : goal.returns-in-Some-list-clause-trouble
returns-in-Some-list-clause-trouble g c =
    let s = g.Q.Desk.start in
    let who = c.args.ticket in
    let i = c.args.at.index.number in
    let k = c.args.at.number in
    let log = g.Q.Desk.seen c.read_base.new.desk in
    let old = ticket_of s (g.Q.Desk.seen c.args.desk.now) who in
    let new = ticket_of s log who in
    let index = c.in_ok-index.index in
    let has = c.in_ok-index.ensures.based in
    let base : new.base ≡ Some c.in-Some.generation.number =
    ap (λ (t : Ticket). t.base) has.is ∙ c.requires.base ∙ ap (λ (o : Option Id). option_map number_of o) c.in-Some.is in (
      was_ahead s log who i k c.in-Some.generation.number c.args.uuid.number index (read_at s old new i k (shard_index_of index) has c.requires.at) base c.in_ok-index.ensures.found has.based
          c.files.ensures.whole
          (inl (list_ahead new c.args.uuid index c.in-Some-list.field-0.now (ap (λ (t : Ticket). t.uuid) has.is ∙ c.requires.uuid) (sym c.list.ensures ∙ ap option_copied c.in-Some-list.is))),
      tt,
    )

pub returns-in-None-list-clause-fetched : goal.returns-in-None-list-clause-fetched
returns-in-None-list-clause-fetched g c =
    subst (λ (o : Option Id). HasFetched (g.Q.Desk.seen c.read_base.new.desk) c.args.ticket c.args.at.index.number c.args.at.number o) (sym c.in-Some.is) c.in_ok-index.ensures.found

pub returns-in-None-list-clause-based : goal.returns-in-None-list-clause-based
returns-in-None-list-clause-based g c =
    let has = c.in_ok-index.ensures.based in
    record {
      has_base = has;
      none = λ none.
          let both : ◌≡◌ {A = Option ℕ} None (Some c.in-Some.generation.number) =
          sym none ∙ ap (λ (t : Ticket). t.base) has.is ∙ c.requires.base ∙ ap (λ (o : Option Id). option_map number_of o) c.in-Some.is in
          absurd cc;
      whole = c.files.ensures.whole;
      unlisted = sym c.list.ensures ∙ ap option_copied c.in-None-list.is;
    }
