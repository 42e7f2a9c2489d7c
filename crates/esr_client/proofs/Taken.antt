-- A unit that is given.
use Rattle.std.proofs.Common.{◌≡◌, ℕ, Bool, true, false, ◌&&◌, List, [], ◌∷◌, map, Option, Some, None, option_map, refl, sym, ap, ◌∙◌, subst, inl, inr}
use Rattle.std.specs.Prelude.{if◌then◌else◌, ◌==◌}
use Rattle.std.proofs.lemmas.Bool.{eqb-true, and_parts}
use Rattle.std.specs.FinMap as fin
use Rattle.esr_model.specs.Finalize.{finalized_root}
use Rattle.esr_model.specs.Values.{Bytes, Has, IndexRef, RootData, SnapInfo, ShardResult, ReadsBack, Formats}
use Rattle.esr_core.specs.World.{World, Op, ShardWork, Done, AllDone, Work as UnitWork, Shard, Finalize, Deleting, Drop, Ticket, RestoreShard, Restoring, Reader, info_of, made_of}
use Rattle.esr_core.specs.Entry.{Given, GivenShard, GivenFinalize, GivenRestore, GivenClone, TakeStep, Gave, NothingReady, Moment}
use Rattle.esr_core.specs.Ready.{ReadyFinalize, AnyReady}
use Rattle.esr_core.specs.Restores.{restore_shard, reader_of as restore_reader}
use Rattle.esr_core.specs.Steps.{shard_ticket, final_ticket, plain_ticket}
use Rattle.esr_core.specs.After.{shard_of, taken_shard, taken_restore_shard, taken_restore, taken_by}
use Rattle.esr_core.specs.Allowed.{Gives, Giving, GivingNothing}
use Rattle.esr_core.specs.Tracked.{Tracked}
use Rattle.esr_core.specs.Turns.{cleaning_ticket}
use Rattle.esr_root.specs.Root.{Root}
use Rattle.esr_core.specs.Laws.RestoreShards.{shard_is as restore_found}
use Rattle.esr_formats.specs.Ids.{number_of}
use Rattle.esr_formats.specs.Roots.{root_of, root_kind}
use Rattle.esr_formats.specs.Infos.{info_of_code}
use Rattle.esr_results.specs.Results.{result_of}
use Rattle.esr_newroot.specs.NewRoot.{MayFinalize}
use Rattle.esr_ops.specs.declared.unit.Work.{Work}
use Rattle.esr_ops.specs.declared.unit.Work.TheVariants as works
use Rattle.esr_ops.specs.declared.unit.ReadyUnit.{ReadyUnit}
use Rattle.esr_ops.specs.Plan.{Plan, IsPlanOf}
use Rattle.esr_ops.specs.Units.{given_by, given_of, GivesWork, GivesUnit}
use Rattle.esr_desk.specs.Start.{Start, formats_of, world_of, or_no_ticket, ticket_of}
use Rattle.esr_desk.specs.Taken.{fresh, NewRoot, TookWork}
use Rattle.esr_desk.specs.Own.{or_no_reader, reader_of}
use Rattle.esr_desk.specs.Readers.{fresh_reader, ByWork, TookUnit, IsBareIn, IsBare, TookWork as TookReading}
use Rattle.esr_progress.specs.Based.{base_for, IsBased}
use Rattle.esr_client.specs.Given.{IsRootable, HasRoot, HasNoRoot}
use Rattle.esr_repo.specs.Next.{Added}
use Rattle.esr_repo.specs.May.{MayNote}
use Rattle.esr_repo.specs.Grown.{put_there, reader_there, added_world, added_ticket, added_reader}
use Rattle.esr_repo.specs.Stepping.{root_kind_is}

-- ---- no unit is ready

pub may_note_nothing : (s : Start) (log : List Moment) (next : ℕ) → (AnyReady (world_of s log) → ⊥) → next ≡ (world_of s log).next_id → MayNote s log 0 TakeStep NothingReady None next
may_note_nothing s log next none next_is = record { plain = refl; allows = λ image tells same. GivingNothing image none same; plan_is = λ image old h. h; next_is = λ image. next_is }

-- ---- the root of a finalization

-- the results of an op's shards are of its shards
each_result : (shards : List ShardWork) (results : List ShardResult) → AllDone shards results → ((s : ShardWork) (r : ShardResult) → Has shards s → s.state ≡ Done r → (r.index ≡ s.ref.id) × (r.shard ≡ s.number))
    → map {B = ℕ × ℕ} (λ (r : ShardResult). (r.index, r.shard)) results ≡ map {B = ℕ × ℕ} (λ (p : IndexRef × ℕ). (p.0.id, p.1)) (map {B = IndexRef × ℕ} (λ (s : ShardWork). (s.ref, s.number)) shards)
each_result [] [] done own = refl
each_result (s ∷ shards) (r ∷ results) done own =
    let here = own s r (inl refl) done.0 in
    let rest = each_result shards results done.1 (λ z q has. own z q (inr has)) in
    let first : (r.index, r.shard) ≡ (s.ref.id, s.number) = λ i. (here.0 i, here.1 i) in
    λ i. first i ∷ rest i
each_result shards results done own = absurd done

finalizable : (w : World) (o : ℕ) (op : Op) (results : List ShardResult) → Tracked w → ReadyFinalize w o op results → MayFinalize w.root (info_of op results) results
finalizable w o op results tracked ready = record {
  unlisted = λ s has. tracked.named.unlisted o op s ready.op_there has;
  indices = λ r x has there. tracked.named.rooted o op r x ready.op_there has there;
  each = each_result op.shards results ready.done (λ s r has done. tracked.named.results o op s r ready.op_there has done) ∙ ap (map {B = ℕ × ℕ} (λ (p : IndexRef × ℕ). (p.0.id, p.1))) (tracked.named.shards o op ready.op_there);
}

pub rootable : (w : World) (u : ReadyUnit) → Tracked w → GivesUnit w u → IsRootable u
rootable w u tracked gives info shards is =
    let work : GivesWork w u.op (works.Finalize info shards) u.copy = subst (λ (x : Work). GivesWork w u.op x u.copy) is gives.gives in
    let made = finalizable w u.op work.0 (map result_of shards) tracked work.1 in
    subst (λ (x : RootData). MayFinalize x (info_of_code info) (map result_of shards)) (sym gives.copy.root) (subst (λ (x : SnapInfo). MayFinalize w.root x (map result_of shards)) (sym work.2) made)

-- ---- it is given

given_so : (s : Start) (w : World) (u : ReadyUnit) (made : Option Root) → GivesUnit w u → HasRoot u made → Gives (formats_of s) w u.op (given_of u)
given_so s w u made gives has = go u.work refl gives.gives
  where
    go : (work : Work) → u.work ≡ work → GivesWork w u.op work u.copy → Gives (formats_of s) w u.op (given_by work u.copy)
    go works.Drop is h = h
    go (works.Delete uuids) is h = h
    go works.Cleanup is h = h
    go (works.Finalize info shards) is h =
        let root = has info shards is in
        let same : root_of root.root ≡ finalized_root w.root (info_of h.0 (map result_of shards)) (map result_of shards) =
        root.is ∙ ap (λ (x : RootData). finalized_root x (info_of_code info) (map result_of shards)) gives.copy.root ∙ ap (λ (x : SnapInfo). finalized_root w.root x (map result_of shards)) h.2 in
        record {
          op = h.0;
          ready = h.1;
          info_is = h.2;
          root_back = subst (λ kind. ReadsBack kind (finalized_root w.root (info_of h.0 (map result_of shards)) (map result_of shards))) (sym (root_kind_is s)) (subst (ReadsBack root_kind) same root.back);
        }
    go work is h = h.gives

next_restore : (w : World) (o index number : ℕ) (r : Option Restoring) → (taken_restore w o index number r).next_id ≡ w.next_id
next_restore w o index number None = refl
next_restore w o index number (Some r) = go (restore_shard r.shards index number)
  where
    go : (s : Option RestoreShard) → (taken_restore_shard w o r s).next_id ≡ w.next_id
    go None = refl
    go (Some s) = refl

next_shard : (w : World) (o : ℕ) (op : Op) (base : Option ℕ) (s : Option ShardWork) → (taken_shard w o op base s).next_id ≡ w.next_id
next_shard w o op base None = refl
next_shard w o op base (Some s) = refl

next_taken : (f : Formats) (w : World) (o : ℕ) (unit : Given) (op : Option Op) → (taken_by f w o unit op).next_id ≡ w.next_id
next_taken f w o (GivenShard index number base) (Some op) = next_shard w o op base (shard_of op.shards index number)
next_taken f w o (GivenClone index number source base) (Some op) = next_shard w o op base (shard_of op.shards index number)
next_taken f w o (GivenFinalize info results) (Some op) = refl
next_taken f w o (GivenRestore index number uuid) op = next_restore w o index number (fin.get w.restores o)
next_taken f w o unit op = refl

pub may_give : (s : Start) (log : List Moment) (u : ReadyUnit) (made : Option Root) (given : Given) (p : Plan) (next : ℕ) → GivesUnit (world_of s log) u → HasRoot u made → given ≡ given_of u
    → ((f : Formats) → IsPlanOf (taken_by f (world_of s log) u.op (given_of u) (fin.get (world_of s log).ops u.op)) p) → next ≡ (world_of s log).next_id → MayNote s log 0 TakeStep (Gave u.ticket u.op given) (Some p) next
may_give s log u made given p next gives has given_is plan next_is =
    subst (λ (x : Given). MayNote s log 0 TakeStep (Gave u.ticket u.op x) (Some p) next) (sym given_is)
    (record {
      plain = refl;
      allows = λ image tells same. Giving u.ticket u.op (given_of u) image gives.ticket gives.lowest (given_so s (world_of s log) u made gives has) same;
      plan_is = λ image old h. plan (formats_of s);
      next_is = λ image. next_is ∙ sym (next_taken (formats_of s) (world_of s log) u.op (given_of u) (fin.get (world_of s log).ops u.op));
    })

-- a take of a restore's shard leaves the safe root
rooted_restore : (w : World) (o index number : ℕ) (r : Option Restoring) → ((taken_restore w o index number r).safe ≡ w.safe) × ((taken_restore w o index number r).root ≡ w.root)
rooted_restore w o index number None = (refl, refl)
rooted_restore w o index number (Some r) = go (restore_shard r.shards index number)
  where
    go : (s : Option RestoreShard) → ((taken_restore_shard w o r s).safe ≡ w.safe) × ((taken_restore_shard w o r s).root ≡ w.root)
    go None = (refl, refl)
    go (Some s) = (refl, refl)

-- ---- its ticket

some_shard : (a b : ShardWork) → Some a ≡ Some b → a ≡ b
some_shard a b q = cc

no_shard : (b : ShardWork) → None ≡ Some b → ⊥
no_shard b q = cc

-- the shard that is found is of this index and number
shard_found : (shards : List ShardWork) (index number : ℕ) (s : ShardWork) → shard_of shards index number ≡ Some s → (s.ref.id ≡ index) × (s.number ≡ number)
shard_found [] index number s e = absurd (no_shard s e)
shard_found (z ∷ shards) index number s e = go ((z.ref.id == index) && (z.number == number)) refl e (shard_found shards index number s)
  where
    go : (b : Bool) → ((z.ref.id == index) && (z.number == number)) ≡ b → (if b then Some z else shard_of shards index number) ≡ Some s → (shard_of shards index number ≡ Some s → (s.ref.id ≡ index) × (s.number ≡ number))
        → (s.ref.id ≡ index) × (s.number ≡ number)
    go true is q rest =
        let h = and_parts (z.ref.id == index) (z.number == number) is in
        let same : z ≡ s = some_shard z s q in
        (ap (λ (x : ShardWork). x.ref.id) (sym same) ∙ eqb-true z.ref.id index h.0, ap (λ (x : ShardWork). x.number) (sym same) ∙ eqb-true z.number number h.1)
    go false is q rest = rest q

module _ (s : Start) (old new : List Moment) (u : ReadyUnit) (made : Option Root) (gives : GivesUnit (world_of s old) u) (has : HasRoot u made) where
  abbrev w : World
  w = world_of s old

  abbrev f : Formats
  f = formats_of s

  abbrev ticket_by : Given → Option Op → Ticket
  ticket_by unit op = or_no_ticket (fin.get (taken_by f w u.op unit op).tickets u.ticket)

  abbrev reader_by : Given → Option Op → Reader
  reader_by unit op = or_no_reader (fin.get (taken_by f w u.op unit op).readers u.ticket)

  put_reader : (q : Reader) → or_no_reader (fin.get (fin.insert w.readers w.next_ticket q) u.ticket) ≡ q
  put_reader q = ap (λ (k : ℕ). or_no_reader (fin.get (fin.insert w.readers w.next_ticket q) k)) gives.ticket ∙ ap or_no_reader (reader_there w.readers w.next_ticket q)

  put : (t : Ticket) → or_no_ticket (fin.get (fin.insert w.tickets w.next_ticket t) u.ticket) ≡ t
  put t = ap (λ (k : ℕ). or_no_ticket (fin.get (fin.insert w.tickets w.next_ticket t) k)) gives.ticket ∙ ap or_no_ticket (put_there w.tickets w.next_ticket t)

  shard_is : (op : Op) (z : ShardWork) (index number uuid : ℕ) (source base : Option ℕ) (name place : Bytes) → z.ref.id ≡ index → z.number ≡ number → uuid ≡ op.uuid → name ≡ z.ref.name → place ≡ z.place
      → op.source ≡ source → base ≡ option_map number_of u.copy.base
      → shard_ticket w u.op op z base ≡ record (fresh (Shard index number) u.op uuid place name w.term u.copy) { source = source }
  shard_is op z index number uuid source base name place index_is number_is uuid_is name_is place_is source_is base_is = λ i.
      record (fresh (Shard (index_is i) (number_is i)) u.op (sym uuid_is i) (sym place_is i) (sym name_is i) w.term u.copy) { source = source_is i; safe = sym gives.copy.safe i; root = sym gives.copy.root i; base = base_is i }

  final_is : (op : Op) (info : SnapInfo) (results : List ShardResult) → info ≡ info_of op results → None ≡ option_map number_of u.copy.base
      → final_ticket f w u.op op results ≡ fresh (Finalize info results (made_of f w.blobs op)) u.op info.uuid [] [] w.term u.copy
  final_is op info results info_is base_is = λ i.
      record (fresh (Finalize (sym info_is i) results (made_of f w.blobs op)) u.op (sym info_is i).uuid [] [] w.term u.copy) { safe = sym gives.copy.safe i; root = sym gives.copy.root i; base = base_is i }

  plain_is : (work : UnitWork) → None ≡ option_map number_of u.copy.base → plain_ticket w u.op work ≡ fresh work u.op 0 [] [] w.term u.copy
  plain_is work base_is = λ i. record (fresh work u.op 0 [] [] w.term u.copy) { safe = sym gives.copy.safe i; root = sym gives.copy.root i; base = base_is i }

  reader_is : (r : Restoring) (z : RestoreShard) (index number uuid : ℕ) (name place : Bytes) → z.ref.id ≡ index → z.number ≡ number → uuid ≡ r.uuid → name ≡ z.ref.name → place ≡ r.place
      → restore_reader u.op r z ≡ fresh_reader u.op uuid index number name place
  reader_is r z index number uuid name place index_is number_is uuid_is name_is place_is = λ i. fresh_reader u.op (sym uuid_is i) (index_is i) (number_is i) (sym name_is i) (sym place_is i)

  took_by : (work : Work) (t : Ticket) (q : Reader) → u.work ≡ work → GivesWork w u.op work u.copy → u.copy.base ≡ base_for work u.copy.base → t ≡ ticket_by (given_by work u.copy) (fin.get w.ops u.op)
      → q ≡ reader_by (given_by work u.copy) (fin.get w.ops u.op)
      → ByWork work (TookReading work u.op q) (TookWork work made u.op u.copy t)
  took_by (works.Shard uuid shard index place) t q is h base t_is q_is =
      let found = shard_found h.gives.op.shards shard.index.number shard.number h.gives.s h.gives.found in (
        w.term,
        t_is
            ∙ ap (ticket_by (GivenShard shard.index.number shard.number (option_map number_of u.copy.base))) h.gives.ready.op_there
            ∙ ap (λ (x : Option ShardWork). or_no_ticket (fin.get (taken_shard w u.op h.gives.op (option_map number_of u.copy.base) x).tickets u.ticket)) h.gives.found
            ∙ put (shard_ticket w u.op h.gives.op h.gives.s (option_map number_of u.copy.base))
            ∙ shard_is h.gives.op h.gives.s shard.index.number shard.number uuid.number None (option_map number_of u.copy.base) index place found.0 found.1 h.uuid_is h.name_is h.place_is h.gives.source_is refl,
        h.few,
      )
  took_by (works.CloneShard source uuid shard index) t q is h base t_is q_is =
      let found = shard_found h.gives.op.shards shard.index.number shard.number h.gives.s h.gives.found in (
        w.term,
        h.gives.s.place,
        t_is
            ∙ ap (ticket_by (GivenClone shard.index.number shard.number source.number (option_map number_of u.copy.base))) h.gives.ready.op_there
            ∙ ap (λ (x : Option ShardWork). or_no_ticket (fin.get (taken_shard w u.op h.gives.op (option_map number_of u.copy.base) x).tickets u.ticket)) h.gives.found
            ∙ put (shard_ticket w u.op h.gives.op h.gives.s (option_map number_of u.copy.base))
            ∙ shard_is h.gives.op h.gives.s shard.index.number shard.number uuid.number (Some source.number) (option_map number_of u.copy.base) index h.gives.s.place found.0 found.1 h.uuid_is h.name_is refl h.gives.source_is refl,
        h.few,
      )
  took_by (works.Finalize info shards) t q is h base t_is q_is =
      let root = has info shards is in (
        w.term,
        made_of f w.blobs h.0,
        t_is
            ∙ ap (ticket_by (GivenFinalize (info_of_code info) (map result_of shards))) h.1.op_there
            ∙ put (final_ticket f w u.op h.0 (map result_of shards))
            ∙ final_is h.0 (info_of_code info) (map result_of shards) h.2 (ap (option_map number_of) (sym base)),
        subst (λ (x : Option Root). NewRoot x (finalized_root (root_of u.copy.root) (info_of_code info) (map result_of shards))) (sym root.made_is) root.is,
      )
  took_by works.Drop t q is h base t_is q_is = (w.term, t_is ∙ put (plain_ticket w u.op Drop) ∙ plain_is Drop (ap (option_map number_of) (sym base)))
  took_by (works.RestoreShard uuid shard index place) t q is h base t_is q_is =
      let found = restore_found h.gives.r.shards shard.index.number shard.number h.gives.s h.gives.found in (
        q_is
            ∙ ap (λ (x : Option Restoring). or_no_reader (fin.get (taken_restore w u.op shard.index.number shard.number x).readers u.ticket)) h.gives.ready.there
            ∙ ap (λ (x : Option RestoreShard). or_no_reader (fin.get (taken_restore_shard w u.op h.gives.r x).readers u.ticket)) h.gives.found
            ∙ put_reader (restore_reader u.op h.gives.r h.gives.s)
            ∙ reader_is h.gives.r h.gives.s shard.index.number shard.number uuid.number index place found.0 found.1 h.gives.uuid_is h.name_is h.place_is,
        h.few,
      )
  took_by (works.Delete uuids) t q is h base t_is q_is =
      let work : UnitWork = Deleting (map number_of uuids) None in
      (w.term, t_is ∙ put (plain_ticket w u.op work) ∙ plain_is work (ap (option_map number_of) (sym base)))
  took_by works.Cleanup t q is h base t_is q_is =
      (w.term, t_is ∙ put (cleaning_ticket w u.op) ∙ ap (λ (x : Ticket). record x { clean = true }) (plain_is (Deleting [] None) (ap (option_map number_of) (sym base))))

  pub took : (given : Given) → IsBased u → given ≡ given_of u → Added s old new 0 TakeStep (Gave u.ticket u.op given) → TookUnit s new (record { ready = u; new_root = made })
  took given base given_is a =
      took_by u.work (ticket_of s new u.ticket) (reader_of s new u.ticket) refl gives.gives base
      (added_ticket s old new 0 TakeStep (Gave u.ticket u.op given) a u.ticket ∙ ap (λ (x : Given). ticket_by x (fin.get w.ops u.op)) given_is)
      (added_reader s old new 0 TakeStep (Gave u.ticket u.op given) a u.ticket ∙ ap (λ (x : Given). reader_by x (fin.get w.ops u.op)) given_is)

  -- the rest of a restore's unit
  bare_by : HasNoRoot u made → (given : Given) → given ≡ given_of u → Added s old new 0 TakeStep (Gave u.ticket u.op given) → (work : Work) → u.work ≡ work → u.copy.base ≡ base_for work u.copy.base
      → ByWork work (IsBareIn (world_of s new) (record { ready = u; new_root = made })) (Unit {0})
  bare_by none given given_is a (works.RestoreShard uuid shard index place) is base =
      let told : given ≡ GivenRestore shard.index.number shard.number uuid.number = given_is ∙ ap (λ (x : Work). given_by x u.copy) is in
      let same : taken_by f w u.op given (fin.get w.ops u.op) ≡ taken_restore w u.op shard.index.number shard.number (fin.get w.restores u.op) = ap (λ (x : Given). taken_by f w u.op x (fin.get w.ops u.op)) told in
      let world = added_world s old new 0 TakeStep (Gave u.ticket u.op given) a in
      let stays = rooted_restore w u.op shard.index.number shard.number (fin.get w.restores u.op) in
      let safe : (world_of s new).safe ≡ w.safe = ap (λ (x : World). x.safe) world ∙ ap (λ (x : World). x.safe) same ∙ stays.0 in
      let root : (world_of s new).root ≡ w.root = ap (λ (x : World). x.root) world ∙ ap (λ (x : World). x.root) same ∙ stays.1 in
      let writes_none : made ≡ None = none (λ info shards final. let same_work : works.RestoreShard uuid shard index place ≡ works.Finalize info shards = sym is ∙ final in cc) in
      record { new_root = writes_none; base = base; copy = record { safe = gives.copy.safe ∙ sym safe; root = gives.copy.root ∙ sym root } }
  bare_by none given given_is a work is base = tt

  pub bare : HasNoRoot u made → (given : Given) → IsBased u → given ≡ given_of u → Added s old new 0 TakeStep (Gave u.ticket u.op given) → IsBare s new (record { ready = u; new_root = made })
  bare none given base given_is a = bare_by none given given_is a u.work refl base
