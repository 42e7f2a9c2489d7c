-- A name that a finalization finds there has its text, so it counts as committed; and each turn keeps the texts of metadata.
use Rattle.std.proofs.Common.{◌≡◌, ◌⊎◌, ℕ, ◌<◌, List, [], ◌∷◌, true, false, Option, Some, None, map, refl, sym, ap, ◌∙◌, subst, inl, inr, arith}
use Rattle.std.specs.FinMap as fin
use Rattle.std.proofs.lemmas.Option.{same_Some, none-some}
use Rattle.esr_core.specs.Laws.NumberMaps.{was_in, left_in, split_at}
use Rattle.esr_core.specs.Laws.ShardStates.{pending_done, out_done}
use Rattle.esr_model.specs.Names.{BlobName, Root, Snap, IndexMeta, ShardIndex}
use Rattle.esr_model.specs.Values.{Bytes, Has, SnapInfo, ShardResult, Formats}
use Rattle.esr_model.specs.Shelf.{Shelved, Command}
use Rattle.esr_model.specs.Image.{IsStored, Blobs, At}
use Rattle.esr_model.specs.Kept.{IdsBelow}
use Rattle.esr_core.specs.World.{World, Op, ShardWork, Done, Work, Shard, Finalize, Deleting, Drop, Ticket, Swap, swap, swap_of, AllDone, info_of, metadata, marked, HeldIn, ledger_of}
use Rattle.esr_core.specs.Steps.{CommitExists, MayCommit, ShardCommits, Remove, reading, listing, writing, noting, given, final_ticket, shard_ticket, plain_ticket}
use Rattle.esr_core.specs.Swaps.{TicketLaw, SwapLaw, IsUnsettled, Counts}
use Rattle.esr_core.specs.Texts.{IsMetaOf, Texted}
use Rattle.esr_core.specs.Sound.{Sound}
use Rattle.esr_core.specs.Ids.{Law}
use Rattle.esr_core.specs.Turns.{Aborts, fails, cleaning_ticket, Turn, Stays, Commits, CommitFails, Finds, Raises, Latests, Fetches, SettlesFinal, SettlesDelete, Elects, TakesShard, TakesFinal, TakesDrop, TakesDelete, TakesCleanup, AsksCleanup, CleanDrops, DrawsShard, DrawsPlan, Dones, Ending, Fails, FailsDelete, Drops, AsksCreate, AsksDelete, Merges, Removing, Pages, Deposes, Besides, Tests, TestTurn, DrawsTest, AddsTest, RemovesTests}
use Rattle.esr_core.proofs.Testing.{tests_meta}
use Rattle.esr_core.proofs.Besides.{aside_of, kept_aside}
use Rattle.esr_core.proofs.Evolving.{all_done_on, failed_leaves}
use Rattle.esr_core.specs.Laws.BlobFrames.{at_was}
use Rattle.esr_core.proofs.Tickets.{each_ticket, swapping_was}
use Rattle.esr_core.proofs.Same.{carried_same}
use Rattle.esr_core.proofs.Law.{noting_same, fresh_same}
use Rattle.esr_core.specs.Laws.Metadata.{Kinds, IsSnap, IsMeta, IsIndex, kinds}
use Rattle.esr_core.specs.Laws.DoneShards.{done_of, done_same}
use Rattle.esr_core.proofs.LatestPut.{put_law}
use Rattle.esr_core.specs.Laws.Maps.{Ops, Tickets}

-- the metadata of a snapshot have names of its uuid
meta_name : (f : Formats) (info : SnapInfo) (name : BlobName) (b : Bytes) → Has (metadata f info) (name, b) → IsMetaOf info.uuid name
meta_name f info name b m = go (kinds f info name b m)
  where
    go : Kinds f info name b → IsMetaOf info.uuid name
    go (IsSnap e t) = inl e
    go (IsMeta e t) = inr (inl e)
    go (IsIndex r q e t) = inr (inr (r.id, e))

-- a metadata name is that of one snapshot
one_uuid : (u v : ℕ) (name : BlobName) → IsMetaOf u name → IsMetaOf v name → u ≡ v
one_uuid u v name (inl a) (inl b) = cc
one_uuid u v name (inl a) (inr (inl b)) = cc
one_uuid u v name (inl a) (inr (inr b)) = let e = b.1 in cc
one_uuid u v name (inr (inl a)) (inl b) = cc
one_uuid u v name (inr (inl a)) (inr (inl b)) = cc
one_uuid u v name (inr (inl a)) (inr (inr b)) = let e = b.1 in cc
one_uuid u v name (inr (inr a)) (inl b) = let e = a.1 in cc
one_uuid u v name (inr (inr a)) (inr (inl b)) = let e = a.1 in cc
one_uuid u v name (inr (inr a)) (inr (inr b)) = let e = a.1 in let h = b.1 in cc

-- a root's name is none
root_meta : (u n : ℕ) → IsMetaOf u (Root n) → ⊥
root_meta u n (inl e) = cc
root_meta u n (inr (inl e)) = cc
root_meta u n (inr (inr e)) = let h = e.1 in cc

-- nor is that of a shard's blob
shard_meta : (t : Ticket) (u : ℕ) (name : BlobName) → ShardCommits t name → IsMetaOf u name → ⊥
shard_meta t u name c (inl e) = subst (ShardCommits t) e c
shard_meta t u name c (inr (inl e)) = subst (ShardCommits t) e c
shard_meta t u name c (inr (inr e)) = subst (ShardCommits t) e.1 c

index_meta : (u i s g : ℕ) → IsMetaOf u (ShardIndex i s g) → ⊥
index_meta u i s g (inl e) = cc
index_meta u i s g (inr (inl e)) = cc
index_meta u i s g (inr (inr e)) = let h = e.1 in cc

final_same : (a b : SnapInfo) (rs qs : List ShardResult) (m n : Command) → Finalize a rs m ≡ Finalize b qs n → a ≡ b
final_same a b rs qs m n e = cc

-- the results of an op that is done are one list
results_one : (shards : List ShardWork) (a b : List ShardResult) → AllDone shards a → AllDone shards b → a ≡ b
results_one [] [] [] p q = refl
results_one [] (x ∷ a) b p q = absurd p
results_one (s ∷ ss) [] b p q = absurd p
results_one (s ∷ ss) (x ∷ a) (y ∷ b) p q = λ i. done_same x y (sym p.0 ∙ q.0) i ∷ results_one ss a b p.1 q.1 i
results_one shards a b p q = absurd q

-- an op with a shard that isn't done is not all done
not_done : (shards : List ShardWork) (results : List ShardResult) (s : ShardWork) → Has shards s → ((r : ShardResult) → s.state ≡ Done r → ⊥) → AllDone shards results → ⊥
not_done shards results s m not all = let (r, state, there) = done_of shards results all s m in not r state

module _ (f : Formats) (blobs : Blobs) (ops : Ops) (tickets : Tickets) (x : Texted f blobs ops tickets) where
  -- tickets of the same units
  texted_tickets : (now : Tickets) → ((j : ℕ) (u : Ticket) → fin.get now j ≡ Some u → (i : ℕ) × (v : Ticket) × (fin.get tickets i ≡ Some v) × (u.work ≡ v.work)) → Texted f blobs ops now
  texted_tickets now back =
      record {
        swaps = λ k t info rs made e is. let b = back k t e in x.swaps b.0 b.1 info rs made b.2 (sym b.3 ∙ is);
        ops = x.ops;
        agree = λ k t info rs made o op e is. let b = back k t e in x.agree b.0 b.1 info rs made o op b.2 (sym b.3 ∙ is);
        one = λ j k t u a c rs qs m n e h is has. let b = back j t e in let d = back k u h in x.one b.0 d.0 b.1 d.1 a c rs qs m n b.2 d.2 (sym b.3 ∙ is) (sym d.3 ∙ has);
        plans = λ k t uuids s e is. let b = back k t e in x.plans b.0 b.1 uuids s b.2 (sym b.3 ∙ is);
      }

  -- one given anew
  pub texted_again : (k : ℕ) (t v : Ticket) → fin.get tickets k ≡ Some t → v.work ≡ t.work → Texted f blobs ops (fin.insert tickets k v)
  texted_again k t v there same = texted_tickets (fin.insert tickets k v) (λ j u e. elim (was_in tickets k v j u e) [
    | inl z ↦ (k, t, there, ap (λ (y : Ticket). y.work) (sym z.1) ∙ same)
    | inr z ↦ (j, u, z.1, refl)
  ])

  -- a new one, of a unit that is no finalization and has no swap yet
  pub texted_plain : (k : ℕ) (v : Ticket) → ((info : SnapInfo) (rs : List ShardResult) (made : Command) → v.work ≡ Finalize info rs made → ⊥)
      → ((uuids : List ℕ) (s : Swap) → v.work ≡ Deleting uuids (Some s) → (name : BlobName) (b : Bytes) → Has s.own (name, b) → (u : ℕ) → IsMetaOf u name → ⊥) → Texted f blobs ops (fin.insert tickets k v)
  texted_plain k v never plan =
      record {
        swaps = λ j t info rs made e is. elim (was_in tickets k v j t e) [ inl z ↦ absurd (never info rs made (ap (λ (y : Ticket). y.work) z.1 ∙ is)) | inr z ↦ x.swaps j t info rs made z.1 is ];
        ops = x.ops;
        agree = λ j t info rs made o op e is. elim (was_in tickets k v j t e) [ inl z ↦ absurd (never info rs made (ap (λ (y : Ticket). y.work) z.1 ∙ is)) | inr z ↦ x.agree j t info rs made o op z.1 is ];
        one = λ i j t u a c rs qs m n e h is has. elim (was_in tickets k v i t e) [
          | inl z ↦ absurd (never a rs m (ap (λ (y : Ticket). y.work) z.1 ∙ is))
          | inr z ↦ elim (was_in tickets k v j u h) [ inl y ↦ absurd (never c qs n (ap (λ (y : Ticket). y.work) y.1 ∙ has)) | inr y ↦ x.one i j t u a c rs qs m n z.1 y.1 is has ]
        ];
        plans = λ j t uuids s e is. elim (was_in tickets k v j t e) [ inl z ↦ plan uuids s (ap (λ (y : Ticket). y.work) z.1 ∙ is) | inr z ↦ x.plans j t uuids s z.1 is ];
      }

  -- other blobs, of which none is new metadata
  pub texted_blobs : (now : Blobs) → ((name : BlobName) (b : Bytes) → At f now name b → At f blobs name b ⊎ ((u : ℕ) → IsMetaOf u name → ⊥)) → Texted f now ops tickets
  texted_blobs now was =
      record {
        swaps = λ k t info rs made e is name b m at. elim (was name b at) [ inl old ↦ x.swaps k t info rs made e is name b m old | inr never ↦ absurd (never info.uuid m) ];
        ops = λ o op e name b m at. elim (was name b at) [ inl old ↦ x.ops o op e name b m old | inr never ↦ absurd (never op.uuid m) ];
        agree = x.agree;
        one = x.one;
        plans = x.plans;
      }

  -- ops that were, which give the same once they are done
  pub texted_ops : (now : Ops) → ((o : ℕ) (op : Op) → fin.get now o ≡ Some op
      → (p : ℕ) × (old : Op) × (fin.get ops p ≡ Some old) × (old.uuid ≡ op.uuid) × ((rs : List ShardResult) → AllDone old.shards rs → AllDone op.shards rs × (info_of op rs ≡ info_of old rs))) → Texted f blobs now tickets
  texted_ops now back =
      record {
        swaps = x.swaps;
        ops = λ o op e name b m at.
            let z = back o op e in
            let old = x.ops z.0 z.1 z.2 name b (subst (λ u. IsMetaOf u name) (sym z.3) m) at in
            let same = z.4 old.results old.done in
            record { results = old.results; done = same.0; gives = subst (λ (i : SnapInfo). Has (metadata f i) (name, b)) (sym same.1) old.gives };
        agree = λ k t info rs made o op e is h u.
            let z = back o op h in
            let old = x.agree k t info rs made z.0 z.1 e is z.2 (u ∙ sym z.3) in
            let same = z.4 old.results old.done in
            record { results = old.results; done = same.0; info_is = old.info_is ∙ sym same.1 };
        one = x.one;
        plans = x.plans;
      }

module _ (f : Formats) (w : World) (shelf : List Shelved) (l : Law f w shelf) (x : Texted f w.blobs w.ops w.tickets) where
  -- a blob that a finalization writes is what its op gives
  final_committed : (name : BlobName) (bytes : Bytes) (valid : IsStored f name) (absent : fin.get w.blobs (f.names.text name) ≡ None) (k : ℕ) (t : Ticket) → fin.get w.tickets k ≡ Some t
      → (info : SnapInfo) (results : List ShardResult) (made : Command) → t.work ≡ Finalize info results made → Has (metadata f info) (name, bytes) → Texted f (fin.insert w.blobs (f.names.text name) bytes) w.ops w.tickets
  final_committed name bytes valid absent k t there info results made work own =
      record {
        swaps = λ j u its rs m e is n b meta at. elim (at_was f w.blobs name bytes valid absent [] n b at) [
          | inr was ↦ x.swaps j u its rs m e is n b meta was
          | inl it ↦
              let same : info ≡ its = x.one k j t u info its results rs made m there e work is (one_uuid info.uuid its.uuid n (subst (IsMetaOf info.uuid) (sym it.0) mine) meta) in
              subst (λ (i : SnapInfo). Has (metadata f i) (n, b)) same (given_as n b it.0 it.1)
        ];
        ops = λ o op e n b meta at. elim (at_was f w.blobs name bytes valid absent [] n b at) [
          | inr was ↦ x.ops o op e n b meta was
          | inl it ↦
              let is = x.agree k t info results made o op there work e (one_uuid info.uuid op.uuid n (subst (IsMetaOf info.uuid) (sym it.0) mine) meta) in
              record { results = is.results; done = is.done; gives = subst (λ (i : SnapInfo). Has (metadata f i) (n, b)) is.info_is (given_as n b it.0 it.1) }
        ];
        agree = x.agree;
        one = x.one;
        plans = x.plans;
      }
    where
      mine : IsMetaOf info.uuid name
      mine = meta_name f info name bytes own

      given_as : (n : BlobName) (b : Bytes) → n ≡ name → bytes ≡ b → Has (metadata f info) (n, b)
      given_as n b e same = subst (λ q. Has (metadata f info) (q, b)) (sym e) (subst (λ c. Has (metadata f info) (name, c)) same own)

  -- a blob that is no metadata
  plain_committed : (name : BlobName) (bytes : Bytes) (valid : IsStored f name) (absent : fin.get w.blobs (f.names.text name) ≡ None) → ((u : ℕ) → IsMetaOf u name → ⊥)
      → Texted f (fin.insert w.blobs (f.names.text name) bytes) w.ops w.tickets
  plain_committed name bytes valid absent none =
      texted_blobs f w.blobs w.ops w.tickets x (fin.insert w.blobs (f.names.text name) bytes) (λ n b at. elim (at_was f w.blobs name bytes valid absent [] n b at) [
        | inr was ↦ inl was
        | inl it ↦ inr (λ u m. none u (subst (IsMetaOf u) it.0 m))
      ])

  pub may_commit : (name : BlobName) (bytes : Bytes) (valid : IsStored f name) (absent : fin.get w.blobs (f.names.text name) ≡ None) (k : ℕ) (t : Ticket) → fin.get w.tickets k ≡ Some t → MayCommit f t name bytes
      → Texted f (fin.insert w.blobs (f.names.text name) bytes) w.ops w.tickets
  may_commit name bytes valid absent k t there (inr c) = plain_committed name bytes valid absent (λ u. shard_meta t u name c.1)
  may_commit name bytes valid absent k t there (inl (s, is, inr (n, e, root))) = plain_committed name bytes valid absent (λ u m. root_meta u n (subst (IsMetaOf u) e m))
  may_commit name bytes valid absent k t there (inl (s, is, inl own)) = go t.work refl
    where
      go : (work : Work) → t.work ≡ work → Texted f (fin.insert w.blobs (f.names.text name) bytes) w.ops w.tickets
      go (Finalize info results made) e =
          let same = same_Some _ _ (ap (λ y. swap_of f y t.root) (sym e) ∙ is) in
          final_committed name bytes valid absent k t there info results made e (subst (λ (z : Swap). Has z.own (name, bytes)) (sym same) own)
      go (Deleting uuids plan) e =
          let planned : plan ≡ Some s = ap (λ y. swap_of f y t.root) (sym e) ∙ is in
          plain_committed name bytes valid absent (x.plans k t uuids s there (e ∙ ap (Deleting uuids) planned) name bytes own)
      go work e = absurd (none-some s (ap (λ y. swap_of f y t.root) (sym e) ∙ is))

  -- a finalization that is taken
  pub final_taken : (o : ℕ) (op : Op) (results : List ShardResult) → fin.get w.ops o ≡ Some op → AllDone op.shards results → Texted f w.blobs w.ops (fin.insert w.tickets w.next_ticket (final_ticket f w o op results))
  final_taken o op results there done =
      record {
        swaps = λ k t info rs made e is n b meta at. elim (was_in w.tickets w.next_ticket v k t e) [
          | inr z ↦ x.swaps k t info rs made z.1 is n b meta at
          | inl z ↦
              let same : info_of op results ≡ info = mine t info rs made z.1 is in
              let gives = x.ops o op there n b (subst (λ (i : SnapInfo). IsMetaOf i.uuid n) (sym same) meta) at in
              subst (λ (i : SnapInfo). Has (metadata f i) (n, b)) (ap (info_of op) (results_one op.shards gives.results results gives.done done) ∙ same) gives.gives
        ];
        ops = x.ops;
        agree = λ k t info rs made p q e is h u. elim (was_in w.tickets w.next_ticket v k t e) [
          | inr z ↦ x.agree k t info rs made p q z.1 is h u
          | inl z ↦
              let same : info_of op results ≡ info = mine t info rs made z.1 is in
              let one : op ≡ q = same_op p q h (ap (λ (i : SnapInfo). i.uuid) same ∙ u) in
              record { results = results; done = subst (λ (y : Op). AllDone y.shards results) one done; info_is = sym same ∙ ap (λ (y : Op). info_of y results) one }
        ];
        one = λ i j t u a c rs qs m n e h is has q. elim (was_in w.tickets w.next_ticket v i t e) [
          | inr z ↦ elim (was_in w.tickets w.next_ticket v j u h) [
            | inr y ↦ x.one i j t u a c rs qs m n z.1 y.1 is has q
            | inl y ↦ let same : info_of op results ≡ c = mine u c qs n y.1 has in agreed i t a rs m z.1 is (q ∙ ap (λ (k : SnapInfo). k.uuid) (sym same)) ∙ same
          ]
          | inl z ↦
              let same : info_of op results ≡ a = mine t a rs m z.1 is in
              elim (was_in w.tickets w.next_ticket v j u h) [
                | inr y ↦ sym same ∙ sym (agreed j u c qs n y.1 has (sym (ap (λ (k : SnapInfo). k.uuid) same ∙ q)))
                | inl y ↦ sym same ∙ mine u c qs n y.1 has
              ]
        ];
        plans = λ k t uuids s e is. elim (was_in w.tickets w.next_ticket v k t e) [ inr z ↦ x.plans k t uuids s z.1 is | inl z ↦ absurd (differ (ap (λ (y : Ticket). y.work) z.1 ∙ is)) ];
      }
    where
      v : Ticket
      v = final_ticket f w o op results

      differ : {info : SnapInfo} {rs : List ShardResult} {made : Command} {uuids : List ℕ} {plan : Option Swap} → Finalize info rs made ≡ Deleting uuids plan → ⊥
      differ e = cc

      mine : (t : Ticket) (info : SnapInfo) (rs : List ShardResult) (made : Command) → final_ticket f w o op results ≡ t → t.work ≡ Finalize info rs made → info_of op results ≡ info
      mine t info rs made e is = final_same _ _ _ _ _ _ (ap (λ (y : Ticket). y.work) e ∙ is)

      agreed : (k : ℕ) (t : Ticket) (info : SnapInfo) (rs : List ShardResult) (made : Command) → fin.get w.tickets k ≡ Some t → t.work ≡ Finalize info rs made → info.uuid ≡ op.uuid → info ≡ info_of op results
      agreed k t info rs made e is u = let h = x.agree k t info rs made o op e is there u in h.info_is ∙ ap (info_of op) (results_one op.shards h.results results h.done done)

      same_op : (p : ℕ) (q : Op) → fin.get w.ops p ≡ Some q → op.uuid ≡ q.uuid → op ≡ q
      same_op p q h u = elim (split_at o p) [
        | inl e ↦ same_Some _ _ (sym there ∙ ap (fin.get w.ops) e ∙ h)
        | inr apart ↦ absurd ((l.lawful.sound.carried.together o p op q apart there h).uuids u)
      ]

  -- a new op, of a uuid that nothing has yet
  pub asked : (op : Op) → op.uuid ≡ w.next_id → Texted f w.blobs (fin.insert w.ops w.next_op op) w.tickets
  asked op is =
      record {
        swaps = x.swaps;
        ops = λ o q e n b meta at. elim (was_in w.ops w.next_op op o q e) [
          | inr z ↦ x.ops o q z.1 n b meta at
          | inl z ↦ absurd (unused n (subst (λ (y : Op). IsMetaOf y.uuid n) (sym z.1) meta) (l.ids.blobs n (b, at)))
        ];
        agree = λ k t info rs made o q e work h u. elim (was_in w.ops w.next_op op o q h) [
          | inr z ↦ x.agree k t info rs made o q e work z.1 u
          | inl z ↦
              let swapped = ap (λ y. swap_of f y t.root) work in
              let below : IdsBelow (Snap info.uuid) w.next_id = (l.ids.tickets k t e).own _ swapped (Snap info.uuid) _ (inl refl) in
              let same : info.uuid ≡ w.next_id = u ∙ ap (λ (y : Op). y.uuid) (sym z.1) ∙ is in
              let b : info.uuid < w.next_id = below in
              absurd (omega (arith, same, b))
        ];
        one = x.one;
        plans = x.plans;
      }
    where
      unused : (n : BlobName) → IsMetaOf op.uuid n → IdsBelow n w.next_id → ⊥
      unused n (inl e) below = let b : op.uuid < w.next_id = subst (λ m. IdsBelow m w.next_id) e below in omega (arith, is, b)
      unused n (inr (inl e)) below = let b : op.uuid < w.next_id = subst (λ m. IdsBelow m w.next_id) e below in omega (arith, is, b)
      unused n (inr (inr e)) below = let b : IdsBelow (IndexMeta e.0 op.uuid) w.next_id = subst (λ m. IdsBelow m w.next_id) e.1 below in let c : op.uuid < w.next_id = b.1 in omega (arith, is, c)

  -- a name that is found has the text of the unit
  pub exists_sound : (k : ℕ) (name : BlobName) (new : World) → CommitExists f w k name new → Sound f new shelf
  exists_sound k name new c = subst (λ v. Sound f v shelf) (sym c.new_is) (record {
    rooted = record {
      kept = s.rooted.kept;
      doomed_begun = s.rooted.doomed_begun;
      tickets = each_ticket (TicketLaw f (HeldIn f w) w.doomed (ledger_of w) shelf) w.tickets k (noting c.t name) mine (λ j u apart e. s.rooted.tickets j u e);
      single = λ i j a b. s.rooted.single i j (swapping_was f w.tickets w.term k c.t (noting c.t name) c.out.there back i a) (swapping_was f w.tickets w.term k c.t (noting c.t name) c.out.there back j b);
    };
    carried = carried_same f (HeldIn f w) w.safe w.term w.root w.ops w.tickets k c.t (noting c.t name) c.out.there (noting_same c.t name) s.carried;
    fresh = fresh_same w.tickets w.next_ticket k c.t (noting c.t name) c.out.there s.fresh;
  })
    where
      s : Sound f w shelf
      s = l.lawful.sound

      back : (z : Swap) → IsUnsettled f (noting c.t name) z → (noting c.t name).term ≡ w.term → IsUnsettled f c.t z × (c.t.term ≡ w.term)
      back z i e = (record { is = i.is; out = i.out; unsettled = i.unsettled }, e)

      old : TicketLaw f (HeldIn f w) w.doomed (ledger_of w) shelf c.t
      old = s.rooted.tickets k c.t c.out.there

      own_is : (z : Swap) → swap f c.t ≡ Some z → metadata f c.info ≡ z.own
      own_is z is = ap (λ (y : Swap). y.own) (same_Some _ _ (ap (λ y. swap_of f y c.t.root) (sym c.work) ∙ is))

      found : (z : Swap) → IsUnsettled f c.t z → Counts (ledger_of w) c.t → (m : BlobName) (b : Bytes) → Has z.own (m, b) → name ≡ m → HeldIn f w m b
      found z i counts m b own e =
          let is_there : At f w.blobs m c.there.0 = subst (λ q. At f w.blobs q c.there.0) e c.there.1 in
          let meta : IsMetaOf c.info.uuid m = subst (IsMetaOf c.info.uuid) e (meta_name f c.info name c.bytes c.own) in
          let text : Has z.own (m, c.there.0) = subst (λ xs. Has xs (m, c.there.0)) (own_is z i.is) (x.swaps k c.t c.info c.results c.made c.out.there c.work m c.there.0 meta is_there) in
          let same : c.there.0 ≡ b = (old.shape z i.is).one_text m c.there.0 b text own in
          (subst (At f w.blobs m) same is_there, old.clean z i counts m b own)

      root_found : (n : ℕ) → name ≡ Root n → ⊥
      root_found n e = root_meta c.info.uuid n (subst (IsMetaOf c.info.uuid) e (meta_name f c.info name c.bytes c.own))

      noted_more : (z : Swap) → IsUnsettled f c.t z → Counts (ledger_of w) c.t → SwapLaw f (HeldIn f w) shelf c.t.noted z → SwapLaw f (HeldIn f w) shelf (name ∷ c.t.noted) z
      noted_more z i counts h = record {
        staged = h.staged;
        noted = λ m b own. elim [ inl e ↦ found z i counts m b own e | inr was ↦ h.noted m b own was ];
        root_noted = λ n. elim [ inl e ↦ absurd (root_found n e) | inr was ↦ h.root_noted n was ];
      }

      mine : TicketLaw f (HeldIn f w) w.doomed (ledger_of w) shelf (noting c.t name)
      mine = record {
        term = old.term;
        raised = old.raised;
        shape = old.shape;
        clean_root = old.clean_root;
        listed = old.listed;
        last = λ z i. old.last z (record { is = i.is; out = i.out; unsettled = i.unsettled });
        clean = λ z i. old.clean z (record { is = i.is; out = i.out; unsettled = i.unsettled });
        swaps = λ z i counts. noted_more z (record { is = i.is; out = i.out; unsettled = i.unsettled }) counts (old.swaps z (record { is = i.is; out = i.out; unsettled = i.unsettled }) counts);
      }

module _ (f : Formats) (w : World) (shelf : List Shelved) (l : Law f w shelf) (x : Texted f w.blobs w.ops w.tickets) where
  -- an op with other shards, where it was not all done before or stays so
  other_shards : (o : ℕ) (op now : Op) → fin.get w.ops o ≡ Some op → now.uuid ≡ op.uuid → ((rs : List ShardResult) → AllDone op.shards rs → AllDone now.shards rs × (info_of now rs ≡ info_of op rs))
      → Texted f w.blobs (fin.insert w.ops o now) w.tickets
  other_shards o op now there uuid done = texted_ops f w.blobs w.ops w.tickets x (fin.insert w.ops o now) (λ p q e. elim (was_in w.ops o now p q e) [
    | inl z ↦ (o, op, there, sym uuid ∙ ap (λ (y : Op). y.uuid) z.1, λ rs all. subst (λ (y : Op). AllDone y.shards rs × (info_of y rs ≡ info_of op rs)) z.1 (done rs all))
    | inr z ↦ (p, q, z.1, refl, λ rs all. (all, refl))
  ])

  fewer_ops : (o : ℕ) → Texted f w.blobs (fin.remove w.ops o) w.tickets
  fewer_ops o = texted_ops f w.blobs w.ops w.tickets x (fin.remove w.ops o) (λ p q e. (p, q, (left_in w.ops o p q e).1, refl, λ rs all. (all, refl)))

  aborted : (now : Ops) (by : ℕ) → Aborts w.ops now by → Texted f w.blobs now w.tickets
  aborted now by a = texted_ops f w.blobs w.ops w.tickets x now (λ p q e. let (old, there, how) = a.was p q e in elim how [
    | inl same ↦ (p, old, there, ap (λ (y : Op). y.uuid) (sym same), λ rs all. (subst (λ (y : Op). AllDone y.shards rs) (sym same) all, ap (λ (y : Op). info_of y rs) same))
    | inr same ↦ (p, old, there, ap (λ (y : Op). y.uuid) (sym same), λ rs all. (subst (λ (y : Op). AllDone y.shards rs) (sym same) all, ap (λ (y : Op). info_of y rs) same))
  ])

  removed : (k : ℕ) (names : List BlobName) (new : World) → Remove f w k names new → Texted f new.blobs new.ops new.tickets
  removed k names new r = subst (λ (y : World). Texted f y.blobs y.ops y.tickets) (sym r.new_is) (texted_blobs f w.blobs w.ops w.tickets x r.now (λ n b at. inl (r.removes.left (f.names.text n) b at.0, at.1)))

abbrev In : Formats → World → Type 0
In f y = Texted f y.blobs y.ops y.tickets

tested : (f : Formats) (w : World) (shelf : List Shelved) → Law f w shelf → In f w → (new : World) → TestTurn f w new → In f new
tested f w shelf l x new (DrawsTest m d) = subst (In f) (sym d.new_is) x
tested f w shelf l x new (AddsTest m name bytes a) = subst (In f) (sym a.new_is) (texted_blobs f w.blobs w.ops w.tickets x (fin.insert w.blobs (f.names.text name) bytes) (tests_meta f w shelf l name bytes m a))
tested f w shelf l x new (RemovesTests m names r) = subst (In f) (sym r.new_is) (texted_blobs f w.blobs w.ops w.tickets x r.now (λ n b at. inl (r.removes.left (f.names.text n) b at.0, at.1)))

turned : (f : Formats) (w new : World) (shelf : List Shelved) → Law f w shelf → In f w → Turn f w new → In f new
turned f w new shelf l x (Stays m e) = subst (In f) (sym e) x
turned f w new shelf l x (Commits m k name c) = subst (In f) (sym c.new_is)
    (texted_again f (fin.insert w.blobs (f.names.text name) c.bytes) w.ops w.tickets (may_commit f w shelf l x name c.bytes c.named c.absent k c.t c.out.there c.may) k c.t (writing c.t name c.bytes) c.out.there refl)
turned f w new shelf l x (CommitFails m k name c) = elim c.leaves [ inl e ↦ subst (In f) (sym e) x | inr e ↦ subst (In f) (sym e.1) (may_commit f w shelf l x name c.bytes c.named e.0 k c.t c.out.there c.may) ]
turned f w new shelf l x (Finds m k name c) = subst (In f) (sym c.new_is) (texted_again f w.blobs w.ops w.tickets x k c.t (noting c.t name) c.out.there refl)
turned f w new shelf l x (Raises m k d) = subst (In f) (sym d.new_is) (texted_again f w.blobs w.ops w.tickets x k d.t (record d.t { raised = Some w.pending }) d.out.there refl)
turned f w new shelf l x (Latests m k d) = subst (In f) (sym d.tries.new_is) (texted_again f d.now w.ops w.tickets (put_law f w shelf l d.now d.puts).texts k d.tries.t (record d.tries.t { tried_latest = true }) d.tries.out.there refl)
turned f w new shelf l x (Fetches m k name d) = subst (In f) (sym d.new_is) (texted_again f w.blobs w.ops w.tickets x k d.t (reading d.t name d.bytes) d.out.there refl)
turned f w new shelf l x (SettlesFinal m k n t s d) = subst (In f) (sym d.new_is) (texted_again f w.blobs (fin.remove w.ops t.op) w.tickets (fewer_ops f w shelf l x t.op) k t (record t { settled = true }) d.may.out.there refl)
turned f w new shelf l x (SettlesDelete m k n t s d) = subst (In f) (sym d.new_is) (texted_again f w.blobs (fin.remove w.ops t.op) w.tickets (fewer_ops f w shelf l x t.op) k t (record t { settled = true }) d.may.out.there refl)
turned f w new shelf l x (Elects m d) = subst (In f) (sym d.new_is) x
turned f w new shelf l x (TakesShard m o op s base d) = subst (In f) (sym d.new_is)
    (texted_plain f w.blobs (fin.insert w.ops o (record op { shards = map (given w.next_ticket s.ref.id s.number) op.shards })) w.tickets
    (other_shards f w shelf l x o op (record op { shards = map (given w.next_ticket s.ref.id s.number) op.shards }) d.ready.op_there refl
    (λ rs all. absurd (not_done op.shards rs s d.ready.s_there (λ r e. pending_done (sym d.ready.pending ∙ e)) all)))
    w.next_ticket (shard_ticket w o op s base) (λ info rs made e. cc) (λ uuids z e. absurd (differ e)))
  where
    differ : {i n : ℕ} {uuids : List ℕ} {plan : Option Swap} → Shard i n ≡ Deleting uuids plan → ⊥
    differ e = cc
turned f w new shelf l x (TakesFinal m o op results d) = subst (In f) (sym d.new_is) (final_taken f w shelf l x o op results d.ready.op_there d.ready.done)
turned f w new shelf l x (TakesDrop m o d) = subst (In f) (sym d.new_is) (texted_plain f w.blobs w.ops w.tickets x w.next_ticket (plain_ticket w o Drop) (λ info rs made e. cc) (λ uuids z e. absurd (differ e)))
  where
    differ : {uuids : List ℕ} {plan : Option Swap} → Drop ≡ Deleting uuids plan → ⊥
    differ e = cc
turned f w new shelf l x (TakesDelete m n y d) = subst (In f) (sym d.new_is) (texted_plain f w.blobs w.ops w.tickets x w.next_ticket (plain_ticket w n (Deleting y.uuids None)) (λ info rs made e. cc) (λ uuids z e. absurd (differ e)))
  where
    differ : {us uuids : List ℕ} {z : Swap} → Deleting us None ≡ Deleting uuids (Some z) → ⊥
    differ e = cc
turned f w new shelf l x (TakesCleanup m n y d) = subst (In f) (sym d.new_is) (texted_plain f w.blobs w.ops w.tickets x w.next_ticket (cleaning_ticket w n) (λ info rs made e. cc) (λ uuids z e. absurd (differ e)))
  where
    differ : {us uuids : List ℕ} {z : Swap} → Deleting us None ≡ Deleting uuids (Some z) → ⊥
    differ e = cc
turned f w new shelf l x (DrawsShard m k n d) = subst (In f) (sym d.new_is) (texted_again f w.blobs w.ops w.tickets x k d.t (record d.t { first = w.next_id; drawn = n }) d.out.there refl)
turned f w new shelf l x (DrawsPlan m k n d) = subst (In f) (sym d.new_is)
    (texted_plain f w.blobs w.ops w.tickets x k (record d.t { first = w.next_id; drawn = n; work = Deleting d.named (Some (record { root = d.root; own = d.own; commands = d.commands })) }) (λ info rs made e. cc)
    (λ uuids z e name b own u meta. let it = d.own_drawn name b (subst (λ (y : Swap). Has y.own (name, b)) (sym (plan_same e)) own) in index_meta u it.0 it.1 it.2 (subst (IsMetaOf u) it.3 meta)))
  where
    plan_same : {us uuids : List ℕ} {a b : Swap} → Deleting us (Some a) ≡ Deleting uuids (Some b) → a ≡ b
    plan_same e = cc
turned f w new shelf l x (Dones m k r d) = subst (In f) (sym d.new_is)
    (texted_again f w.blobs (fin.insert w.ops d.t.op (record d.op { shards = map (marked k (Done r)) d.op.shards })) w.tickets
    (other_shards f w shelf l x d.t.op d.op (record d.op { shards = map (marked k (Done r)) d.op.shards }) d.op_there refl (λ rs all. absurd (not_done d.op.shards rs d.s d.s_there (λ q e. out_done (sym d.state ∙ e)) all)))
    k d.t (record d.t { out = false }) d.out.there refl)
turned f w new shelf l x (Ending m k d) = subst (In f) (sym d.new_is) (texted_again f w.blobs w.ops w.tickets x k d.t (record d.t { out = false }) d.out.there refl)
turned f w new shelf l x (Fails m k d) = subst (In f) (sym d.new_is)
    (texted_again f w.blobs (fin.insert w.ops d.t.op (record d.op { shards = map (fails k) d.op.shards; failed = true })) w.tickets
    (other_shards f w shelf l x d.t.op d.op (record d.op { shards = map (fails k) d.op.shards; failed = true }) d.op_there refl (λ rs all. (all_done_on (fails k) (failed_leaves k) d.op.shards rs all, refl)))
    k d.t (record d.t { out = false }) d.out.there refl)
turned f w new shelf l x (FailsDelete m k d) = subst (In f) (sym d.new_is) (texted_again f w.blobs w.ops w.tickets x k d.t (record d.t { out = false }) d.out.there refl)
turned f w new shelf l x (Drops m k d) = subst (In f) (sym d.new_is) (texted_again f w.blobs (fin.remove w.ops d.t.op) w.tickets (fewer_ops f w shelf l x d.t.op) k d.t (record d.t { out = false }) d.out.there refl)
turned f w new shelf l x (AsksCleanup m d) = subst (In f) (sym d.new_is) x
turned f w new shelf l x (CleanDrops m k d) = subst (In f) (sym d.new_is) (texted_again f w.blobs (fin.remove w.ops d.t.op) w.tickets (fewer_ops f w shelf l x d.t.op) k d.t (record d.t { out = false }) d.out.there refl)
turned f w new shelf l x (AsksCreate m op d) = subst (In f) (sym d.new_is) (asked f w shelf l x op d.uuid_is)
turned f w new shelf l x (AsksDelete m uuids d) = subst (In f) (sym d.new_is) (aborted f w shelf l x d.ops w.next_op d.aborts)
turned f w new shelf l x (Merges m uuids n d) = subst (In f) (sym d.new_is) (aborted f w shelf l x d.ops n d.aborts)
turned f w new shelf l x (Pages m k page d) = subst (In f) (sym d.new_is) (texted_again f w.blobs w.ops w.tickets x k d.t (listing d.t page) d.out.there refl)
turned f w new shelf l x (Removing m k names d) = removed f w shelf l x k names m d
turned f w new shelf l x (Deposes m up d e) = subst (In f) (sym e) (turned f w up shelf l x d)
turned f w new shelf l x (Tests m t) = tested f w shelf l x m t
turned f w new shelf l x (Besides m up d r) = kept_aside (In f) up m (aside_of f up m r) (turned f w up shelf l x d)

pub turn_texted : (f : Formats) (w new : World) (shelf : List Shelved) → Law f w shelf → Turn f w new → Texted f new.blobs new.ops new.tickets
turn_texted f w new shelf l turn = turned f w new shelf l l.texts turn
