-- Ids stay below the counter.
use Rattle.std.proofs.Common.{◌≡◌, ◌⊎◌, ℕ, ◌+◌, ◌<◌, ◌≤◌, List, ◌++◌, true, Option, Some, None, refl, sym, ap, ◌∙◌, subst, inl, inr, arith}
use Rattle.std.specs.FinMap as fin
use Rattle.std.proofs.lemmas.Option.{same_Some}
use Rattle.esr_core.specs.Laws.NumberMaps.{was_in, split_at}
use Rattle.esr_model.specs.Names.{BlobName, Snap, Meta, IndexMeta, ShardSnap, ShardIndex, File, Part, TestMaster, TestNode}
use Rattle.esr_model.specs.Values.{Bytes, IndexRef, RootIndex, RootData, ShardResult, Formats}
use Rattle.esr_model.specs.Shelf.{Shelved}
use Rattle.esr_model.specs.Image.{Blobs, Has, Present}
use Rattle.esr_core.specs.World.{World, Op, Ticket, HeldIn, metadata, info_of}
use Rattle.esr_core.specs.Ready.{IsShard}
use Rattle.esr_core.specs.Steps.{Drew, MayCommit, ShardCommits}
use Rattle.esr_core.specs.Turns.{IsApart, AskCreate}
use Rattle.esr_core.specs.Generations.{BaseBelow, Carried}
use Rattle.esr_core.specs.Ids.{OfUuid, OfId, TicketIds, OpIds, DoomedIds, Ids, Law}
use Rattle.esr_model.specs.Kept.{IdsBelow, RootIds}
use Rattle.esr_core.specs.Laws.Metadata.{Kinds, IsSnap, IsMeta, IsIndex, kinds}
use Rattle.esr_core.specs.Laws.Maps.{Ops, Tickets}
use Rattle.esr_core.specs.Laws.IdBounds.{up, root_up}

pub below_up : (name : BlobName) (c d : ℕ) → c ≤ d → IdsBelow name c → IdsBelow name d
below_up (Snap u) c d le h = omega (arith, le, h)
below_up (Meta u) c d le h = omega (arith, le, h)
below_up (IndexMeta i u) c d le h = (up i c d le h.0, up u c d le h.1)
below_up (ShardSnap i s u) c d le h = (up i c d le h.0, up u c d le h.1)
below_up (ShardIndex i s g) c d le h = (up i c d le h.0, up g c d le h.1)
below_up (File i s x) c d le h = (up i c d le h.0, up x c d le h.1)
below_up (Part i s x p) c d le h = (up i c d le h.0, up x c d le h.1)
below_up (TestMaster v) c d le h = up v c d le h
below_up (TestNode v n) c d le h = up v c d le h
below_up name c d le h = tt

pub ticket_up : (f : Formats) (t : Ticket) (c d : ℕ) → c ≤ d → TicketIds f c t → TicketIds f d t
ticket_up f t c d le h =
    record {
      drawn = let x : t.first + t.drawn ≤ c = h.drawn in omega (arith, le);
      uuid = λ s. up t.uuid c d le (h.uuid s);
      index = λ i k e. up i c d le (h.index i k e);
      base = λ b e. up b c d le (h.base b e);
      copy = root_up t.root c d le h.copy;
      own = λ s e name b m. below_up name c d le (h.own s e name b m);
      root = λ s e. root_up s.root c d le (h.root s e);
      listed = λ name m. below_up name c d le (h.listed name m);
    }

pub ids_up : (f : Formats) (c d : ℕ) → c ≤ d → (blobs : Blobs) (doomed : List BlobName) (root : RootData) (ops : Ops) (tickets : Tickets) → Ids f c blobs doomed root ops tickets → Ids f d blobs doomed root ops tickets
ids_up f c d le blobs doomed root ops tickets h =
    record {
      blobs = λ name p. below_up name c d le (h.blobs name p);
      doomed = λ name m. let x = h.doomed name m in record { below = below_up name c d le x.below; uuids = x.uuids; ids = x.ids };
      root = root_up root c d le h.root;
      ops = λ o op e. let x = h.ops o op e in record { uuid = up op.uuid c d le x.uuid; indices = λ r m. up r.id c d le (x.indices r m); done = λ s r m st. up r.generation c d le (x.done s r m st) };
      tickets = λ k t e. ticket_up f t c d le (h.tickets k t e);
    }

module _ (f : Formats) (c : ℕ) (blobs : Blobs) (doomed : List BlobName) (root : RootData) (ops : Ops) (tickets : Tickets) (h : Ids f c blobs doomed root ops tickets) where
  -- a ticket
  pub ids_put : (k : ℕ) (v : Ticket) → TicketIds f c v → ((name : BlobName) → Has doomed name → v.out ≡ true → IsShard v.work → (id : ℕ) → Drew v id → OfId name id → ⊥)
      → Ids f c blobs doomed root ops (fin.insert tickets k v)
  ids_put k v mine aside =
      record {
        blobs = h.blobs;
        doomed = λ name m. let x = h.doomed name m in record {
          below = x.below;
          uuids = x.uuids;
          ids = λ j u e out is id drew of. elim (was_in tickets k v j u e) [
            | inl z ↦ aside name m (ap (λ (y : Ticket). y.out) z.1 ∙ out) (subst (λ (y : Ticket). IsShard y.work) (sym z.1) is) id (subst (λ (y : Ticket). Drew y id) (sym z.1) drew) of
            | inr z ↦ x.ids j u z.1 out is id drew of
          ];
        };
        root = h.root;
        ops = h.ops;
        tickets = λ j u e. elim (was_in tickets k v j u e) [ inl z ↦ subst (TicketIds f c) z.1 mine | inr z ↦ h.tickets j u z.1 ];
      }

  -- a ticket given anew with the ids that it drew
  pub ids_again : (k : ℕ) (t v : Ticket) → fin.get tickets k ≡ Some t → TicketIds f c v → v.first ≡ t.first → v.drawn ≡ t.drawn → (v.out ≡ true → t.out ≡ true) → (IsShard v.work → IsShard t.work)
      → Ids f c blobs doomed root ops (fin.insert tickets k v)
  ids_again k t v there mine first drawn out shard =
      ids_put k v mine (λ name m o s id drew of. (h.doomed name m).ids k t there (out o) (shard s) id (record { from = subst (λ n. n ≤ id) first drew.from; below = subst (λ n. id < n) (λ i. first i + drawn i) drew.below }) of)

  -- a ticket that drew nothing
  pub ids_new : (k : ℕ) (v : Ticket) → TicketIds f c v → v.drawn ≡ 0 → Ids f c blobs doomed root ops (fin.insert tickets k v)
  ids_new k v mine none =
      ids_put k v mine (λ name m o s id drew of. let a : v.first ≤ id = drew.from in let b : id < v.first + v.drawn = drew.below in omega (arith, none))

  -- ops of the uuids that were
  pub ids_ops : (now : Ops) → ((o : ℕ) (op : Op) → fin.get now o ≡ Some op → OpIds c op × ((p : ℕ) × (old : Op) × (fin.get ops p ≡ Some old) × (old.uuid ≡ op.uuid))) → Ids f c blobs doomed root now tickets
  ids_ops now back =
      record {
        blobs = h.blobs;
        doomed = λ name m. let x = h.doomed name m in record {
          below = x.below;
          uuids = λ o op e of. let was = (back o op e).1 in x.uuids was.0 was.1 was.2 (subst (OfUuid name) (sym was.3) of);
          ids = x.ids;
        };
        root = h.root;
        ops = λ o op e. (back o op e).0;
        tickets = h.tickets;
      }

  -- a new op
  pub ids_add : (o : ℕ) (op : Op) → OpIds c op → ((name : BlobName) → Has doomed name → OfUuid name op.uuid → ⊥) → Ids f c blobs doomed root (fin.insert ops o op) tickets
  ids_add o op mine aside =
      record {
        blobs = h.blobs;
        doomed = λ name m. let x = h.doomed name m in record {
          below = x.below;
          uuids = λ p q e of. elim (was_in ops o op p q e) [ inl z ↦ aside name m (subst (λ (y : Op). OfUuid name y.uuid) (sym z.1) of) | inr z ↦ x.uuids p q z.1 of ];
          ids = x.ids;
        };
        root = h.root;
        ops = λ p q e. elim (was_in ops o op p q e) [ inl z ↦ subst (OpIds c) z.1 mine | inr z ↦ h.ops p q z.1 ];
        tickets = h.tickets;
      }

  -- other blobs
  pub ids_blobs : (now : Blobs) → ((name : BlobName) → Present f now name → Present f blobs name ⊎ IdsBelow name c) → Ids f c now doomed root ops tickets
  ids_blobs now was = record { blobs = λ name p. elim (was name p) [ inl q ↦ h.blobs name q | inr b ↦ b ]; doomed = h.doomed; root = h.root; ops = h.ops; tickets = h.tickets }

  -- another root
  pub ids_root : (new : RootData) → RootIds new c → Ids f c blobs doomed new ops tickets
  ids_root new r = record { blobs = h.blobs; doomed = h.doomed; root = r; ops = h.ops; tickets = h.tickets }

  -- names doomed
  pub ids_doom : (more : List BlobName) → ((name : BlobName) → Has (more ++ doomed) name → DoomedIds c ops tickets name) → Ids f c blobs (more ++ doomed) root ops tickets
  ids_doom more all = record { blobs = h.blobs; doomed = all; root = h.root; ops = h.ops; tickets = h.tickets }

-- what a ticket may commit has ids below
pub commits_below : (f : Formats) (c : ℕ) (t : Ticket) → TicketIds f c t → (name : BlobName) (bytes : Bytes) → MayCommit f t name bytes → IdsBelow name c
commits_below f c t h name bytes (inl (s, is, inl own)) = h.own s is name bytes own
commits_below f c t h name bytes (inl (s, is, inr (n, e, r))) = subst (λ x. IdsBelow x c) (sym e) tt
commits_below f c t h name bytes (inr (none, may, shard)) = go name may
  where
    drew : (id : ℕ) → Drew t id → id < c
    drew id d = let a : id < t.first + t.drawn = d.below in let b : t.first + t.drawn ≤ c = h.drawn in omega arith

    go : (name : BlobName) → ShardCommits t name → IdsBelow name c
    go (ShardSnap i s u) m = (h.index i s m.0, subst (λ x. x < c) (sym m.1) (h.uuid shard))
    go (ShardIndex i s g) m = (h.index i s m.0, drew g m.1)
    go (File i s x) m = (h.index i s m.0, drew x m.1)
    go (Part i s x p) m = (h.index i s m.0, drew x m.1)
    go name m = absurd m

-- the given conditions follow
module _ (f : Formats) (w : World) (shelf : List Shelved) (l : Law f w shelf) where
  pub final_clean : (o : ℕ) (op : Op) (results : List ShardResult) → fin.get w.ops o ≡ Some op → (name : BlobName) (b : Bytes) → Has (metadata f (info_of op results)) (name, b) → Has w.doomed name → ⊥
  final_clean o op results there name b m d = go (kinds f (info_of op results) name b m)
    where
      aside : OfUuid name op.uuid → ⊥
      aside = (l.ids.doomed name d).uuids o op there

      go : Kinds f (info_of op results) name b → ⊥
      go (IsSnap e t) = aside (subst (λ n. OfUuid n op.uuid) (sym e) refl)
      go (IsMeta e t) = aside (subst (λ n. OfUuid n op.uuid) (sym e) refl)
      go (IsIndex r q e t) = aside (subst (λ n. OfUuid n op.uuid) (sym e) refl)

  pub draw_above : (k : ℕ) (t : Ticket) → fin.get w.tickets k ≡ Some t → IsShard t.work → (id : ℕ) → w.next_id ≤ id → (t.uuid < id) × BaseBelow t.base id
  draw_above k t there shard id le =
      let h = l.ids.tickets k t there in
      let a : t.uuid < w.next_id = h.uuid shard in
      (omega (arith, le, a), below t.base refl)
    where
      below : (b : Option ℕ) → t.base ≡ b → BaseBelow b id
      below None e = tt
      below (Some b) e = let x : b < w.next_id = (l.ids.tickets k t there).base b e in omega (arith, le)

  pub plan_clean : (i s g : ℕ) (name : BlobName) → name ≡ ShardIndex i s g → w.next_id ≤ g → Has w.doomed name → ⊥
  plan_clean i s g name e le d = let both : IdsBelow (ShardIndex i s g) w.next_id = subst (λ n. IdsBelow n w.next_id) e (l.ids.doomed name d).below in let x : g < w.next_id = both.1 in omega (arith, le)

  -- a new snapshot has a uuid and ids of its own, but for the ids of names
  module _ (op : Op) (new : World) (d : AskCreate f w op new) where
    c : Carried f (HeldIn f w) w.safe w.term w.root w.ops w.tickets
    c = l.lawful.sound.carried

    same_root : (r : IndexRef) (x : RootIndex) → Has op.indices r → Has w.root.indices x → r.id ≡ x.id → r.name ≡ x.name
    same_root r x m there e = elim (d.ids r m) [
      | inl h ↦ sym h.2 ∙ l.ids.root.one_name h.0 x h.1 there (h.3 ∙ e)
      | inr (inl h) ↦ let (p, q, z, q_there, z_there, name, id) = h in sym name ∙ (c.ops p q q_there).same_name z x z_there there (id ∙ e)
      | inr (inr h) ↦ absurd (let b : x.id < w.next_id = l.ids.root.ids x there in omega (arith, h.0, e))
    ]

    -- two open ops, or one
    two : (p : ℕ) (q : Op) → fin.get w.ops p ≡ Some q → (z : IndexRef) → Has q.indices z → (o : ℕ) (x : Op) → fin.get w.ops o ≡ Some x → (y : IndexRef) → Has x.indices y → z.id ≡ y.id → z.name ≡ y.name
    two p q there z zm o x x_there y ym e = elim (split_at p o) [
      | inl same ↦
          let one : q ≡ x = same_Some _ _ (sym there ∙ ap (fin.get w.ops) same ∙ x_there) in
          ap (λ (r : IndexRef). r.name) ((c.ops o x x_there).one_id z y (subst (λ (v : Op). Has v.indices z) one zm) ym e)
      | inr apart ↦ (c.together p o q x apart there x_there).same_name z y zm ym e
    ]

    same_open : (p : ℕ) (q : Op) → fin.get w.ops p ≡ Some q → (z r : IndexRef) → Has q.indices z → Has op.indices r → z.id ≡ r.id → z.name ≡ r.name
    same_open p q there z r zm m e = elim (d.ids r m) [
      | inl h ↦ (c.ops p q there).same_name z h.0 zm h.1 (e ∙ sym h.3) ∙ h.2
      | inr (inl h) ↦ let (o, x, y, x_there, y_there, name, id) = h in two p q there z zm o x x_there y y_there (e ∙ sym id) ∙ name
      | inr (inr h) ↦ absurd (let b : z.id < w.next_id = (l.ids.ops p q there).indices z zm in omega (arith, h.0, e))
    ]

    pub one_id : (r q : IndexRef) → Has op.indices r → Has op.indices q → r.id ≡ q.id → r ≡ q
    one_id r q m n e = d.one_name r q m n (elim (d.ids q n) [
      | inl h ↦ same_root r h.0 m h.1 (e ∙ sym h.3) ∙ h.2
      | inr (inl h) ↦ let (o, x, y, x_there, y_there, name, id) = h in sym (same_open o x x_there y r y_there m (id ∙ sym e)) ∙ name
      | inr (inr h) ↦ d.one_new r q m n (let a : w.next_id < q.id = h.0 in omega (arith, e)) e
    ])

    pub is_apart : IsApart w op
    is_apart =
        record {
          unlisted = λ snap m e. let b : snap.uuid < w.next_id = l.ids.root.snapshots snap m in omega (arith, e, d.uuid_is);
          unused = λ x m has. let b : op.uuid < w.next_id = l.ids.root.uuids x op.uuid m has in omega (arith, d.uuid_is);
          same_name = same_root;
          together = λ p q there.
              let b : q.uuid < w.next_id = (l.ids.ops p q there).uuid in (
                record { uuids = λ e. omega (arith, e, d.uuid_is, b); same_name = λ z r zm m e. same_open p q there z r zm m e },
                record { uuids = λ e. omega (arith, e, d.uuid_is, b); same_name = λ r z m zm e. sym (same_open p q there z r zm m (sym e)) },
              );
        }
