-- A ticket given anew, the same in all that shards and ops read.
use Rattle.std.proofs.Common.{◌≡◌, ◌≢◌, ◌⊎◌, ℕ, ◌+◌, ◌<◌, ◌≤◌, List, Bool, true, false, Option, Some, refl, sym, ap, ◌∙◌, subst, inl, inr, nat_cmp}
use Rattle.std.specs.Cmp.{nat_cmp_total}
use Rattle.std.specs.FinMap.{FinMap, nat_cmp-IsAntisymmetric}
use Rattle.std.specs.FinMap as fin
use Rattle.std.proofs.lemmas.Option.{same_Some}
use Rattle.esr_model.specs.Names.{BlobName}
use Rattle.esr_model.specs.Values.{Bytes, RootData, SnapInfo, ShardResult, Formats}
use Rattle.esr_model.specs.Shelf.{Command}
use Rattle.esr_model.specs.Cleanup.{BlobSize}
use Rattle.esr_core.specs.World.{Op, Ticket, Shard}
use Rattle.esr_core.specs.Generations.{BaseBelow, ShardLaw, FinalLaw, Carried}
use Rattle.esr_core.specs.Laws.Maps.{get_was, get_same, get_other, split}

pub record SameTicket (t v : Ticket) : Type 1 where
  pub work : v.work ≡ t.work
  pub op : v.op ≡ t.op
  pub term : v.term ≡ t.term
  pub out : v.out ≡ true → t.out ≡ true
  pub holds : (index shard : ℕ) → t.work ≡ Shard index shard → t.out ≡ true → v.out ≡ true
  pub settled : v.settled ≡ false → t.settled ≡ false
  pub shard : (f : Formats) (has : BlobName → Bytes → Type 0) (root : RootData) (ops : FinMap nat_cmp Op) (k index number : ℕ) → ShardLaw f has root ops k t index number → ShardLaw f has root ops k v index number
  pub final : (f : Formats) (root : RootData) (ops : FinMap nat_cmp Op) (info : SnapInfo) (results : List ShardResult) (made : Command) → FinalLaw f root ops t info results made → FinalLaw f root ops v info results made

-- a ticket given anew in what it noted, wrote, read, raised, tried and listed, and in its ids: each is an old one, or lies above its uuid and its base
pub notes_same : (t : Ticket) (first drawn : ℕ) (noted : List BlobName) (wrote read : List (BlobName × Bytes)) (raised : Option ℕ) (tried : Bool) (listed : List BlobSize) (whole : Bool)
    → ((id : ℕ) → first ≤ id → id < first + drawn → ((t.first ≤ id) × (id < t.first + t.drawn)) ⊎ ((t.uuid < id) × BaseBelow t.base id))
    → SameTicket t (record t { first = first; drawn = drawn; noted = noted; wrote = wrote; read = read; raised = raised; tried_latest = tried; listed = listed; whole = whole })
notes_same t first drawn noted wrote read raised tried listed whole drew =
    record {
      work = refl;
      op = refl;
      term = refl;
      out = λ e. e;
      holds = λ i n e o. o;
      settled = λ e. e;
      shard = λ f b r o k i n l. record {
        op = l.op;
        op_there = l.op_there;
        uuid_is = l.uuid_is;
        source_is = l.source_is;
        s = l.s;
        s_there = l.s_there;
        state = l.state;
        index_is = l.index_is;
        shard_is = l.shard_is;
        base = l.base;
        ids = λ id from below. elim (drew id from below) [ inl had ↦ l.ids id had.0 had.1 | inr above ↦ above ];
      };
      final = λ f r o i rs m l. record { op = l.op; op_there = l.op_there; done = l.done; info_is = l.info_is; made_is = l.made_is; root_is = l.root_is };
    }

pub carried_same : (f : Formats) (has : BlobName → Bytes → Type 0) (safe term : ℕ) (root : RootData) (ops : FinMap nat_cmp Op) (tickets : FinMap nat_cmp Ticket) (k : ℕ) (t v : Ticket)
    → fin.get tickets k ≡ Some t → SameTicket t v → Carried f has safe term root ops tickets → Carried f has safe term root ops (fin.insert tickets k v)
carried_same f has safe term root ops tickets k t v there s c =
    record {
      root_is = c.root_is;
      ops = c.ops;
      together = c.together;
      carries = c.carries;
      shards = λ j u e out index shard is. elim (was j u e) [
        | inl h ↦ subst (λ x. ShardLaw f has root ops x u index shard) (sym h.0) (subst (λ x. ShardLaw f has root ops k x index shard) h.1 (s.shard f has root ops k index shard
            (c.shards k t there (s.out (ap (λ (x : Ticket). x.out) h.1 ∙ out)) index shard (sym s.work ∙ ap (λ (x : Ticket). x.work) h.1 ∙ is))))
        | inr h ↦ c.shards j u h.1 out index shard is
      ];
      one_shard = λ i j t u a b ao bo index shard ai bi.
          let p = old i t a ao index shard ai in let q = old j u b bo index shard bi in
          c.one_shard i j p.0 q.0 p.1 q.1 p.2 q.2 index shard p.3 q.3;
      held = λ o op z j e m state. let h = c.held o op z j e m state in elim (split nat_cmp_total nat_cmp-IsAntisymmetric j k) [
        | inl same ↦
            let is : h.t ≡ t = same_Some _ _ (sym h.there ∙ ap (fin.get tickets) same ∙ there) in
            record {
              t = v;
              there = ap (fin.get (fin.insert tickets k v)) same ∙ get_same nat_cmp_total nat_cmp-IsAntisymmetric tickets k v;
              out = s.holds z.ref.id z.number (ap (λ (x : Ticket). x.work) (sym is) ∙ h.work) (ap (λ (x : Ticket). x.out) (sym is) ∙ h.out);
              op_is = s.op ∙ ap (λ (x : Ticket). x.op) (sym is) ∙ h.op_is;
              work = s.work ∙ ap (λ (x : Ticket). x.work) (sym is) ∙ h.work;
            }
        | inr apart ↦ record { t = h.t; there = get_other nat_cmp_total nat_cmp-IsAntisymmetric tickets k v j apart.0 ∙ h.there; out = h.out; op_is = h.op_is; work = h.work }
      ];
      finals = λ j u e out uns pres info results made is. elim (was j u e) [
        | inl h ↦ subst (λ x. FinalLaw f root ops x info results made) h.1 (s.final f root ops info results made
            (c.finals k t there (s.out (ap (λ (x : Ticket). x.out) h.1 ∙ out)) (s.settled (ap (λ (x : Ticket). x.settled) h.1 ∙ uns))
            (sym s.term ∙ ap (λ (x : Ticket). x.term) h.1 ∙ pres) info results made (sym s.work ∙ ap (λ (x : Ticket). x.work) h.1 ∙ is)))
        | inr h ↦ c.finals j u h.1 out uns pres info results made is
      ];
      plans = λ j u e out uns pres uuids x is. elim (was j u e) [
        | inl h ↦ c.plans k t there (s.out (ap (λ (x : Ticket). x.out) h.1 ∙ out)) (s.settled (ap (λ (x : Ticket). x.settled) h.1 ∙ uns))
            (sym s.term ∙ ap (λ (x : Ticket). x.term) h.1 ∙ pres) uuids x (sym s.work ∙ ap (λ (x : Ticket). x.work) h.1 ∙ is)
        | inr h ↦ c.plans j u h.1 out uns pres uuids x is
      ];
    }
  where
    was : (j : ℕ) (u : Ticket) → fin.get (fin.insert tickets k v) j ≡ Some u → ((j ≡ k) × (v ≡ u)) ⊎ ((j ≢ k) × (fin.get tickets j ≡ Some u))
    was j u e = get_was nat_cmp_total nat_cmp-IsAntisymmetric tickets k v j u e

    old : (j : ℕ) (u : Ticket) → fin.get (fin.insert tickets k v) j ≡ Some u → u.out ≡ true → (index shard : ℕ) → u.work ≡ Shard index shard
        → (x : Ticket) × (fin.get tickets j ≡ Some x) × (x.out ≡ true) × (x.work ≡ Shard index shard)
    old j u e out index shard is = elim (was j u e) [
      | inl h ↦ (t, ap (fin.get tickets) h.0 ∙ there, s.out (ap (λ (x : Ticket). x.out) h.1 ∙ out), sym s.work ∙ ap (λ (x : Ticket). x.work) h.1 ∙ is)
      | inr h ↦ (u, h.1, out, is)
    ]
