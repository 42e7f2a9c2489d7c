-- An op whose shards go on, none of them done by that.
use Rattle.std.proofs.Common.{◌≡◌, ◌≢◌, ◌⊎◌, ℕ, List, [], ◌∷◌, Bool, Option, Some, None, map, refl, sym, ap, ◌∙◌, subst, inl, inr, nat_cmp}
use Rattle.std.specs.Cmp.{nat_cmp_total}
use Rattle.std.specs.FinMap.{FinMap, nat_cmp-IsAntisymmetric}
use Rattle.std.specs.FinMap as fin
use Rattle.std.proofs.lemmas.Option.{same_Some}
use Rattle.esr_model.specs.Names.{BlobName}
use Rattle.esr_model.specs.Values.{Bytes, IndexRef, RootData, ShardResult, Formats}
use Rattle.esr_model.specs.Image.{Has}
use Rattle.esr_core.specs.World.{Op, ShardWork, Out, Done, Ticket}
use Rattle.esr_core.specs.Generations.{DoneAt, IsLive, HasShard, Carries, DoneStands, OpLaw, Together, Base, ShardLaw}
use Rattle.esr_core.specs.Laws.Maps.{get_same, get_other, split}
use Rattle.esr_model.specs.Lists.{Has-map, Has-mapped}
use Rattle.esr_core.specs.Laws.ShardStates.{GoesOn, op_now as law-op_now, ops_now as law-ops_now, op_was as law-op_was, done_was as law-done_was, live_was as law-live_was}
use Rattle.esr_core.proofs.Owning.{OnWith, own_on}

-- the law of a shard's ticket, where its op stays
pub shard_law_on : (f : Formats) (has : BlobName → Bytes → Type 0) (root : RootData) (ops now : FinMap nat_cmp Op) (k : ℕ) (t : Ticket) (index shard : ℕ) (l : ShardLaw f has root ops k t index shard) → fin.get now t.op ≡ Some l.op
    → Base f has root now index shard t.base → ShardLaw f has root now k t index shard
shard_law_on f has root ops now k t index shard l there base =
    record { op = l.op; op_there = there; uuid_is = l.uuid_is; source_is = l.source_is; s = l.s; s_there = l.s_there; state = l.state; index_is = l.index_is; shard_is = l.shard_is; base = base; ids = l.ids }

-- and where an op is given anew, with the shards as they were that the ticket has
pub shard_law_given : (f : Formats) (has : BlobName → Bytes → Type 0) (root : RootData) (ops : FinMap nat_cmp Op) (o : ℕ) (op : Op) → fin.get ops o ≡ Some op
    → (g : ShardWork → ShardWork) (failed : Bool) (k : ℕ) (t : Ticket) (index shard : ℕ)
    → ShardLaw f has root ops k t index shard → ((z : ShardWork) → Has op.shards z → z.state ≡ Out k → g z ≡ z) → Base f has root (fin.insert ops o (record op { shards = map g op.shards; failed = failed })) index shard t.base
    → ShardLaw f has root (fin.insert ops o (record op { shards = map g op.shards; failed = failed })) k t index shard
shard_law_given f has root ops o op there g failed k t index shard l stays base = elim (split nat_cmp_total nat_cmp-IsAntisymmetric t.op o) [
  | inl same ↦
      let one : l.op ≡ op = same_Some _ _ (sym l.op_there ∙ ap (fin.get ops) same ∙ there) in
      let mine : Has op.shards l.s = subst (λ (x : Op). Has x.shards l.s) one l.s_there in
      record {
        op = now;
        op_there = ap (fin.get (fin.insert ops o now)) same ∙ get_same nat_cmp_total nat_cmp-IsAntisymmetric ops o now;
        uuid_is = ap (λ (x : Op). x.uuid) (sym one) ∙ l.uuid_is;
        source_is = l.source_is ∙ ap (λ (x : Op). x.source) one;
        s = l.s;
        s_there = subst (Has (map g op.shards)) (stays l.s mine l.state) (Has-map g op.shards l.s mine);
        state = l.state;
        index_is = l.index_is;
        shard_is = l.shard_is;
        base = base;
        ids = l.ids;
      }
  | inr apart ↦ shard_law_on f has root ops (fin.insert ops o now) k t index shard l (get_other nat_cmp_total nat_cmp-IsAntisymmetric ops o now t.op apart.0 ∙ l.op_there) base
]
  where
    now : Op
    now = record op { shards = map g op.shards; failed = failed }

-- the law of an op whose shards are given anew in their places, with what holds of those that are done
pub op_law_given : (f : Formats) (has : BlobName → Bytes → Type 0) (root : RootData) (op : Op) (g : ShardWork → ShardWork) (failed : Bool) → ((s : ShardWork) → (g s).ref ≡ s.ref) → ((s : ShardWork) → (g s).number ≡ s.number)
    → OpLaw f has root op → ((z : ShardWork) (r : ShardResult) → Has (map g op.shards) z → z.state ≡ Done r → DoneStands f has op.source op.uuid z r) → OpLaw f has root (record op { shards = map g op.shards; failed = failed })
op_law_given f has root op g failed ref number l done =
    record {
      places = places_now op.shards ∙ l.places;
      done = done;
      copies = l.copies;
      texts = l.texts;
      unlisted = l.unlisted;
      unused = l.unused;
      one_id = l.one_id;
      same_name = l.same_name;
      distinct = λ a b am bm i n.
          let (x, x_there, xs) = Has-mapped g op.shards a am in
          let (y, y_there, ys) = Has-mapped g op.shards b bm in
          let same : x ≡ y = l.distinct x y x_there y_there
          (sym (ap (λ (v : IndexRef). v.id) (ref x)) ∙ ap (λ (v : ShardWork). v.ref.id) xs ∙ i ∙ sym (ap (λ (v : ShardWork). v.ref.id) ys) ∙ ap (λ (v : IndexRef). v.id) (ref y))
          (sym (number x) ∙ ap (λ (v : ShardWork). v.number) xs ∙ n ∙ sym (ap (λ (v : ShardWork). v.number) ys) ∙ number y) in
          sym xs ∙ ap g same ∙ ys;
    }
  where
    places_now : (ss : List ShardWork) → map {B = IndexRef × ℕ} (λ (s : ShardWork). (s.ref, s.number)) (map g ss) ≡ map {B = IndexRef × ℕ} (λ (s : ShardWork). (s.ref, s.number)) ss
    places_now [] = refl
    places_now (s ∷ ss) = λ i. (ref s i, number s i) ∷ places_now ss i

module _ (f : Formats) (has : BlobName → Bytes → Type 0) (root : RootData) (ops : FinMap nat_cmp Op) (o : ℕ) (op : Op) (there : fin.get ops o ≡ Some op)
    (g : ShardWork → ShardWork) (on : GoesOn g) (failed : Bool) where
  abbrev op_now : Op
  op_now = law-op_now f has root ops o op there g on failed

  abbrev ops_now : FinMap nat_cmp Op
  ops_now = law-ops_now f has root ops o op there g on failed

  op_was : (p : ℕ) (q : Op) → fin.get ops_now p ≡ Some q → ((p ≡ o) × (op_now ≡ q)) ⊎ ((p ≢ o) × (fin.get ops p ≡ Some q))
  op_was = law-op_was f has root ops o op there g on failed

  done_was : (uuid index shard n : ℕ) → DoneAt ops_now uuid index shard n → DoneAt ops uuid index shard n
  done_was = law-done_was f has root ops o op there g on failed

  live_was : (index shard n : ℕ) → IsLive root ops_now index shard n → IsLive root ops index shard n
  live_was = law-live_was f has root ops o op there g on failed

  has_still : (index shard : ℕ) → HasShard op index shard → HasShard op_now index shard
  has_still index shard h = (g h.0, Has-map g op.shards h.0 h.1, ap (λ (r : IndexRef). r.id) (on.ref h.0) ∙ h.2, on.number h.0 ∙ h.3)

  pub on_with : OnWith ops ops_now
  on_with = λ p q e. elim (op_was p q e) [
    | inl h ↦ (op, ap (fin.get ops) h.0 ∙ there, ap (λ (x : Op). x.uuid) h.1, (λ index shard has. subst (λ (x : Op). HasShard x index shard) h.1 (has_still index shard has)))
    | inr h ↦ (q, h.1, refl, (λ index shard has. has))
  ]

  pub carries_now : (index shard n : ℕ) → Carries f has root ops index shard n → Carries f has root ops_now index shard n
  carries_now index shard n c = record { stands = c.stands; own = own_on ops ops_now on_with f has index shard n c.own; done = λ u h a below. c.done u h (done_was u index shard h a) below; listed = c.listed }

  pub base_now : (index shard : ℕ) (base : Option ℕ) → Base f has root ops index shard base → Base f has root ops_now index shard base
  base_now index shard None h = λ n live. h n (live_was index shard n live)
  base_now index shard (Some base) h = (λ n live. h.0 n (live_was index shard n live), carries_now index shard base h.1)

  pub op_law_now : OpLaw f has root op → OpLaw f has root op_now
  op_law_now l = op_law_given f has root op g failed on.ref on.number l (λ z r m state.
      let (x, x_there, same) = Has-mapped g op.shards z m in
      let is : x ≡ z = sym (on.done x r (ap (λ (y : ShardWork). y.state) same ∙ state)) ∙ same in
      subst (λ (y : ShardWork). DoneStands f has op.source op.uuid y r) is (l.done x r x_there (ap (λ (y : ShardWork). y.state) is ∙ state)))

  pub together_now : ((p q : ℕ) (a b : Op) → p ≢ q → fin.get ops p ≡ Some a → fin.get ops q ≡ Some b → Together a b)
      → (p q : ℕ) (a b : Op) → p ≢ q → fin.get ops_now p ≡ Some a → fin.get ops_now q ≡ Some b → Together a b
  together_now all p q a b apart e h = elim (op_was p a e) [
    | inl x ↦ elim (op_was q b h) [
      | inl y ↦ absurd (apart (x.0 ∙ sym y.0))
      | inr y ↦ let was = all o q op b (λ z. apart (x.0 ∙ z)) there y.1 in subst (λ z. Together z b) x.1 (record { uuids = was.uuids; same_name = was.same_name })
    ]
    | inr x ↦ elim (op_was q b h) [
      | inl y ↦ let was = all p o a op x.0 x.1 there in subst (λ z. Together a z) y.1 (record { uuids = was.uuids; same_name = was.same_name })
      | inr y ↦ all p q a b apart x.1 y.1
    ]
  ]
