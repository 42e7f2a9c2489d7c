-- How the shards of an op go on.
use Rattle.std.proofs.Common.{◌≡◌, ◌⊎◌, ℕ, refl, sym, ap, ◌∙◌, inl, inr, ◌≢◌, Bool, Some, map, subst, nat_cmp, List, [], ◌∷◌, ◌==◌, ◌&&◌, true}
use Rattle.std.proofs.lemmas.Bool.Decides.{eqb_tells}
use Rattle.std.proofs.lemmas.Bool.{cond-true, cond-false}
use Rattle.std.specs.Cmp.{nat_cmp_total}
use Rattle.std.specs.FinMap.{FinMap, nat_cmp-IsAntisymmetric}
use Rattle.std.specs.FinMap as fin
use Rattle.esr_model.specs.Values.{ShardResult, Bytes, RootData, Formats, IndexRef}
use Rattle.esr_core.specs.World.{ShardWork, ShardState, Pending, Out, Done, GivenUp, marked, marked_by, Op}
use Rattle.esr_model.specs.Names.{BlobName}
use Rattle.esr_model.specs.Image.{Has, AllPairs, Generation, ShardStands}
use Rattle.esr_core.specs.Generations.{DoneAt, IsLive}
use Rattle.esr_model.specs.Shelf.{ShelfShard}
use Rattle.esr_core.specs.Steps.{given}
use Rattle.esr_core.specs.Ready.{Idle}
use Rattle.esr_core.specs.Turns.{fails, fails_by}
use Rattle.esr_core.specs.Laws.Maps.{get_was}
use Rattle.esr_model.specs.Lists.{Has-mapped}

-- what a marked shard is: the one that the ticket held, in the new state, or the one that was
pub record WasHeld (k : ℕ) (new : ShardState) (s z : ShardWork) : Type 0 where
  pub state : s.state ≡ Out k
  pub is : z ≡ record s { state = new }

pub record WasOther (k : ℕ) (s z : ShardWork) : Type 0 where
  pub not_held : s.state ≡ Out k → ⊥
  pub is : z ≡ s

pub marked_is : (k : ℕ) (new : ShardState) (s : ShardWork) → WasHeld k new s (marked k new s) ⊎ WasOther k s (marked k new s)
marked_is k new s = go s.state refl
  where
    out_same : {j : ℕ} → Out j ≡ Out k → j ≡ k
    out_same e = cc

    pending_out : Pending ≡ Out k → ⊥
    pending_out e = cc

    done_out : {r : ShardResult} → Done r ≡ Out k → ⊥
    done_out e = cc

    given_out : GivenUp ≡ Out k → ⊥
    given_out e = cc

    go : (st : ShardState) → s.state ≡ st → WasHeld k new s (marked_by k new s st) ⊎ WasOther k s (marked_by k new s st)
    go (Out j) e = elim (eqb_tells j k) [
      | inl h ↦ inl (record { state = e ∙ ap Out h.1; is = cond-true _ _ _ h.0 })
      | inr h ↦ inr (record { not_held = λ q. h.1 (out_same (sym e ∙ q)); is = cond-false _ _ _ h.0 })
    ]
    go Pending e = inr (record { not_held = λ q. pending_out (sym e ∙ q); is = refl })
    go (Done r) e = inr (record { not_held = λ q. done_out (sym e ∙ q); is = refl })
    go GivenUp e = inr (record { not_held = λ q. given_out (sym e ∙ q); is = refl })

pub record GoesOn (g : ShardWork → ShardWork) : Type 0 where
  pub ref : (s : ShardWork) → (g s).ref ≡ s.ref
  pub number : (s : ShardWork) → (g s).number ≡ s.number
  pub done : (s : ShardWork) (r : ShardResult) → (g s).state ≡ Done r → g s ≡ s

module _ (f : Formats) (has : BlobName → Bytes → Type 0) (root : RootData) (ops : FinMap nat_cmp Op) (o : ℕ) (op : Op) (there : fin.get ops o ≡ Some op)
    (g : ShardWork → ShardWork) (on : GoesOn g) (failed : Bool) where
  abbrev pub op_now : Op
  op_now = record op { shards = map g op.shards; failed = failed }

  abbrev pub ops_now : FinMap nat_cmp Op
  ops_now = fin.insert ops o op_now

  pub op_was : (p : ℕ) (q : Op) → fin.get ops_now p ≡ Some q → ((p ≡ o) × (op_now ≡ q)) ⊎ ((p ≢ o) × (fin.get ops p ≡ Some q))
  op_was p q e = get_was nat_cmp_total nat_cmp-IsAntisymmetric ops o op_now p q e

  pub done_was : (uuid index shard n : ℕ) → DoneAt ops_now uuid index shard n → DoneAt ops uuid index shard n
  done_was uuid index shard n a = elim (op_was a.number a.op a.there) [
    | inr h ↦ record { number = a.number; op = a.op; there = h.1; uuid_is = a.uuid_is; s = a.s; s_there = a.s_there; r = a.r; state = a.state; index_is = a.index_is; shard_is = a.shard_is; generation_is = a.generation_is }
    | inl h ↦
        let (z, m, same) = Has-mapped g op.shards a.s (subst (λ (x : Op). Has x.shards a.s) (sym h.1) a.s_there) in
        let is : z ≡ a.s = sym (on.done z a.r (ap (λ (x : ShardWork). x.state) same ∙ a.state)) ∙ same in
        record {
          number = o;
          op = op;
          there = there;
          uuid_is = ap (λ (x : Op). x.uuid) h.1 ∙ a.uuid_is;
          s = z;
          s_there = m;
          r = a.r;
          state = ap (λ (x : ShardWork). x.state) is ∙ a.state;
          index_is = ap (λ (x : ShardWork). x.ref.id) is ∙ a.index_is;
          shard_is = ap (λ (x : ShardWork). x.number) is ∙ a.shard_is;
          generation_is = a.generation_is;
        }
  ]

  pub live_was : (index shard n : ℕ) → IsLive root ops_now index shard n → IsLive root ops index shard n
  live_was index shard n (inl h) = inl h
  live_was index shard n (inr (u, a)) = inr (u, done_was u index shard n a)

-- a place of a listed snapshot has a generation in the root
pub place_has : (f : Formats) (has : BlobName → Bytes → Type 0) (root : RootData) (uuid : ℕ) (places : List (IndexRef × ℕ)) (shards : List ShelfShard) → AllPairs (ShardStands f has root uuid) places shards
    → (place : IndexRef × ℕ) → Has places place → (g : ℕ) × Generation root place.0.id place.1 g
place_has f has root uuid [] shards h place m = absurd m
place_has f has root uuid (x ∷ xs) [] h place m = absurd h
place_has f has root uuid (x ∷ xs) (y ∷ ys) h place (inl e) = (h.0.generation, subst (λ (p : IndexRef × ℕ). Generation root p.0.id p.1 h.0.generation) e h.0.in_root)
place_has f has root uuid (x ∷ xs) (y ∷ ys) h place (inr m) = place_has f has root uuid xs ys h.1 place m

pub out_same : {a b : ℕ} → Out a ≡ Out b → a ≡ b
out_same e = cc

pub pending_out : {a : ℕ} → Pending ≡ Out a → ⊥
pending_out e = cc

pub pending_done : {r : ShardResult} → Pending ≡ Done r → ⊥
pending_done e = cc

pub out_done : {a : ℕ} {r : ShardResult} → Out a ≡ Done r → ⊥
out_done e = cc

-- the one of this place goes to the ticket, the others stay
pub given_is : (k i n : ℕ) (s : ShardWork) → ((s.ref.id ≡ i) × (s.number ≡ n) × (given k i n s ≡ record s { state = Out k })) ⊎ ((s.ref.id ≡ i → s.number ≡ n → ⊥) × (given k i n s ≡ s))
given_is k i n s = elim (eqb_tells s.ref.id i) [
  | inl a ↦ elim (eqb_tells s.number n) [
    | inl b ↦ inl (a.1, b.1, cond-true _ _ _ (ap (λ x. x && (s.number == n)) a.0 ∙ b.0))
    | inr b ↦ inr ((λ p q. b.1 q), cond-false _ _ _ (ap (λ x. x && (s.number == n)) a.0 ∙ b.0))
  ]
  | inr a ↦ inr ((λ p q. a.1 p), cond-false _ _ _ (ap (λ x. x && (s.number == n)) a.0))
]

pub goes_on : (k i n : ℕ) → GoesOn (given k i n)
goes_on k i n = record {
  ref = λ s. elim (given_is k i n s) [ inl h ↦ ap (λ (x : ShardWork). x.ref) h.2 | inr h ↦ ap (λ (x : ShardWork). x.ref) h.1 ];
  number = λ s. elim (given_is k i n s) [ inl h ↦ ap (λ (x : ShardWork). x.number) h.2 | inr h ↦ ap (λ (x : ShardWork). x.number) h.1 ];
  done = λ s r e. elim (given_is k i n s) [ inl h ↦ absurd (out_done (ap (λ (x : ShardWork). x.state) (sym h.2) ∙ e)) | inr h ↦ h.1 ];
}

pub out_pending : {a : ℕ} → Out a ≡ Pending → ⊥
out_pending e = cc

pub done_pending : {r : ShardResult} → Done r ≡ Pending → ⊥
done_pending e = cc

pub up_pending : GivenUp ≡ Pending → ⊥
up_pending e = cc

pub up_out : {a : ℕ} → GivenUp ≡ Out a → ⊥
up_out e = cc

pub up_done : {r : ShardResult} → GivenUp ≡ Done r → ⊥
up_done e = cc

-- what one shard becomes
pub record Grows (failed : Bool) (s z : ShardWork) : Type 0 where
  pub ref : z.ref ≡ s.ref
  pub number : z.number ≡ s.number
  pub idle : Idle s.state → Idle z.state
  pub pending : z.state ≡ Pending → s.state ≡ Pending
  pub given_up : z.state ≡ GivenUp → (s.state ≡ GivenUp) ⊎ (failed ≡ true)

pub grows_same : (failed : Bool) (s z : ShardWork) → z ≡ s → Grows failed s z
grows_same failed s z e = record {
  ref = ap (λ (x : ShardWork). x.ref) e;
  number = ap (λ (x : ShardWork). x.number) e;
  idle = λ h. subst (λ (x : ShardWork). Idle x.state) (sym e) h;
  pending = λ h. sym (ap (λ (x : ShardWork). x.state) e) ∙ h;
  given_up = λ h. inl (sym (ap (λ (x : ShardWork). x.state) e) ∙ h);
}

-- what a shard is after a failure: as it was, or given up
pub failed_is : (k : ℕ) (s : ShardWork) → (((s.state ≡ Pending) ⊎ (s.state ≡ Out k)) × (fails k s ≡ record s { state = GivenUp })) ⊎ ((s.state ≢ Pending) × (s.state ≢ Out k) × (fails k s ≡ s))
failed_is k s = go s.state refl
  where
    go : (st : ShardState) → s.state ≡ st → (((s.state ≡ Pending) ⊎ (s.state ≡ Out k)) × (fails_by k s st ≡ record s { state = GivenUp })) ⊎ ((s.state ≢ Pending) × (s.state ≢ Out k) × (fails_by k s st ≡ s))
    go (Out j) e = elim (eqb_tells j k) [
      | inl h ↦ inl (inr (e ∙ ap Out h.1), cond-true _ _ _ h.0)
      | inr h ↦ inr ((λ q. out_pending (sym e ∙ q)), (λ q. h.1 (out_same (sym e ∙ q))), cond-false _ _ _ h.0)
    ]
    go Pending e = inl (inl e, refl)
    go (Done r) e = inr ((λ q. done_pending (sym e ∙ q)), (λ q. out_done (sym q ∙ e)), refl)
    go GivenUp e = inr ((λ q. up_pending (sym e ∙ q)), (λ q. up_out (sym e ∙ q)), refl)

pub failed_grows : (k : ℕ) (s : ShardWork) → Grows true s (fails k s)
failed_grows k s = elim (failed_is k s) [
  | inr h ↦ grows_same true s (fails k s) h.2
  | inl h ↦ record {
    ref = ap (λ (x : ShardWork). x.ref) h.1;
    number = ap (λ (x : ShardWork). x.number) h.1;
    idle = λ i. subst (λ (x : ShardWork). Idle x.state) (sym h.1) tt;
    pending = λ p. absurd (up_pending (sym (ap (λ (x : ShardWork). x.state) h.1) ∙ p));
    given_up = λ p. inr refl;
  }
]

pub failed_goes : (k : ℕ) → GoesOn (fails k)
failed_goes k = record {
  ref = λ s. (failed_grows k s).ref;
  number = λ s. (failed_grows k s).number;
  done = λ s r e. elim (failed_is k s) [ inr h ↦ h.2 | inl h ↦ absurd (up_done (sym (ap (λ (x : ShardWork). x.state) h.1) ∙ e)) ];
}
