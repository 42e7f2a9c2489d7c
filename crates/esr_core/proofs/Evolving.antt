-- Ops whose shards go on, for the queue's law; and no ticket has a shard that is ready.
use Rattle.std.proofs.Common.{◌≡◌, ◌⊎◌, ℕ, List, [], ◌∷◌, ◌++◌, Bool, true, false, true≢false, ◌&&◌, Some, map, refl, sym, ap, ◌∙◌, subst, inl, inr}
use Rattle.std.specs.Prelude.{if◌then◌else◌}
use Rattle.std.proofs.lemmas.Bool.{cases_order, and_parts, cond-true}
use Rattle.std.specs.FinMap as fin
use Rattle.std.proofs.lemmas.Option.{same_Some}
use Rattle.esr_core.specs.Laws.NumberMaps.{was_in, same_in, other_in, split_at}
use Rattle.esr_model.specs.Values.{IndexRef, ShardResult, Formats}
use Rattle.esr_model.specs.Image.{Has}
use Rattle.esr_core.specs.World.{World, Op, ShardWork, ShardState, Out, Done, GivenUp, Shard, Ticket, AllDone, HeldIn, marked}
use Rattle.esr_core.specs.Ready.{Idle, Waits, ReadyShard}
use Rattle.esr_core.specs.Generations.{Carried}
use Rattle.esr_core.specs.Steps.{completing, all_done, is_done}
use Rattle.esr_core.specs.Turns.{fails}
use Rattle.esr_core.specs.Queue.{QueueIn}
use Rattle.esr_model.specs.Lists.{Has-mapped, Has-left, Has-right, Has-append}
use Rattle.esr_core.specs.Laws.ShardStates.{marked_is, pending_out, out_done, done_pending, up_out, Grows, grows_same, failed_is}
use Rattle.esr_core.specs.Laws.Maps.{Ops}
use Rattle.esr_core.proofs.Queues.{Evolves}

pub out_up : {a : ℕ} → Out a ≡ GivenUp → ⊥
out_up e = cc

pub done_up : {r : ShardResult} → Done r ≡ GivenUp → ⊥
done_up e = cc

pub out_idle : {a : ℕ} (st : ShardState) → st ≡ Out a → Idle st → ⊥
out_idle {a} st e h = subst Idle e h

pub evolve_map : (op : Op) (g : ShardWork → ShardWork) (failed : Bool) → ((s : ShardWork) → Grows failed s (g s)) → (op.failed ≡ true → failed ≡ true) → Evolves op (record op { shards = map g op.shards; failed = failed })
evolve_map op g failed all up =
    record {
      shards = λ z m. let (s, m', e) = Has-mapped g op.shards z m in let h = all s in (
        s,
        m',
        ap (λ (x : IndexRef). x.id) (sym h.ref) ∙ ap (λ (x : ShardWork). x.ref.id) e,
        sym h.number ∙ ap (λ (x : ShardWork). x.number) e,
        (λ i. subst (λ (x : ShardWork). Idle x.state) e (h.idle i)),
        (λ p. h.pending (ap (λ (x : ShardWork). x.state) e ∙ p)),
        (λ p. h.given_up (ap (λ (x : ShardWork). x.state) e ∙ p)),
      );
      failed = up;
      stopped = λ h. elim h [ inl f ↦ inl (up f) | inr a ↦ inr a ];
      source = refl;
    }

pub evolves_same : (op : Op) → Evolves op op
evolves_same op = record { shards = λ z m. (z, m, refl, refl, (λ i. i), (λ p. p), (λ p. inl p)); failed = λ h. h; stopped = λ h. h; source = refl }

-- the three ways in which a shard goes on
pub marked_grows : (k : ℕ) (r : ShardResult) (failed : Bool) (s : ShardWork) → Grows failed s (marked k (Done r) s)
marked_grows k r failed s = elim (marked_is k (Done r) s) [
  | inr h ↦ grows_same failed s (marked k (Done r) s) h.is
  | inl h ↦ record {
    ref = ap (λ (x : ShardWork). x.ref) h.is;
    number = ap (λ (x : ShardWork). x.number) h.is;
    idle = λ i. absurd (out_idle s.state h.state i);
    pending = λ p. absurd (done_pending (sym (ap (λ (x : ShardWork). x.state) h.is) ∙ p));
    given_up = λ p. absurd (done_up (sym (ap (λ (x : ShardWork). x.state) h.is) ∙ p));
  }
]

pub marked_outs : (k : ℕ) (r : ShardResult) (s : ShardWork) (j : ℕ) → (marked k (Done r) s).state ≡ Out j → marked k (Done r) s ≡ s
marked_outs k r s j e = elim (marked_is k (Done r) s) [
  | inr h ↦ h.is
  | inl h ↦ absurd (out_done (sym e ∙ ap (λ (x : ShardWork). x.state) h.is))
]

pub failed_outs : (k : ℕ) (s : ShardWork) (j : ℕ) → (fails k s).state ≡ Out j → fails k s ≡ s
failed_outs k s j e = elim (failed_is k s) [
  | inr h ↦ h.2
  | inl h ↦ absurd (up_out (sym (ap (λ (x : ShardWork). x.state) h.1) ∙ e))
]

-- completed ops
pub all_done_tells : (shards : List ShardWork) (results : List ShardResult) → AllDone shards results → all_done shards ≡ true
all_done_tells [] results h = refl
all_done_tells (s ∷ ss) [] h = absurd h
all_done_tells (s ∷ ss) (r ∷ rs) h = ap (λ st. is_done st && all_done ss) h.0 ∙ all_done_tells ss rs h.1

pub completing_has : (completed : List ℕ) (o : ℕ) (shards : List ShardWork) (results : List ShardResult) → AllDone shards results → Has (completing completed o shards) o
completing_has completed o shards results h =
    subst (λ xs. Has xs o) (sym (cond-true (all_done shards) (completed ++ o ∷ []) completed (all_done_tells shards results h))) (Has-right completed (o ∷ []) o (inl refl))

pub completing_more : (completed : List ℕ) (o : ℕ) (shards : List ShardWork) (x : ℕ) → Has completed x → Has (completing completed o shards) x
completing_more completed o shards x h = go (all_done shards)
  where
    go : (b : Bool) → Has (if b then completed ++ o ∷ [] else completed) x
    go true = Has-left completed (o ∷ []) x h
    go false = h

-- what an op that completes adds
pub completing_was : (completed : List ℕ) (o : ℕ) (shards : List ShardWork) (x : ℕ) → Has (completing completed o shards) x → Has completed x ⊎ ((x ≡ o) × (all_done shards ≡ true))
completing_was completed o shards x h = go (all_done shards) refl h
  where
    go : (b : Bool) → all_done shards ≡ b → Has (if b then completed ++ o ∷ [] else completed) x → Has completed x ⊎ ((x ≡ o) × (all_done shards ≡ true))
    go true e h = elim (Has-append completed o x h) [ inl m ↦ inl m | inr q ↦ inr (sym q, e) ]
    go false e h = inl h

is_done_of : (st : ShardState) → is_done st ≡ true → (r : ShardResult) × (st ≡ Done r)
is_done_of (Done r) e = (r, refl)
is_done_of st e = absurd (true≢false (sym e))

pub results_of : (shards : List ShardWork) → all_done shards ≡ true → (results : List ShardResult) × AllDone shards results
results_of [] e = ([], tt)
results_of (s ∷ ss) e =
    let h = and_parts (is_done s.state) (all_done ss) e in
    let (r, state) = is_done_of s.state h.0 in
    let (rs, all) = results_of ss h.1 in
    (r ∷ rs, (state, all))

-- what is done stays, under a map that leaves it
pub all_done_on : (g : ShardWork → ShardWork) → ((s : ShardWork) (r : ShardResult) → s.state ≡ Done r → g s ≡ s) → (shards : List ShardWork) (results : List ShardResult) → AllDone shards results → AllDone (map g shards) results
all_done_on g same [] [] h = tt
all_done_on g same (s ∷ ss) (r ∷ rs) h = (ap (λ (x : ShardWork). x.state) (same s r h.0) ∙ h.0, all_done_on g same ss rs h.1)
all_done_on g same shards results h = absurd h

pub failed_leaves : (k : ℕ) (s : ShardWork) (r : ShardResult) → s.state ≡ Done r → fails k s ≡ s
failed_leaves k s r e = elim (failed_is k s) [
  | inr h ↦ h.2
  | inl h ↦ absurd (elim h.0 [ inl p ↦ done_pending (sym e ∙ p) | inr q ↦ out_done (sym q ∙ e) ])
]

pub marked_leaves : (k : ℕ) (q : ShardResult) (s : ShardWork) (r : ShardResult) → s.state ≡ Done r → marked k (Done q) s ≡ s
marked_leaves k q s r e = elim (marked_is k (Done q) s) [
  | inr h ↦ h.is
  | inl h ↦ absurd (out_done (sym h.state ∙ e))
]

pub all_done_back : (g : ShardWork → ShardWork) → ((s : ShardWork) (r : ShardResult) → (g s).state ≡ Done r → g s ≡ s) → (shards : List ShardWork) (results : List ShardResult) → AllDone (map g shards) results
    → AllDone shards results
all_done_back g same [] [] h = tt
all_done_back g same (s ∷ ss) (r ∷ rs) h = (sym (ap (λ (x : ShardWork). x.state) (same s r h.0)) ∙ h.0, all_done_back g same ss rs h.1)
all_done_back g same shards results h = absurd h

-- one op of a list goes on
module _ (ops : Ops) (o : ℕ) (old op : Op) (there : fin.get ops o ≡ Some old) (ev : Evolves old op) where
  pub one_back : (p : ℕ) (q : Op) → fin.get (fin.insert ops o op) p ≡ Some q → (was : Op) × (fin.get ops p ≡ Some was) × Evolves was q
  one_back p q e = elim (was_in ops o op p q e) [
    | inl h ↦ (old, ap (fin.get ops) h.0 ∙ there, subst (Evolves old) h.1 ev)
    | inr h ↦ (q, h.1, evolves_same q)
  ]

  pub one_forth : (p : ℕ) (was : Op) → fin.get ops p ≡ Some was → (q : Op) × (fin.get (fin.insert ops o op) p ≡ Some q) × Evolves was q
  one_forth p was e = elim (split_at p o) [
    | inl h ↦ (op, ap (fin.get (fin.insert ops o op)) h ∙ same_in ops o op, subst (λ x. Evolves x op) (same_Some _ _ (sym there ∙ ap (fin.get ops) (sym h) ∙ e)) ev)
    | inr h ↦ (was, other_in ops o op p h ∙ e, evolves_same was)
  ]

  pub one_outs : ((z : ShardWork) → Has op.shards z → (k : ℕ) → z.state ≡ Out k → Has old.shards z)
      → (p : ℕ) (q : Op) → fin.get (fin.insert ops o op) p ≡ Some q → (z : ShardWork) → Has q.shards z → (k : ℕ) → z.state ≡ Out k → (was : Op) × (fin.get ops p ≡ Some was) × Has was.shards z
  one_outs outs p q e z m k out = elim (was_in ops o op p q e) [
    | inl h ↦ (old, ap (fin.get ops) h.0 ∙ there, outs z (subst (λ (x : Op). Has x.shards z) (sym h.1) m) k out)
    | inr h ↦ (q, h.1, m)
  ]

-- of the shards after a map that leaves what is out
pub outs_map : (g : ShardWork → ShardWork) → ((s : ShardWork) (j : ℕ) → (g s).state ≡ Out j → g s ≡ s) → (shards : List ShardWork) (z : ShardWork) → Has (map g shards) z → (k : ℕ) → z.state ≡ Out k → Has shards z
outs_map g same shards z m k out =
    let (s, m', e) = Has-mapped g shards z m in
    let is : s ≡ z = sym (same s k (ap (λ (x : ShardWork). x.state) e ∙ out)) ∙ e in
    subst (Has shards) is m'

-- no ticket has a shard that is ready
pub free_of : (f : Formats) (w : World) (o : ℕ) (op : Op) (s : ShardWork) → Carried f (HeldIn f w) w.safe w.term w.root w.ops w.tickets → QueueIn w → ReadyShard w o op s
    → (k : ℕ) (t : Ticket) → fin.get w.tickets k ≡ Some t → t.out ≡ true → t.work ≡ Shard s.ref.id s.number → ⊥
free_of f w o op s c q r k t there out is =
    let l = c.shards k t there out s.ref.id s.number is in
    elim (cases_order t.op o) [
      | inl same ↦
          let one : l.op ≡ op = same_Some _ _ (sym l.op_there ∙ ap (fin.get w.ops) same ∙ r.op_there) in
          let it : l.s ≡ s = (c.ops o op r.op_there).distinct l.s s (subst (λ (x : Op). Has x.shards l.s) one l.s_there) r.s_there l.index_is l.shard_is in
          pending_out (sym r.pending ∙ ap (λ (x : ShardWork). x.state) (sym it) ∙ l.state)
      | inr (inl lt) ↦ r.first t.op l.op l.s lt l.op_there l.s_there l.index_is l.shard_is (subst Waits (sym l.state) tt)
      | inr (inr gt) ↦ q.queued o t.op op l.op s l.s gt r.op_there l.op_there r.s_there l.s_there (sym l.index_is) (sym l.shard_is) r.pending k l.state
    ]
