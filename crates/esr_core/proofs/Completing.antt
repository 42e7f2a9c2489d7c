-- Where an op or a restore is open and no ticket is out, some unit is ready.
use Rattle.std.proofs.Common.{◌≡◌, ◌⊎◌, ℕ, zero, suc, ◌<◌, List, [], ◌∷◌, Bool, true, false, true≢false, Option, Some, None, refl, sym, ap, ◌∙◌, subst, inl, inr, arith, nat_cmp}
use Rattle.std.proofs.lemmas.Bool.{cases_order}
use Rattle.std.specs.FinMap.{FinMap}
use Rattle.std.specs.FinMap as fin
use Rattle.std.proofs.lemmas.Option.{same_Some, none-some}
use Rattle.esr_core.proofs.TrackingOps.{goes_not_stopped}
use Rattle.esr_model.specs.Values.{ShardResult, Formats}
use Rattle.esr_model.specs.Shelf.{Shelved}
use Rattle.esr_model.specs.Image.{Has}
use Rattle.esr_core.specs.World.{World, Op, ShardWork, ShardState, Pending, Out, Done, GivenUp, Ticket, Restoring, AllDone}
use Rattle.esr_core.specs.Ready.{Barrier, Goes, Stopped, Before, SwapIsOut, UnitIsOut, AnyReady, AShard, AFinalize, ADrop, ADelete, ACleanup, IsOpen, HasRestore, NoTicketOut}
use Rattle.esr_core.specs.Queue.{Lawful}
use Rattle.esr_core.specs.ReadTracked.{ReadTracked}
use Rattle.esr_core.specs.Laws.Maps.{Deletes}
use Rattle.esr_core.proofs.ReadSteps.{restore_ready}

-- whether a map has a key
pub has_key : {X : Type 0} (m : FinMap nat_cmp X) (k : ℕ) → ((x : X) × (fin.get m k ≡ Some x)) ⊎ ((x : X) → fin.get m k ≡ Some x → ⊥)
has_key m k = go (fin.get m k) refl
  where
    go : (r : Option _) → fin.get m k ≡ r → ((x : _) × (fin.get m k ≡ Some x)) ⊎ ((x : _) → fin.get m k ≡ Some x → ⊥)
    go (Some x) e = inl (x, e)
    go None e = inr (λ x h. none-some x (sym e ∙ h))

-- whether a delete stands before
barred : (deletes : Deletes) (o : ℕ) → Barrier deletes o ⊎ (Barrier deletes o → ⊥)
barred deletes zero = inr (λ b. let h : b.number < 0 = b.before in omega arith)
barred deletes (suc o) = elim (has_key deletes o) [
  | inl h ↦ inl (record { number = o; deletion = h.0; there = h.1; before = omega arith })
  | inr h ↦ elim (barred deletes o) [
    | inl b ↦ inl (record { number = b.number; deletion = b.deletion; there = b.there; before = let c : b.number < o = b.before in omega arith })
    | inr none ↦ inr (λ b. elim (cases_order b.number o) [
      | inl same ↦ h b.deletion (ap (fin.get deletes) (sym same) ∙ b.there)
      | inr (inl lt) ↦ none (record { number = b.number; deletion = b.deletion; there = b.there; before = lt })
      | inr (inr gt) ↦ (let c : b.number < suc o = b.before in omega (arith, gt))
    ])
  ]
]

goes_or_not : (op : Op) → Goes op ⊎ Stopped op
goes_or_not op = go op.failed refl op.aborted refl
  where
    go : (b : Bool) → op.failed ≡ b → (a : Option ℕ) → op.aborted ≡ a → Goes op ⊎ Stopped op
    go true e a h = inr (inl e)
    go false e None h = inl (record { unfailed = e; unaborted = h })
    go false e (Some by) h = inr (inr (by, h))

module _ (f : Formats) (w : World) (shelf : List Shelved) (l : Lawful f w shelf) (idle : (k : ℕ) (t : Ticket) → fin.get w.tickets k ≡ Some t → t.out ≡ true → ⊥)
    (no_restore : (o : ℕ) (r : Restoring) → fin.get w.restores o ≡ Some r → ⊥) where
  no_swap : (k : ℕ) → SwapIsOut w.tickets w.term k → ⊥
  no_swap k h = idle k h.t h.there h.out

  no_unit : (o k : ℕ) → UnitIsOut w.tickets w.term o k → ⊥
  no_unit o k h = idle k h.t h.there h.out

  open_or_not : (o : ℕ) → IsOpen w o ⊎ (IsOpen w o → ⊥)
  open_or_not o = elim (has_key w.ops o) [
    | inl h ↦ inl (inl h)
    | inr a ↦ elim (has_key w.deletes o) [
      | inl h ↦ inl (inr h)
      | inr b ↦ inr (λ h. elim h [ inl x ↦ a x.0 x.1 | inr x ↦ b x.0 x.1 ])
    ]
  ]

  -- the lowest open op
  lowest : (n : ℕ) → ((m : ℕ) → m < n → IsOpen w m → ⊥) ⊎ ((m : ℕ) × IsOpen w m × ((p : ℕ) → p < m → IsOpen w p → ⊥))
  lowest zero = inl (λ m lt h. omega (arith, lt))
  lowest (suc n) = elim (lowest n) [
    | inr found ↦ inr found
    | inl none ↦ elim (open_or_not n) [
      | inl h ↦ inr (n, h, none)
      | inr not ↦ inl (λ m lt h. elim (cases_order m n) [
        | inl same ↦ not (subst (IsOpen w) same h)
        | inr (inl less) ↦ none m less h
        | inr (inr more) ↦ omega (arith, lt, more)
      ])
    ]
  ]

  -- an op that could be finalized, but for others before it
  record Could (o : ℕ) : Type 0 where
    op : Op
    there : fin.get w.ops o ≡ Some op
    goes : Goes op
    no_barrier : Barrier w.deletes o → ⊥

  could_or_not : (o : ℕ) → Could o ⊎ (Could o → ⊥)
  could_or_not o = elim (has_key w.ops o) [
    | inr none ↦ inr (λ h. none h.op h.there)
    | inl h ↦ elim (goes_or_not h.0) [
      | inr st ↦ inr (λ c. goes_not_stopped c.op c.goes (subst Stopped (same_Some _ _ (sym h.1 ∙ c.there)) st))
      | inl g ↦ elim (barred w.deletes o) [
        | inl b ↦ inr (λ c. c.no_barrier b)
        | inr nb ↦ inl (record { op = h.0; there = h.1; goes = g; no_barrier = nb })
      ]
    ]
  ]

  -- the one that completed first
  first_could : (xs : List ℕ) → ((p : ℕ) → Has xs p → Could p → ⊥) ⊎ ((p : ℕ) × Could p × Has xs p × ((q : ℕ) → Could q → Before xs q p → ⊥))
  first_could [] = inl (λ p h c. h)
  first_could (x ∷ xs) = elim (could_or_not x) [
    | inl c ↦ inr (x, c, inl refl, (λ q d b. b.0 refl))
    | inr not ↦ elim (first_could xs) [
      | inl none ↦ inl (λ p h c. elim h [ inl e ↦ not (subst Could (sym e) c) | inr m ↦ none p m c ])
      | inr found ↦ let (p, c, m, least) = found in inr (p, c, inr m, (λ q d b. elim b.1 [ inl e ↦ not (subst Could (sym e.0) d) | inr rest ↦ least q d rest ]))
    ]
  ]

  finalize : (o : ℕ) → Could o → Has w.completed o → AnyReady w
  finalize o c m = elim (first_could w.completed) [
    | inl none ↦ absurd (none o m c)
    | inr found ↦
        let (p, it, there, least) = found in
        let (results, all) = l.queue.completed_done p it.op there it.there in
        AFinalize p it.op results (record {
          op_there = it.there;
          done = all;
          goes = it.goes;
          no_barrier = it.no_barrier;
          no_swap = no_swap;
          earliest = λ q x e g nb b. least q (record { op = x; there = e; goes = g; no_barrier = nb }) b;
        })
  ]

  -- of shards of which none is out or given up, one is pending or all are done
  some_pending : (shards : List ShardWork) → ((s : ShardWork) → Has shards s → (k : ℕ) → s.state ≡ Out k → ⊥) → ((s : ShardWork) → Has shards s → s.state ≡ GivenUp → ⊥)
      → ((s : ShardWork) × Has shards s × (s.state ≡ Pending)) ⊎ ((results : List ShardResult) × AllDone shards results)
  some_pending [] out up = inr ([], tt)
  some_pending (s ∷ ss) out up = elim (some_pending ss (λ z m. out z (inr m)) (λ z m. up z (inr m))) [
    | inl h ↦ inl (h.0, inr h.1, h.2)
    | inr h ↦ at s.state refl h.0 h.1
  ]
    where
      at : (st : ShardState) → s.state ≡ st → (results : List ShardResult) → AllDone ss results → ((z : ShardWork) × Has (s ∷ ss) z × (z.state ≡ Pending)) ⊎ ((results : List ShardResult) × AllDone (s ∷ ss) results)
      at Pending e rs all = inl (s, inl refl, e)
      at (Done r) e rs all = inr (r ∷ rs, (e, all))
      at (Out k) e rs all = absurd (out s (inl refl) k e)
      at GivenUp e rs all = absurd (up s (inl refl) e)

  ready_at : (o : ℕ) → IsOpen w o → ((p : ℕ) → p < o → IsOpen w p → ⊥) → AnyReady w
  ready_at o (inr (x, there)) least = at x.failed refl
    where
      kind : (b : Bool) → x.clean ≡ b → x.failed ≡ false → AnyReady w
      kind true c e = ACleanup o x (record { there = there; unfailed = e; cleans = c; no_op = (l.queue.lone o x there c).0; no_other = (l.queue.lone o x there c).1; no_ticket = idle })
      kind false c e = ADelete o x (record { there = there; unfailed = e; deletes = c; first = λ p q lt h. least p lt (inl (q, h)); first_delete = λ b. least b.number b.before (inr (b.deletion, b.there)); no_swap = no_swap })

      at : (b : Bool) → x.failed ≡ b → AnyReady w
      at true e = ADrop o (record { stopped = inr (x, there, e); idle = no_unit o })
      at false e = kind x.clean refl e
  ready_at o (inl (op, there)) least = elim (goes_or_not op) [
    | inr st ↦ ADrop o (record { stopped = inl (op, there, st); idle = no_unit o })
    | inl g ↦ elim (some_pending op.shards
        (λ s m k e. let h = l.sound.carried.held o op s k there m e in idle k h.t h.there h.out)
        (λ s m e. true≢false (sym (l.queue.given_up o op s there m e) ∙ g.unfailed))) [
          | inl h ↦ AShard o op h.0 (record {
            op_there = there;
            s_there = h.1;
            pending = h.2;
            goes = g;
            no_barrier = λ b. least b.number b.before (inr (b.deletion, b.there));
            first = λ p q z lt e m i n wait. least p lt (inl (q, e));
            unread = λ p r z lt e m i n. absurd (no_restore p r e);
          })
          | inr h ↦ finalize o (record { op = op; there = there; goes = g; no_barrier = λ b. least b.number b.before (inr (b.deletion, b.there)) }) (l.queue.completes o op h.0 there h.1)
        ]
  ]

  op_ready : (o : ℕ) → IsOpen w o → AnyReady w
  op_ready o h = elim (lowest (suc o)) [
    | inl none ↦ absurd (none o (omega arith) h)
    | inr found ↦ ready_at found.0 found.1 found.2
  ]

-- a restore below this number is open, or none is
restore_below : (w : World) (n : ℕ) → ((o : ℕ) × HasRestore w o) ⊎ ((o : ℕ) (r : Restoring) → o < n → fin.get w.restores o ≡ Some r → ⊥)
restore_below w zero = inr (λ o r lt e. omega (arith, lt))
restore_below w (suc n) = elim (has_key w.restores n) [
  | inl found ↦ inl (n, found)
  | inr free ↦ elim (restore_below w n) [
    | inl found ↦ inl found
    | inr none ↦ inr (λ o r lt e. elim (cases_order o n) [
      | inl same ↦ free r (ap (fin.get w.restores) (sym same) ∙ e)
      | inr (inl less) ↦ none o r less e
      | inr (inr more) ↦ omega (arith, lt, more)
    ])
  ]
]

-- a unit of an open restore, where there is one
pub some_ready : (f : Formats) (w : World) (shelf : List Shelved) → Lawful f w shelf → ReadTracked w → (o : ℕ) → IsOpen w o ⊎ HasRestore w o → NoTicketOut w → AnyReady w
some_ready f w shelf l read o opened idle = elim (restore_below w w.next_op) [
  | inl found ↦ restore_ready w found.0 found.1.0 read found.1.1 (λ k q there out of. idle.readers k q there out)
  | inr none ↦ elim opened [
    | inl op ↦ op_ready f w shelf l idle.tickets (λ p r there. none p r (read.tracked.numbers p r there) there) o op
    | inr restore ↦ absurd (none o restore.0 (read.tracked.numbers o restore.0 restore.1) restore.1)
  ]
]
