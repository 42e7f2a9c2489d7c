-- From a sound world each step leads to a sound one.
use Rattle.std.proofs.Common.{◌≡◌, ℕ, ◌<◌, List, ◌∷◌, Bool, true, false, true≢false, Option, Some, refl, sym, subst, inl, inr, arith, nat_cmp}
use Rattle.std.specs.Cmp.{nat_cmp_total}
use Rattle.std.specs.FinMap.{FinMap, nat_cmp-IsAntisymmetric}
use Rattle.std.specs.FinMap as fin
use Rattle.esr_model.specs.Names.{BlobName}
use Rattle.esr_model.specs.Values.{Bytes, Formats, ShardResult, SnapInfo}
use Rattle.esr_core.specs.Ready.{IsShard}
use Rattle.esr_model.specs.Shelf.{Shelved, Command, shelf_after}
use Rattle.esr_core.specs.World.{World, Op, Ticket, Finalize, Swap, ledger_of, HeldIn, Safely}
use Rattle.esr_core.specs.Steps.{CommitDone, CommitFault, Raise, Elect, DoneShard, TriesLatest, FetchFound, reading, Ends, TakeFinalize, settled, with_ticket, noting, writing, MaySettle}
use Rattle.esr_core.specs.Swaps.{TicketLaw, IsUnsettled}
use Rattle.esr_core.specs.Sound.{Sound}
use Rattle.esr_core.specs.Laws.Maps.{get_was}
use Rattle.esr_core.specs.Laws.OneValue.{held_one, safe_root_stands}
use Rattle.esr_core.proofs.Reading.{safely_one}
use Rattle.esr_core.proofs.Tickets.{each_ticket, swapping_was}
use Rattle.esr_core.proofs.Adds.{safe_kept}
use Rattle.esr_core.proofs.Grows.{carried_kept}
use Rattle.esr_core.proofs.Same.{SameTicket, notes_same, carried_same}
use Rattle.esr_core.proofs.Raise.{raise_sound}
use Rattle.esr_core.proofs.Commit.{commit_done, commit_fault}
use Rattle.esr_core.proofs.Settle.{settles}
use Rattle.esr_core.proofs.SettleWhole.{settles_shards, CarriedIn}
use Rattle.esr_core.proofs.DoneShard.{done_shard}
use Rattle.esr_core.proofs.Take.{taken, taken_carried}

-- numbers of tickets stay below the next one
pub fresh_same : (m : FinMap nat_cmp Ticket) (next k : ℕ) (t v : Ticket) → fin.get m k ≡ Some t → ((j : ℕ) (u : Ticket) → fin.get m j ≡ Some u → j < next) → (j : ℕ) (u : Ticket) → fin.get (fin.insert m k v) j ≡ Some u
    → j < next
fresh_same m next k t v there all j u e = elim (get_was nat_cmp_total nat_cmp-IsAntisymmetric m k v j u e) [
  | inl h ↦ subst (λ x. x < next) (sym h.0) (all k t there)
  | inr h ↦ all j u h.1
]

pub noting_same : (t : Ticket) (name : BlobName) → SameTicket t (noting t name)
noting_same t name = notes_same t t.first t.drawn (name ∷ t.noted) t.wrote t.read t.raised t.tried_latest t.listed t.whole (λ id from below. inl (from, below))

pub writing_same : (t : Ticket) (name : BlobName) (bytes : Bytes) → SameTicket t (writing t name bytes)
writing_same t name bytes = notes_same t t.first t.drawn (name ∷ t.noted) ((name, bytes) ∷ t.wrote) t.read t.raised t.tried_latest t.listed t.whole (λ id from below. inl (from, below))

pub raised_same : (t : Ticket) (r : Option ℕ) → SameTicket t (record t { raised = r })
raised_same t r = notes_same t t.first t.drawn t.noted t.wrote t.read r t.tried_latest t.listed t.whole (λ id from below. inl (from, below))

pub tried_same : (t : Ticket) → SameTicket t (record t { tried_latest = true })
tried_same t = notes_same t t.first t.drawn t.noted t.wrote t.read t.raised true t.listed t.whole (λ id from below. inl (from, below))

pub reading_same : (t : Ticket) (name : BlobName) (bytes : Bytes) → SameTicket t (reading t name bytes)
reading_same t name bytes = notes_same t t.first t.drawn t.noted t.wrote ((name, bytes) ∷ t.read) t.raised t.tried_latest t.listed t.whole (λ id from below. inl (from, below))

-- a ticket that ends, of no shard
pub ended_same : (t : Ticket) → (IsShard t.work → ⊥) → SameTicket t (record t { out = false })
ended_same t not =
    record {
      work = refl;
      op = refl;
      term = refl;
      out = λ e. absurd (true≢false (sym e));
      settled = λ e. e;
      holds = λ i n e o. absurd (not (subst IsShard (sym e) tt));
      shard = λ f b r o k i n l. record { op = l.op; op_there = l.op_there; uuid_is = l.uuid_is; source_is = l.source_is; s = l.s; s_there = l.s_there; state = l.state; index_is = l.index_is; shard_is = l.shard_is; base = l.base; ids = l.ids };
      final = λ f r o i rs m l. record { op = l.op; op_there = l.op_there; done = l.done; info_is = l.info_is; made_is = l.made_is; root_is = l.root_is };
    }

module _ (f : Formats) (w : World) (shelf : List Shelved) (l : Sound f w shelf) where
  -- a ticket that raises, settles and notes nothing
  pub quiet : (k : ℕ) (t v : Ticket) → fin.get w.tickets k ≡ Some t → SameTicket t v → TicketLaw f (HeldIn f w) w.doomed (ledger_of w) shelf v
      → ((s : Swap) → IsUnsettled f v s → v.term ≡ w.term → IsUnsettled f t s × (t.term ≡ w.term)) → Sound f (with_ticket w k v) shelf
  quiet k t v there same law back =
      record {
        rooted = record {
          kept = l.rooted.kept;
          doomed_begun = l.rooted.doomed_begun;
          tickets = each_ticket (TicketLaw f (HeldIn f w) w.doomed (ledger_of w) shelf) w.tickets k v law (λ j u apart e. l.rooted.tickets j u e);
          single = λ i j a b. l.rooted.single i j (swapping_was f w.tickets w.term k t v there back i a) (swapping_was f w.tickets w.term k t v there back j b);
        };
        carried = carried_same f (HeldIn f w) w.safe w.term w.root w.ops w.tickets k t v there same l.carried;
        fresh = fresh_same w.tickets w.next_ticket k t v there l.fresh;
      }

  pub latest_sound : (k : ℕ) (new : World) → TriesLatest f w k new → Sound f new shelf
  latest_sound k new h = subst (λ x. Sound f x shelf) (sym h.new_is)
      (let old = l.rooted.tickets k h.t h.out.there in
      quiet k h.t (record h.t { tried_latest = true }) h.out.there (tried_same h.t)
      (record {
        term = old.term;
        raised = old.raised;
        shape = old.shape;
        clean_root = old.clean_root;
        listed = old.listed;
        clean = λ s i. old.clean s (record { is = i.is; out = i.out; unsettled = i.unsettled });
        last = λ s i. old.last s (record { is = i.is; out = i.out; unsettled = i.unsettled });
        swaps = λ s i. old.swaps s (record { is = i.is; out = i.out; unsettled = i.unsettled });
      })
      (λ s i e. (record { is = i.is; out = i.out; unsettled = i.unsettled }, e)))

  pub fetch_sound : (k : ℕ) (name : BlobName) (new : World) → FetchFound f w k name new → Sound f new shelf
  fetch_sound k name new h = subst (λ x. Sound f x shelf) (sym h.new_is)
      (let old = l.rooted.tickets k h.t h.out.there in
      quiet k h.t (reading h.t name h.bytes) h.out.there (reading_same h.t name h.bytes)
      (record {
        term = old.term;
        raised = old.raised;
        shape = old.shape;
        clean_root = old.clean_root;
        listed = old.listed;
        clean = λ s i. old.clean s (record { is = i.is; out = i.out; unsettled = i.unsettled });
        last = λ s i. old.last s (record { is = i.is; out = i.out; unsettled = i.unsettled });
        swaps = λ s i. old.swaps s (record { is = i.is; out = i.out; unsettled = i.unsettled });
      })
      (λ s i e. (record { is = i.is; out = i.out; unsettled = i.unsettled }, e)))

  pub finish_sound : (k : ℕ) (new : World) → Ends w k new → Sound f new shelf
  finish_sound k new h = subst (λ x. Sound f x shelf) (sym h.new_is)
      (let old = l.rooted.tickets k h.t h.out.there in
      quiet k h.t (record h.t { out = false }) h.out.there (ended_same h.t h.no_shard)
      (record {
        term = old.term;
        raised = old.raised;
        shape = old.shape;
        clean_root = old.clean_root;
        listed = old.listed;
        clean = λ s i. absurd (true≢false (sym i.out));
        last = λ s i. absurd (true≢false (sym i.out));
        swaps = λ s i. absurd (true≢false (sym i.out));
      })
      (λ s i e. absurd (true≢false (sym i.out))))

  pub done_sound : (k : ℕ) (r : ShardResult) (new : World) → DoneShard f w k r new → Sound f new shelf
  done_sound k r new d = subst (λ x. Sound f x shelf) (sym d.new_is)
      (let old = l.rooted.tickets k d.t d.out.there in
      let law = l.carried.shards k d.t d.out.there d.out.out r.index r.shard d.is in
      record {
        rooted = record {
          kept = l.rooted.kept;
          doomed_begun = l.rooted.doomed_begun;
          tickets = each_ticket (TicketLaw f (HeldIn f w) w.doomed (ledger_of w) shelf) w.tickets k (record d.t { out = false })
              (record {
                term = old.term;
                raised = old.raised;
                shape = old.shape;
                clean_root = old.clean_root;
                listed = old.listed;
                clean = λ s i. absurd (true≢false (sym i.out));
                last = λ s i. absurd (true≢false (sym i.out));
                swaps = λ s i. absurd (true≢false (sym i.out));
              })
              (λ j u apart e. l.rooted.tickets j u e);
          single = λ i j a b. l.rooted.single i j
              (swapping_was f w.tickets w.term k d.t (record d.t { out = false }) d.out.there (λ s i e. absurd (true≢false (sym i.out))) i a)
              (swapping_was f w.tickets w.term k d.t (record d.t { out = false }) d.out.there (λ s i e. absurd (true≢false (sym i.out))) j b);
        };
        carried = done_shard f w k r new d l.carried law shelf (safe_root_stands f (HeldIn f w) (held_one f w) w.safe w.root shelf l.rooted.kept.picked l.carried.root_is);
        fresh = fresh_same w.tickets w.next_ticket k d.t (record d.t { out = false }) d.out.there l.fresh;
      })

  pub raise_law : (k : ℕ) (new : World) → Raise f w k new → Sound f new shelf
  raise_law k new r = record {
    rooted = raise_sound f w new shelf k l.rooted r;
    carried = subst (λ x. CarriedIn f x) (sym r.new_is) (carried_same f (HeldIn f w) w.safe w.term w.root w.ops w.tickets k r.t (record r.t { raised = Some w.pending }) r.out.there (raised_same r.t (Some w.pending)) l.carried);
    fresh = subst (λ (x : World). (j : ℕ) (u : Ticket) → fin.get x.tickets j ≡ Some u → j < x.next_ticket) (sym r.new_is) (fresh_same w.tickets w.next_ticket k r.t (record r.t { raised = Some w.pending }) r.out.there l.fresh);
  }

  pub commit_law : (k : ℕ) (name : BlobName) (new : World) → CommitDone f w k name new → Sound f new shelf
  commit_law k name new c = record {
    rooted = commit_done f w new shelf k name l.rooted c;
    carried = subst (λ x. CarriedIn f x) (sym c.new_is)
        (carried_same f (Safely f (fin.insert w.blobs (f.names.text name) c.bytes) w.doomed) w.safe w.term w.root w.ops w.tickets k c.t (writing c.t name c.bytes) c.out.there (writing_same c.t name c.bytes)
        (carried_kept f (HeldIn f w) (Safely f (fin.insert w.blobs (f.names.text name) c.bytes) w.doomed) (safely_one f (fin.insert w.blobs (f.names.text name) c.bytes) w.doomed)
        (held_one f w) (safe_kept f w.blobs name c.bytes c.named c.absent w.doomed) w.safe w.term w.root shelf l.rooted.kept.picked w.ops w.tickets l.carried));
    fresh = subst (λ (x : World). (j : ℕ) (u : Ticket) → fin.get x.tickets j ≡ Some u → j < x.next_ticket) (sym c.new_is) (fresh_same w.tickets w.next_ticket k c.t (writing c.t name c.bytes) c.out.there l.fresh);
  }

  pub commit_fault_law : (k : ℕ) (name : BlobName) (new : World) → CommitFault f w k name new → Sound f new shelf
  commit_fault_law k name new c = record {
    rooted = commit_fault f w new shelf k name l.rooted c;
    carried = elim c.leaves [
      | inl e ↦ subst (λ x. CarriedIn f x) (sym e) l.carried
      | inr e ↦ subst (λ x. CarriedIn f x) (sym e.1) (carried_kept f (HeldIn f w) (Safely f (fin.insert w.blobs (f.names.text name) c.bytes) w.doomed) (safely_one f (fin.insert w.blobs (f.names.text name) c.bytes) w.doomed)
          (held_one f w) (safe_kept f w.blobs name c.bytes c.named e.0 w.doomed) w.safe w.term w.root shelf l.rooted.kept.picked w.ops w.tickets l.carried)
    ];
    fresh = elim c.leaves [
      | inl e ↦ subst (λ (x : World). (j : ℕ) (u : Ticket) → fin.get x.tickets j ≡ Some u → j < x.next_ticket) (sym e) l.fresh
      | inr e ↦ subst (λ (x : World). (j : ℕ) (u : Ticket) → fin.get x.tickets j ≡ Some u → j < x.next_ticket) (sym e.1) l.fresh
    ];
  }

  pub take_law : (o : ℕ) (op : Op) (results : List ShardResult) (new : World) → TakeFinalize f w o op results new → Sound f new shelf
  take_law o op results new d = record {
    rooted = taken f w shelf o op results new d l.rooted l.carried l.fresh;
    carried = subst (λ x. CarriedIn f x) (sym d.new_is) (taken_carried f w shelf o op results new d l.rooted l.carried l.fresh);
    fresh = subst (λ (x : World). (j : ℕ) (u : Ticket) → fin.get x.tickets j ≡ Some u → j < x.next_ticket) (sym d.new_is)
        (λ j u e. elim (get_was nat_cmp_total nat_cmp-IsAntisymmetric w.tickets w.next_ticket _ j u e) [
          | inl h ↦ omega (arith, h.0)
          | inr h ↦ let b : j < w.next_ticket = l.fresh j u h.1 in omega arith
        ]);
  }

  pub settle_law : (k n : ℕ) (t : Ticket) (s : Swap) → MaySettle f w k n t s → t.term ≡ w.term → (info : SnapInfo) (results : List ShardResult) (made : Command) → t.work ≡ Finalize info results made
      → Sound f (settled w k t n s.root) (shelf_after shelf s.commands)
  settle_law k n t s may present info results made work = record {
    rooted = settles f w shelf k n t s l.rooted may present;
    carried = settles_shards f w shelf k n t s l.rooted l.carried may present info results made work;
    fresh = fresh_same w.tickets w.next_ticket k t (record t { settled = true }) may.out.there l.fresh;
  }

  pub elect_law : (new : World) → Elect w new → Sound f new shelf
  elect_law new h = subst (λ x. Sound f x shelf) (sym h.new_is) (record {
    rooted = record {
      doomed_begun = l.rooted.doomed_begun;
      kept = record { ordered = l.rooted.kept.ordered; picked = l.rooted.kept.picked; begun = l.rooted.kept.begun; whole = l.rooted.kept.whole; named = l.rooted.kept.named };
      tickets = λ j u e. let old = l.rooted.tickets j u e in record {
        term = omega (arith, old.term);
        raised = old.raised;
        shape = old.shape;
        clean_root = old.clean_root;
        listed = old.listed;
        clean = λ s i counts. old.clean s i (elim counts [ inl p ↦ absurd (omega (arith, old.term, p)) | inr r ↦ inr r ]);
        last = λ s i p. absurd (omega (arith, old.term, p));
        swaps = λ s i counts. old.swaps s i (elim counts [ inl p ↦ absurd (omega (arith, old.term, p)) | inr r ↦ inr r ]);
      };
      single = λ i j a b. absurd (let h = (l.rooted.tickets i a.t a.there).term in omega (arith, h, a.present));
    };
    carried = record {
      root_is = l.carried.root_is;
      ops = l.carried.ops;
      together = l.carried.together;
      carries = l.carried.carries;
      shards = l.carried.shards;
      one_shard = l.carried.one_shard;
      held = l.carried.held;
      finals = λ j u e out uns pres. absurd (let h = (l.rooted.tickets j u e).term in omega (arith, h, pres));
      plans = λ j u e out uns pres. absurd (let h = (l.rooted.tickets j u e).term in omega (arith, h, pres));
    };
    fresh = l.fresh;
  })

-- deposed or not, the law reads the same
pub deposed_same : (f : Formats) (w : World) (shelf : List Shelved) (b : Bool) → Sound f w shelf → Sound f (record w { deposed = b }) shelf
deposed_same f w shelf b l = record { rooted = record { kept = l.rooted.kept; doomed_begun = l.rooted.doomed_begun; tickets = l.rooted.tickets; single = l.rooted.single }; carried = l.carried; fresh = l.fresh }
