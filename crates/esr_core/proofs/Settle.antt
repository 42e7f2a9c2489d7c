-- A settle keeps the law, for the shelf with its command.
use Rattle.std.proofs.Common.{◌≡◌, ◌≢◌, ℕ, suc, ◌<◌, ◌≤◌, List, true≢false, Some, inl, inr, arith}
use Rattle.std.specs.FinMap as fin
use Rattle.esr_model.specs.Names.{BlobName, Root}
use Rattle.esr_model.specs.Values.{Bytes, ReadsBack, Formats}
use Rattle.esr_model.specs.Shelf.{Shelved, shelf_after}
use Rattle.esr_model.specs.Image.{Has, Stands}
use Rattle.esr_core.specs.World.{World, Ticket, Swap, ledger_of, HeldIn}
use Rattle.esr_core.specs.Steps.{MaySettle, settled}
use Rattle.esr_core.specs.Swaps.{Rooted, SwapLaw, TicketLaw, IsUnsettled, Counts}
use Rattle.esr_core.proofs.Tickets.{each_ticket, swapping_was}
use Rattle.esr_core.proofs.Commit.{written}

-- the new root stands, for the shelf with the command
pub new_root : (f : Formats) (has : BlobName → Bytes → Type 0) (shelf : List Shelved) (names : List BlobName) (s : Swap) (n : ℕ) → ReadsBack f.root s.root → SwapLaw f has shelf names s
    → Has names (Root n) → ((m : BlobName) (b : Bytes) → Has s.own (m, b) → Has names m) → Stands f has n (shelf_after shelf s.commands)
new_root f has shelf names s n back l root ready =
    record {
      root = s.root;
      root_reads = record { bytes = f.root.text s.root; there = l.root_noted n root; reads = back };
      stands = written f has shelf names s l ready;
    }

pub settles : (f : Formats) (w : World) (shelf : List Shelved) (k n : ℕ) (t : Ticket) (s : Swap) → Rooted f w shelf → MaySettle f w k n t s → t.term ≡ w.term
    → Rooted f (settled w k t n s.root) (shelf_after shelf s.commands)
settles f w shelf k n t s l may present =
    record {
      kept = record {
        ordered = omega (arith, last.0);
        picked = new_root f (HeldIn f w) shelf t.noted s n (was.shape s may.is).root_back law may.written may.ready;
        begun = l.kept.begun;
        whole = λ m p above. let h : w.safe ≤ m = omega (arith, last.1) in l.kept.whole m p h;
        named = l.kept.named;
      };
      doomed_begun = l.doomed_begun;
      tickets = each_ticket _ w.tickets k _
          (record {
            term = was.term;
            raised = was.raised;
            shape = was.shape;
            last = λ x i. absurd (true≢false i.unsettled);
            swaps = λ x i. absurd (true≢false i.unsettled);
            clean = λ x i. absurd (true≢false i.unsettled);
            listed = was.listed;
            clean_root = λ m e le. absurd (let h : m < w.pending = was.raised m e in omega (arith, last.0));
          })
          (λ j u apart e. let old = l.tickets j u e in record {
            term = old.term;
            raised = old.raised;
            shape = old.shape;
            last = λ x i p m q. absurd (gone j u apart e x i (inl p));
            swaps = λ x i c. absurd (gone j u apart e x i c);
            clean = λ x i c. absurd (gone j u apart e x i c);
            listed = old.listed;
            clean_root = λ m e le. absurd (let h : m < w.pending = old.raised m e in omega (arith, last.0));
          });
      single = λ i j a b. l.single i j (swapping_was f w.tickets w.term k t _ may.out.there (λ x h e. absurd (true≢false h.unsettled)) i a) (swapping_was f w.tickets w.term k t _ may.out.there (λ x h e. absurd (true≢false h.unsettled)) j b);
    }
  where
    was : TicketLaw f (HeldIn f w) w.doomed (ledger_of w) shelf t
    was = l.tickets k t may.out.there

    unsettled : IsUnsettled f t s
    unsettled = record { is = may.is; out = may.out.out; unsettled = may.unsettled }

    last : (suc n ≡ w.pending) × (w.safe ≤ n)
    last = was.last s unsettled present n may.raised

    law : SwapLaw f (HeldIn f w) shelf t.noted s
    law = was.swaps s unsettled (inl present)

    -- no other swap counts any more
    gone : (j : ℕ) (u : Ticket) → j ≢ k → fin.get w.tickets j ≡ Some u → (x : Swap) → IsUnsettled f u x → Counts (record { safe = suc n; pending = w.pending; term = w.term }) u → ⊥
    gone j u apart e x i (inl p) = apart (l.single j k (record { t = u; there = e; s = x; is = i; present = p }) (record { t = t; there = may.out.there; s = s; is = unsettled; present = present }))
    gone j u apart e x i (inr (m, raised, above)) = let h : m < w.pending = (l.tickets j u e).raised m raised in omega (arith, last.0)
