-- A raise keeps the law.
use Rattle.std.proofs.Common.{◌≡◌, ℕ, suc, ◌<◌, List, Some, sym, subst, inl, arith}
use Rattle.std.specs.FinMap as fin
use Rattle.std.proofs.lemmas.Option.{same_Some}
use Rattle.esr_model.specs.Values.{Formats}
use Rattle.esr_model.specs.Shelf.{Shelved}
use Rattle.esr_core.specs.World.{World, ledger_of, HeldIn}
use Rattle.esr_core.specs.Steps.{Raise}
use Rattle.esr_core.specs.Swaps.{Rooted, TicketLaw}
use Rattle.esr_core.proofs.Tickets.{each_ticket, swapping_was}

pub raise_sound : (f : Formats) (w new : World) (shelf : List Shelved) (k : ℕ) → Rooted f w shelf → Raise f w k new → Rooted f new shelf
raise_sound f w new shelf k l r = subst (λ v. Rooted f v shelf) (sym r.new_is) here
  where
    was : TicketLaw f (HeldIn f w) w.doomed (ledger_of w) shelf r.t
    was = l.tickets k r.t r.out.there

    here : Rooted f (record w { pending = suc w.pending; tickets = fin.insert w.tickets k (record r.t { raised = Some w.pending }) }) shelf
    here = record {
      kept = record {
        ordered = omega (arith, l.kept.ordered);
        picked = l.kept.picked;
        begun = λ n p. let h : n < w.pending = l.kept.begun n p in omega arith;
        whole = l.kept.whole;
        named = l.kept.named;
      };
      doomed_begun = λ n d. let h : n < w.pending = l.doomed_begun n d in omega arith;
      tickets = each_ticket _ w.tickets k _
          (record {
            term = was.term;
            raised = λ n e. let h : w.pending ≡ n = same_Some _ _ e in omega arith;
            last = λ s i e n q. let h : w.pending ≡ n = same_Some _ _ q in (omega arith, omega (arith, l.kept.ordered));
            shape = was.shape;
            clean = λ s i c. was.clean s (record { is = i.is; out = i.out; unsettled = i.unsettled }) (inl r.present);
            listed = λ n m. let h : n < w.pending = was.listed n m in omega arith;
            clean_root = λ n e le d. let h : w.pending ≡ n = same_Some _ _ e in let b : n < w.pending = l.doomed_begun n d in omega arith;
            swaps = λ s i c. was.swaps s (record { is = i.is; out = i.out; unsettled = i.unsettled }) (inl r.present);
          })
          (λ j u apart e. let old = l.tickets j u e in record {
            term = old.term;
            raised = λ n q. let h : n < w.pending = old.raised n q in omega arith;
            last = λ s i p n q. absurd (apart (l.single j k
                (record { t = u; there = e; s = s; is = i; present = p })
                (record { t = r.t; there = r.out.there; s = r.swapped; is = record { is = r.is; out = r.out.out; unsettled = r.unsettled }; present = r.present })));
            shape = old.shape;
            clean = old.clean;
            clean_root = old.clean_root;
            listed = λ n m. let h : n < w.pending = old.listed n m in omega arith;
            swaps = old.swaps;
          });
      single = λ i j a b. l.single i j
          (swapping_was f w.tickets w.term k r.t _ r.out.there (λ s h e. (record { is = h.is; out = h.out; unsettled = h.unsettled }, e)) i a)
          (swapping_was f w.tickets w.term k r.t _ r.out.there (λ s h e. (record { is = h.is; out = h.out; unsettled = h.unsettled }, e)) j b);
    }
