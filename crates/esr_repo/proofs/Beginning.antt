-- A container that was opened is one with an empty history.
use Rattle.std.proofs.Common.{◌≡◌, ℕ, ◌-◌, ◌^◌, ◌≤◌, List, [], Some, None, sym, ap, ◌∙◌, subst, inr, arith, nat_cmp}
use Rattle.std.specs.FinMap.{FinMap}
use Rattle.std.specs.FinMap as fin
use Rattle.esr_model.specs.Values.{Has}
use Rattle.esr_core.specs.World.{World, Ticket, Caller, no_caller}
use Rattle.esr_core.specs.Entry.{Entry}
use Rattle.esr_core.specs.Past.{entries_by}
use Rattle.esr_depot.specs.Image.{Image as Held}
use Rattle.esr_depot.specs.Look.{Look}
use Rattle.esr_desk.specs.Start.{Start}
use Rattle.esr_progress.specs.Kept.{Kept}
use Rattle.esr_repo.specs.Repo.{AreTests, IsRepo}
use Rattle.esr_repo.specs.Begun.{IsBegun}

-- no ticket was given
no_ticket : (w : World) → w.tickets ≡ fin.empty → (k : ℕ) (t : Ticket) → fin.get w.tickets k ≡ Some t → ⊥
no_ticket w none k t there = never t (sym (fin.get-empty nat_cmp k) ∙ ap (λ (m : FinMap nat_cmp Ticket). fin.get m k) (sym none) ∙ there)
  where
    never : (t : Ticket) → None ≡ Some t → ⊥
    never t q = cc

-- nothing was committed
no_tests : (w : World) → w.caller ≡ no_caller → AreTests w.caller
no_tests w none name has = absurd (subst (λ (c : Caller). Has c.committed name) none has)

pub begun_repo : (l : Look) (s : Start) (clock : ℕ) (past : ℕ → Held → Type 0) (k : Kept) → IsBegun s clock past l k → IsRepo l s clock [] k None
begun_repo l s clock past k b =
    record {
      roomy = b.roomy;
      bounded = subst (λ (n : ℕ). n ≤ 2 ^ 64 - 1) (sym b.clock_is) b.bounded;
      clock_is = sym b.clock_is;
      tells = b.tells;
      steady =
          record {
            legal = tt;
            image = b.image;
            record_back = b.order.record_back;
            tracked = b.order.tracked;
            ranked = b.order.ranked;
            pruning = λ k t uuids plan there work. absurd (no_ticket s.world b.no_tickets k t there);
            gone = λ uuid a. absurd (no_ticket s.world b.no_tickets a.k a.t a.there);
            read_tracked = b.read_tracked;
            tests = no_tests s.world b.uncalled;
            no_entries = b.no_entries;
            client = record { made = λ e has. absurd (subst (λ (made : List Entry). Has (entries_by made 0) e) b.no_entries has); committed = λ name has. absurd (subst (λ (c : Caller). Has c.committed name) b.uncalled has) };
            stale = λ k was. absurd (subst (λ (made : List Entry). Has (entries_by made k) was.entry) b.no_entries was.there);
            of_ops = record {
              some = λ k t there. absurd (no_ticket s.world b.no_tickets k t there);
              apart = λ k t uuids plan op there work is. absurd (no_ticket s.world b.no_tickets k t there);
              bare = λ k t there cleans. absurd (no_ticket s.world b.no_tickets k t there);
              over = λ k t op there settled is. absurd (no_ticket s.world b.no_tickets k t there);
            };
            few_ops = omega arith;
            few_tickets = omega arith;
          };
      live = λ e. (b.live, b.kept, record { are = b.infos; listed = b.listed; found = λ i has. inr (λ k t uuids plan there settled work. absurd (no_ticket s.world b.no_tickets k t there)) });
      fallen = λ place e. absurd (never place e);
    }
  where
    never : (n : ℕ) → None ≡ Some n → ⊥
    never n q = cc
