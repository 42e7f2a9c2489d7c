-- A step that gives one ticket anew: what is left to show of the others, and of it.
use Rattle.std.proofs.Common.{◌≡◌, ◌≢◌, ℕ, Some, nat_cmp, sym, ap, ◌∙◌, subst, inl, inr}
use Rattle.std.specs.Cmp.{nat_cmp_total}
use Rattle.std.specs.FinMap.{FinMap, nat_cmp-IsAntisymmetric}
use Rattle.std.specs.FinMap as fin
use Rattle.esr_model.specs.Values.{Formats}
use Rattle.esr_core.specs.World.{Ticket, Swap}
use Rattle.esr_core.specs.Swaps.{IsSwapping, IsUnsettled}
use Rattle.esr_core.specs.Laws.Maps.{get_was}

-- P holds of each ticket of a map in which one is given anew
pub each_ticket : (P : Ticket → Type 0) (m : FinMap nat_cmp Ticket) (k : ℕ) (v : Ticket)
    → P v → ((j : ℕ) (u : Ticket) → j ≢ k → fin.get m j ≡ Some u → P u)
    → (j : ℕ) (u : Ticket) → fin.get (fin.insert m k v) j ≡ Some u → P u
each_ticket P m k v mine others j u e = elim (get_was nat_cmp_total nat_cmp-IsAntisymmetric m k v j u e) [
  | inl h ↦ subst P h.1 mine
  | inr h ↦ others j u h.0 h.1
]

-- a ticket that was swapping before, where one is given anew that swaps only if it did
pub swapping_was : (f : Formats) (m : FinMap nat_cmp Ticket) (term k : ℕ) (t v : Ticket) → fin.get m k ≡ Some t
    → ((s : Swap) → IsUnsettled f v s → v.term ≡ term → IsUnsettled f t s × (t.term ≡ term))
    → (j : ℕ) → IsSwapping f (fin.insert m k v) term j → IsSwapping f m term j
swapping_was f m term k t v there back j h = elim (get_was nat_cmp_total nat_cmp-IsAntisymmetric m k v j h.t h.there) [
  | inl e ↦
      let was = back h.s (subst (λ (u : Ticket). IsUnsettled f u h.s) (sym e.1) h.is) (subst (λ (u : Ticket). u.term ≡ term) (sym e.1) h.present) in
      record { t = t; there = ap (fin.get m) e.0 ∙ there; s = h.s; is = was.0; present = was.1 }
  | inr e ↦ record { t = h.t; there = e.1; s = h.s; is = h.is; present = h.present }
]

-- of the tickets with a new one that swaps while no other does, one swaps at most
pub swapping_new : (f : Formats) (m : FinMap nat_cmp Ticket) (term k : ℕ) (v : Ticket)
    → ((j : ℕ) → IsSwapping f m term j → ⊥) → (j : ℕ) → IsSwapping f (fin.insert m k v) term j → j ≡ k
swapping_new f m term k v idle j h = elim (get_was nat_cmp_total nat_cmp-IsAntisymmetric m k v j h.t h.there) [
  | inl e ↦ e.0
  | inr e ↦ absurd (idle j (record { t = h.t; there = e.1; s = h.s; is = h.is; present = h.present }))
]
