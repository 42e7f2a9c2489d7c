-- A blob that a ticket commits, or that a commit left which failed, is its own: what else is to be written stays spare.
use Rattle.std.proofs.Common.{◌≡◌, ◌⊎◌, ℕ, List, [], true, Some, None, sym, subst, inl, inr}
use Rattle.std.specs.FinMap as fin
use Rattle.esr_core.specs.Laws.NumberMaps.{was_in}
use Rattle.esr_model.specs.Names.{BlobName, Root, ShardSnap}
use Rattle.esr_model.specs.Values.{Bytes, Has, Formats}
use Rattle.esr_model.specs.Shelf.{Shelved}
use Rattle.esr_model.specs.Image.{IsStored, Blobs, At, Present}
use Rattle.esr_core.specs.World.{World, Op, ShardWork, Pending, Deleting, Ticket, Swap}
use Rattle.esr_core.specs.Steps.{IsOut, ShardCommits, MayCommit}
use Rattle.esr_core.specs.Ids.{Law}
use Rattle.esr_core.specs.Laws.BlobFrames.{at_was}
use Rattle.esr_core.specs.Laws.Maps.{Tickets}
use Rattle.esr_quiet.proofs.CommitNames.{plan_one, as_root, only_one, no_snap}
use Rattle.esr_quiet.proofs.FreeFrame.{ArePlansDrawn, Own}
use Rattle.esr_quiet.proofs.FreeNames.{drawn_like}
use Rattle.esr_quiet.proofs.SpareFrame.{IsSpare, Spare, Goes}

-- the ticket goes on, and all others are as they were
abbrev pub IsBeside : Formats → World → ℕ → Ticket → Tickets → Type 0
IsBeside f w k t tickets = (j : ℕ) (u : Ticket) → fin.get tickets j ≡ Some u → ((j ≡ k) × Goes f w t u) ⊎ (fin.get w.tickets j ≡ Some u)

pub beside_put : (f : Formats) (w : World) (k : ℕ) (t v : Ticket) → Goes f w t v → IsBeside f w k t (fin.insert w.tickets k v)
beside_put f w k t v goes j u e = elim (was_in w.tickets k v j u e) [ inl x ↦ inl (x.0, subst (Goes f w t) x.1 goes) | inr x ↦ inr x.1 ]

module _ (f : Formats) (tried : ℕ → BlobName → Type 0) (w : World) (shelf : List Shelved) (law : Law f w shelf) (l : Spare f tried w) (k : ℕ) (t : Ticket) (out : IsOut w k t) (name : BlobName) (bytes : Bytes) (may : MayCommit f t name bytes)
    (named : IsStored f name) (absent : fin.get w.blobs (f.names.text name) ≡ None) (mine : tried k name) (tickets : Tickets) (beside : IsBeside f w k t tickets) (own : Own tickets) where
  abbrev added : Blobs
  added = fin.insert w.blobs (f.names.text name) bytes

  at_old : (m : BlobName) (b : Bytes) → At f added m b → (m ≡ name) ⊎ At f w.blobs m b
  at_old m b h = elim (at_was f w.blobs name bytes named absent [] m b h) [ inl e ↦ inl e.0 | inr e ↦ inr e ]

  tried_it : (j : ℕ) (m : BlobName) → j ≡ k → m ≡ name → tried j m
  tried_it j m one is = subst (λ (i : ℕ). tried i m) (sym one) (subst (tried k) (sym is) mine)

  shards_on : (j : ℕ) (u : Ticket) (m : BlobName) → fin.get tickets j ≡ Some u → u.out ≡ true → ShardCommits u m → Present f added m → tried j m
  shards_on j u m e u_out c p = elim (beside j u e) [
    | inl x ↦ elim (at_old m p.0 p.1) [
      | inl is ↦ tried_it j m x.0 is
      | inr old ↦ elim (x.1.commits m c) [
        | inl was ↦ subst (λ (i : ℕ). tried i m) (sym x.0) (l.shards k t m out.there out.out was (p.0, old))
        | inr none ↦ absurd (none (p.0, old))
      ]
    ]
    | inr there ↦ elim (at_old m p.0 p.1) [
      | inl is ↦ tried_it j m (only_one f w shelf law l.drawn l.own k t out name bytes may j u there u_out (subst (ShardCommits u) is c)) is
      | inr old ↦ l.shards j u m there u_out c (p.0, old)
    ]
  ]

  drawn_on : ArePlansDrawn tickets
  drawn_on j u uuids s m b e work own_has = elim (beside j u e) [
    | inl x ↦ elim (x.1.plans uuids s work) [
      | inl same ↦ drawn_like t u m (l.drawn k t uuids s m b out.there same.work own_has) same.drew
      | inr new ↦ (new m b own_has).0
    ]
    | inr there ↦ l.drawn j u uuids s m b there work own_has
  ]

  plans_on : (j : ℕ) (u : Ticket) (uuids : List ℕ) (s : Swap) (m : BlobName) (b : Bytes) → fin.get tickets j ≡ Some u → u.work ≡ Deleting uuids (Some s) → Has s.own (m, b) → Present f added m → tried j m
  plans_on j u uuids s m b e work own_has p = elim (beside j u e) [
    | inl x ↦ elim (at_old m p.0 p.1) [
      | inl is ↦ tried_it j m x.0 is
      | inr old ↦ elim (x.1.plans uuids s work) [
        | inl same ↦ subst (λ (i : ℕ). tried i m) (sym x.0) (l.plans k t uuids s m b out.there same.work own_has (p.0, old))
        | inr new ↦ absurd ((new m b own_has).1 (p.0, old))
      ]
    ]
    | inr there ↦ elim (at_old m p.0 p.1) [
      | inl is ↦ tried_it j m (plan_one f w shelf law l.drawn l.own k t out name bytes may j u uuids s b there work (subst (λ (n : BlobName). Has s.own (n, b)) is own_has)) is
      | inr old ↦ l.plans j u uuids s m b there work own_has (p.0, old)
    ]
  ]

  pending_on : (o : ℕ) (op : Op) (s : ShardWork) → fin.get w.ops o ≡ Some op → Has op.shards s → s.state ≡ Pending → Present f added (ShardSnap s.ref.id s.number op.uuid) → ⊥
  pending_on o op s there m state p = elim (at_old (ShardSnap s.ref.id s.number op.uuid) p.0 p.1) [
    | inl is ↦ no_snap f w shelf law l.drawn l.own k t out name bytes may o op s there m state is
    | inr old ↦ l.pending o op s there m state (p.0, old)
  ]

  roots_on : (j n : ℕ) (u : Ticket) → fin.get tickets j ≡ Some u → u.raised ≡ Some n → Present f added (Root n) → tried j (Root n)
  roots_on j n u e raised p = elim (beside j u e) [
    | inl x ↦ elim (at_old (Root n) p.0 p.1) [
      | inl is ↦ tried_it j (Root n) x.0 is
      | inr old ↦ elim (x.1.raised n raised) [
        | inl was ↦ subst (λ (i : ℕ). tried i (Root n)) (sym x.0) (l.roots k n t out.there was (p.0, old))
        | inr none ↦ absurd (none (p.0, old))
      ]
    ]
    | inr there ↦ elim (at_old (Root n) p.0 p.1) [
      | inl is ↦ tried_it j (Root n) (l.own.0 j k n u t there out.there raised (as_root f w shelf law l.drawn l.own k t out name bytes may n (sym is))) is
      | inr old ↦ l.roots j n u there raised (p.0, old)
    ]
  ]

  pub added_spare : IsSpare f tried (fin.insert w.blobs (f.names.text name) bytes) w.ops tickets
  added_spare = record { shards = shards_on; plans = plans_on; pending = pending_on; roots = roots_on; own = own; drawn = drawn_on }
