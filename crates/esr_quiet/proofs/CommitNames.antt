-- The name that a ticket commits is its own: no other ticket, and no shard that is pending, has it.
use Rattle.std.proofs.Common.{◌≡◌, ◌⊎◌, ℕ, ◌+◌, ◌<◌, List, true, Option, Some, refl, sym, ap, ◌∙◌, subst, inl, inr, arith, le_refl}
use Rattle.std.specs.FinMap as fin
use Rattle.std.proofs.lemmas.Option.{same_Some, none-some}
use Rattle.esr_core.specs.Laws.NumberMaps.{split_at}
use Rattle.esr_core.specs.Laws.ShardStates.{pending_out}
use Rattle.esr_model.specs.Names.{BlobName, Root, ShardSnap, ShardIndex}
use Rattle.esr_model.specs.Values.{Bytes, Has, SnapInfo, Formats}
use Rattle.esr_model.specs.Shelf.{Shelved}
use Rattle.esr_core.specs.World.{World, Op, ShardWork, Pending, Work, Shard, Finalize, Deleting, Ticket, Swap, swap, swap_of, HeldIn}
use Rattle.esr_core.specs.Generations.{ShardLaw}
use Rattle.esr_core.specs.Steps.{IsOut, Drew, SwapCommits, ShardCommits, MayCommit}
use Rattle.esr_core.specs.Ids.{Law}
use Rattle.esr_core.specs.Laws.NewRoots.{of_swap}
use Rattle.esr_core.specs.Laws.Metadata.{Kinds, IsSnap, IsMeta, IsIndex, kinds}
use Rattle.esr_quiet.proofs.FreeFrame.{ArePlansDrawn, Own}
use Rattle.esr_quiet.proofs.FreeNames.{IsDrawnIndex, one_place}

one_root : (n m : ℕ) → Root n ≡ Root m → n ≡ m
one_root n m e = cc

one_index : (i n g j m h : ℕ) → ShardIndex i n g ≡ ShardIndex j m h → g ≡ h
one_index i n g j m h e = cc

snap_no_index : (i n u j m g : ℕ) → ShardSnap i n u ≡ ShardIndex j m g → ⊥
snap_no_index i n u j m g e = cc

below_one : (g : ℕ) → g < g + 1
below_one g = omega arith

-- a ticket of this shard that drew this id
abbrev drawing : Ticket → ℕ → ℕ → ℕ → Ticket
drawing t i n g = record t { work = Shard i n; first = g; drawn = 1 }

drawing_commits : (t : Ticket) (i n g : ℕ) → ShardCommits (drawing t i n g) (ShardIndex i n g)
drawing_commits t i n g = (refl, record { from = le_refl g; below = below_one g })

module _ (f : Formats) (w : World) (shelf : List Shelved) (law : Law f w shelf) (drawn : ArePlansDrawn w.tickets) (own_tickets : Own w.tickets)
    (k : ℕ) (t : Ticket) (out : IsOut w k t) (name : BlobName) (bytes : Bytes) (may : MayCommit f t name bytes) where
  no_kind : (info : SnapInfo) (u : Ticket) → ShardCommits u name → Kinds f info name bytes → ⊥
  no_kind info u c (IsSnap e text) = subst (ShardCommits u) e c
  no_kind info u c (IsMeta e text) = subst (ShardCommits u) e c
  no_kind info u c (IsIndex r q e text) = subst (ShardCommits u) e c

  -- of the names of shards a swap commits those alone that a delete's plan has
  of_plan : (s : Swap) → swap f t ≡ Some s → SwapCommits f s t name bytes → (u : Ticket) → ShardCommits u name → IsDrawnIndex t name
  of_plan s is (inr (n, e, root)) u c = absurd (subst (ShardCommits u) e c)
  of_plan s is (inl own) u c = by_work t.work refl
    where
      by_work : (work : Work) → t.work ≡ work → IsDrawnIndex t name
      by_work (Deleting uuids plan) e =
          let planned : plan ≡ Some s = sym (ap (λ x. swap_of f x t.root) e) ∙ is in
          drawn k t uuids s name bytes out.there (e ∙ ap (λ (p : Option Swap). Deleting uuids p) planned) own
      by_work (Finalize info results made) e = absurd (no_kind info u c (kinds f info name bytes (subst (λ (x : Swap). Has x.own (name, bytes)) (sym (of_swap f t.work t.root s is info results made e)) own)))
      by_work work e = absurd (none-some s (sym (ap (λ x. swap_of f x t.root) e) ∙ is))

  -- what some shard's ticket may commit it commits as a shard's, or by its plan
  as_shard : (u : Ticket) → ShardCommits u name → IsDrawnIndex t name ⊎ ShardCommits t name
  as_shard u c = elim may [ inl h ↦ inl (of_plan h.0 h.1 h.2 u c) | inr h ↦ inr h.1 ]

  -- the index of a shard it commits under an id that it drew
  drew_index : (i n g : ℕ) → name ≡ ShardIndex i n g → Drew t g
  drew_index i n g e = elim (as_shard (drawing t i n g) (subst (ShardCommits (drawing t i n g)) (sym e) (drawing_commits t i n g))) [
    | inl d ↦ subst (Drew t) (one_index d.index d.number d.id i n g (sym d.name_is ∙ e)) d.drew
    | inr mine ↦ (subst (ShardCommits t) e mine).1
  ]

  -- no plan of another has the name
  pub plan_one : (j : ℕ) (u : Ticket) (uuids : List ℕ) (s : Swap) (b : Bytes) → fin.get w.tickets j ≡ Some u → u.work ≡ Deleting uuids (Some s) → Has s.own (name, b) → j ≡ k
  plan_one j u uuids s b e work own = let d = drawn j u uuids s name b e work own in own_tickets.1 j k d.id u t e out.there d.drew (drew_index d.index d.number d.id d.name_is)

  -- a root it commits as the one that it raised
  pub as_root : (n : ℕ) → name ≡ Root n → t.raised ≡ Some n
  as_root n e = elim may [
    | inl h ↦ elim h.2 [
      | inl own ↦ absurd (((law.lawful.sound.rooted.tickets k t out.there).shape h.0 h.1).no_root n bytes (subst (λ x. Has h.0.own (x, bytes)) e own))
      | inr r ↦ r.2.raised ∙ ap Some (one_root r.0 n (sym r.1 ∙ e))
    ]
    | inr h ↦ absurd (subst (ShardCommits t) e h.1)
  ]

  -- it alone may commit the name
  pub only_one : (j : ℕ) (u : Ticket) → fin.get w.tickets j ≡ Some u → u.out ≡ true → ShardCommits u name → j ≡ k
  only_one j u e u_out c = elim (as_shard u c) [
    | inl d ↦ own_tickets.1 j k d.id u t e out.there (subst (ShardCommits u) d.name_is c).1 d.drew
    | inr mine ↦ let (i, n, a, b) = one_place t u name mine c in law.lawful.sound.carried.one_shard j k u t e out.there u_out out.out i n b a
  ]

  -- its shard isn't pending
  not_pending : (o : ℕ) (op : Op) (s : ShardWork) → fin.get w.ops o ≡ Some op → Has op.shards s → s.state ≡ Pending → t.work ≡ Shard s.ref.id s.number → op.uuid ≡ t.uuid → ⊥
  not_pending o op s there m state work uuid =
      let x : ShardLaw f (HeldIn f w) w.root w.ops k t s.ref.id s.number = law.lawful.sound.carried.shards k t out.there out.out s.ref.id s.number work in
      elim (split_at o t.op) [
        | inl same ↦
            let one : x.op ≡ op = same_Some _ _ (sym x.op_there ∙ ap (fin.get w.ops) (sym same) ∙ there) in
            let is : s ≡ x.s = (law.lawful.sound.carried.ops o op there).distinct s x.s m (subst (λ (y : Op). Has y.shards x.s) one x.s_there) (sym x.index_is) (sym x.shard_is) in
            pending_out (sym state ∙ ap (λ (y : ShardWork). y.state) is ∙ x.state)
        | inr away ↦ (law.lawful.sound.carried.together o t.op op x.op away there x.op_there).uuids (uuid ∙ sym x.uuid_is)
      ]

  pub no_snap : (o : ℕ) (op : Op) (s : ShardWork) → fin.get w.ops o ≡ Some op → Has op.shards s → s.state ≡ Pending → ShardSnap s.ref.id s.number op.uuid ≡ name → ⊥
  no_snap o op s there m state is =
      let u : Ticket = record t { work = Shard s.ref.id s.number; uuid = op.uuid } in
      elim (as_shard u (subst (ShardCommits u) is (refl, refl))) [
        | inl d ↦ snap_no_index s.ref.id s.number op.uuid d.index d.number d.id (is ∙ d.name_is)
        | inr mine ↦ let c : ShardCommits t (ShardSnap s.ref.id s.number op.uuid) = subst (ShardCommits t) (sym is) mine in not_pending o op s there m state c.0 c.1
      ]
