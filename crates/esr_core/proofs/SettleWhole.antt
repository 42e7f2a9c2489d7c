-- A settle keeps what holds of shards and ops.
use Rattle.std.proofs.Common.{◌≡◌, ◌≢◌, ℕ, List, [], ◌∷◌, true, true≢false, Some, refl, sym, ap, ◌∙◌, subst, inl, inr}
use Rattle.std.specs.Cmp.{nat_cmp_total}
use Rattle.std.specs.FinMap.{nat_cmp-IsAntisymmetric}
use Rattle.std.specs.FinMap as fin
use Rattle.std.proofs.lemmas.Option.{same_Some}
use Rattle.esr_model.specs.Names.{Snap}
use Rattle.esr_model.specs.Values.{RootData, SnapInfo, ShardResult, Formats}
use Rattle.esr_model.specs.Shelf.{Shelved, Command}
use Rattle.esr_model.specs.Image.{Has, Reads}
use Rattle.esr_model.specs.Finalize.{Finalizes, finalized_root}
use Rattle.esr_core.specs.World.{World, Op, Work, Shard, Finalize, Ticket, Swap, swap_of, info_of, metadata, HeldIn}
use Rattle.esr_core.specs.Steps.{MaySettle, settled}
use Rattle.esr_core.specs.Swaps.{Rooted, IsUnsettled, SwapLaw}
use Rattle.esr_core.specs.Generations.{OpLaw, ShardLaw, FinalLaw, Carried}
use Rattle.esr_core.specs.Laws.Maps.{get_left, get_stays, get_was, get_other}
use Rattle.esr_core.specs.Laws.OneValue.{held_one}
use Rattle.esr_core.specs.Laws.DoneShards.{done_of}
use Rattle.esr_core.proofs.Results.{done_out}
use Rattle.esr_core.specs.Laws.NewRoots.{finalizes, root_one_each, of_swap}
use Rattle.esr_core.proofs.Staging.{info_back}
use Rattle.esr_core.proofs.SettleShards.{op_law, carried, based, live_was}

abbrev pub CarriedIn : Formats → World → Type 0
CarriedIn f w = Carried f (HeldIn f w) w.safe w.term w.root w.ops w.tickets

pub settles_shards : (f : Formats) (w : World) (shelf : List Shelved) (k n : ℕ) (t : Ticket) (s : Swap) → Rooted f w shelf → CarriedIn f w → MaySettle f w k n t s → t.term ≡ w.term
    → (info : SnapInfo) (results : List ShardResult) (made : Command) → t.work ≡ Finalize info results made → CarriedIn f (settled w k t n s.root)
settles_shards f w shelf k n t s l c may present info results made work =
    let same : record { root = finalized_root t.root info results; own = metadata f info; commands = made ∷ [] } ≡ s = of_swap f t.work t.root s may.is info results made work in
    let law : FinalLaw f w.root w.ops t info results made = c.finals k t may.out.there may.out.out may.unsettled present info results made work in
    let op_law_of : OpLaw f (HeldIn f w) w.root law.op = c.ops t.op law.op law.op_there in
    let unsettled : IsUnsettled f t s = record { is = may.is; out = may.out.out; unsettled = may.unsettled } in
    let swapping : SwapLaw f (HeldIn f w) shelf t.noted s = (l.tickets k t may.out.there).swaps s unsettled (inl present) in
    let root_is : finalized_root w.root (info_of law.op results) results ≡ s.root =
    (λ i. finalized_root (sym law.root_is i) (sym law.info_is i) results) ∙ ap (λ (x : Swap). x.root) same in
    let fins : Finalizes w.root (info_of law.op results) results s.root =
    subst (Finalizes w.root (info_of law.op results) results) root_is (finalizes f (HeldIn f w) w.root law.op results op_law_of (root_one_each f (HeldIn f w) w.safe w.root c.root_is) law.done) in
    let own_is : metadata f (info_of law.op results) ≡ s.own = ap (metadata f) (sym law.info_is) ∙ ap (λ (x : Swap). x.own) same in
    let own : Has s.own (Snap law.op.uuid, f.info.text (info_of law.op results)) = subst (λ xs. Has xs (Snap law.op.uuid, f.info.text (info_of law.op results))) own_is (inl refl) in
    let noted : Reads (HeldIn f w) (Snap law.op.uuid) f.info (info_of law.op results) =
    record { bytes = f.info.text (info_of law.op results); there = swapping.noted (Snap law.op.uuid) _ own (may.ready (Snap law.op.uuid) _ own); reads = info_back f law.op results op_law_of.texts } in
    record {
      root_is = record { bytes = f.root.text s.root; there = swapping.root_noted n may.written; reads = ((l.tickets k t may.out.there).shape s may.is).root_back };
      ops = λ o op e. let (apart, was) = get_left nat_cmp_total nat_cmp-IsAntisymmetric w.ops t.op o op e in op_law f (HeldIn f w) w.root s.root law.op results op fins (c.together o t.op op law.op apart was law.op_there) (c.ops o op was);
      together = λ o p a b apart e h. c.together o p a b apart (get_left nat_cmp_total nat_cmp-IsAntisymmetric w.ops t.op o a e).1 (get_left nat_cmp_total nat_cmp-IsAntisymmetric w.ops t.op p b h).1;
      carries = λ index shard g live. carried f (HeldIn f w) w.root s.root w.ops t.op law.op results law.op_there op_law_of law.done fins noted (held_one f w) index shard g
          (c.carries index shard g (live_was f (HeldIn f w) w.root s.root w.ops t.op law.op results law.op_there op_law_of law.done fins noted (held_one f w) index shard g live));
      shards = λ j u e out index shard is. let (apart, was) = other t.work info results made work j u e index shard is in
          shard_law j u was out index shard is (c.shards j u was out index shard is) law op_law_of fins noted;
      one_shard = λ i j u v a b ao bo index shard ai bi. c.one_shard i j u v (other t.work info results made work i u a index shard ai).1 (other t.work info results made work j v b index shard bi).1 ao bo index shard ai bi;
      held = λ o op z j e m state.
          let h = c.held o op z j (get_left nat_cmp_total nat_cmp-IsAntisymmetric w.ops t.op o op e).1 m state in
          record { t = h.t; there = stays t.work info results made work j h.t h.there z.ref.id z.number h.work; out = h.out; op_is = h.op_is; work = h.work };
      plans = λ j u e out uns pres uuids x is. absurd (elim (get_was nat_cmp_total nat_cmp-IsAntisymmetric w.tickets k _ j u e) [
        | inl h ↦ true≢false (ap (λ (x : Ticket). x.settled) h.1 ∙ uns)
        | inr h ↦ h.0 (l.single j k
            (record { t = u; there = h.1; s = x; is = record { is = ap (λ y. swap_of f y u.root) is; out = out; unsettled = uns }; present = pres })
            (record { t = t; there = may.out.there; s = s; is = unsettled; present = present }))
      ]);
      finals = λ j u e out uns pres info' results' made' is. absurd (elim (get_was nat_cmp_total nat_cmp-IsAntisymmetric w.tickets k _ j u e) [
        | inl h ↦ true≢false (ap (λ (x : Ticket). x.settled) h.1 ∙ uns)
        | inr h ↦ h.0 (l.single j k
            (record {
              t = u;
              there = h.1;
              s = record { root = finalized_root u.root info' results'; own = metadata f info'; commands = made' ∷ [] };
              is = record { is = ap (λ x. swap_of f x u.root) is; out = out; unsettled = uns };
              present = pres;
            })
            (record { t = t; there = may.out.there; s = s; is = unsettled; present = present }))
      ]);
    }
  where
    -- a shard ticket is another than the one that settles
    other : (work : Work) (info : SnapInfo) (results : List ShardResult) (made : Command) → t.work ≡ Finalize info results made
        → (j : ℕ) (u : Ticket) → fin.get (fin.insert w.tickets k (record t { settled = true })) j ≡ Some u → (index shard : ℕ) → u.work ≡ Shard index shard
        → (j ≢ k) × (fin.get w.tickets j ≡ Some u)
    other work info results made is j u e index shard its = elim (get_was nat_cmp_total nat_cmp-IsAntisymmetric w.tickets k _ j u e) [
      | inl h ↦ absurd (differ (sym is ∙ ap (λ (x : Ticket). x.work) h.1 ∙ its))
      | inr h ↦ h
    ]
      where
        differ : Finalize info results made ≡ Shard index shard → ⊥
        differ e = cc

    stays : (work : Work) (info : SnapInfo) (results : List ShardResult) (made : Command) → t.work ≡ Finalize info results made
        → (j : ℕ) (u : Ticket) → fin.get w.tickets j ≡ Some u → (index shard : ℕ) → u.work ≡ Shard index shard → fin.get (fin.insert w.tickets k (record t { settled = true })) j ≡ Some u
    stays work info results made is j u e index shard its = get_other nat_cmp_total nat_cmp-IsAntisymmetric w.tickets k _ j apart ∙ e
      where
        differ : Finalize info results made ≡ Shard index shard → ⊥
        differ e = cc

        apart : j ≢ k
        apart same = differ (sym is ∙ ap (λ (x : Ticket). x.work) (same_Some _ _ (sym may.out.there ∙ ap (fin.get w.tickets) (sym same) ∙ e)) ∙ its)

    shard_law : {info : SnapInfo} {results : List ShardResult} {made : Command} {new : RootData} (j : ℕ) (u : Ticket) → fin.get w.tickets j ≡ Some u → u.out ≡ true → (index shard : ℕ) → u.work ≡ Shard index shard
        → ShardLaw f (HeldIn f w) w.root w.ops j u index shard → (law : FinalLaw f w.root w.ops t info results made) → OpLaw f (HeldIn f w) w.root law.op
        → Finalizes w.root (info_of law.op results) results new → Reads (HeldIn f w) (Snap law.op.uuid) f.info (info_of law.op results)
        → ShardLaw f (HeldIn f w) new (fin.remove w.ops t.op) j u index shard
    shard_law {info} {results} {made} {new} j u e out index shard is old law op_law_of fins noted =
        record {
          op = old.op;
          op_there = get_stays nat_cmp_total nat_cmp-IsAntisymmetric w.ops t.op u.op apart ∙ old.op_there;
          uuid_is = old.uuid_is;
          source_is = old.source_is;
          s = old.s;
          s_there = old.s_there;
          state = old.state;
          index_is = old.index_is;
          shard_is = old.shard_is;
          base = based f (HeldIn f w) w.root new w.ops t.op law.op results law.op_there op_law_of law.done fins noted (held_one f w) index shard u.base old.base;
          ids = old.ids;
        }
      where
        apart : u.op ≢ t.op
        apart same =
            let one : old.op ≡ law.op = same_Some _ _ (sym old.op_there ∙ ap (fin.get w.ops) same ∙ law.op_there) in
            let (r, state, there) = done_of law.op.shards results law.done old.s (subst (λ (x : Op). Has x.shards old.s) one old.s_there) in
            done_out r j (sym state ∙ old.state)
