-- A restore that is asked for.
use Rattle.std.proofs.Common.{◌≡◌, ◌≢◌, ◌⊎◌, ℕ, ◌<◌, Bool, true, false, cond, List, [], ◌∷◌, ◌++◌, map, Option, Some, None, IfSome, refl, sym, ap, ◌∙◌, subst, inl, inr, eq-eqb, true≢false}
use Rattle.std.specs.Prelude.{◌==◌}
use Rattle.std.specs.List.{find, IsDistinct}
use Rattle.std.proofs.lemmas.Bool.{eqb-true}
use Rattle.std.specs.FinMap as fin
use Rattle.esr_names.specs.declared.index_ref.IndexRef.{IndexRef as CodeRef}
use Rattle.esr_model.specs.Image.{Image}
use Rattle.esr_model.specs.Values.{Bytes, Has, IndexRef}
use Rattle.esr_core.specs.World.{World}
use Rattle.esr_core.specs.Restores.{restore_opened}
use Rattle.esr_core.specs.Entry.{Restore, AskStep, AcceptedRestore, NoSnapshot, BeingDeleted, TooMany, Moment}
use Rattle.esr_core.specs.Allowed.{Told, WasMade, IsInInfo, IsListed, IsSpared, OpeningRestore, NotListed, NamedByDelete, FullOfRestores}
use Rattle.esr_model.specs.Lists.{Has-mapped}
use Rattle.esr_names.specs.Indices.{AreRefs}
use Rattle.esr_meta.specs.Info.{Info}
use Rattle.esr_formats.specs.Refs.{ref_of_code, AreApart}
use Rattle.esr_newroot.specs.ByteTests.{differ}
use Rattle.esr_newroot.specs.RefLists.{one_name, one_id, names_distinct, ids_distinct, other_later}
use Rattle.esr_progress.specs.Infos.{HasIndices}
use Rattle.esr_ops.specs.Plan.{Plan, IsPlanOf}
use Rattle.esr_accept.specs.Accepting.{IsRestoreRefused}
use Rattle.esr_ops.specs.declared.refusal.Refusal.{Refusal as ListRefusal}
use Rattle.esr_ops.specs.declared.refusal.Refusal.TheVariants as refusals
use Rattle.esr_desk.specs.Refusals.{refusal_of}
use Rattle.esr_desk.specs.Start.{Start, formats_of, world_of}
use Rattle.esr_repo.specs.Repo.{HasInfos}
use Rattle.esr_client.specs.Asked.{entry_of}
use Rattle.esr_repo.specs.May.{CanTell, MayNote, MayRefuse}
use Rattle.esr_repo.specs.Stepping.{told_if}
use Rattle.esr_client.proofs.Ruled.{ruled, ruled_at}

-- ---- an info

no_info : (i : Info) → None ≡ Some i → ⊥
no_info i e = cc

some_info : (x i : Info) → Some x ≡ Some i → x ≡ i
some_info x i e = cc

-- the info that is found
found_info : (infos : List Info) (uuid : ℕ) (i : Info) → find (λ (info : Info). info.uuid.number == uuid) infos ≡ Some i → Has infos i × (i.uuid.number ≡ uuid)
found_info [] uuid i e = absurd (no_info i e)
found_info (x ∷ infos) uuid i e = go (x.uuid.number == uuid) refl e (found_info infos uuid i)
  where
    go : (b : Bool) → (x.uuid.number == uuid) ≡ b → cond b (Some x) (find (λ (info : Info). info.uuid.number == uuid) infos) ≡ Some i
        → (find (λ (info : Info). info.uuid.number == uuid) infos ≡ Some i → Has infos i × (i.uuid.number ≡ uuid)) → Has (x ∷ infos) i × (i.uuid.number ≡ uuid)
    go true is q rest = let same : x ≡ i = some_info x i q in (inl same, ap (λ (z : Info). z.uuid.number) (sym same) ∙ eqb-true x.uuid.number uuid is)
    go false is q rest = let h = rest q in (inr h.0, h.1)

not_found : (infos : List Info) (uuid : ℕ) (i : Info) → find (λ (info : Info). info.uuid.number == uuid) infos ≡ None → Has infos i → i.uuid.number ≡ uuid → ⊥
not_found [] uuid i e has same = has
not_found (x ∷ infos) uuid i e has same = go (x.uuid.number == uuid) refl e has (not_found infos uuid i)
  where
    go : (b : Bool) → (x.uuid.number == uuid) ≡ b → cond b (Some x) (find (λ (info : Info). info.uuid.number == uuid) infos) ≡ None → Has (x ∷ infos) i
        → (find (λ (info : Info). info.uuid.number == uuid) infos ≡ None → Has infos i → i.uuid.number ≡ uuid → ⊥) → ⊥
    go true is q there rest = no_info x (sym q)
    go false is q (inl here) rest = true≢false (sym (eq-eqb x.uuid.number uuid (ap (λ (z : Info). z.uuid.number) here ∙ same)) ∙ is)
    go false is q (inr later) rest = rest q later same

-- each listed snapshot has one, which tells its indices
pub listed_found : (s : Start) (w : World) (infos : List Info) (uuid : ℕ) (name : Bytes) → HasInfos s w infos → IsListed w name uuid → find (λ (info : Info). info.uuid.number == uuid) infos ≡ None → ⊥
listed_found s w infos uuid name has listed none = let there = has.are.there listed.0 listed.1 in not_found infos uuid there.0 none there.1 (there.2 ∙ listed.3)

pub found_indices : (s : Start) (w : World) (infos : List Info) (uuid : ℕ) (i : Info) → HasInfos s w infos → find (λ (info : Info). info.uuid.number == uuid) infos ≡ Some i
    → HasIndices (formats_of s) w s.tells uuid (map ref_of_code i.indices)
found_indices s w infos uuid i has found =
    let h = found_info infos uuid i found in
    subst (λ (u : ℕ). HasIndices (formats_of s) w s.tells u (map ref_of_code i.indices)) h.1 (has.are.each i h.0)

-- ---- the indices of an info

apart_from : (before qs : List CodeRef) → AreRefs before qs → IsDistinct one_name qs → IsDistinct one_id qs → AreApart (map ref_of_code qs)
unfolding IsDistinct
apart_from before [] refs names ids = tt
apart_from before (q ∷ qs) refs names ids = (refs.0.least, refs.0.most, others, apart_from (before ++ q ∷ []) qs refs.2 names.1 ids.1)
  where
    others : (r : IndexRef) → Has (map ref_of_code qs) r → (r.name ≢ q.name) × (r.id ≢ q.id.number)
    others r has =
        let p = Has-mapped ref_of_code qs r has in (
          λ same. differ q.name p.0.name (other_later one_name q qs p.0 p.1 names.0) (sym same ∙ ap (λ (x : IndexRef). x.name) (sym p.2)),
          λ same. other_id p.0 (other_later one_id q qs p.0 p.1 ids.0) (sym same ∙ ap (λ (x : IndexRef). x.id) (sym p.2)),
        )
      where
        other_id : (p : CodeRef) → one_id q p ≡ false → q.id.number ≡ p.id.number → ⊥
        other_id p other same = true≢false (sym (eq-eqb q.id.number p.id.number same) ∙ other)

pub refs_apart : (qs : List CodeRef) → AreRefs [] qs → AreApart (map ref_of_code qs)
refs_apart qs refs = apart_from [] qs refs (names_distinct qs refs) (ids_distinct qs refs)

-- ---- it is accepted

pub told_so : (s : Start) (w : World) (uuid : ℕ) (indices : List IndexRef) (image : Option Image) → CanTell s image → WasMade (formats_of s) w uuid indices ⊎ (s.tells ≡ true → IsInInfo (formats_of s) w uuid indices)
    → WasMade (formats_of s) w uuid indices ⊎ Told image (λ blobs. IsInInfo (formats_of s) w uuid indices)
told_so s w uuid indices image tells (inl made) = inl made
told_so s w uuid indices image tells (inr there) = inr (told_if s image _ tells there)

pub may_restore : (s : Start) (log : List Moment) (name place : Bytes) (uuid : ℕ) (indices : List IndexRef) (p : Plan) (o next : ℕ)
    → IsListed (world_of s log) name uuid × IsSpared (world_of s log) uuid × (fin.len (world_of s log).restores < 1000)
    → HasIndices (formats_of s) (world_of s log) s.tells uuid indices → o ≡ (world_of s log).next_op → IsPlanOf (restore_opened (world_of s log) uuid place indices) p → next ≡ (world_of s log).next_id
    → MayNote s log 0 (AskStep (Restore name place)) (AcceptedRestore o uuid indices) (Some p) next
may_restore s log name place uuid indices p o next may has o_is plan_is next_is = record {
  plain = refl;
  allows = λ image tells same.
      OpeningRestore name place o uuid indices image
      (record { number = o_is; listed = may.0; spared = may.1; room = may.2; indices_of = record { within = has.within; generations = has.generations; told = told_so s (world_of s log) uuid indices image tells has.told } }) same;
  plan_is = λ image old h. plan_is;
  next_is = λ image. next_is;
}

-- ---- it is refused

pub refuses_restore : (s : Start) (log : List Moment) (name place : Bytes) (refusal : ListRefusal) → IsRestoreRefused (world_of s log) name refusal
    → IfSome (entry_of refusal) (λ e. MayRefuse s log 0 (AskStep (Restore name place)) (refusal_of e))
refuses_restore s log name place (refusals.NoSnapshot at) h = ruled_at s log (Restore name place) NoSnapshot at 0 h.0 (NotListed name place h.1)
refuses_restore s log name place (refusals.BeingDeleted op) h = ruled s log (Restore name place) (BeingDeleted op) (NamedByDelete name place h.0 op h.1 h.2)
refuses_restore s log name place (refusals.TooMany limit) h = ruled_at s log (Restore name place) TooMany limit 1000 h.0 (FullOfRestores name place h.1.0 h.1.1 h.1.2 h.1.3)
refuses_restore s log name place other h = absurd h
