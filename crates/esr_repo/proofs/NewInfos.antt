-- The infos that are kept, over a step that swaps the record.
use Rattle.std.proofs.Common.{◌≡◌, ℕ, true, List, [], ◌∷◌, ◌++◌, append-nil, map, Some, None, refl, sym, ap, ◌∙◌, subst, inr}
use Rattle.esr_model.specs.Image.{Blobs}
use Rattle.esr_model.specs.Shelf.{Command}
use Rattle.esr_model.specs.Values.{RootData, SnapInfo, ShardResult, ReadsBack, Formats}
use Rattle.esr_core.specs.World.{World, Ticket, Finalize}
use Rattle.esr_core.specs.Steps.{IsOut}
use Rattle.esr_core.specs.Tracked.{Tracked}
use Rattle.esr_core.specs.Entry.{Step, SettleStep, HasEnded, Moment}
use Rattle.esr_core.specs.After.{settled_of}
use Rattle.esr_meta.specs.Info.{Info}
use Rattle.esr_formats.specs.Formats.{formats}
use Rattle.esr_formats.specs.Infos.{info_of_code, info_kind}
use Rattle.esr_formats.specs.Refs.{ref_of_code}
use Rattle.esr_desk.specs.Conditions.{IsUnpruned, CanSettle}
use Rattle.esr_desk.specs.Start.{Start, formats_of, world_of, ticket_of}
use Rattle.esr_repo.specs.Repo.{OwnIndices, AreListed, HasInfos}
use Rattle.esr_repo.specs.May.{swapped_world, IsMadeInfo}
use Rattle.esr_repo.specs.Grown.{out_is}
use Rattle.esr_repo.specs.InfosAfter.{LeavesInfos, InfosAfter}
use Rattle.esr_repo.proofs.InfosStay.{HasSettled, infos_stay, root_step, works_step, none_step, infos_settled, listed_settled, settled_tickets, of_ticket, final_info, info_apart}
use Rattle.esr_repo.proofs.Coming.{DeletesCome, come_plain}
use Rattle.esr_repo.proofs.Gone.{plain_come, found_stays, found_more}
use Rattle.esr_repo.proofs.Repos.{infos_aside}
use Rattle.esr_repo.proofs.DeletedInfos.{infos_left}

-- ---- the infos

-- they stay over a step that settles nothing
pub infos_swapped : (s : Start) (log : List Moment) (who : ℕ) (step : Step) → Tracked (world_of s log) → LeavesInfos step HasEnded → (old : List Info) → HasInfos s (world_of s log) old
    → HasInfos s (record (swapped_world s log who step) { blobs = (world_of s log).blobs }) (old ++ [])
infos_swapped s log who step tracked plain old h =
    let m : Moment = record { entry = record { who = who; step = step; reply = HasEnded }; image = None } in
    let w : World = world_of s log in
    let root = root_step (formats_of s) w m tracked plain in
    subst (HasInfos s (record (swapped_world s log who step) { blobs = w.blobs })) (sym (append-nil old))
    (record {
      are = infos_stay (formats_of s) w (record (swapped_world s log who step) { blobs = w.blobs }) s.tells old root (works_step (formats_of s) w m tracked plain) (none_step (formats_of s) w m tracked plain) (λ i has. inr (λ bytes at. at)) h.are;
      listed = subst (λ (r : RootData). AreListed r old) (sym root) h.listed;
      found = λ i has. found_stays (formats_of s) w (record (swapped_world s log who step) { blobs = w.blobs }) i.uuid.number (map ref_of_code i.indices)
          (works_step (formats_of s) w m tracked plain) (plain_come (formats_of s) w who step HasEnded None plain) (h.found i has);
    })

-- ---- one more

info_kind_is : (s : Start) → (formats_of s).info ≡ info_kind
unfolding formats
info_kind_is s = refl

abbrev IsFinal : Ticket → Type 0
IsFinal t = (info : SnapInfo) × (results : List ShardResult) × (made : Command) × (t.work ≡ Finalize info results made)

-- over a settle there is one more
infos_more : (s : Start) (log : List Moment) (k : ℕ) (root : RootData) (info : Info) → IsMadeInfo s log k info → Tracked (world_of s log) → CanSettle s (ticket_of s log k) root → (ticket_of s log k).term ≡ (world_of s log).term
    → IsUnpruned (ticket_of s log k) → IsFinal (ticket_of s log k)
    → (old : List Info) → HasInfos s (world_of s log) old → HasInfos s (record (swapped_world s log k SettleStep) { blobs = (world_of s log).blobs }) (old ++ info ∷ [])
infos_more s log k root info made tracked can present unpruned final old h =
    let w : World = world_of s log in
    let f = formats_of s in
    let t : Ticket = ticket_of s log k in
    let out : IsOut w k t = out_is s log k can.put.out in
    let code : info_of_code info ≡ final.0 = made.is ∙ final_info w k t final.0 final.1 final.2 tracked out can.put.unsettled present final.3 made.op made.results made.there made.done in
    let back : ReadsBack f.info final.0 = subst (λ kind. ReadsBack kind final.0) (sym (info_kind_is s)) (subst (ReadsBack info_kind) code made.back) in
    let settled : HasSettled f w (settled_of f w k (Some t)) k info = of_ticket f w k can.n info t final.0 final.1 final.2 out can.put.unsettled present final.3 can.put.raised code (info_apart info made.valid) back in
    let v : World = record (settled_of f w k (Some t)) { blobs = w.blobs } in
    let over : HasSettled f w v k info = settled_aside f w (settled_of f w k (Some t)) k info w.blobs settled in
    let come : DeletesCome None w.tickets v.tickets =
    subst (DeletesCome None w.tickets) (sym (settled_tickets f w k can.n t final.0 final.1 final.2 final.3 can.put.raised)) (come_plain None w.tickets k (record t { settled = true }) unpruned) in
    infos_aside s v (record (swapped_world s log k SettleStep) { blobs = w.blobs }) (old ++ info ∷ [])
    (ap (λ (x : World). x.root) (ap (settled_of f w k) out.there)) (ap (λ (x : World). x.tickets) (ap (settled_of f w k) out.there)) refl
    (record {
      are = infos_settled f w v k info tracked over s.tells old (λ told name bytes at. at) h.listed h.are;
      listed = listed_settled f w v k info tracked over old h.listed;
      found = found_more f w v k info tracked over come old h.found;
    })
  where
    settled_aside : (f : Formats) (w v : World) (k : ℕ) (i : Info) (blobs : Blobs) → HasSettled f w v k i → HasSettled f w (record v { blobs = blobs }) k i
    settled_aside f w v k i blobs h =
        record { t = h.t; out = h.out; unsettled = h.unsettled; present = h.present; info = h.info; results = h.results; made = h.made; work = h.work; root = h.root; works = h.works; none = h.none; code = h.code; apart = h.apart; back = h.back }

-- ---- all of them

pub infos_go : (s : Start) (log : List Moment) → Tracked (world_of s log) → OwnIndices (world_of s log) → InfosAfter s log
infos_go s log tracked pruning = record {
  stay = λ who step plain. infos_swapped s log who step tracked plain;
  more = λ k root info final results made is can present unpruned work. infos_more s log k root info is tracked can present unpruned (final, results, made, work);
  left = λ k root infos kept can present has is old h. infos_left s log k root infos pruning tracked can present has kept is;
}
