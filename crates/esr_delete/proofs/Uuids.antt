-- The uuids of the snapshots of a root.
use Rattle.std.proofs.Common.{◌≡◌, ◌+◌, ◌<◌, ◌≤◌, ℕ, List, [], ◌∷◌, ◌++◌, map, length, take, get_or, sym, ap, ◌∙◌}
use Rattle.std.proofs.lemmas.List.{map-append}
use Rattle.esr_model.specs.Loops.{next, all}
use Rattle.esr_names.specs.declared.ids.Id.{Id}
use Rattle.esr_root.specs.declared.snaps.RootSnap.{RootSnap as CodeSnap}
use Rattle.esr_formats.specs.Ids.{number_of}
use Rattle.esr_formats.specs.Roots.{root_snap_of}
use Rattle.esr_model.specs.Values.{RootSnap}

pub uuids_more : (snaps : List CodeSnap) (k : ℕ) (snap : CodeSnap) (old new : List Id) → k < length snaps → snap ≡ get_or snaps k snap → map number_of old ≡ map (λ (s : RootSnap). s.uuid) (map root_snap_of (take k snaps))
    → new ≡ old ++ snap.uuid ∷ []
    → map number_of new ≡ map (λ (s : RootSnap). s.uuid) (map root_snap_of (take (k + 1) snaps))
uuids_more snaps k snap old new less is so_far pushed =
    ap (map number_of) pushed ∙ map-append number_of old (snap.uuid ∷ []) ∙ ap (λ (us : List ℕ). us ++ snap.uuid.number ∷ []) so_far
    ∙ sym (ap (map (λ (s : RootSnap). s.uuid)) (next root_snap_of snaps k snap less is) ∙ map-append (λ (s : RootSnap). s.uuid) (map root_snap_of (take k snaps)) (root_snap_of snap ∷ []))

pub uuids_all : (snaps own : List CodeSnap) (k : ℕ) (uuids : List Id) → snaps ≡ own → length snaps ≤ k → map number_of uuids ≡ map (λ (s : RootSnap). s.uuid) (map root_snap_of (take k snaps))
    → map number_of uuids ≡ map (λ (s : RootSnap). s.uuid) (map root_snap_of own)
uuids_all snaps own k uuids same past so_far = so_far ∙ ap (map (λ (s : RootSnap). s.uuid)) (all root_snap_of snaps k past ∙ ap (map root_snap_of) same)
