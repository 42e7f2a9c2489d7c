-- A list of uuids with one more.
use Rattle.std.proofs.Common.{◌≡◌, ◌<◌, false, List, [], ◌∷◌, ◌++◌, ◌-◌, ◌^◌}
use Rattle.std.specs.List.{list_any}
use Rattle.std.proofs.lemmas.List.{append_assoc, append-nil}
use Rattle.esr_names.specs.declared.ids.Id.{Id}
use Rattle.esr_record.specs.Op.{is_id, AreUuids}

AreUuids-append : (before us : List Id) (u : Id) → AreUuids before us → u.number < 2 ^ 128 → list_any (is_id u) (before ++ us) ≡ false → AreUuids before (us ++ u ∷ [])
AreUuids-append before [] u h small fresh = (small, rw append-nil at fresh, tt)
AreUuids-append before (v ∷ us) u h small fresh =
    (h.0, h.1, AreUuids-append (before ++ v ∷ []) us u h.2 small (rw (append_assoc before (v ∷ []) us) fresh))

pub AreUuids_push : (us : List Id) (u : Id) → AreUuids [] us → u.number < 2 ^ 128 → list_any (is_id u) us ≡ false → AreUuids [] (us ++ u ∷ [])
AreUuids_push us u h small fresh = AreUuids-append [] us u h small fresh
