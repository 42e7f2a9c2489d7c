-- One more index whose name and id differ from those before.
use Rattle.std.proofs.Common.{◌≡◌, false, List, [], ◌∷◌, ◌++◌, Ok, refl}
use Rattle.std.specs.List.{list_any}
use Rattle.std.proofs.lemmas.List.{append_assoc, append-nil}
use Rattle.serde_json.specs.Data.{Data}
use Rattle.esr_names.specs.declared.index_ref.IndexRef.{IndexRef}
use Rattle.esr_names.specs.Indices.{clashes, ref_of, refs_from, IsRef, AreRefs}

AreRefs-append : (before rs : List IndexRef) (r : IndexRef) → AreRefs before rs → IsRef r → list_any (clashes r) (before ++ rs) ≡ false → AreRefs before (rs ++ r ∷ [])
AreRefs-append before [] r h one fresh = (one, rw append-nil at fresh, tt)
AreRefs-append before (s ∷ rs) r h one fresh =
    (h.0, h.1, AreRefs-append (before ++ s ∷ []) rs r h.2 one (rw (append_assoc before (s ∷ []) rs) fresh))

pub AreRefs_push : (rs : List IndexRef) (r : IndexRef) → AreRefs [] rs → IsRef r → list_any (clashes r) rs ≡ false → AreRefs [] (rs ++ r ∷ [])
AreRefs_push rs r h one fresh = AreRefs-append [] rs r h one fresh

-- reading goes on after one more index
pub refs_from_push : (refs : List IndexRef) (r : IndexRef) (d : Data) (ds : List Data) → ref_of d ≡ Ok r → list_any (clashes r) refs ≡ false
    → refs_from refs (d ∷ ds) ≡ refs_from (refs ++ r ∷ []) ds
unfolding refs_from
refs_from_push refs r d ds one fresh = rw (one, fresh) refl
