-- What is written of indices is read as it was, and what the writer asks of it.
use Rattle.std.proofs.Common.{◌≡◌, nat_lt, false, List, [], ◌∷◌, ◌++◌, map, Ok, refl, ap, ◌∙◌, arith}
use Rattle.std.proofs.lemmas.Bool.{le-ltb}
use Rattle.std.proofs.lemmas.List.{append_assoc, append-nil}
use Rattle.esr_names.specs.declared.index_ref.IndexRef.{IndexRef}
use Rattle.esr_json.specs.Access.{member_at, text_at, number_at}
use Rattle.esr_json.specs.Shallow.{IsShallow}
use Rattle.esr_json.specs.ShallowValues.{IsShallow-array_map}
use Rattle.esr_names.specs.Indices.{id_at, index_name_at, ref_of, refs_from, ref_data, indices_data, IsRef, AreRefs}
use Rattle.esr_names.specs.IdTextLaws.{read_id-id_text}

ref_of-ref_data : (r : IndexRef) → IsRef r → ref_of (ref_data r) ≡ Ok r
unfolding ref_of id_at index_name_at text_at number_at member_at
ref_of-ref_data r h =
    let low : nat_lt r.shards 1 ≡ false = le-ltb r.shards 1 h.least in
    let high : nat_lt 1024 r.shards ≡ false = le-ltb 1024 r.shards h.most in
    rw (read_id-id_text r.id h.id, h.name, low, high) refl

pub refs_from-map : (before rs : List IndexRef) → AreRefs before rs → refs_from before (map ref_data rs) ≡ Ok (before ++ rs)
unfolding refs_from
refs_from-map before [] h = rw append-nil refl
refs_from-map before (r ∷ rs) h = rw (ref_of-ref_data r h.0, h.1) (refs_from-map (before ++ r ∷ []) rs h.2 ∙ ap Ok (append_assoc before (r ∷ []) rs))

pub IsShallow-indices_data : (rs : List IndexRef) → IsShallow 2 (indices_data rs)
IsShallow-indices_data rs = IsShallow-array_map 1 ref_data (λ r. (refl, omega arith)) rs
