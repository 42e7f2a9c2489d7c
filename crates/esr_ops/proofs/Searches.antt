-- The steps of loops that look for the first of a list.
use Rattle.std.proofs.Common.{◌≡◌, ℕ, ◌+◌, ◌<◌, Bool, true, false, cond, List, Some, map, length, get_or, drop, ap, ◌∙◌}
use Rattle.std.specs.Str.{bytes_eq}
use Rattle.esr_names.specs.declared.index_ref.IndexRef.{IndexRef as CodeRef}
use Rattle.esr_model.specs.Values.{Bytes}
use Rattle.esr_core.specs.After.{index_id}
use Rattle.esr_formats.specs.Refs.{ref_of_code}
use Rattle.esr_ops.specs.Lists.{same_bytes-is, left_from}

module _ (refs : List CodeRef) (i : ℕ) (x : CodeRef) (lt : i < length refs) (is : x ≡ get_or refs i x) (name : Bytes) where
  step : (b : Bool) → bytes_eq x.name name ≡ b → index_id (map ref_of_code (drop i refs)) name ≡ cond b (Some x.id.number) (index_id (map ref_of_code (drop (i + 1) refs)) name)
  step b e = ap (λ (rs : List CodeRef). index_id (map ref_of_code rs) name) (left_from refs i x lt is) ∙ ap (λ t. cond t (Some x.id.number) (index_id (map ref_of_code (drop (i + 1) refs)) name)) (same_bytes-is x.name name ∙ e)

  pub index_id-here : bytes_eq x.name name ≡ true → index_id (map ref_of_code (drop i refs)) name ≡ Some x.id.number
  index_id-here e = step true e

  pub index_id-on : bytes_eq x.name name ≡ false → index_id (map ref_of_code (drop i refs)) name ≡ index_id (map ref_of_code (drop (i + 1) refs)) name
  index_id-on e = step false e
