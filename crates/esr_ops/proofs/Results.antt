-- The results of an op's shards, and the largest generation at which one is done.
use Rattle.std.proofs.Common.{◌≡◌, ℕ, ◌+◌, ◌-◌, ◌^◌, Bool, true, ◌&&◌, List, [], ◌∷◌, Option, map, min, refl, sym, ap, ◌∙◌, subst, true≢false}
use Rattle.std.specs.Prelude.{sum_by}
use Rattle.std.specs.List.{filter_map, cons_option, fold}
use Rattle.esr_names.specs.declared.ids.Id.{Id}
use Rattle.esr_names.specs.declared.index_ref.IndexRef.{IndexRef as CodeRef}
use Rattle.esr_record.specs.declared.op.Making.{Making}
use Rattle.esr_meta.specs.Info.{Info}
use Rattle.esr_model.specs.Values.{Bytes, ShardResult}
use Rattle.esr_core.specs.World.{AllDone, info_of}
use Rattle.esr_core.specs.Steps.{all_done, is_done}
use Rattle.esr_formats.specs.Infos.{info_of_code}
use Rattle.esr_formats.specs.Refs.{ref_of_code}
use Rattle.esr_results.specs.declared.result.ShardResult.{ShardResult as CodeResult}
use Rattle.esr_ops.specs.declared.shard.ShardState.{ShardState as CodeState}
use Rattle.esr_ops.specs.declared.shard.ShardState.TheVariants as states
use Rattle.esr_ops.specs.declared.shard.OpenShard.{OpenShard}
use Rattle.esr_results.specs.Results.{result_of}
use Rattle.esr_ops.specs.Shards.{work_of_shard, state_of, result_in}
use Rattle.esr_ops.specs.Ops.{op_with}

-- ---- results

module _ (refs : List CodeRef) (places : List Bytes) where
  one_more : (x : OpenShard) (xs : List OpenShard) (st : CodeState) → x.state ≡ st → (is_done (state_of st) && all_done (map (work_of_shard refs places) xs)) ≡ true
      → (all_done (map (work_of_shard refs places) xs) ≡ true → AllDone (map (work_of_shard refs places) xs) (map result_of (filter_map (λ s. result_in s.state) xs)))
      → AllDone (map (work_of_shard refs places) (x ∷ xs)) (map result_of (cons_option (result_in st) (filter_map (λ s. result_in s.state) xs)))
  one_more x xs states.Pending is e rest = absurd (true≢false (sym e))
  one_more x xs (states.Done r) is e rest = (ap state_of is, rest e)
  one_more x xs st is e rest = absurd (true≢false (sym e))

  pub all_results : (xs : List OpenShard) → all_done (map (work_of_shard refs places) xs) ≡ true → AllDone (map (work_of_shard refs places) xs) (map result_of (filter_map (λ s. result_in s.state) xs))
  all_results [] e = tt
  all_results (x ∷ xs) e = one_more x xs x.state refl e (all_results xs)

files_from : (n : ℕ) (rs : List CodeResult) → fold (λ (a : ℕ) (r : ShardResult). a + r.files) n (map result_of rs) ≡ fold (λ (a : ℕ) (r : CodeResult). a + r.files) n rs
files_from n [] = refl
files_from n (r ∷ rs) = files_from (n + r.files) rs

bytes_from : (n : ℕ) (rs : List CodeResult) → fold (λ (a : ℕ) (r : ShardResult). a + r.bytes) n (map result_of rs) ≡ fold (λ (a : ℕ) (r : CodeResult). a + r.bytes) n rs
bytes_from n [] = refl
bytes_from n (r ∷ rs) = bytes_from (n + r.bytes) rs

pub final_info : (m : Making) (places : List Bytes) (shards : List OpenShard) (failed : Bool) (source : Option Id) (aborted : Option ℕ) (rs : List CodeResult) (i : Info)
    → i.files ≡ min (sum_by (λ (r : CodeResult). r.files) rs) (2 ^ 63 - 1) → i.bytes ≡ min (sum_by (λ (r : CodeResult). r.bytes) rs) (2 ^ 63 - 1)
    → i.indices ≡ m.indices → i.moment ≡ m.moment → i.name ≡ m.name → i.state ≡ 1 → i.uuid ≡ m.uuid → info_of_code i ≡ info_of (op_with m places shards failed source aborted) (map result_of rs)
final_info m places shards failed source aborted rs i files bytes indices moment name state uuid = λ j. record {
  name = name j;
  uuid = (uuid j).number;
  state = state j;
  moment = moment j;
  indices = map ref_of_code (indices j);
  files = (files ∙ ap (λ n. min n (2 ^ 63 - 1)) (sym (files_from 0 rs))) j;
  bytes = (bytes ∙ ap (λ n. min n (2 ^ 63 - 1)) (sym (bytes_from 0 rs))) j;
}

-- the work that finalizes an op
pub final_work : (m : Making) (places : List Bytes) (xs : List OpenShard) (failed : Bool) (source : Option Id) (aborted : Option ℕ) (rs : List CodeResult) (i : Info) (sums : ℕ × ℕ)
    → rs ≡ filter_map (λ s. result_in s.state) xs → all_done (map (work_of_shard m.indices places) xs) ≡ true
    → sums ≡ (min (sum_by (λ (r : CodeResult). r.files) rs) (2 ^ 63 - 1), min (sum_by (λ (r : CodeResult). r.bytes) rs) (2 ^ 63 - 1)) → i.files ≡ sums.0 → i.bytes ≡ sums.1
    → i.indices ≡ m.indices → i.moment ≡ m.moment → i.name ≡ m.name → i.state ≡ 1 → i.uuid ≡ m.uuid
    → AllDone (op_with m places xs failed source aborted).shards (map result_of rs) × (info_of_code i ≡ info_of (op_with m places xs failed source aborted) (map result_of rs))
final_work m places xs failed source aborted rs i sums are done is files bytes indices moment name state uuid = (
  subst (λ zs. AllDone (map (work_of_shard m.indices places) xs) (map result_of zs)) (sym are) (all_results m.indices places xs done),
  final_info m places xs failed source aborted rs i (files ∙ ap (λ (p : ℕ × ℕ). p.0) is) (bytes ∙ ap (λ (p : ℕ × ℕ). p.1) is) indices moment name state uuid,
)
