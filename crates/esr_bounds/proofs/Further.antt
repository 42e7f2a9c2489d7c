-- What a ticket of a delete or cleanup goes by, as its own steps go on: the root that it copied, its plan, its pages, and what it dooms.
use Rattle.std.proofs.Common.{◌≡◌, ℕ, zero, suc, ◌+◌, ◌≤◌, List, [], ◌∷◌, ◌++◌, append-nil, length, map, Bool, true, false, true≢false, Option, Some, None, refl, sym, ap, ◌∙◌, subst, inl, inr, arith}
use Rattle.std.specs.Prelude.{if◌then◌else◌}
use Rattle.std.proofs.lemmas.Option.{same_Some, none-some}
use Rattle.std.proofs.lemmas.List.{length-map}
use Rattle.esr_model.specs.Lists.{Has-left, Has-right, Has-map, Has-mapped}
use Rattle.esr_model.specs.Names.{BlobName, ShardIndex}
use Rattle.esr_model.specs.Values.{Bytes, Has, RootIndex, RootData, IsOneEach, Formats}
use Rattle.esr_model.specs.Image.{index_at, at_shard, at_shard_of, Generation}
use Rattle.esr_model.specs.Delete.{PrunedShard, deleted_root, files_read, left_text, pruned_blobs, doomed_names}
use Rattle.esr_model.specs.Cleanup.{BlobSize, last_text, cleaned_names}
use Rattle.esr_core.specs.World.{Work, Shard, Deleting, Ticket, Swap}
use Rattle.esr_core.specs.Restores.{AreOnce}
use Rattle.esr_core.specs.Pruning.{AreOfRoot, doomed_as, doomed_by, dooms}
use Rattle.esr_core.specs.Laws.NewRoots.{index_found}
use Rattle.esr_bounds.specs.Others.{shard_indices, generation_names, start_at, page_starts}
use Rattle.esr_bounds.proofs.Few.{few_once}
use Rattle.esr_bounds.proofs.Names.{bare}

-- ---- the shards of a root

pub plus_none : (n : ℕ) → n ≡ n + 0
plus_none n = omega arith

pub none_plus : (n : ℕ) → 0 + n ≡ n
none_plus n = omega arith

pub shift : (a b : ℕ) → suc a + b ≡ a + suc b
shift a b = omega arith

in_shards : (index first : ℕ) (generations : List (Option ℕ)) (n g : ℕ) → at_shard generations n ≡ Some g → Has (shard_indices index first generations) (ShardIndex index (first + n) g)
in_shards index first [] n g is = absurd (none-some g is)
in_shards index first (None ∷ gs) zero g is = absurd (none-some g is)
in_shards index first (Some x ∷ gs) zero g is = inl (ap (λ (k : ℕ). ShardIndex index k x) (plus_none first) ∙ ap (λ (y : ℕ). ShardIndex index (first + 0) y) (same_Some x g is))
in_shards index first (None ∷ gs) (suc n) g is = subst (λ (k : ℕ). Has (shard_indices index (suc first) gs) (ShardIndex index k g)) (shift first n) (in_shards index (suc first) gs n g is)
in_shards index first (Some x ∷ gs) (suc n) g is = inr (subst (λ (k : ℕ). Has (shard_indices index (suc first) gs) (ShardIndex index k g)) (shift first n) (in_shards index (suc first) gs n g is))

in_first : (x : RootIndex) (n g : ℕ) → at_shard x.generations n ≡ Some g → Has (shard_indices x.id 0 x.generations) (ShardIndex x.id n g)
in_first x n g is = subst (λ (k : ℕ). Has (shard_indices x.id 0 x.generations) (ShardIndex x.id k g)) (none_plus n) (in_shards x.id 0 x.generations n g is)

pub in_generations : (xs : List RootIndex) (x : RootIndex) (n g : ℕ) → Has xs x → at_shard x.generations n ≡ Some g → Has (generation_names xs) (ShardIndex x.id n g)
in_generations [] x n g h is = absurd h
in_generations (y ∷ ys) x n g (inl e) is =
    Has-left (shard_indices y.id 0 y.generations) (generation_names ys) (ShardIndex x.id n g)
    (subst (λ (z : RootIndex). Has (shard_indices y.id 0 y.generations) (ShardIndex z.id n g)) e (in_first y n g (subst (λ (z : RootIndex). at_shard z.generations n ≡ Some g) (sym e) is)))
in_generations (y ∷ ys) x n g (inr h) is = Has-right (shard_indices y.id 0 y.generations) (generation_names ys) (ShardIndex x.id n g) (in_generations ys x n g h is)

by_root : (root : RootData) (index n g : ℕ) → Generation root index n g → Has (generation_names root.indices) (ShardIndex index n g)
by_root root index n g is = at (index_at root.indices index) refl is
  where
    at : (o : Option RootIndex) → index_at root.indices index ≡ o → at_shard_of o n ≡ Some g → Has (generation_names root.indices) (ShardIndex index n g)
    at None found no_shard = absurd (none-some g no_shard)
    at (Some x) found has =
        let h = index_found root.indices index x found in
        subst (λ (i : ℕ). Has (generation_names root.indices) (ShardIndex i n g)) h.1 (in_generations root.indices x n g h.0 has)

-- ---- a plan writes no more indices than the root has

abbrev base_name : PrunedShard → BlobName
base_name p = ShardIndex p.index p.number p.base

one_index : (q p : PrunedShard) → base_name q ≡ base_name p → p.index ≡ q.index
one_index q p e = cc

one_number : (q p : PrunedShard) → base_name q ≡ base_name p → p.number ≡ q.number
one_number q p e = cc

once_bases : (root : RootData) (shards : List PrunedShard) → AreOfRoot root shards → AreOnce (map base_name shards)
once_bases root [] h = tt
once_bases root (p ∷ shards) h = ((λ had. let r = Has-mapped base_name shards (base_name p) had in h.1 r.0 r.1 (one_index r.0 p r.2) (one_number r.0 p r.2)), once_bases root shards h.2)

bases_in : (root : RootData) (shards : List PrunedShard) → AreOfRoot root shards → (name : BlobName) → Has (map base_name shards) name → Has (generation_names root.indices) name
bases_in root [] h name had = absurd had
bases_in root (p ∷ shards) h name (inl e) = subst (Has (generation_names root.indices)) e (by_root root p.index p.number p.base h.0)
bases_in root (p ∷ shards) h name (inr had) = bases_in root shards h.2 name had

both : (a b c : ℕ) → a ≤ b → b ≤ c → a ≤ c
both a b c p q = let one : a ≤ b = p in let two : b ≤ c = q in omega (arith, one, two)

pub few_blobs : (f : Formats) (read : List (BlobName × Bytes)) (listed : List ℕ) (next : ℕ) (shards : List PrunedShard) → length (pruned_blobs f read listed next shards) ≤ length shards
few_blobs f read listed next [] = let none : 0 ≤ 0 = omega arith in none
few_blobs f read listed next (p ∷ shards) = by p.kept (few_blobs f read listed (suc next) shards) (few_blobs f read listed next shards)
  where
    one_more : (a b : ℕ) → a ≤ b → suc a ≤ suc b
    one_more a b h = let less : a ≤ b = h in omega (arith, less)

    as_many : (a b : ℕ) → a ≤ b → a ≤ suc b
    as_many a b h = let less : a ≤ b = h in omega (arith, less)

    by : (kept : Bool) → length (pruned_blobs f read listed (suc next) shards) ≤ length shards → length (pruned_blobs f read listed next shards) ≤ length shards
        → length (if kept then (ShardIndex p.index p.number next, left_text f listed (files_read f read p)) ∷ pruned_blobs f read listed (suc next) shards else pruned_blobs f read listed next shards) ≤ suc (length shards)
    by true left right = one_more (length (pruned_blobs f read listed (suc next) shards)) (length shards) left
    by false left right = as_many (length (pruned_blobs f read listed next shards)) (length shards) right

-- a swap by a plan for these shards of the root
pub record IsPlan (root : RootData) (uuids : List ℕ) (s : Swap) : Type 0 where
  pub shards : List PrunedShard
  pub first : ℕ
  pub of_root : AreOfRoot root shards
  pub few : length s.own ≤ length shards
  pub root_is : s.root ≡ deleted_root root uuids shards first
  pub one_each : IsOneEach s.root.indices

pub few_plan : (root : RootData) (uuids : List ℕ) (s : Swap) → IsPlan root uuids s → length s.own ≤ length (generation_names root.indices)
few_plan root uuids s p =
    both (length s.own) (length p.shards) (length (generation_names root.indices)) p.few
    (subst (λ (n : ℕ). n ≤ length (generation_names root.indices)) (length-map p.shards base_name) (few_once (map base_name p.shards) (generation_names root.indices) (once_bases root p.shards p.of_root) (bases_in root p.shards p.of_root)))

abbrev pub Planned : Ticket → Type 0
Planned t = (uuids : List ℕ) (s : Swap) → t.work ≡ Deleting uuids (Some s) → IsPlan t.root uuids s

-- ---- where pages begin

wider : (x y z : Option Bytes) (xs : List (Option Bytes)) → Has (x ∷ xs) z → Has (x ∷ y ∷ xs) z
wider x y z xs (inl e) = inl e
wider x y z xs (inr h) = inr (inr h)

pub last_start : (listed : List BlobSize) → Has (page_starts listed) (last_text listed)
last_start [] = inl refl
last_start (b ∷ []) = inr (inl refl)
last_start (b ∷ c ∷ rest) = wider None (start_at b) (last_text (c ∷ rest)) (map start_at (c ∷ rest)) (last_start (c ∷ rest))

pub more_starts : (listed page : List BlobSize) (from : Option Bytes) → Has (page_starts listed) from → Has (page_starts (listed ++ page)) from
more_starts listed page from (inl e) = inl e
more_starts listed page from (inr h) =
    let r = Has-mapped start_at listed from h in
    inr (subst (Has (map start_at (listed ++ page))) r.2 (Has-map start_at (listed ++ page) r.0 (Has-left listed page r.0 r.1)))

-- ---- as it goes on

-- what it doomed when it settled it dooms later on
pub record Further (f : Formats) (t : Ticket) (page : List BlobSize) (v : Ticket) : Type 0 where
  pub root : v.root ≡ t.root
  pub listed : v.listed ≡ t.listed ++ page
  pub settled : t.settled ≡ true → v.settled ≡ true
  pub doomed : t.settled ≡ true → dooms f v ≡ dooms f t
  pub plan : Planned t → Planned v

doomed_alike : (f : Formats) (t v : Ticket) (work : Work) → v.safe ≡ t.safe → v.root ≡ t.root → v.read ≡ t.read → v.raised ≡ t.raised → v.listed ≡ t.listed → v.clean ≡ t.clean → doomed_by f v work ≡ doomed_by f t work
doomed_alike f t v (Deleting uuids (Some s)) safe root read raised listed clean = ap (doomed_as f v uuids s) clean ∙ by t.clean
  where
    by : (b : Bool) → doomed_as f v uuids s b ≡ doomed_as f t uuids s b
    by false = λ j. doomed_names f (safe j) (root j) s.root uuids (read j)
    by true = λ j. cleaned_names f (raised j) s.root (s.own ++ read j) (listed j)
doomed_alike f t v work safe root read raised listed clean = refl

same_plan : (t v : Ticket) → v.root ≡ t.root → v.work ≡ t.work → Planned t → Planned v
same_plan t v root work plan uuids s is = subst (λ (r : RootData). IsPlan r uuids s) (sym root) (plan uuids s (sym work ∙ is))

-- with the work, the pages and the generation that it had, and the blobs that it had read
pub alike : (f : Formats) (t v : Ticket) → bare v ≡ bare t → v.work ≡ t.work → v.raised ≡ t.raised → v.read ≡ t.read → v.listed ≡ t.listed → v.settled ≡ t.settled → Further f t [] v
alike f t v same work raised read listed settled = record {
  root = root;
  listed = listed ∙ sym (append-nil t.listed);
  settled = λ was. settled ∙ was;
  doomed = λ was. ap (doomed_by f v) work ∙ doomed_alike f t v t.work (ap (λ (b : Ticket). b.safe) same) root read raised listed (ap (λ (b : Ticket). b.clean) same);
  plan = same_plan t v root work;
}
  where
    root : v.root ≡ t.root
    root = ap (λ (b : Ticket). b.root) same

-- before its settle
pub early : (f : Formats) (t : Ticket) (page : List BlobSize) (v : Ticket) → v.root ≡ t.root → v.listed ≡ t.listed ++ page → (Planned t → Planned v) → t.settled ≡ false → Further f t page v
early f t page v root listed plan unsettled =
    record { root = root; listed = listed; settled = λ was. absurd (true≢false (sym was ∙ unsettled)); doomed = λ was. absurd (true≢false (sym was ∙ unsettled)); plan = plan }

-- before its settle, with the same work and pages
pub early_alike : (f : Formats) (t v : Ticket) → bare v ≡ bare t → v.work ≡ t.work → v.listed ≡ t.listed → t.settled ≡ false → Further f t [] v
early_alike f t v same work listed unsettled =
    early f t [] v root (listed ∙ sym (append-nil t.listed)) (same_plan t v root work) unsettled
  where
    root : v.root ≡ t.root
    root = ap (λ (b : Ticket). b.root) same

-- a shard's ticket dooms nothing
pub of_shard : (f : Formats) (t v : Ticket) (index number : ℕ) → bare v ≡ bare t → v.work ≡ t.work → v.listed ≡ t.listed → v.settled ≡ t.settled → t.work ≡ Shard index number → Further f t [] v
of_shard f t v index number same work listed settled is = record {
  root = root;
  listed = listed ∙ sym (append-nil t.listed);
  settled = λ was. settled ∙ was;
  doomed = λ was. ap (doomed_by f v) (work ∙ is) ∙ sym (ap (doomed_by f t) is);
  plan = same_plan t v root work;
}
  where
    root : v.root ≡ t.root
    root = ap (λ (b : Ticket). b.root) same
