-- The names of test blobs.
use Rattle.std.proofs.Common.{◌≡◌, inl, inr, ℕ, zero, suc, ◌+◌, ◌<◌, ◌≤◌, List, [], ◌∷◌, ◌++◌, length, map, refl, sym, ap, ◌∙◌, subst, arith}
use Rattle.esr_model.specs.Lists.{Has-map}
use Rattle.esr_names.specs.declared.ids.Id.{Id}
use Rattle.esr_names.specs.declared.blob.BlobName.{BlobName as CodeName}
use Rattle.esr_names.specs.declared.blob.BlobName.TheVariants as code
use Rattle.esr_names.specs.Layout.{IsName}
use Rattle.esr_model.specs.Names.{BlobName, TestMaster, TestNode}
use Rattle.esr_model.specs.Values.{Has}
use Rattle.esr_core.specs.Restores.{AreOnce, IsTestOf}
use Rattle.esr_formats.specs.Names.{name_of}
use Rattle.esr_verify.specs.Steps.{node_names, test_names}
use Rattle.esr_verify.specs.Tests.{AreTests}

-- ---- one worker more

nodes_more : (id first n : ℕ) → node_names id first (suc n) ≡ node_names id first n ++ TestNode id (first + n) ∷ []
nodes_more id first zero = let same : first ≡ first + 0 = omega arith in ap (λ (k : ℕ). TestNode id k ∷ []) same
nodes_more id first (suc n) =
    let same : suc first + n ≡ first + suc n = omega arith in
    ap (λ (l : List BlobName). TestNode id first ∷ l) (nodes_more id (suc first) n ∙ ap (λ (k : ℕ). node_names id (suc first) n ++ TestNode id k ∷ []) same)

map_push : (names : List CodeName) (name : CodeName) → map name_of (names ++ name ∷ []) ≡ map name_of names ++ name_of name ∷ []
map_push [] name = refl
map_push (x ∷ names) name = ap (λ (l : List BlobName). name_of x ∷ l) (map_push names name)

pub next_name : (id : Id) (n : ℕ) (old new : List CodeName) → map name_of old ≡ test_names id.number n → new ≡ old ++ code.TestNode id n ∷ [] → map name_of new ≡ test_names id.number (n + 1)
next_name id n old new was is =
    let next : suc n ≡ n + 1 = omega arith in
    let zero_plus : 0 + n ≡ n = omega arith in
    let more : node_names id.number 0 (suc n) ≡ node_names id.number 0 n ++ TestNode id.number n ∷ [] = nodes_more id.number 0 n ∙ ap (λ (k : ℕ). node_names id.number 0 n ++ TestNode id.number k ∷ []) zero_plus in
    ap (λ (l : List CodeName). map name_of l) is
    ∙ map_push old (code.TestNode id n)
    ∙ ap (λ (l : List BlobName). l ++ TestNode id.number n ∷ []) was
    ∙ ap (λ (l : List BlobName). TestMaster id.number ∷ l) (sym more)
    ∙ ap (λ (k : ℕ). test_names id.number k) next

-- ---- which they are

node_at : (id first n : ℕ) (name : BlobName) → Has (node_names id first n) name → (k : ℕ) × (first ≤ k) × (k < first + n) × (name ≡ TestNode id k)
node_at id first zero name none = absurd none
node_at id first (suc n) name (inl same) = (first, omega arith, omega arith, sym same)
node_at id first (suc n) name (inr later) =
    let here = node_at id (suc first) n name later in
    let least : suc first ≤ here.0 = here.1 in
    let most : here.0 < suc first + n = here.2 in
    (here.0, omega (arith, least), omega (arith, most), here.3)

master_named : (id : ℕ) (name : CodeName) → name_of name ≡ TestMaster id → IsName name
unfolding IsName
master_named id (code.ShardSnap s u) is = absurd cc
master_named id (code.TestMaster v) is = tt
master_named id name is = absurd cc

node_named : (id k : ℕ) (name : CodeName) → k < 64 → name_of name ≡ TestNode id k → IsName name
unfolding IsName
node_named id n (code.ShardSnap s u) less is = absurd cc
node_named id n (code.TestNode v w) less is = let same : w ≡ n = cc in omega (arith, less, same)
node_named id n name less is = absurd cc

named : (id n : ℕ) (name : CodeName) → n ≤ 64 → Has (test_names id n) (name_of name) → IsName name
named id n name few (inl master) = master_named id name (sym master)
named id n name few (inr node) =
    let here = node_at id 0 n (name_of name) node in
    let most : here.0 < 0 + n = here.2 in
    let less : here.0 < 64 = omega (arith, most, few) in
    node_named id here.0 name less here.3

owned : (id n : ℕ) (name : BlobName) → Has (test_names id n) name → IsTestOf id name
owned id n name (inl master) = subst (IsTestOf id) master refl
owned id n name (inr node) = let here = node_at id 0 n name node in subst (IsTestOf id) (sym here.3) refl

number_is : (id i k : ℕ) → TestNode id i ≡ TestNode id k → i ≡ k
number_is id i k same = cc

nodes_once : (id first n : ℕ) → AreOnce (node_names id first n)
nodes_once id first zero = tt
nodes_once id first (suc n) = (
  λ again.
      let here = node_at id (suc first) n (TestNode id first) again in
      let least : suc first ≤ here.0 = here.1 in
      let same : first ≡ here.0 = number_is id first here.0 here.3 in
      omega (arith, least, same),
  nodes_once id (suc first) n,
)

no_master : (id k : ℕ) → TestMaster id ≡ TestNode id k → ⊥
no_master id k same = cc

tests_once : (id n : ℕ) → AreOnce (test_names id n)
tests_once id n = (λ again. let here = node_at id 0 n (TestMaster id) again in no_master id here.0 here.3, nodes_once id 0 n)

nodes_count : (id first n : ℕ) → length (node_names id first n) ≡ n
nodes_count id first zero = refl
nodes_count id first (suc n) = ap suc (nodes_count id (suc first) n)

map_count : (names : List CodeName) → length (map name_of names) ≡ length names
map_count [] = refl
map_count (x ∷ names) = ap suc (map_count names)

pub are_tests : (id n : ℕ) (names : List CodeName) → n ≤ 64 → map name_of names ≡ test_names id n → AreTests id names
are_tests id n names few is = record {
  layout = λ name has. named id n name few (subst (λ (l : List BlobName). Has l (name_of name)) is (Has-map name_of names name has));
  own = λ name has. owned id n (name_of name) (subst (λ (l : List BlobName). Has l (name_of name)) is (Has-map name_of names name has));
  once = subst AreOnce (sym is) (tests_once id n);
  few =
      let count : length (map name_of names) ≡ length (test_names id n) = ap (λ (l : List BlobName). length l) is in
      let nodes : length (node_names id 0 n) ≡ n = nodes_count id 0 n in
      let same : length (map name_of names) ≡ length names = map_count names in
      omega (arith, count, nodes, same, few);
}

-- the master's is among them
pub has_master : (id n : ℕ) (names : List CodeName) → map name_of names ≡ test_names id n → Has (map name_of names) (TestMaster id)
has_master id n names is = subst (λ (l : List BlobName). Has l (TestMaster id)) (sym is) (inl refl)

-- no more than one removal takes, also as the definitions see them
pub few_names : (id : ℕ) (names : List CodeName) → AreTests id names → length (map name_of names) ≤ 1000
few_names id names tests = let same : length (map name_of names) ≡ length names = map_count names in let few = tests.few in omega (arith, same, few)
