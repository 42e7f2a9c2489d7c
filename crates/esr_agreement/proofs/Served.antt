-- The test of agreement, and what it means.
use Rattle.std.proofs.Common.{◌≡◌, inl, inr, ℕ, suc, ◌+◌, ◌<◌, Bool, true, false, ◌==◌, ◌&&◌, List, ◌∷◌, map, Option, Some, None, option_map, refl, sym, ap, ◌∙◌, arith}
use Rattle.std.specs.Prelude.{is_some}
use Rattle.std.proofs.lemmas.Bool.{cases_Bool, and_from}
use Rattle.esr_names.specs.declared.ids.Id.{Id}
use Rattle.esr_root.specs.Generations.{generation_in}
use Rattle.esr_model.specs.Values.{Bytes}
use Rattle.esr_model.specs.Uploads.{same_bytes}
use Rattle.esr_model.specs.Image.{at_shard}
use Rattle.esr_formats.specs.Ids.{number_of}
use Rattle.esr_root.specs.declared.snaps.RootSnap.{RootSnap as CodeSnap}
use Rattle.esr_root.specs.declared.indices.RootIndex.{RootIndex as CodeIndex}
use Rattle.esr_root.specs.Root.{Root}
use Rattle.esr_names.specs.declared.index_ref.IndexRef.{IndexRef as CodeRef}
use Rattle.esr_meta.specs.Info.{Info}
use Rattle.esr_formats.specs.Refs.{ref_of_code}
use Rattle.esr_formats.specs.Roots.{root_of, root_snap_of, root_index_of}
use Rattle.esr_formats.specs.Infos.{info_of_code}
use Rattle.esr_agreement.specs.AgreementTests.{each_generation}
use Rattle.esr_agreement.specs.Agreement.{have_generations, are_served, are_told, agrees}

-- ---- generations

-- of the code's list
pub generation_is : (gs : List (Option Id)) (k : ℕ) → at_shard (map (option_map number_of) gs) k ≡ option_map number_of (generation_in gs k)
generation_is (g ∷ gs) (suc k) = generation_is gs k
generation_is gs k = refl

pub one_more : (gs : List (Option Id)) (k : ℕ) → have_generations (map (option_map number_of) gs) k ≡ true → is_some (generation_in gs k) ≡ true → have_generations (map (option_map number_of) gs) (k + 1) ≡ true
one_more gs k h some =
    let next : k + 1 ≡ suc k = omega arith in
    ap (have_generations (map (option_map number_of) gs)) next
    ∙ and_from (is_some (at_shard (map (option_map number_of) gs) k)) (have_generations (map (option_map number_of) gs) k) (ap is_some (generation_is gs k) ∙ mapped_some (generation_in gs k) some) h
  where
    mapped_some : (o : Option Id) → is_some o ≡ true → is_some (option_map number_of o) ≡ true
    mapped_some None some = absurd cc
    mapped_some (Some g) some = refl

pub one_lacks : (gs : List (Option Id)) (k n : ℕ) → k < n → is_some (generation_in gs k) ≡ false → have_generations (map (option_map number_of) gs) n ≡ false
one_lacks gs k n less none = elim (cases_Bool (have_generations (map (option_map number_of) gs) n)) [
  | inl all ↦
      let g = each_generation (map (option_map number_of) gs) n k all less in
      absurd (never (generation_in gs k) g.0 none (sym (generation_is gs k) ∙ g.1))
  | inr lacks ↦ lacks
]
  where
    never : (o : Option Id) (g : ℕ) → is_some o ≡ false → option_map number_of o ≡ Some g → ⊥
    never None g none some = cc
    never (Some u) g none some = cc

-- ---- of the code

pub both_so : (a p q r : Bool) → a ≡ true → a ≡ p → r ≡ q → r ≡ (p && q)
both_so a p q r is same last = last ∙ sym (ap (λ (b : Bool). b && q) (sym same ∙ is))

pub first_not : (a p q : Bool) → a ≡ false → a ≡ p → false ≡ (p && q)
first_not a p q is same = sym (ap (λ (b : Bool). b && q) (sym same ∙ is))

abbrev NameAgrees : CodeSnap → Info → Bool
NameAgrees snap info = same_bytes info.name snap.name && ((info.uuid.number == snap.uuid.number) && (info.state == snap.state))

abbrev IndicesAgree : List CodeIndex → List CodeRef → ℕ → Bool
IndicesAgree indices refs uuid = are_served (map root_index_of indices) (map ref_of_code refs) uuid && are_told (map root_index_of indices) (map ref_of_code refs) uuid

pub agrees_so : (root : Root) (snap : CodeSnap) (info : Info) (indices : List CodeIndex) (refs : List CodeRef) (a r : Bool) → indices ≡ root.indices → refs ≡ info.indices → a ≡ true → a ≡ NameAgrees snap info
    → r ≡ IndicesAgree indices refs snap.uuid.number
    → r ≡ agrees (root_of root) (root_snap_of snap) (info_of_code info)
unfolding agrees
agrees_so root snap info indices refs a r at to is same last =
    both_so a (NameAgrees snap info) (IndicesAgree root.indices info.indices snap.uuid.number) r is same
    (last ∙ ap (λ (x : List CodeIndex). IndicesAgree x refs snap.uuid.number) at ∙ ap (λ (x : List CodeRef). IndicesAgree root.indices x snap.uuid.number) to)

pub agrees_not : (root : Root) (snap : CodeSnap) (info : Info) (a : Bool) → a ≡ false → a ≡ NameAgrees snap info → a ≡ agrees (root_of root) (root_snap_of snap) (info_of_code info)
unfolding agrees
agrees_not root snap info a is same = is ∙ first_not a (NameAgrees snap info) (IndicesAgree root.indices info.indices snap.uuid.number) is same

abbrev NumbersAgree : CodeSnap → Id → ℕ → Bool
NumbersAgree snap uuid state = (uuid.number == snap.uuid.number) && (state == snap.state)

pub info_so : (snap : CodeSnap) (info : Info) (name : Bytes) (uuid : Id) (state : ℕ) (a r : Bool) → name ≡ info.name → uuid ≡ info.uuid → state ≡ info.state → a ≡ true → a ≡ same_bytes name snap.name
    → r ≡ NumbersAgree snap uuid state → r ≡ NameAgrees snap info
info_so snap info name uuid state a r n u t is same last =
    both_so a (same_bytes info.name snap.name) (NumbersAgree snap info.uuid info.state) r is (same ∙ ap (λ (x : Bytes). same_bytes x snap.name) n)
    (last ∙ ap (λ (x : Id). NumbersAgree snap x state) u ∙ ap (λ (x : ℕ). NumbersAgree snap info.uuid x) t)

pub info_not : (snap : CodeSnap) (info : Info) (name : Bytes) (a : Bool) → name ≡ info.name → a ≡ false → a ≡ same_bytes name snap.name → a ≡ NameAgrees snap info
info_not snap info name a n is same = is ∙ first_not a (same_bytes info.name snap.name) (NumbersAgree snap info.uuid info.state) is (same ∙ ap (λ (x : Bytes). same_bytes x snap.name) n)
