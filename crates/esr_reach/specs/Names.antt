-- Lists of names of blobs.
use Rattle.std.specs.Prelude.{◌≡◌, ◌↔◌, List, [], ◌∷◌, ◌++◌, map}
use Rattle.std.proofs.Common.{refl, sym, ap, ◌∙◌}
use Rattle.esr_names.specs.declared.blob.BlobName.{BlobName as CodeName}
use Rattle.esr_names.specs.declared.blob.BlobName.TheVariants as code
use Rattle.esr_formats.specs.Names.{name_of, code_name}
use Rattle.esr_model.specs.Names.{BlobName}
use Rattle.esr_model.specs.Values.{Has}

-- these are the names of which it holds
abbrev pub AreNames : List CodeName → (BlobName → Type 0) → Type 0
AreNames names P = (name : BlobName) → Has (map name_of names) name ↔ P name

-- none stands twice
abbrev pub AreOnce : {A : Type 0} → List A → Type 0
AreOnce [] = Unit {0}
AreOnce (x ∷ xs) = (Has xs x → ⊥) × AreOnce xs

-- these names were appended
abbrev pub Pushed : List CodeName → List CodeName → List BlobName → Type 0
Pushed old new more = map name_of new ≡ map name_of old ++ more

-- the old ones without the new ones, in the order of the old
pub data IsWithout (new : List BlobName) : List BlobName → List BlobName → Type 0 where
  NoneLeft : IsWithout new [] []
  LeftOut : (name : BlobName) (old rest : List BlobName) → Has new name → IsWithout new old rest → IsWithout new (name ∷ old) rest
  Kept : (name : BlobName) (old rest : List BlobName) → (Has new name → ⊥) → IsWithout new old rest → IsWithout new (name ∷ old) (name ∷ rest)

-- ---- a name of the layout is one name of the code

pub coded : (a : CodeName) → code_name (name_of a) ≡ a
coded (code.ShardSnap s u) = refl
coded a = refl

pub name_one : (a b : CodeName) → name_of a ≡ name_of b → a ≡ b
name_one a b e = sym (coded a) ∙ ap code_name e ∙ coded b
