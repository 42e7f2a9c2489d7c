-- What is found where a test blob doesn't hold the text of its id.
use Rattle.std.specs.Prelude.{◌≡◌, ◌⊎◌, ◌≤◌, ◌^◌, ℕ, length}
use Rattle.esr_model.specs.Values.{Bytes}
use Rattle.esr_hash.specs.Prints.{print_of}
use Rattle.esr_json.specs.declared.refusal.Reason.TheVariants as reasons
use Rattle.esr_names.specs.IdText.{id_text}
use Rattle.esr_names.specs.declared.blob.BlobName.{BlobName}
use Rattle.esr_desk.specs.declared.entry.Why.{Why}
use Rattle.esr_desk.specs.declared.entry.Why.TheVariants as whys
use Rattle.esr_unit.specs.declared.trouble.Trouble.{Trouble}
use Rattle.esr_unit.specs.declared.trouble.Trouble.TheVariants as troubles

-- these bytes have another print than the text of the id
abbrev pub HasOtherPrint : ℕ → BlobName → Bytes → Why → Type 0
HasOtherPrint id name bytes why = (why ≡ whys.Misprinted name (print_of (id_text id)) (print_of bytes)) × (print_of (id_text id) ≡ print_of bytes → ⊥)

-- they aren't that text, though they have its print, or are too many to have one
abbrev pub IsNoText : ℕ → BlobName → Bytes → Why → Type 0
IsNoText id name bytes why = (why ≡ whys.Unreadable name reasons.BadId) × (bytes ≡ id_text id → ⊥) × ((2 ^ 61 ≤ length bytes) ⊎ (print_of (id_text id) ≡ print_of bytes))

-- what is found where the bytes aren't the text of the id
abbrev pub Judged : {S F : Type 0} → ℕ → BlobName → Bytes → Trouble S F → Type 0
Judged id name bytes (troubles.Found why) = HasOtherPrint id name bytes why ⊎ IsNoText id name bytes why
Judged id name bytes trouble = ⊥
