-- The shard that a restore has under an index and a number is of these.
use Rattle.std.proofs.Common.{◌≡◌, ℕ, Bool, true, false, List, [], ◌∷◌, Some, sym, ap, ◌∙◌, inl, inr}
use Rattle.std.specs.Prelude.{if◌then◌else◌, ◌==◌, ◌&&◌}
use Rattle.std.proofs.lemmas.Bool.Decides.{eqb_tells}
use Rattle.std.proofs.lemmas.Option.{same_Some, none-some}
use Rattle.esr_core.specs.World.{RestoreShard}
use Rattle.esr_core.specs.Restores.{restore_shard}

pub shard_is : (shards : List RestoreShard) (index number : ℕ) (s : RestoreShard) → restore_shard shards index number ≡ Some s → (s.ref.id ≡ index) × (s.number ≡ number)
shard_is [] index number s e = absurd (none-some s e)
shard_is (z ∷ shards) index number s e = elim (eqb_tells z.ref.id index) [
  | inl a ↦ elim (eqb_tells z.number number) [
    | inl b ↦
        let one : z ≡ s = same_Some z s (sym (chosen true (ap (λ x. x && (z.number == number)) a.0 ∙ b.0)) ∙ e) in
        (ap (λ (x : RestoreShard). x.ref.id) (sym one) ∙ a.1, ap (λ (x : RestoreShard). x.number) (sym one) ∙ b.1)
    | inr b ↦ shard_is shards index number s (sym (chosen false (ap (λ x. x && (z.number == number)) a.0 ∙ b.0)) ∙ e)
  ]
  | inr a ↦ shard_is shards index number s (sym (chosen false (ap (λ x. x && (z.number == number)) a.0)) ∙ e)
]
  where
    chosen : (b : Bool) → ((z.ref.id == index) && (z.number == number)) ≡ b → restore_shard (z ∷ shards) index number ≡ (if b then Some z else restore_shard shards index number)
    chosen b is = ap (λ (c : Bool). if c then Some z else restore_shard shards index number) is
