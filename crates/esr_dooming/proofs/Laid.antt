-- Names of the layout.
use Rattle.std.proofs.Common.{◌≡◌, ◌<◌, ◌^◌, ℕ, Option, Some, subst}
use Rattle.std.specs.Prelude.{IfSome}
use Rattle.esr_names.specs.Layout.{IsName}
use Rattle.esr_names.specs.declared.ids.Id.{Id}
use Rattle.esr_names.specs.declared.blob.ShardId.{ShardId}
use Rattle.esr_names.specs.declared.blob.BlobName.TheVariants.{Root, Snap, Meta, IndexMeta, ShardSnap, ShardIndex}

pub root_laid : (number : Option ℕ) (n : ℕ) → number ≡ Some n → IfSome number (λ m. m < 2 ^ 63) → IsName (Root n)
unfolding IsName
root_laid number n is low = subst (λ (o : Option ℕ). IfSome o (λ m. m < 2 ^ 63)) is low

pub snap_laid : (u : Id) → IsName (Snap u)
unfolding IsName
snap_laid u = tt

pub meta_laid : (u : Id) → IsName (Meta u)
unfolding IsName
meta_laid u = tt

pub index_meta_laid : (i u : Id) → IsName (IndexMeta i u)
unfolding IsName
index_meta_laid i u = tt

pub list_laid : (s : ShardId) (u : Id) → s.number < 1024 → IsName (ShardSnap s u)
unfolding IsName
list_laid s u few = few

pub index_laid : (s : ShardId) (g : Id) → s.number < 1024 → IsName (ShardIndex s g)
unfolding IsName
index_laid s g few = few
