-- How shards and names of blobs are compared: as equal exactly where they are.
use Rattle.std.proofs.Common.{◌≡◌, ℕ, refl, sym, ap, ◌∙◌, subst}
use Rattle.std.proofs.lemmas.Map.Lookups.{exact_unsigned}
use Rattle.std.specs.declared.cmp.Ordering.{Ordering}
use Rattle.std.specs.declared.cmp.Ordering.TheVariants.{Less, Equal, Greater}
use Rattle.std.specs.Ordering.{nat_cmp, ordering_then}
use Rattle.esr_names.specs.declared.blob.BlobName.TheVariants as code
use Rattle.esr_names.specs.contracts.blob.ShardIdOrd.TheImpl as shard_block
use Rattle.esr_names.specs.contracts.blob.BlobNameOrd.TheImpl as name_block
use Rattle.esr_names.specs.declared.ids.Id.{Id}
use Rattle.esr_names.specs.declared.blob.ShardId.{ShardId}
use Rattle.esr_names.specs.declared.blob.BlobName.{BlobName}

abbrev pub shard_cmp : ShardId → ShardId → Ordering
shard_cmp = shard_block.ghosts.cmp

abbrev pub name_cmp : BlobName → BlobName → Ordering
name_cmp = name_block.ghosts.cmp

-- ---- names

id_same : (u v : Id) → nat_cmp u.number v.number ≡ Equal → u ≡ v
id_same u v e = ap (λ (n : ℕ). let w : Id = record { number = n } in w) (exact_unsigned u.number v.number e)

then_first : (p q : Ordering) → ordering_then p q ≡ Equal → p ≡ Equal
then_first Less q e = e
then_first Equal q e = refl
then_first Greater q e = e

then_second : (p q : Ordering) → ordering_then p q ≡ Equal → q ≡ Equal
then_second Less q e = absurd (cc)
then_second Equal q e = e
then_second Greater q e = absurd (cc)

shard_same : (s r : ShardId) → shard_cmp s r ≡ Equal → s ≡ r
shard_same s r e =
    let index = id_same s.index r.index (then_first (nat_cmp s.index.number r.index.number) (nat_cmp s.number r.number) e) in
    let number = exact_unsigned s.number r.number (then_second (nat_cmp s.index.number r.index.number) (nat_cmp s.number r.number) e) in
    ap (λ (i : Id). let t : ShardId = record { index = i; number = s.number } in t) index ∙ ap (λ (n : ℕ). let t : ShardId = record { index = r.index; number = n } in t) number

ids_same : (f : Id → Id → BlobName) (i u j v : Id) → ordering_then (nat_cmp i.number j.number) (nat_cmp u.number v.number) ≡ Equal → f i u ≡ f j v
ids_same f i u j v e =
    ap (λ (w : Id). f w u) (id_same i j (then_first (nat_cmp i.number j.number) (nat_cmp u.number v.number) e))
    ∙ ap (λ (w : Id). f j w) (id_same u v (then_second (nat_cmp i.number j.number) (nat_cmp u.number v.number) e))

under_same : (f : ShardId → Id → BlobName) (s r : ShardId) (u v : Id) → ordering_then (shard_cmp s r) (nat_cmp u.number v.number) ≡ Equal → f s u ≡ f r v
under_same f s r u v e =
    ap (λ (t : ShardId). f t u) (shard_same s r (then_first (shard_cmp s r) (nat_cmp u.number v.number) e)) ∙ ap (λ (w : Id). f r w) (id_same u v (then_second (shard_cmp s r) (nat_cmp u.number v.number) e))

-- two names that compare as equal are of one kind: elsewhere the order of kinds decides
abbrev IsTie : Ordering → Type 0
IsTie Less = ⊥
IsTie Equal = Unit {0}
IsTie Greater = ⊥

tied : {o : Ordering} → o ≡ Equal → IsTie o
tied e = subst IsTie (sym e) tt

pub name_same : (a b : BlobName) → name_cmp a b ≡ Equal → a ≡ b
name_same (code.Root n) (code.Root m) e = ap code.Root (exact_unsigned n m e)
name_same (code.Root n) b e = absurd (tied e)
name_same code.Latest code.Latest e = refl
name_same code.Latest b e = absurd (tied e)
name_same (code.Snap u) (code.Snap v) e = ap code.Snap (id_same u v e)
name_same (code.Snap u) b e = absurd (tied e)
name_same (code.Meta u) (code.Meta v) e = ap code.Meta (id_same u v e)
name_same (code.Meta u) b e = absurd (tied e)
name_same (code.IndexMeta i u) (code.IndexMeta j v) e = ids_same code.IndexMeta i u j v e
name_same (code.IndexMeta i u) b e = absurd (tied e)
name_same (code.ShardSnap s u) (code.ShardSnap r v) e = under_same code.ShardSnap s r u v e
name_same (code.ShardSnap s u) b e = absurd (tied e)
name_same (code.ShardIndex s g) (code.ShardIndex r h) e = under_same code.ShardIndex s r g h e
name_same (code.ShardIndex s g) b e = absurd (tied e)
name_same (code.Whole s x) (code.Whole r y) e = under_same code.Whole s r x y e
name_same (code.Whole s x) b e = absurd (tied e)
name_same (code.Part s x p) (code.Part r y q) e =
    let rest = ordering_then (nat_cmp x.number y.number) (nat_cmp p q) in
    let last = then_second (shard_cmp s r) rest e in
    ap (λ (t : ShardId). code.Part t x p) (shard_same s r (then_first (shard_cmp s r) rest e)) ∙ ap (λ (u : Id). code.Part r u p) (id_same x y (then_first (nat_cmp x.number y.number) (nat_cmp p q) last))
    ∙ ap (λ (n : ℕ). code.Part r y n) (exact_unsigned p q (then_second (nat_cmp x.number y.number) (nat_cmp p q) last))
name_same (code.Part s x p) b e = absurd (tied e)
name_same (code.TestMaster v) (code.TestMaster w) e = ap code.TestMaster (id_same v w e)
name_same (code.TestMaster v) b e = absurd (tied e)
name_same (code.TestNode v n) (code.TestNode w m) e =
    ap (λ (u : Id). code.TestNode u n) (id_same v w (then_first (nat_cmp v.number w.number) (nat_cmp n m) e)) ∙ ap (λ (k : ℕ). code.TestNode w k) (exact_unsigned n m (then_second (nat_cmp v.number w.number) (nat_cmp n m) e))
name_same (code.TestNode v n) b e = absurd (tied e)
