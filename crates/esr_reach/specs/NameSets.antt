-- Sets of names.
use Rattle.std.proofs.Common.{◌≡◌, ◌↔◌, ℕ, ◌+◌, ◌<◌, Bool, true, false, List, [], ◌∷◌, map, length, take, get_or, cond, inl, inr, refl, sym, ap, ◌∙◌, subst}
use Rattle.std.proofs.lemmas.Bool.{cases_Bool, true≢false}
use Rattle.std.specs.Cmp.{nat_cmp_is, Equal-is}
use Rattle.std.specs.declared.cmp.Ordering.{Ordering}
use Rattle.std.specs.declared.cmp.Ordering.TheVariants.{Equal}
use Rattle.std.specs.Ordering.{is_eq, nat_cmp, ordering_then}
use Rattle.std.specs.BTreeSet.{BTreeSet, contains}
use Rattle.esr_names.specs.declared.blob.BlobName.TheVariants as code
use Rattle.esr_model.specs.Lists.{Has-append, Has-left, Has-right}
use Rattle.esr_model.specs.Loops.{next}
use Rattle.esr_names.specs.declared.blob.ShardId.{ShardId}
use Rattle.esr_names.specs.declared.blob.BlobName.{BlobName as CodeName}
use Rattle.esr_formats.specs.Names.{name_of}
use Rattle.esr_model.specs.Names.{BlobName}
use Rattle.esr_model.specs.Values.{Has}
use Rattle.esr_reach.specs.Names.{name_one}
use Rattle.esr_reach.specs.NameOrder.{shard_cmp, name_cmp, name_same}

-- ---- a name is equal to itself alone

nat_self : (n : ℕ) → nat_cmp n n ≡ Equal
nat_self n = sym (nat_cmp_is n n Equal refl)

then_self : (p q : Ordering) → p ≡ Equal → q ≡ Equal → ordering_then p q ≡ Equal
then_self p q first second = ap (λ (o : Ordering). ordering_then o q) first ∙ second

shard_self : (s : ShardId) → shard_cmp s s ≡ Equal
shard_self s = then_self (nat_cmp s.index.number s.index.number) (nat_cmp s.number s.number) (nat_self s.index.number) (nat_self s.number)

name_self : (a : CodeName) → name_cmp a a ≡ Equal
name_self (code.Root n) = nat_self n
name_self code.Latest = refl
name_self (code.Snap u) = nat_self u.number
name_self (code.Meta u) = nat_self u.number
name_self (code.IndexMeta i u) = then_self (nat_cmp i.number i.number) (nat_cmp u.number u.number) (nat_self i.number) (nat_self u.number)
name_self (code.ShardSnap s u) = then_self (shard_cmp s s) (nat_cmp u.number u.number) (shard_self s) (nat_self u.number)
name_self (code.ShardIndex s g) = then_self (shard_cmp s s) (nat_cmp g.number g.number) (shard_self s) (nat_self g.number)
name_self (code.Whole s x) = then_self (shard_cmp s s) (nat_cmp x.number x.number) (shard_self s) (nat_self x.number)
name_self (code.Part s x p) =
    then_self (shard_cmp s s) (ordering_then (nat_cmp x.number x.number) (nat_cmp p p)) (shard_self s) (then_self (nat_cmp x.number x.number) (nat_cmp p p) (nat_self x.number) (nat_self p))
name_self (code.TestMaster v) = nat_self v.number
name_self (code.TestNode v w) = then_self (nat_cmp v.number v.number) (nat_cmp w w) (nat_self v.number) (nat_self w)

-- ---- a set of names

-- the set has just these names
abbrev pub IsSetOf : BTreeSet CodeName → List CodeName → Type 0
IsSetOf set names = (name : CodeName) → (contains name_cmp set name ≡ true) ↔ Has (map name_of names) (name_of name)

pub set_none : (set : BTreeSet CodeName) → set.keys ≡ [] → IsSetOf set []
set_none set none name = (
  λ e. absurd (true≢false (sym e ∙ ap (λ (ks : List CodeName). contains name_cmp (record { keys = ks }) name) none)),
  λ has. absurd has,
)

pub set_more : (names : List CodeName) (i : ℕ) (x : CodeName) (old new : BTreeSet CodeName) → i < length names → x ≡ get_or names i x
    → ((q : CodeName) → contains name_cmp new q ≡ cond (is_eq (name_cmp x q)) true (contains name_cmp old q)) → IsSetOf old (take i names) → IsSetOf new (take (i + 1) names)
set_more names i x old new less is updates before name =
    let front = map name_of (take i names) in
    let more = next name_of names i x less is in
    let rest = contains name_cmp old name in (
      λ e. subst (λ (ns : List BlobName). Has ns (name_of name)) (sym more) (elim (cases_Bool (is_eq (name_cmp x name))) [
        | inl same ↦ Has-right front (name_of x ∷ []) (name_of name) (inl (ap name_of (name_same x name ((Equal-is (name_cmp x name)).0 same))))
        | inr other ↦ Has-left front (name_of x ∷ []) (name_of name) ((before name).0 (sym (ap (λ (b : Bool). cond b true rest) other) ∙ sym (updates name) ∙ e))
      ]),
      λ has. updates name ∙ elim (Has-append front (name_of x) (name_of name) (subst (λ (ns : List BlobName). Has ns (name_of name)) more has)) [
        | inl earlier ↦ either (is_eq (name_cmp x name)) rest ((before name).1 earlier)
        | inr last ↦
            let same : is_eq (name_cmp x name) ≡ true = ap is_eq (subst (λ (n : CodeName). name_cmp x n ≡ Equal) (name_one x name last) (name_self x)) in
            ap (λ (b : Bool). cond b true rest) same
      ],
    )
  where
    either : (b rest : Bool) → rest ≡ true → cond b true rest ≡ true
    either true rest e = refl
    either false rest e = e
