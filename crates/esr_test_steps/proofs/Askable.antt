-- A command of two indices can be asked.
use Rattle.std.proofs.Common.{◌≡◌, ◌≢◌, ◌≤◌, List, [], ◌∷◌, map, refl, sym, ap, ◌∙◌, subst, inl, inr, arith}
use Rattle.std.specs.List.{AllByRecursion}
use Rattle.esr_model.specs.Values.{Has}
use Rattle.esr_core.specs.Entry.{AskedIndex}
use Rattle.esr_core.specs.Allowed.{AreDistinct}
use Rattle.esr_ops.specs.declared.command.AskedIndex.{AskedIndex as CodeAsked}
use Rattle.esr_ops.specs.Asked.{asked_index_of, HasShards}

abbrev pub AreAskable : List CodeAsked → Type 0
AreAskable l = AreDistinct (map asked_index_of l) × AllByRecursion HasShards (map asked_index_of l)

one_shard : (a : CodeAsked) → a.shards ≡ 1 → HasShards (asked_index_of a)
one_shard a one = (omega (arith, one), omega (arith, one))

apart_from : (a b : CodeAsked) (c : AskedIndex) → a.name ≢ b.name → Has (asked_index_of b ∷ []) c → a.name ≢ c.name
apart_from a b c apart (inl e) n = apart (n ∙ sym (ap (λ (x : AskedIndex). x.name) e))
apart_from a b c apart (inr h) n = h

pub two_askable : (a b : CodeAsked) (l : List CodeAsked) → l ≡ a ∷ b ∷ [] → a.shards ≡ 1 → b.shards ≡ 1 → a.name ≢ b.name → AreAskable l
two_askable a b l is first second apart =
    subst AreAskable (sym is) (((λ c h. apart_from a b c apart h), ((λ c h. absurd h), tt)), (one_shard a first, (one_shard b second, tt)))
