use Rattle.std.proofs.Common.{◌≡◌, ◌↔◌, ℕ, true, List, map, sym, subst}
use Rattle.std.specs.BTreeSet.{contains}
use Rattle.esr_names.specs.contracts.blob.BlobNameOrd.TheImpl as name_block
use Rattle.esr_names.specs.declared.blob.BlobName.{BlobName as CodeName}
use Rattle.esr_model.specs.Values.{Has}
use Rattle.esr_model.specs.Delete.{uuids_of}
use Rattle.esr_formats.specs.Names.{name_of}
use Rattle.esr_formats.specs.Roots.{root_of}
use Rattle.esr_results.specs.declared.pruned.PrunedShard.{PrunedShard as CodePruned}
use Rattle.esr_results.specs.Pruned.{pruned_of}
use Rattle.esr_reach.specs.Held.{HeldShard}
use Rattle.esr_reach.specs.Listing.{root_names}
use Rattle.esr_reach.specs.Names.{AreOnce}
use Rattle.esr_dooming.specs.Reading.{AreHeldSome}
use Rattle.esr_dooming.specs.Unreached.{place_of, Renewed}
use Rattle.esr_delete.proofs.Uniting.{if_ok}
use Rattle.esr_delete.proofs.doom.reached_by.Goals as goal
use Rattle.esr_delete.proofs.doom.reached_by.Goals.{In_ok-renew}

-- what is held after the plan
after_is : (c : In_ok-renew) → Renewed c.args.held c.renew.new.held (map pruned_of c.args.draft.now.shards) (uuids_of (root_of c.args.draft.now.root))
after_is c =
    subst (λ (ps : List CodePruned). Renewed c.args.held c.renew.new.held (map pruned_of ps) (uuids_of (root_of c.args.draft.now.root))) c.as_slice.ensures
    (subst (λ (us : List ℕ). Renewed c.args.held c.renew.new.held (map pruned_of c.as_slice.result.now) us) c.in_ok-left.ensures c.in_ok-renew.ensures)

pub renew-requires-clause-some : goal.renew-requires-clause-some
renew-requires-clause-some c = subst (λ (ps : List CodePruned). AreHeldSome c.args.held (map pruned_of ps)) (sym c.as_slice.ensures) c.requires.some

pub renew-requires-clause-once : goal.renew-requires-clause-once
renew-requires-clause-once c = subst (λ (ps : List CodePruned). AreOnce (map place_of (map pruned_of ps))) (sym c.as_slice.ensures) c.requires.once

pub reach_set-requires : goal.reach_set-requires
reach_set-requires c = c.requires.each c.renew.new.held (after_is (goal.at.reach_set-requires c).In_ok-renew)

pub returns : goal.returns
returns c =
    let held = c.renew.new.held in
    let root = root_of c.args.draft.now.root in
    let after = after_is (goal.at.returns c).In_ok-renew in
    if_ok c.reach_set.result (λ set. (name : CodeName) → (contains name_block.ghosts.cmp set name ≡ true) ↔ Has (root_names root held) (name_of name))
    (λ set. (now : List HeldShard) × Renewed c.args.held now (map pruned_of c.args.draft.now.shards) (uuids_of root) × ((name : CodeName) → (contains name_block.ghosts.cmp set name ≡ true) ↔ Has (root_names root now) (name_of name)))
    (λ set are. (held, after, are)) c.reach_set.ensures
