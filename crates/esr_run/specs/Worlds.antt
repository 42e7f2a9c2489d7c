-- The world of a container that was opened, by the record that it got.
use Rattle.std.proofs.Common.{◌≡◌, ℕ, ◌^◌, ◌≤◌, Bool, Option, Some, None, is_some, refl, sym, ap, ◌∙◌, subst, arith, nat_cmp}
use Rattle.std.specs.FinMap.{FinMap}
use Rattle.esr_core.specs.World as core
use Rattle.esr_model.specs.Values.{ClusterRecord, RootData}
use Rattle.esr_model.specs.Image.{Blobs}
use Rattle.esr_core.specs.World.{World, Deletion, idle_world, opened}
use Rattle.esr_core.specs.ReadTracked.{ReadTracked}
use Rattle.esr_depot.specs.Image.{Image as Held, with_text}
use Rattle.esr_depot.specs.Look.{Look, now}
use Rattle.esr_root.specs.Root.{Root}
use Rattle.esr_record.specs.Record.{Record}
use Rattle.esr_formats.specs.Roots.{root_of}
use Rattle.esr_formats.specs.Formats.{formats}
use Rattle.esr_formats.specs.Clusters.{cluster_of}
use Rattle.esr_progress.specs.Infos.{AreInfosOf}
use Rattle.esr_ops.specs.Plan.{Plan}
use Rattle.esr_opening.specs.Listed.{AreListed}
use Rattle.esr_opening.specs.Opening.{image_of, Kept, IsKeptOf, IsInOrder, known_blobs, is_told, world_in, opened_text, IsOpening}
use Rattle.esr_repo.specs.Repo.{TellsSo}
use Rattle.esr_repo.specs.Begun.{IsBegun}
use Rattle.esr_run.specs.Start.{Telling, known_by, told_by, formats_by, start_of}

abbrev Deletions : Type 0
Deletions = FinMap nat_cmp Deletion

-- by what was kept of it: the deletes stand in the list of ops
abbrev pub begun_world : Option Held → ClusterRecord → RootData → Plan → World
begun_world held cluster root plan = idle_world (known_blobs held) cluster.ledger.safe cluster.ledger.pending cluster.ledger.term root plan.deletes plan.next_op

-- ---- the world that was opened

same_idle : (blobs blobs' : Blobs) (safe safe' pending pending' term term' : ℕ) (root root' : RootData) (deletes deletes' : Deletions) (next_op next_op' : ℕ)
    → blobs ≡ blobs' → safe ≡ safe' → pending ≡ pending' → term ≡ term' → root ≡ root' → deletes ≡ deletes' → next_op ≡ next_op'
    → idle_world blobs safe pending term root deletes next_op ≡ idle_world blobs' safe' pending' term' root' deletes' next_op'
same_idle blobs blobs' safe safe' pending pending' term term' root root' deletes deletes' next_op next_op' e1 e2 e3 e4 e5 e6 e7 =
    ap (λ (x : Blobs). idle_world x safe pending term root deletes next_op) e1
    ∙ ap (λ (x : ℕ). idle_world blobs' x pending term root deletes next_op) e2
    ∙ ap (λ (x : ℕ). idle_world blobs' safe' x term root deletes next_op) e3
    ∙ ap (λ (x : ℕ). idle_world blobs' safe' pending' x root deletes next_op) e4
    ∙ ap (λ (x : RootData). idle_world blobs' safe' pending' term' x deletes next_op) e5
    ∙ ap (λ (x : Deletions). idle_world blobs' safe' pending' term' root' x next_op) e6
    ∙ ap (λ (x : ℕ). idle_world blobs' safe' pending' term' root' deletes' x) e7

-- the blobs are those of before
same_blobs : (before after : Look) (k : Kept) → IsOpening before after k → known_blobs (now after) ≡ known_blobs (now before)
same_blobs before after k o = go (now before) refl
  where
    go : (x : Option Held) → now before ≡ x → known_blobs (now after) ≡ known_blobs (now before)
    go None e = ap known_blobs (o.untold e) ∙ sym (ap known_blobs e)
    go (Some i) e = ap known_blobs (o.swapped i e) ∙ sym (ap known_blobs e)

pub begun_is : (before after : Look) (k : Kept) (o : IsOpening before after k) → begun_world (now after) (cluster_of k.cluster) (root_of k.root) k.plan ≡ world_in (now before) o.cluster o.root
begun_is before after k o =
    let w : World = world_in (now before) o.cluster o.root in
    let c : ClusterRecord = cluster_of k.cluster in
    same_idle (known_blobs (now after)) (known_blobs (now before)) c.ledger.safe w.safe c.ledger.pending w.pending c.ledger.term w.term (root_of k.root) w.root k.plan.deletes w.deletes k.plan.next_op w.next_op
    (same_blobs before after k o) (ap (λ (r : ClusterRecord). r.ledger.safe) o.kept.cluster) (ap (λ (r : ClusterRecord). r.ledger.pending) o.kept.cluster) (ap (λ (r : ClusterRecord). r.ledger.term) o.kept.cluster)
    o.kept.root o.kept.plan.deletes o.kept.plan.next_op

-- ---- what is told at the start

-- it tells as it told before
pub same_tells : (before after : Look) (k : Kept) → IsOpening before after k → is_some (now after) ≡ is_some (now before)
same_tells before after k o = go (now before) refl
  where
    go : (x : Option Held) → now before ≡ x → is_some (now after) ≡ is_some (now before)
    go None e = ap is_some (o.untold e) ∙ sym (ap is_some e)
    go (Some i) e = ap is_some (o.swapped i e) ∙ sym (ap is_some e)

-- ---- the image of the world that was opened

pub some_same : (x y : Held) → Some x ≡ Some y → x ≡ y
some_same x y e = cc

none_image : (x : Held) → None ≡ Some x → ⊥
none_image x e = cc

opened_text_is : (files : Telling) (i : Held) (cluster : Record) (root : Root) → image_of (with_text i (opened_text cluster root)) ≡ core.image_of (formats_by files) (world_in (Some i) cluster root)
unfolding formats
opened_text_is files i cluster root = refl

pub opened_image : (files : Telling) (held : Option Held) (cluster : Record) (root : Root) (i : Held) → held ≡ Some i → image_of (with_text i (opened_text cluster root)) ≡ core.image_of (formats_by files) (world_in held cluster root)
opened_image files held cluster root i e =
    subst (λ (x : Option Held). image_of (with_text i (opened_text cluster root)) ≡ core.image_of (formats_by files) (world_in x cluster root)) (sym e) (opened_text_is files i cluster root)

image_now : (files : Telling) (before after : Look) (k : Kept) (o : IsOpening before after k) (i : Held) → now after ≡ Some i → image_of i ≡ core.image_of (formats_by files) (world_in (now before) o.cluster o.root)
image_now files before after k o i is = go (now before) refl
  where
    go : (x : Option Held) → now before ≡ x → image_of i ≡ core.image_of (formats_by files) (world_in (now before) o.cluster o.root)
    go None e = absurd (none_image i (sym (o.untold e) ∙ is))
    go (Some j) e = ap image_of (some_same i (with_text j (opened_text o.cluster o.root)) (sym is ∙ o.swapped j e)) ∙ opened_image files (now before) o.cluster o.root j e

-- ---- a repository begins

tells_so : (l : Look) → TellsSo l (is_some (now l))
tells_so l = record { untold = λ e. ap is_some e; told = λ i e. ap is_some e }

told_some : (x : Option Held) → is_told x ≡ is_some x
told_some None = refl
told_some (Some i) = refl

pub begins : ((blobs : Blobs) (cluster : ClusterRecord) (root : RootData) → ReadTracked (opened blobs cluster root)) → (files : Telling) (size : ℕ) (quiet : Bool) (before after : Look) (k : Kept) → IsOpening before after k
    → AreListed (root_of k.root) k.infos
    → ((i : Held) → after.since after.clock i → now after ≡ Some i)
    → IsBegun (start_of files size quiet after (begun_world (now after) (cluster_of k.cluster) (root_of k.root) k.plan)) after.clock after.since after k
begins tracks files size quiet before after k o listed only =
    let w : World = world_in (now before) o.cluster o.root in
    let is : begun_world (now after) (cluster_of k.cluster) (root_of k.root) k.plan ≡ w = begun_is before after k o in
    record {
      kept = subst (λ (x : World). IsKeptOf x k) (sym is) o.kept;
      order = subst IsInOrder (sym is) o.order;
      live = refl;
      no_tickets = refl;
      uncalled = refl;
      no_entries = refl;
      read_tracked = subst ReadTracked (sym is) (tracks (known_blobs (now before)) (cluster_of o.cluster) (root_of o.root));
      infos = subst (λ (x : World). AreInfosOf (formats_by files) x (is_some (now after)) k.infos) (sym is)
          (subst (λ (b : Bool). AreInfosOf (formats_by files) w b k.infos) (told_some (now before) ∙ sym (same_tells before after k o)) (o.infos (known_by files) (told_by files)));
      listed = listed;
      roomy = record { ops = subst (λ (n : ℕ). n ≤ 2 ^ 61) (sym o.kept.plan.next_op) o.order.few; tickets = omega arith };
      image = λ i now_is. image_now files before after k o i now_is ∙ ap (core.image_of (formats_by files)) (sym is);
      tells = tells_so after;
      clock_is = refl;
      bounded = o.bounded;
      past_is = λ t i left. left;
      only_now = only;
    }
