-- Trees that were opened over logs, and what events lead them to.
use Rattle.std.proofs.Common.{◌≡◌, ◌∙◌, inl, inr, ap, sym, subst, refl, ℕ, Bool, true, false, if◌then◌else◌, ◌||◌, Some, None, List, [], ◌∷◌, ◌++◌, length, map, arith}
use Rattle.std.specs.List.{list_any}
use Rattle.protocol.specs.declared.events.Event.{Event}
use Rattle.protocol.specs.declared.names.ProcessId.{ProcessId}
use Rattle.protocol.specs.declared.records.LogRecord.{LogRecord}
use Rattle.protocol.specs.declared.trees.TreeProcess.{TreeProcess}
use Rattle.protocol.specs.Names.{same_process}
use Rattle.protocol.specs.Nodes.{is_listed, place_of}
use Rattle.protocol.specs.Trees.{IsTree}
use Rattle.protocol.specs.World.{Continues, IsRun, Made, World}
use Rattle.proof_runs.specs.worlds.Refusals.{IsForItself, LeadsTo, Refusal}
use Rattle.tree_state.specs.Worlds.{WorldState}
use Rattle.log_script.specs.declared.line.ProcessLog.{ProcessLog}
use Rattle.proof_reopened.specs.Earlier.{Earlier}
use Rattle.proof_reopened.specs.Reopened.{AreLogsLeft, IsReopened, RestartsOver}
use Rattle.proof_reopened.specs.Since.{FollowsSince}
use Rattle.proof_reopened.proofs.Events.{GoesIn, leads_on}
use Rattle.proof_reopened.proofs.Openings.{reopened_on}
use Rattle.proof_reopened.proofs.Reports.{both_parts}
use Rattle.proof_reopened.proofs.TreeStays.{led_stays, led_until_stays}
use Rattle.tree_world.specs.Openings.{store_of}
use Rattle.tree_world.specs.OwnNames.{fault_of}
use Rattle.tree_world.specs.Reopenings.{FailsIn, NoneRestarts, NoneRestartsOver, TreeNotReopened, fault_or, faults_from, logs_in}
use Rattle.tree_world.specs.declared.reopening.TreeReopenError.TheVariants.{Damaged, Device}
use Rattle.tree_engine.specs.Reopened.{GoesOnFrom, IsDamage, RefusesAfter, Replays, bytes_in, never, records_by, these}
use Rattle.tree_engine.specs.Runs.{ComesTo}
use Rattle.tree_engine.proofs.Refusing.{until_since}

-- What events lead such a tree to.

module _ (tree : List TreeProcess) (logs : List ProcessLog) (is_tree : IsTree tree) (start now : WorldState)
    (reopened : IsReopened tree (records_by tree logs) start) (events : List Event) where
  pub starts : IsTree start.tree
  starts = subst IsTree (sym reopened.tree_is) is_tree

  -- the state goes on, and a refused event is one that the model refuses there
  pub record GoesTo (refusal : Refusal) (o : Earlier) (es : List Made) (w : World) : Type 0 where
    pub goes : GoesIn o start.tree es w now
    pub refuses : RefusesAfter start.tree goes.goes_on_so.world now events refusal

  pub goes_to : (refusal : Refusal) → LeadsTo start events refusal now → IsForItself refusal
      → (o : Earlier) (es : List Made)
      (w : World) → FollowsSince o es w start → GoesTo refusal o es w
  goes_to None leads itself o es w f =
      record { goes = leads_on o start.tree starts start now events es w refl f leads; refuses = tt }
  goes_to (Some r) leads itself o es w f =
      let stopped = until_since o start.tree starts start now events r.0 r.1 es w refl
      (record { memory = itself.0; device = itself.1; numbers = itself.2 }) f leads in
      record {
        goes = stopped.goes;
        refuses = record { event = leads.event; next = leads.next; refused = stopped.refuses };
      }

  pub stays : (refusal : Refusal) → LeadsTo start events refusal now → now.tree ≡ tree
  stays None leads = led_stays start now events leads ∙ reopened.tree_is
  stays (Some r) leads = led_until_stays start now events r.0 r.1 leads ∙ reopened.tree_is

  pub goes_from : (refusal : Refusal) → LeadsTo start events refusal now → IsForItself refusal
      → (es : List Made)
      (w : World) → IsRun tree es w → AreLogsLeft tree w (records_by tree logs)
      → GoesOnFrom tree es w events refusal now
  goes_from refusal leads itself es w run left =
      let g = reopened_on tree (records_by tree logs) start es w is_tree reopened run left in
      let past : Earlier = record { moves = g.crashes ++ es; world = g.world } in
      let to = goes_to refusal leads itself past g.restarts g.reached g.follows in
      let since = to.goes.goes_on_so in
      record {
        crashes = g.crashes;
        down = g.world;
        crash = subst (λ t. Continues t w g.crashes g.world) reopened.tree_is g.leads;
        later = since.later ++ g.restarts;
        world = since.world;
        follows = since.follows;
        keeps = both_parts past now (since.later ++ g.restarts) since.world
            (subst IsTree (sym (stays refusal leads)) is_tree) since.follows;
        refuses = subst (λ z. RefusesAfter z since.world now events refusal) reopened.tree_is to.refuses;
      }

  unfoldable pub replayed : (refusal : Refusal) (n : ℕ) → ComesTo start events refusal n now
      → Replays tree logs events refusal now
  replayed refusal n h = record {
    start = start;
    reopens = reopened;
    leads = h.leads;
    itself = h.itself;
    tree_is = stays refusal h.leads;
    goes_on = goes_from refusal h.leads h.itself;
  }

-- Logs as the bytes of stores.

-- the logs of others than this process are the same
others_same : (b : Bool) (here more same : List LogRecord) → more ≡ same
    → (if b then here else more) ≡ (if b then here else same)
others_same b here more same is = ap (λ (ls : List LogRecord). if b then here else ls) is

module _ {L : Type 0} (bytes : L → List ℕ) where
  pub logs_same : (es : List TreeProcess) (ss : List L) (q : ProcessId)
      → logs_in bytes es ss q ≡ logs_in these es (map bytes ss) q
  logs_same [] ss q = refl
  logs_same (e ∷ es) [] q = refl
  logs_same (e ∷ es) (s ∷ ss) q =
      others_same (same_process e.id q) _ _ _ (logs_same es ss q)

  faults_same : (tree es : List TreeProcess) (ss : List L)
      → faults_from bytes tree es ss ≡ faults_from these tree es (map bytes ss)
  faults_same tree [] ss = refl
  faults_same tree (e ∷ es) [] = refl
  faults_same tree (e ∷ es) (s ∷ ss) =
      ap (fault_or e.id (fault_of tree e (bytes s))) (faults_same tree es ss)

  none_same : (tree : List TreeProcess) (ss : List L) (p : ProcessId) → NoneRestartsOver bytes tree ss p
      → NoneRestartsOver these tree (map bytes ss) p
  none_same tree ss p h = record {
    listed = h.listed;
    none = subst (NoneRestarts (place_of tree p)) (logs_same tree ss p) h.none;
  }

  damage_same : (failures : L → ℕ) (tree : List TreeProcess) (ss : List L) (p : ProcessId) (place : ℕ)
      → TreeNotReopened bytes failures tree ss (Damaged p place)
      → TreeNotReopened these never tree (map bytes ss) (Damaged p place)
  damage_same failures tree ss p place (inl first) = inl (sym (faults_same tree tree ss) ∙ first)
  damage_same failures tree ss p place (inr (none, at, over)) =
      inr (sym (faults_same tree tree ss) ∙ none, at, none_same tree ss p over)

  pub damaged_so : (failures : L → ℕ) (tree : List TreeProcess) (logs : List ProcessLog) (ss : List L)
      (p : ProcessId) (place : ℕ) → map bytes ss ≡ bytes_in tree logs
      → TreeNotReopened bytes failures tree ss (Damaged p place) → IsDamage tree logs p place
  damaged_so failures tree logs ss p place are h =
      subst (λ (bs : List (List ℕ)). TreeNotReopened these never tree bs (Damaged p place)) are
      (damage_same failures tree ss p place h)

  pub reopened_so : (tree : List TreeProcess) (logs : List ProcessLog) (ss : List L) (s : WorldState)
      → map bytes ss ≡ bytes_in tree logs → IsReopened tree (logs_in bytes tree ss) s
      → IsReopened tree (records_by tree logs) s
  reopened_so tree logs ss s are r = record {
    tree_is = r.tree_is;
    failures = r.failures;
    opening = r.opening;
    nodes = λ q c at. subst (λ ls. RestartsOver tree q ls (r.failures q) c (s.data_at q) (r.opening q))
        (logs_same tree ss q ∙ ap (λ (bs : List (List ℕ)). logs_in these tree bs q) are) (r.nodes q c at);
    listed = r.listed;
    net = r.net;
    delivered = r.delivered;
    entries = r.entries;
  }

  -- a process has a store, which does not fail
  has_store : (failures : L → ℕ) → ((s : L) → failures s ≡ 0)
      → (es : List TreeProcess) (ss : List L) (q : ProcessId)
      → is_listed es q ≡ true → length ss ≡ length es → FailsIn failures (store_of es ss q) → ⊥
  unfolding is_listed
  has_store failures works [] ss q listed long h = absurd (cc)
  has_store failures works (e ∷ es) [] q listed long h = absurd (omega (arith, long))
  has_store failures works (e ∷ es) (s ∷ ss) q listed long h =
      by_test (same_process e.id q) listed
      (λ later. has_store failures works es ss q later (omega (arith, long))) h
    where
      by_test : (b : Bool) → (b || list_any (λ y. same_process y.id q) es) ≡ true
          → (list_any (λ y. same_process y.id q) es ≡ true → FailsIn failures (store_of es ss q) → ⊥)
          → FailsIn failures (if b then Some s else store_of es ss q) → ⊥
      by_test true found later h = omega (arith, works s, works h.left, h.more)
      by_test false found later h = later found h

  pub no_device : (failures : L → ℕ) → ((s : L) → failures s ≡ 0) → (tree : List TreeProcess) (ss : List L)
      (p : ProcessId) → length ss ≡ length tree → TreeNotReopened bytes failures tree ss (Device p) → ⊥
  no_device failures works tree ss p long h = has_store failures works tree ss p h.0 long h.1
