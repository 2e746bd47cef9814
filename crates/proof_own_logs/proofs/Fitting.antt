-- What a crash leaves of a process's own log is fit.
use Rattle.std.proofs.Common.{◌≡◌, ◌≤◌, ◌<◌, ◌+◌, ◌-◌, ◌^◌, ◌∙◌, ◌⊎◌, inl, inr, ℕ, Bool, true, false, Option, Some, List, [], ◌∷◌, ◌++◌, find, map, nat_lt, refl, sym, ap, subst, arith, None}
use Rattle.std.specs.Prelude.{is_some}
use Rattle.std.specs.List.{AllByRecursion}
use Rattle.std.proofs.lemmas.Bool.Decides.{nat_tests}
use Rattle.std.proofs.lemmas.List.{map-append}
use Rattle.protocol.specs.declared.names.Kind.{Kind}
use Rattle.protocol.specs.declared.names.Kind.TheVariants.{Coordinator, Manager}
use Rattle.protocol.specs.declared.names.ProcessId.{ProcessId}
use Rattle.protocol.specs.declared.records.LogRecord.{LogRecord}
use Rattle.protocol.specs.declared.records.Record.{Record}
use Rattle.protocol.specs.declared.trees.TreeProcess.{TreeProcess}
use Rattle.protocol.specs.LogNames.{in_log, own_records, parent_of}
use Rattle.protocol.specs.Names.{same_process}
use Rattle.protocol.specs.Nodes.{AtLeaf, AtRoot, Below, IsCoordinator, Place, Role, kept, place_of, role_by, role_of}
use Rattle.protocol.specs.Records.{boot_of}
use Rattle.protocol.specs.Restarts.{reopens}
use Rattle.protocol.specs.Trees.{IsTree}
use Rattle.protocol.specs.Views.{leaf_place}
use Rattle.protocol.specs.World.{Made, World}
use Rattle.proof_processes.specs.WorldHolds.{Issues, RoleHolds}
use Rattle.proof_processes.proofs.CaseOrders.{AllFit, fit_front}
use Rattle.proof_processes.proofs.CoordinatorLogs.{all_fit}
use Rattle.proof_headline.proofs.runs.Headline.{the_world_holds}
use Rattle.log_rules.specs.sound.Sound.{IsSound}
use Rattle.log_records.specs.Sights.{LogSight, left_by, records_of}
use Rattle.kv_state.specs.Replays.{seen_after}
use Rattle.resource_manager.specs.Orders.{AreInOrder}
use Rattle.resource_manager.proofs.Lefts.{each_left, left_rest}
use Rattle.kv_manager.specs.declared.restart.RecordsError.TheVariants as restarts
use Rattle.kv_manager.specs.Restarts.{KvNotRebuilt}
use Rattle.kv_manager.specs.Sights.{are_ordered}
use Rattle.kv_manager.proofs.Boots.{left_ordered}
use Rattle.kv_manager.proofs.Bounds.{never_unfit}
use Rattle.kv_manager.proofs.Marks.{boot_last}
use Rattle.sub_branches.specs.Rebuilt.{AreFit}
use Rattle.process_state.specs.States.{CoreState, kind_of_role, logged}
use Rattle.process_state.specs.Restarting.{reopened}
use Rattle.tree_state.specs.Worlds.{WorldState}
use Rattle.proof_runs.specs.worlds.Follows.{FollowsBehindFaults, StandsAt}
use Rattle.proof_log_order.specs.Orders.{log_of}
use Rattle.log_rules.specs.order.Logs.{Whole, read_log}
use Rattle.tree_process.specs.Nodes.{FollowAt, LogStands}
use Rattle.tree_process.specs.Reopenings.{HoldsNoRestart, LeavesNone, NoneWrote, form_by, kind_by, place_by}
use Rattle.audit_tree.proofs.TreePlaces.{role_if}
use Rattle.proof_own_logs.specs.Fitting.{AreUsedUp, HaveNoBoot, NewLogsAreFit, OwnLogsAreFit}
use Rattle.proof_own_logs.proofs.Appending.{can_append, entries_of}
use Rattle.proof_own_logs.proofs.Reaching.{left_fit}

-- Records that are fit.

-- Records that a coordinator wrote: each can be in its log, and fits after those before it. Or that a manager
-- wrote: they may follow one another, and a subordinate which sits there can have written them.
abbrev AreGood : Kind → Place → List LogRecord → Type 0
AreGood Coordinator place ls = AllByRecursion (IsSound Coordinator) ls × AllFit [] (entries_of ls)
AreGood Manager place ls = (are_ordered ls ≡ true) × AreFit place ls

same_records : (a b : List LogRecord) (m n : ℕ) → Whole a m ≡ Whole b n → a ≡ b
same_records a b m n e = cc

-- what cannot be below a bound has reached it
at_bound : (n bound : ℕ) → (n < bound → ⊥) → bound ≤ n
at_bound n bound not = by_test (nat_lt n bound) refl
  where
    by_test : (b : Bool) → nat_lt n bound ≡ b → bound ≤ n
    by_test true e = absurd (not (grind (arith, nat_tests, e)))
    by_test false e = grind (arith, nat_tests, e)

-- a coordinator restarts over its own records while a boot is left
no_restart : (log : LogSight) (ls : List LogRecord) → records_of log.kept ≡ ls
    → AllByRecursion (IsSound Coordinator) ls
    → AllFit [] (entries_of ls) → HoldsNoRestart log → HaveNoBoot ls
no_restart log ls is sound fit h = at_bound (boot_of (entries_of ls) + 1) (2 ^ 63)
    (λ next. h.beyond (can next))
  where
    place : Place
    place = h.process.place

    left_is : left_by h.process.log h.keep ≡ ls
    left_is = ap (λ (x : LogSight). left_by x h.keep) h.log_is ∙ (h.left ∙ is)

    can : boot_of (entries_of ls) + 1 < 2 ^ 63
        → AllByRecursion (IsSound (kind_of_role place.role)) (logged h.process (reopened h.process h.keep))
    can next = subst (λ (ks : List LogRecord). AllByRecursion (IsSound (kind_of_role place.role))
        (map (in_log (parent_of place.role)) (reopens place.role (own_records place ks)))) (sym left_is)
        (can_append place ls sound fit next)

-- a key store stands over its own records while numbers are left
no_manager : (ls : List LogRecord) → are_ordered ls ≡ true → AllByRecursion (IsSound Manager) ls
    → KvNotRebuilt ls restarts.Unfit ⊎ KvNotRebuilt ls restarts.Exhausted → AreUsedUp Manager ls
no_manager ls ordered sound (inl unfit) = absurd (never_unfit ls ordered sound unfit)
no_manager ls ordered sound (inr (inl far)) = inr far
no_manager ls ordered sound (inr (inr last)) = inl (boot_last ls last.seen last.read last.spent)

module _ (tree : List TreeProcess) (e : TreeProcess) (bytes : List ℕ) (ls : List LogRecord) (torn : ℕ)
    (read : read_log (form_by e) bytes ≡ Whole ls torn)
  where
    unfit_so : (forced failures : ℕ) (k : Kind) → AreGood k (place_by tree e) ls
        → LeavesNone k (form_by e) bytes forced failures
        ⊎ ((k ≡ Manager) × NoneWrote (form_by e) (place_by tree e) bytes forced failures) → AreUsedUp k ls
    unfit_so forced failures Coordinator good (inl h) =
        no_restart h.log.sight ls (same_records _ _ h.opens.torn torn (sym h.opens.read ∙ read))
        good.0 good.1 h.why
    unfit_so forced failures Coordinator good (inr h) = absurd (let clash : Coordinator ≡ Manager = h.0 in cc)
    unfit_so forced failures Manager good (inl h) =
        let is : records_of h.log.sight.kept ≡ ls =
        same_records _ _ h.opens.torn torn (sym h.opens.read ∙ read) in
        no_manager ls good.0 good.1.sound
        (subst (λ (ks : List LogRecord). KvNotRebuilt ks restarts.Unfit ⊎ KvNotRebuilt ks restarts.Exhausted)
        is h.why)
    unfit_so forced failures Manager good (inr h) =
        let is : records_of h.1.log.sight.kept ≡ ls =
        same_records _ _ h.1.opens.torn torn (sym h.1.opens.read ∙ read) in
        absurd (h.1.unfit (subst (AreFit (place_by tree e)) (sym is) good.1))

-- A log without a record.

none_ordered : are_ordered [] ≡ true
unfolding seen_after
none_ordered = refl

none_in_order : AreInOrder []
none_in_order [] l rest is = absurd (cc)
none_in_order (k ∷ front) l rest is = absurd (cc)

none_good : (k : Kind) (place : Place) → AreGood k place []
none_good Coordinator place = (tt, tt)
none_good Manager place = (none_ordered, record { sound = tt; ordered = none_in_order; reached = tt })

pub new_logs_are_fit : {L : Type 0} (bytes : L → List ℕ) (forced failures : L → ℕ)
    → NewLogsAreFit bytes forced failures
new_logs_are_fit bytes forced failures tree e store torn read =
    unfit_so tree e (bytes store) [] torn read (forced store) (failures store) (form_by e).kind
    (none_good (form_by e).kind (place_by tree e))

-- Where a process sits.

listed_place : (tree : List TreeProcess) (e : TreeProcess) → find (λ x. same_process x.id e.id) tree ≡ Some e
    → place_of tree e.id ≡ place_by tree e
listed_place tree e h = ap (λ (r : Role). record { me = e.id; role = r; tree = tree }) (role_if tree e.id e h)

-- the kind of its log
seat_kind : (k : Kind) (o : Option ProcessId) → kind_of_role (role_by k o) ≡ kind_by k o
seat_kind Coordinator None = refl
seat_kind Coordinator (Some p) = refl
seat_kind Manager None = refl
seat_kind Manager (Some p) = refl

-- What a crash leaves of a process's own log.

entries_kept : (p : Option ProcessId) (rs : List Record) → entries_of (map (in_log p) rs) ≡ rs
entries_kept p [] = refl
entries_kept p (r ∷ rs) = ap (λ (xs : List Record). r ∷ xs) (entries_kept p rs)

module _ (s : WorldState) (es : List Made) (w : World) (is_tree : IsTree s.tree)
    (f : FollowsBehindFaults es w s)
    (e : TreeProcess) (listed : find (λ x. same_process x.id e.id) s.tree ≡ Some e) (c : CoreState)
    (there : s.node_at e.id ≡ Some c) (stands : LogStands c) (keep : ℕ)
  where
    abbrev q : ProcessId
    q = e.id

    at : StandsAt w s q c
    at = let h = f.follows.nodes q c there in record { place = h.place; stands = h.stands }

    seat : c.place ≡ place_by s.tree e
    seat = at.place ∙ listed_place s.tree e listed

    -- its role in the tree
    sits : (r : Role) → c.place.role ≡ r → role_of s.tree q ≡ r
    sits r is = sym (ap (λ (x : Place). x.role) at.place) ∙ is

    records : records_of c.log.kept ≡ log_of s.tree w q
    records =
        ap (λ (ls : List LogRecord). ls ++ c.log.kept.unforced) at.stands.forced
        ∙ ap (λ (ls : List LogRecord). map (in_log (parent_of c.place.role)) (w.at q).forced ++ ls)
        at.stands.unforced
        ∙ sym (map-append (in_log (parent_of c.place.role)) (w.at q).forced (w.at q).unforced)
        ∙ ap (λ (x : Place). map (in_log (parent_of x.role)) (kept (w.at q))) at.place

    of_coordinator : IsCoordinator (role_of s.tree q)
        → AllByRecursion (IsSound Coordinator) (records_of c.log.kept)
        → AreGood Coordinator (place_by s.tree e) (left_by c.log keep)
    of_coordinator i sound =
        let rest = left_rest c.log keep in
        let all : AllFit [] (entries_of (records_of c.log.kept)) =
        subst (AllFit []) (sym (ap entries_of records ∙ entries_kept (parent_of (role_of s.tree q))
        (kept (w.at q))))
        (all_fit s.tree es w f.follows.is_run q i) in
        let parts : entries_of (records_of c.log.kept) ≡ entries_of (left_by c.log keep)
        ++ entries_of rest.0 =
        ap entries_of (sym rest.1) ∙ map-append (λ (l : LogRecord). l.entry) (left_by c.log keep) rest.0 in (
          each_left (IsSound Coordinator) c.log keep sound,
          fit_front [] (entries_of (left_by c.log keep)) (entries_of rest.0) (subst (AllFit []) parts all),
        )

    of_manager : (p : ProcessId) → c.place.role ≡ AtLeaf p
        → AllByRecursion (IsSound Manager) (records_of c.log.kept)
        → are_ordered (records_of c.log.kept) ≡ true
        → AreGood Manager (place_by s.tree e) (left_by c.log keep)
    of_manager p is sound ordered =
        let role : role_of s.tree q ≡ AtLeaf p = sits (AtLeaf p) is in
        let place : place_of s.tree q ≡ leaf_place q p s.tree =
        ap (λ (r : Role). record { me = q; role = r; tree = s.tree }) role in
        let holds = (the_world_holds s.tree is_tree es w f.follows.is_run).nodes q
        (sym (f.follows.listed q) ∙ ap is_some there) in
        let issues : Issues (leaf_place q p s.tree) w.net (w.at q) =
        subst (λ (x : Place). Issues x w.net (w.at q)) place
        (subst (λ (r : Role). RoleHolds r (place_of s.tree q) w.net (w.at q)) role holds.role).1 in
        let forced : c.log.kept.forced ≡ map (in_log (Some p)) (w.at q).forced =
        at.stands.forced ∙ ap (λ (r : Role). map (in_log (parent_of r)) (w.at q).forced) is in
        let all : records_of c.log.kept ≡ map (in_log (Some p)) (kept (w.at q)) =
        records ∙ ap (λ (r : Role). map (in_log (parent_of r)) (kept (w.at q))) role in
        let fit : AreFit (leaf_place q p s.tree) (left_by c.log keep) =
        left_fit q p s.tree w.net (w.at q) holds.lasts.nested issues c.log forced all sound ordered keep in (
          left_ordered c.log keep ordered,
          subst (λ (x : Place). AreFit x (left_by c.log keep)) (sym place ∙ (sym at.place ∙ seat)) fit,
        )

    by_role : (r : Role) → c.place.role ≡ r
        → AllByRecursion (IsSound (kind_of_role r)) (records_of c.log.kept)
        → FollowAt r (records_of c.log.kept)
        → AreGood (kind_of_role r) (place_by s.tree e) (left_by c.log keep)
    by_role AtRoot is sound follow = of_coordinator (subst IsCoordinator (sym (sits AtRoot is)) tt) sound
    by_role (Below p) is sound follow = of_coordinator
        (subst IsCoordinator (sym (sits (Below p) is)) tt) sound
    by_role (AtLeaf p) is sound follow = of_manager p is sound follow

    good : AreGood (form_by e).kind (place_by s.tree e) (left_by c.log keep)
    good = subst (λ (k : Kind). AreGood k (place_by s.tree e) (left_by c.log keep))
        (ap (λ (x : Place). kind_of_role x.role) seat ∙ seat_kind e.kind e.parent)
        (by_role c.place.role refl stands.sound stands.follow)

pub own_logs_are_fit : {L : Type 0} (bytes : L → List ℕ) (forced failures : L → ℕ)
    → OwnLogsAreFit bytes forced failures
own_logs_are_fit bytes forced failures s es w is_tree f e listed c there stands keep torn store read =
    unfit_so s.tree e (bytes store) (left_by c.log keep) torn read (forced store) (failures store)
    (form_by e).kind
    (good s es w is_tree f e listed c there stands keep)
