-- A node that starts over the file of one before it is a step of one of the tree's programs.
use Rattle.std.proofs.Common.{◌≡◌, ◌≢◌, ◌-◌, ◌∙◌, ap, sym, subst, refl, inl, inr, ℕ, Bool, true, false, cond, if◌then◌else◌, Option, Some, None, List, [], ◌∷◌, ◌++◌, find, length}
use Rattle.protocol.specs.declared.names.Case.{Case}
use Rattle.protocol.specs.declared.names.Outcome.{Outcome}
use Rattle.protocol.specs.declared.names.ProcessId.{ProcessId}
use Rattle.protocol.specs.declared.records.LogRecord.{LogRecord}
use Rattle.protocol.specs.declared.events.Reaction.{Reaction}
use Rattle.protocol.specs.declared.records.Record.{Record}
use Rattle.protocol.specs.declared.records.Record.TheVariants.{Opened}
use Rattle.protocol.specs.declared.standings.Standing.TheVariants.{Heuristic}
use Rattle.protocol.specs.declared.trees.TreeProcess.{TreeProcess}
use Rattle.protocol.specs.Names.{same_process}
use Rattle.protocol.specs.NameLaws.{same_process_tells}
use Rattle.protocol.specs.LogNames.{own_records}
use Rattle.protocol.specs.Nodes.{AtLeaf, AtRoot, Below, Place, Role, place_of, role_by, role_of}
use Rattle.protocol.specs.Records.{boot_of, cases_in}
use Rattle.protocol.specs.Restarts.{recorded_branch, reopens}
use Rattle.protocol.specs.SameViews.{SameView}
use Rattle.protocol.specs.Standings.{CoordinatorView, ManagerView, mark_of}
use Rattle.protocol.proofs.LogNameLaws.{reads_back}
use Rattle.log_rules.specs.order.Logs.{Whole, read_log}
use Rattle.log_text.specs.declared.form.LogForm.{LogForm}
use Rattle.log_text.specs.Forms.{log_form}
use Rattle.log_records.specs.Sights.{LogSight, left_by, records_of}
use Rattle.process_state.specs.States.{CoreState, SameCore, forced_sight, form_of, kind_of_role, logged}
use Rattle.process_state.specs.Opening.{IsOpenedProcess, first_opened}
use Rattle.process_state.specs.Restarting.{ReadOff, ProcessRestarts, read_of, recorded_branch_at, recorded_view_at, restarted_log}
use Rattle.tree_state.specs.Worlds.{RestartsData, SameNode, WorldState}
use Rattle.resource_manager.specs.Data.{ManagerData}
use Rattle.tree_process.proofs.Reopened.{all_left}
use Rattle.proof_lives.specs.Lives.{LifeStep, anew_at, counted, counted_at, counted_log, saying}
use Rattle.proof_lives.specs.Lives
use Rattle.protocol.specs.declared.names.Kind.{Kind}
use Rattle.protocol.specs.declared.names.Kind.TheVariants.{Coordinator, Manager}
use Rattle.tree_process.specs.Reopenings.{form_by, kind_by}
use Rattle.proof_nodes.specs.Files.{FindsLog, KeepsFile}
use Rattle.proof_nodes.specs.Nodes.{Started, StartedFirst}
use Rattle.proof_nodes.proofs.Lines.{same_as_it_is}

-- Where a listed process sits.

-- its role is that of its entry
pub listed_role : (tree : List TreeProcess) (q : ProcessId) (e : TreeProcess)
    → find (λ x. same_process x.id q) tree ≡ Some e → role_of tree q ≡ role_by e.kind e.parent
unfolding role_of
listed_role [] q e h = absurd (cc)
listed_role (x ∷ xs) q e h = by_test (same_process x.id q) (λ found. listed_role xs q e found) h
  where
    by_test : (b : Bool)
        → (find (λ y. same_process y.id q) xs ≡ Some e → role_of xs q ≡ role_by e.kind e.parent)
        → cond b (Some x) (find (λ y. same_process y.id q) xs) ≡ Some e
        → (if b then role_by x.kind x.parent else role_of xs q) ≡ role_by e.kind e.parent
    by_test true behind found = let is : x ≡ e = cc in ap (λ (y : TreeProcess). role_by y.kind y.parent) is
    by_test false behind found = behind found

abbrev seat : List TreeProcess → TreeProcess → Place
seat tree e = record { me = e.id; role = role_by e.kind e.parent; tree = tree }

pub listed_place : (tree : List TreeProcess) (e : TreeProcess)
    → find (λ x. same_process x.id e.id) tree ≡ Some e
    → place_of tree e.id ≡ seat tree e
listed_place tree e h =
    ap (λ (r : Role). record { me = e.id; role = r; tree = tree }) (listed_role tree e.id e h)

-- What was read of one file is one list of records.

same_records : (a b : List LogRecord) (m n : ℕ) → Whole a m ≡ Whole b n → a ≡ b
same_records a b m n e = cc

-- The moved process.

counted_is : (q : ProcessId) (n : ℕ) (s : WorldState) (c : CoreState) → s.node_at q ≡ Some c
    → (counted_at q n s).node_at q ≡ Some (counted c n)
counted_is q n s c stood = elim (same_process_tells q q) [
  | inl t ↦ rw (t.0, stood) refl
  | inr z ↦ absurd (z.1 refl)
]

counted_others : (q : ProcessId) (n : ℕ) (s : WorldState) (p : ProcessId) → same_process q p ≡ false
    → (counted_at q n s).node_at p ≡ s.node_at p
counted_others q n s p away = rw away refl

anew_is : (q : ProcessId) (n : ℕ) (said : Case → Option Outcome) (spent : Bool)
    (s : WorldState) (c : CoreState)
    → s.node_at q ≡ Some c → (anew_at q n said spent s).node_at q ≡ Some (saying (counted c n) said spent)
anew_is q n said spent s c stood = elim (same_process_tells q q) [
  | inl t ↦ rw (t.0, stood) refl
  | inr z ↦ absurd (z.1 refl)
]

anew_others : (q : ProcessId) (n : ℕ) (said : Case → Option Outcome) (spent : Bool)
    (s : WorldState) (p : ProcessId)
    → same_process q p ≡ false → (anew_at q n said spent s).node_at p ≡ s.node_at p
anew_others q n said spent s p away = rw away refl

one_process : (q p : ProcessId) → same_process q p ≡ true → q ≡ p
one_process q p there = elim (same_process_tells q p) [
  | inl y ↦ y.1
  | inr z ↦ absurd (let clash : true ≡ false = sym there ∙ z.0 in cc)
]

same_core_is : (a b : CoreState) → Some a ≡ Some b → a ≡ b
same_core_is a b e = cc

-- what each process is sits where the tree has it
abbrev pub IsPlaced : WorldState → Type 0
IsPlaced s = (q : ProcessId) (c : CoreState) → s.node_at q ≡ Some c → c.place ≡ place_of s.tree q

-- the form by which its log is read
pub seat_form : (tree : List TreeProcess) (e : TreeProcess) → form_of (seat tree e) ≡ form_by e
seat_form tree e = by_kind e.kind e.parent
  where
    by_kind : (k : Kind) (o : Option ProcessId) → log_form e.id (kind_of_role (role_by k o))
        ≡ log_form e.id (kind_by k o)
    by_kind Coordinator None = refl
    by_kind Coordinator (Some p) = refl
    by_kind Manager None = refl
    by_kind Manager (Some p) = refl

-- what each node finds of its log is what the one before it kept
abbrev pub AreFound : WorldState → Type 0
AreFound s = (q : ProcessId) (c : CoreState) → s.node_at q ≡ Some c → (bytes : List ℕ) (h : FindsLog c bytes)
    → KeepsFile (form_of c.place) c bytes (length bytes - h.forced)

pub started : (s t : WorldState) → IsPlaced s → AreFound s → Started s t → LifeStep s t
started s t placed found h =
    let q = h.entry.id in
    let keep = length h.bytes - h.finds.forced in
    let r = h.reopens in
    let before = counted h.before h.failures in
    let at : h.before.place ≡ seat s.tree h.entry = placed q h.before h.was
    ∙ listed_place s.tree h.entry h.listed in
    let form : form_of h.before.place ≡ form_by h.entry = ap form_of at ∙ seat_form s.tree h.entry in
    let keeps = found q h.before h.was h.bytes h.finds in
    let read : read_log (form_by h.entry) h.bytes ≡ Whole (left_by h.before.log keep) keeps.torn =
    ap (λ (p : LogForm). read_log p h.bytes) (sym form) ∙ keeps.read in
    let left : left_by h.before.log keep ≡ records_of r.log.sight.kept =
    same_records _ _ keeps.torn r.opens.torn (sym read ∙ r.opens.read) in
    Lives.begins q h.failures keep (record {
      before = before;
      behind = h.new.core;
      keep = keep;
      reaction = h.opening;
      moves = record {
        tree = h.alone.tree;
        stood = counted_is q h.failures s h.before h.was;
        stands = ap (λ p. t.node_at p) (sym h.same) ∙ h.is.core;
        others = λ p away. h.alone.others p away ∙ sym (counted_others q h.failures s p away);
        others_data = h.alone.others_data;
      };
      keeps = refl;
      restarts = r.restarts before (record { place_is = at; failures_are = refl }) keep left;
      holdings =
          subst (λ (d : ManagerData). RestartsData h.before.place.role (left_by h.before.log keep) d)
          (sym (ap (λ p. t.data_at p) (sym h.same) ∙ h.is.holdings))
          (subst (λ (ls : List LogRecord). RestartsData h.before.place.role ls h.new.holdings) (sym left)
          (subst (λ (p : Place). RestartsData p.role (records_of r.log.sight.kept) h.new.holdings) (sym at)
          r.holdings));
      enters = record { net = h.entered.net; delivered = h.entered.delivered; entries = h.entered.entries };
    })

-- A log without a record.

reopens_none : (role : Role) → reopens role [] ≡ Opened 1 ∷ []
unfolding boot_of cases_in
reopens_none AtRoot = refl
reopens_none (Below p) = refl
reopens_none (AtLeaf p) = refl

none_read : (place : Place) → own_records place [] ≡ []
unfolding own_records
none_read place = refl

restarted_none : (old : CoreState) → restarted_log old 0 ≡ left_by old.log 0
    ++ logged old (reopens old.place.role (read_of old (left_by old.log 0)))
restarted_none old = refl

-- the restart of a process that left no record
module _ (old new : CoreState) (none : left_by old.log 0 ≡ []) where
  log_none : restarted_log old 0 ≡ first_opened ∷ []
  log_none =
      ap (λ (ls : List LogRecord). ls ++ logged old (reopens old.place.role (read_of old ls))) none
      ∙ (ap (λ (rs : List Record). logged old (reopens old.place.role rs)) (none_read old.place)
      ∙ ap (λ (rs : List Record). logged old rs) (reopens_none old.place.role))

  read_none : read_of old (restarted_log old 0) ≡ Opened 1 ∷ []
  read_none = ap (λ (ls : List LogRecord). read_of old ls) log_none
      ∙ reads_back old.place (Opened 1 ∷ []) refl

alike : (v w u : CoordinatorView) → SameView v u → SameView w u → SameView v w
alike v w u h k = record {
  standing = h.standing ∙ sym k.standing;
  accepted = h.accepted ∙ sym k.accepted;
  voted = λ o t. h.voted o t ∙ sym (k.voted o t);
  worked = λ t. h.worked t ∙ sym (k.worked t);
  promised = h.promised ∙ sym k.promised;
  named = λ t. h.named t ∙ sym (k.named t);
  owed = λ t. h.owed t ∙ sym (k.owed t);
  found = h.found ∙ sym k.found;
}

-- two processes that have opened and heard nothing are the same, but for the counts of failures, for what
-- is said of branches that no operator decided, and for whether they have met a limit of their own
module _ (c d : CoreState) (m n : ℕ) (place : Place) where
  same_opened : IsOpenedProcess c place m → IsOpenedProcess d place n
      → SameCore (saying (counted c n) d.decided_of d.spent) d
  same_opened h k =
      let at : d.place ≡ c.place = k.place_is ∙ sym h.place_is in
      record {
        log = k.log ∙ sym (ap (λ (l : LogSight). counted_log l n) h.log);
        rest = record {
          place = at;
          boot = k.read.boot ∙ sym h.read.boot;
          begun = k.read.begun ∙ sym h.read.begun;
          given = k.read.given ∙ sym h.read.given;
          tickets = λ x. k.read.tickets x ∙ sym (h.read.tickets x);
          views = λ x. alike (d.view_of x) (c.view_of x) (recorded_view_at c.place.role (Opened 1 ∷ []) x)
              (subst (λ (p : Place). SameView (d.view_of x) (recorded_view_at p.role (Opened 1 ∷ []) x)) at
              (k.read.views x))
              (h.read.views x);
          branches = λ x. k.read.branches x
              ∙ (ap (λ (p : Place). recorded_branch_at p.role (Opened 1 ∷ []) x) at
              ∙ sym (h.read.branches x));
          decided = λ x. refl;
          spent = refl;
        };
      }

-- where a process has opened and heard nothing no operator decided a branch
none_decided : (role : Role) (x : Case) → (recorded_branch_at role (Opened 1 ∷ []) x).standing ≢ Heuristic
unfolding recorded_branch mark_of
none_decided AtRoot x h = absurd (cc)
none_decided (Below p) x h = absurd (cc)
none_decided (AtLeaf p) x h = absurd (cc)

undecided_at : (c : CoreState) (place : Place) (n : ℕ) → IsOpenedProcess c place n → (x : Case)
    → (c.branch_of x).standing ≢ Heuristic
undecided_at c place n opened x is = none_decided c.place.role x
    (ap (λ (v : ManagerView). v.standing) (sym (opened.read.branches x)) ∙ is)

-- a process that sits there, and left no record
abbrev nobody : CoreState → ℕ → CoreState
nobody c n = record c { log = forced_sight (form_of c.place) [] n }

-- what goes on over a log without a record has opened and heard nothing
opens_again : (old new : CoreState) (place : Place) (n : ℕ) (reaction : Reaction) → old.place ≡ place
    → old.log.failures ≡ n → left_by old.log 0 ≡ [] → ProcessRestarts old 0 new reaction
    → IsOpenedProcess new place n
opens_again old new place n reaction at count none r = record {
  place_is = r.place ∙ at;
  log = r.log ∙ (ap (λ (ls : List LogRecord). forced_sight (form_of old.place) ls old.log.failures)
      (log_none old new none)
      ∙ ap (λ (k : ℕ). forced_sight (form_of old.place) (first_opened ∷ []) k) count
      ∙ ap (λ (t : Place). forced_sight (form_of t) (first_opened ∷ []) n) at);
  read = subst (λ (rs : List Record). ReadOff new rs) (read_none old new none) r.read;
}

pub started_first : (s t : WorldState) → StartedFirst s t → LifeStep s t
started_first s t h =
    let q = h.entry.id in
    let r = h.reopens in
    let n = h.failures in
    let old = nobody h.before n in
    let at : h.before.place ≡ seat s.tree h.entry =
    h.heard_nothing.place_is ∙ listed_place s.tree h.entry h.listed in
    let none : left_by old.log 0 ≡ [] = all_left (form_of h.before.place) [] n in
    let empty : [] ≡ records_of r.log.sight.kept = same_records _ _ h.torn r.opens.torn
    (sym h.empty ∙ r.opens.read) in
    let restarts : ProcessRestarts old 0 h.new.core h.opening =
    r.restarts old (record { place_is = at; failures_are = refl }) 0 (none ∙ empty) in
    let opened : IsOpenedProcess h.new.core (place_of s.tree q) n =
    opens_again old h.new.core (place_of s.tree q) n h.opening h.heard_nothing.place_is refl none restarts in
    let said = h.new.core.decided_of in
    let spent = h.new.core.spent in
    let same : SameCore (saying (counted h.before n) said spent) h.new.core =
    same_opened h.before h.new.core h.counted n (place_of s.tree q) h.heard_nothing opened in
    let stood = anew_is q n said spent s h.before h.was in
    let stands : t.node_at q ≡ Some h.new.core = ap (λ p. t.node_at p) (sym h.same) ∙ h.is.core in
    Lives.begins_anew q n (record {
      tree = h.alone.tree;
      undecided = λ p c there was.
          let here : s.node_at q ≡ Some c = ap s.node_at (one_process q p there) ∙ was in
          let is : h.before ≡ c = same_core_is h.before c (sym h.was ∙ here) in
          subst (λ (b : CoreState). (x : Case) → (b.branch_of x).standing ≢ Heuristic) is
          (undecided_at h.before (place_of s.tree q) h.counted h.heard_nothing);
      said = said;
      spent = spent;
      nodes = λ p. elim (same_process_tells q p) [
        | inl y ↦ subst (λ x. SameNode ((anew_at q n said spent s).node_at x) (t.node_at x)) y.1
            (subst (λ o. SameNode o (t.node_at q)) (sym stood)
            (subst (λ o. SameNode (Some (saying (counted h.before n) said spent)) o) (sym stands) same))
        | inr z ↦ subst (λ o. SameNode o (t.node_at p)) (sym (anew_others q n said spent s p z.0))
            (subst (λ o. SameNode (s.node_at p) o) (sym (h.alone.others p z.0)) (same_as_it_is (s.node_at p)))
      ];
      net = h.silent.net;
      delivered = h.silent.delivered;
      entries = h.silent.entries;
    })
