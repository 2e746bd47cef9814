-- The processes of a tree from a place on, as they restart one after another over logs that are ready.
use Rattle.std.proofs.Common.{◌≡◌, ◌∙◌, ap, sym, subst, refl, inl, inr, ◌⊎◌, false, true, if◌then◌else◌, is_some, ℕ, ◌+◌, ◌<◌, ◌≤◌, Option, Some, None, List, [], ◌∷◌, ◌++◌, length, get_or, drop, reverse, option_map, append-nil, append_assoc}
use Rattle.std.specs.Map.{lookup}
use Rattle.std.proofs.lemmas.List.{drop_all, map-append}
use Rattle.protocol.specs.declared.names.Kind.{Kind}
use Rattle.protocol.specs.declared.names.Kind.TheVariants.{Coordinator, Manager}
use Rattle.protocol.specs.declared.names.ProcessId.{ProcessId}
use Rattle.protocol.specs.contracts.names.ProcessIdPartialEq.TheImpl as processes
use Rattle.protocol.specs.declared.messages.Envelope.{Envelope}
use Rattle.protocol.specs.declared.events.Reaction.{Reaction}
use Rattle.protocol.specs.declared.events.Happening.TheVariants.{Restart}
use Rattle.protocol.specs.declared.records.LogRecord.{LogRecord}
use Rattle.protocol.specs.declared.trees.TreeProcess.{TreeProcess}
use Rattle.protocol.specs.Names.{same_process}
use Rattle.protocol.specs.Nodes.{Place, Role, is_listed, place_of}
use Rattle.protocol.specs.Records.{same_bytes}
use Rattle.protocol.specs.Trees.{IsTree}
use Rattle.log_rules.specs.order.Logs.{Damaged, Whole, read_log}
use Rattle.log_store.specs.Stores.{SameStore}
use Rattle.log_text.specs.Forms.{header, log_form}
use Rattle.log_text.specs.declared.form.LogFormat.TheVariants.{First, Second}
use Rattle.log_records.specs.Openings.{is_old}
use Rattle.log_records.specs.Sights.{LogSight, kept_of, left_by, records_of}
use Rattle.log_records.proofs.Turns.{records_stand}
use Rattle.process_state.specs.States.{CoreState, forced_sight, form_of, logged}
use Rattle.process_state.specs.Restarting.{ProcessRestarts, reopened}
use Rattle.tree_state.specs.Worlds.{step_entry, undelivered}
use Rattle.resource_manager.specs.Data.{ManagerData}
use Rattle.tree_journal.specs.Journals.{JournalState, SameJournal}
use Rattle.tree_process.specs.declared.node.Process.{Process}
use Rattle.tree_process.specs.Nodes.{HoldsLog, core_of, data_of}
use Rattle.tree_process.specs.Reopenings.{HandsLogBack, HoldsOn as NodeHoldsOn, LeavesNone, ProcessNotReopened, ReopensAs, form_by, kind_by, place_by}
use Rattle.tree_process.specs.declared.reopening.ProcessReopenError.{ProcessReopenError}
use Rattle.tree_process.specs.declared.reopening.ProcessReopenError.TheVariants as nodes
use Rattle.tree_process.proofs.Reopened.{all_left}
use Rattle.proof_reopened.specs.Reopened.{RestartsOver}
use Rattle.tree_world.specs.Nodes.{NodesSight, data_in, kept_at}
use Rattle.tree_world.specs.Readied.{AllRestart, AreGivenBack, AreNotRestarted, AreReady, IsGivenBack, IsReady, TreeNotRestarted, RestartsIn}
use Rattle.tree_world.specs.Reopenings.{AreRestarted, FailsIn, HoldsOn, NoneRestarts, error_of_node, ready_logs, records_read}
use Rattle.tree_world.specs.Openings.{store_of}
use Rattle.tree_world.specs.declared.reopening.TreeReopenError.{TreeReopenError}
use Rattle.tree_world.specs.declared.reopening.TreeReopenError.TheVariants.{Memory, Device, Damaged as DamagedError}
use Rattle.tree_world.proofs.FromReady.{fails_behind, fails_first, listed_behind, listed_first}
use Rattle.tree_world.proofs.HandedBack.{from_end, kind_of}
use Rattle.tree_world.proofs.OpenNodes.{drop_at, first_role}
use Rattle.tree_world.proofs.Processes.{itself}
use Rattle.tree_world.proofs.ReadyLogs.{read_behind}
use Rattle.tree_world.proofs.Reopenings.{restarted_more, restarts_over}
use Rattle.tree_world.proofs.StorePlaces.{new_at, not_again}

-- The place of a process.

place_at : (tree : List TreeProcess) (i : ℕ) (e : TreeProcess) → IsTree tree → i < length tree
    → e ≡ get_or tree i e
    → place_by tree e ≡ place_of tree e.id
place_at tree i e t lt is =
    ap (λ (r : Role). record { me = e.id; role = r; tree = tree })
    (sym (first_role tree i e lt is (new_at tree i e t lt is)))

-- One process.

module _ {L : Type 0} (bytes : L → List ℕ) (forced failures : L → ℕ) (tree : List TreeProcess)
    (e : TreeProcess) (store : L) where
  abbrev ls : List LogRecord
  ls = records_read (read_log (form_by e) (bytes store))

  -- a log that is ready is not damaged, and not of the first format
  not_damaged : (place : ℕ) → IsReady bytes e store → read_log (form_by e) (bytes store) ≡ Damaged place → ⊥
  not_damaged place r h = absurd (let never : Whole ls 0 ≡ Damaged place = sym r.reads ∙ h in cc)

  not_old : IsReady bytes e store → is_old (bytes store) ≡ true → ⊥
  unfolding same_bytes
  not_old r h = absurd (let never : same_bytes (header Second) (header First) ≡ true =
      ap (λ t. same_bytes t (header First)) (sym r.begins) ∙ h in cc)

  -- why no process restarts over records that leave none of its kind
  none_left : (k : Kind) → (forms : form_by e ≡ log_form e.id k)
      → LeavesNone k (form_by e) (bytes store) (forced store) (failures store)
      → NoneRestarts (place_by tree e) ls
  none_left Coordinator forms h =
      let is : ls ≡ records_of h.log.sight.kept = ap records_read h.opens.read in
      subst (NoneRestarts (place_by tree e)) (sym is) (inl (
        h.why.process,
        h.why.keep,
        ap (λ (l : LogSight). left_by l h.why.keep) h.why.log_is ∙ h.why.left,
        h.why.beyond,
      ))
  none_left Manager forms h =
      let is : ls ≡ records_of h.log.sight.kept = ap records_read h.opens.read in
      subst (NoneRestarts (place_by tree e)) (sym is) (elim h.why [
        | inl n ↦ inr (inl n)
        | inr n ↦ inr (inr (inl n))
      ])

  -- the process restarted, by a copy of the tree
  pub restarts_in : (copy : List TreeProcess) (core : CoreState) (values : ManagerData) (reaction : Reaction)
      (old mid new : JournalState) → copy ≡ tree
      → ReopensAs copy e (bytes store) (forced store) (failures store) core values reaction
      → SameJournal old mid
      → new.net ≡ mid.net ++ reaction.messages → new.delivered ≡ mid.delivered
      ++ undelivered reaction.messages
      → new.entries ≡ mid.entries ++ step_entry e.id (Restart 0) reaction ∷ []
      → RestartsIn bytes forced failures tree e store core values old new
  restarts_in copy core values reaction old mid new same h keeps net delivered entries = record {
    reaction = reaction;
    reopens = subst (λ t. ReopensAs t e (bytes store) (forced store) (failures store) core values reaction)
        same h;
    enters = record {
      net = net ∙ ap (λ xs. xs ++ reaction.messages) keeps.net;
      delivered = delivered ∙ ap (λ xs. xs ++ undelivered reaction.messages) keeps.delivered;
      entries = entries ∙ ap (λ xs. xs ++ step_entry e.id (Restart 0) reaction ∷ []) keeps.entries;
    };
  }

  not_restarted : IsReady bytes e store → (why : ProcessReopenError)
      → ProcessNotReopened bytes forced failures (form_by e) (place_by tree e) store why
      → TreeNotRestarted bytes failures tree e store (error_of_node e.id why)
  not_restarted r nodes.Memory h = tt
  not_restarted r nodes.Device (inl h) = (refl, h)
  not_restarted r nodes.Device (inr h) = absurd h.1
  not_restarted r (nodes.Damaged place) (inl h) = absurd (not_damaged place r h)
  not_restarted r (nodes.Damaged place) (inr h) = absurd h.1
  not_restarted r nodes.OldFormat (inl h) = absurd (not_old r h)
  not_restarted r nodes.OldFormat (inr h) = absurd h.1
  not_restarted r nodes.Unfit (inl h) = (refl, refl, none_left (kind_by e.kind e.parent) refl h)
  not_restarted r nodes.Unfit (inr h) =
      let is : ls ≡ records_of h.1.log.sight.kept = ap records_read h.1.opens.read in
      (refl, refl, subst (NoneRestarts (place_by tree e)) (sym is) (inr (inr (inr h.1.unfit))))

  -- it did not
  pub not_restarted_by : (copy : List TreeProcess) → copy ≡ tree → IsReady bytes e store
      → (why : ProcessReopenError)
      → ProcessNotReopened bytes forced failures (form_by e) (place_by copy e) store why
      → TreeNotRestarted bytes failures tree e store (error_of_node e.id why)
  not_restarted_by copy same r why h = not_restarted r why
      (subst (λ t. ProcessNotReopened bytes forced failures (form_by e) (place_by t e) store why) same h)

  -- the records are in a store that is ready
  ready_records : IsReady bytes e store → records_of (kept_of (form_by e) (bytes store) (forced store)) ≡ ls
  ready_records r = records_stand (form_by e) (bytes store) (forced store)
      ∙ read_behind (form_by e) (bytes store) ls 0 r.begins r.reads

  pub ready_stands : IsReady bytes e store → HoldsOn bytes forced e ls store
  ready_stands r = record { appended = []; records = ready_records r ∙ sym (append-nil ls) }

  module _ (new : L) where
    holds : IsReady bytes e store
        → SameStore bytes forced failures store new ⊎ NodeHoldsOn bytes forced failures (form_by e) store new
        → HoldsOn bytes forced e ls new
    holds r (inl same) = record {
      appended = [];
      records = ap (λ t. records_of (kept_of (form_by e) t (forced new))) same.bytes_stay
          ∙ ap (λ n. records_of (kept_of (form_by e) (bytes store) n)) same.forced_stays
          ∙ ready_records r ∙ sym (append-nil ls);
    }
    holds r (inr n) =
        let is : ls ≡ records_of n.log.sight.kept = ap records_read n.opens.read in
        record { appended = n.appended; records = n.records ∙ ap (λ xs. xs ++ n.appended) (sym is) }

    -- the store of a process that did not restart keeps the records
    pub given_back : IsReady bytes e store → (why : ProcessReopenError)
        → HandsLogBack bytes forced failures (form_by e) store new why
        → IsGivenBack bytes forced failures e store new (error_of_node e.id why)
    given_back r nodes.Memory h = holds r h
    given_back r nodes.Device h = inl (refl, h)
    given_back r (nodes.Damaged place) h = holds r h
    given_back r nodes.OldFormat h = holds r h
    given_back r nodes.Unfit h = holds r h

    -- so does that of one that had restarted
    pub restarted_holds : (core : CoreState) (values : ManagerData) (reaction : Reaction)
        → ReopensAs tree e (bytes store) (forced store) (failures store) core values reaction
        → HoldsLog bytes forced failures core new → HoldsOn bytes forced e ls new
    restarted_holds core values reaction h stands =
        let left : List LogRecord = records_of h.log.sight.kept in
        let is : ls ≡ left = ap records_read h.opens.read in
        let old : CoreState = record core {
          place = place_by tree e;
          log = forced_sight (form_by e) left (failures store);
        } in
        let again : ProcessRestarts old 0 core reaction =
        h.restarts old (record { place_is = refl; failures_are = refl }) 0
        (all_left (form_by e) left (failures store)) in
        let more : List LogRecord = logged old (reopened old 0) in
        let form : form_of core.place ≡ form_by e = ap form_of again.place
        ∙ ap (log_form e.id) (kind_of e.kind e.parent) in
        record {
          appended = more;
          records = ap (λ f. records_of (kept_of f (bytes new) (forced new))) (sym form)
              ∙ ap (λ (l : LogSight). records_of l.kept) (stands ∙ again.log)
              ∙ append-nil (left_by old.log 0 ++ more)
              ∙ ap (λ xs. xs ++ more) (all_left (form_by e) left (failures store) ∙ sym is);
        }

    pub given_by : (why : TreeReopenError) → HoldsOn bytes forced e ls new
        → IsGivenBack bytes forced failures e store new why
    given_by Memory h = h
    given_by (Device p) h = inr h
    given_by (DamagedError p place) h = h

-- the stores that were not come to are as they were
pub all_given : {L : Type 0} (bytes : L → List ℕ) (forced failures : L → ℕ)
    (tree es : List TreeProcess) (ss : List L)
    (why : TreeReopenError) → AreReady bytes es ss → AreGivenBack bytes forced failures es ss ss why
all_given bytes forced failures tree [] ss why r = refl
all_given bytes forced failures tree (e ∷ es) [] why r = refl
all_given bytes forced failures tree (e ∷ es) (s ∷ ss) why r = (
  given_by bytes forced failures tree e s s why (ready_stands bytes forced failures tree e s r.0),
  all_given bytes forced failures tree es ss why r.1,
)

-- Journals.

undelivered_more : (a b : List Envelope) → undelivered (a ++ b) ≡ undelivered a ++ undelivered b
undelivered_more a b = map-append (λ l. false) a b

-- Why processes did not restart.

module _ {L : Type 0} (bytes : L → List ℕ) (failures : L → ℕ) (tree : List TreeProcess) (e : TreeProcess)
    (es : List TreeProcess) (s : L) (ss : List L) where
  logs_first : ready_logs bytes (e ∷ es) (s ∷ ss) e.id ≡ records_read (read_log (form_by e) (bytes s))
  logs_first = ap (λ b. if b then records_read (read_log (form_by e) (bytes s))
      else ready_logs bytes es ss e.id) (itself e.id)

  logs_behind : (p : ProcessId) → same_process e.id p ≡ false
      → ready_logs bytes (e ∷ es) (s ∷ ss) p ≡ ready_logs bytes es ss p
  logs_behind p apart =
      ap (λ b. if b then records_read (read_log (form_by e) (bytes s)) else ready_logs bytes es ss p) apart

  not_restarted_first : (why : TreeReopenError) → place_by tree e ≡ place_of tree e.id
      → TreeNotRestarted bytes failures tree e s why → AreNotRestarted bytes failures tree (e ∷ es) (s ∷ ss)
      why
  not_restarted_first Memory at h = tt
  not_restarted_first (Device p) at h =
      subst (λ q. (is_listed (e ∷ es) q ≡ true) × FailsIn failures (store_of (e ∷ es) (s ∷ ss) q)) (sym h.0)
      (listed_first e es, fails_first failures e es s ss h.1)
  not_restarted_first (DamagedError p place) at h =
      subst (λ q. (is_listed (e ∷ es) q ≡ true) × (place ≡ 0)
      × NoneRestarts (place_of tree q) (ready_logs bytes (e ∷ es) (s ∷ ss) q)) (sym h.0) (
        listed_first e es,
        h.1,
        subst (λ (p : Place). NoneRestarts p (ready_logs bytes (e ∷ es) (s ∷ ss) e.id)) at
            (subst (NoneRestarts (place_by tree e)) (sym logs_first) h.2),
      )

  not_restarted_later : (why : TreeReopenError)
      → ((q : ProcessId) → is_listed es q ≡ true → same_process e.id q ≡ false)
      → AreNotRestarted bytes failures tree es ss why → AreNotRestarted bytes failures tree (e ∷ es) (s ∷ ss)
      why
  not_restarted_later Memory apart h = tt
  not_restarted_later (Device p) apart h =
      (listed_behind e es p h.0, fails_behind failures e es s ss p (apart p h.0) h.1)
  not_restarted_later (DamagedError p place) apart h = (
    listed_behind e es p h.0,
    h.1,
    subst (NoneRestarts (place_of tree p)) (sym (logs_behind p (apart p h.0))) h.2,
  )

-- From a place on.

no_reaction : Reaction
no_reaction = record { begun = None; written = []; told = None; messages = []; kept = None }

none_open : (c : CoreState) → None ≡ Some c → ⊥
none_open c h = cc

no_restarts : {L : Type 0} (bytes : L → List ℕ) (tree : List TreeProcess) (stores : List L) (ns : NodesSight)
    → ((q : ProcessId) → ns.node_at q ≡ None) → AreRestarted bytes tree [] stores ns [] []
unfolding is_listed
no_restarts bytes tree stores ns empty = record {
  failed = λ q. 0;
  opening = λ q. no_reaction;
  nodes = λ q c stands. absurd (none_open c (sym (empty q) ∙ stands));
  listed_are = λ q. ap is_some (empty q);
  sent_by = refl;
  made_so = refl;
}

pub none_restarted : {L : Type 0} (bytes : L → List ℕ) (tree : List TreeProcess) (i : ℕ) (items : List L)
    (entries : List (ProcessId × Process L)) (j : JournalState) → length tree ≤ i → entries ≡ []
    → AllRestart bytes tree (drop i tree) (reverse items) (kept_at entries) j j
none_restarted bytes tree i items entries j past empty = rw (drop_all i tree past, empty) (record {
  sent = [];
  made = [];
  restarted = no_restarts bytes tree (reverse items) _ (λ q. refl);
  net = sym (append-nil j.net);
  delivered = sym (append-nil j.delivered);
  entries = sym (append-nil j.entries);
})

module _ {L : Type 0} (bytes : L → List ℕ) (forced failures : L → ℕ) (tree : List TreeProcess) (i : ℕ)
    (e : TreeProcess) (lt : i < length tree) (is : e ≡ get_or tree i e) where
  -- there is no store for the process
  pub no_store_restarted : (items : List L) → items ≡ []
      → AreNotRestarted bytes failures tree (drop i tree) (reverse items) (Device e.id)
  no_store_restarted items empty =
      rw (drop_at tree i e lt is, empty) (listed_first e (drop (i + 1) tree), tt)

  pub no_store_given : (old new : List L) (why : TreeReopenError) → old ≡ [] → new ≡ []
      → AreGivenBack bytes forced failures (drop i tree) (reverse old) (reverse new) why
  no_store_given old new why empty left = rw (drop_at tree i e lt is, empty, left) refl

  -- the store at the place is ready, and so are those after it
  ready_parts : (items behind : List L) (s : L) → items ≡ behind ++ s ∷ []
      → AreReady bytes (drop i tree) (reverse items)
      → AreReady bytes (e ∷ drop (i + 1) tree) (s ∷ reverse behind)
  ready_parts items behind s taken r =
      subst (λ xs. AreReady bytes (e ∷ drop (i + 1) tree) xs) (ap reverse taken ∙ from_end behind s)
      (subst (λ es. AreReady bytes es (reverse items)) (drop_at tree i e lt is) r)

  pub ready_at : (items behind : List L) (s : L) → items ≡ behind ++ s ∷ []
      → AreReady bytes (drop i tree) (reverse items) → IsReady bytes e s
  ready_at items behind s taken r =
      let parts = ready_parts items behind s taken r in parts.0

  pub ready_behind : (items behind : List L) (s : L) → items ≡ behind ++ s ∷ []
      → AreReady bytes (drop i tree) (reverse items) → AreReady bytes (drop (i + 1) tree) (reverse behind)
  ready_behind items behind s taken r =
      let parts = ready_parts items behind s taken r in parts.1

  -- the process did not restart
  pub not_restarted_at : (items behind : List L) (s : L) (why : TreeReopenError) → IsTree tree
      → items ≡ behind ++ s ∷ []
      → TreeNotRestarted bytes failures tree e s why
      → AreNotRestarted bytes failures tree (drop i tree) (reverse items) why
  not_restarted_at items behind s why t taken h =
      rw (drop_at tree i e lt is, taken, from_end behind s)
      (not_restarted_first bytes failures tree e (drop (i + 1) tree) s (reverse behind) why
      (place_at tree i e t lt is) h)

  pub given_at : (items behind left : List L) (s l : L) (why : TreeReopenError) → items ≡ behind ++ s ∷ []
      → left ≡ behind ++ l ∷ [] → AreReady bytes (drop (i + 1) tree) (reverse behind)
      → IsGivenBack bytes forced failures e s l why
      → AreGivenBack bytes forced failures (drop i tree) (reverse items) (reverse left) why
  given_at items behind left s l why taken put r h =
      rw (drop_at tree i e lt is, taken, put, from_end behind s, from_end behind l)
      (h, all_given bytes forced failures tree (drop (i + 1) tree) (reverse behind) why r)

  -- it restarted, and so did those after it
  pub restarted_from : (items behind : List L) (s : L) (n : Process L)
      (old new : List (ProcessId × Process L))
      (j k l : JournalState) → IsTree tree → items ≡ behind ++ s ∷ []
      → RestartsIn bytes forced failures tree e s (core_of n) (data_of n) j k
      → lookup (processes.ghosts.eq e.id) new ≡ Some n
      → ((q : ProcessId) → same_process e.id q ≡ false
      → lookup (processes.ghosts.eq q) new ≡ lookup (processes.ghosts.eq q) old)
      → AllRestart bytes tree (drop (i + 1) tree) (reverse behind) (kept_at old) k l
      → AllRestart bytes tree (drop i tree) (reverse items) (kept_at new) j l
  restarted_from items behind s n old new j k l t taken here own others h =
      rw (drop_at tree i e lt is, taken, from_end behind s) (record {
        sent = here.reaction.messages ++ h.sent;
        made = step_entry e.id (Restart 0) here.reaction ∷ h.made;
        restarted = restarted_more bytes tree e (drop (i + 1) tree) s (reverse behind)
            (kept_at old) (kept_at new)
            (core_of n) here.reaction (failures s) (ap (option_map core_of) own) over
            (λ q apart. ap (option_map core_of) (others q apart))
            (λ q apart. ap (data_in {L = L}) (others q apart))
            (λ q listed. not_again tree i e q t lt is listed) h.sent h.made h.restarted;
        net = h.net ∙ ap (λ ys. ys ++ h.sent) here.enters.net
            ∙ append_assoc j.net here.reaction.messages h.sent;
        delivered = h.delivered ∙ ap (λ ys. ys ++ undelivered h.sent) here.enters.delivered
            ∙ append_assoc j.delivered (undelivered here.reaction.messages) (undelivered h.sent)
            ∙ ap (λ ys. j.delivered ++ ys) (sym (undelivered_more here.reaction.messages h.sent));
        entries = h.entries ∙ ap (λ ys. ys ++ h.made) here.enters.entries
            ∙ append_assoc j.entries (step_entry e.id (Restart 0) here.reaction ∷ []) h.made;
      })
    where
      over : RestartsOver tree e.id (records_read (read_log (form_by e) (bytes s))) (failures s) (core_of n)
          (data_in (lookup (processes.ghosts.eq e.id) new)) here.reaction
      over = subst (λ (o : Option (Process L)). RestartsOver tree e.id
          (records_read (read_log (form_by e) (bytes s)))
          (failures s) (core_of n) (data_in o) here.reaction) (sym own)
          (restarts_over tree e (bytes s) (forced s) (failures s) (core_of n) (data_of n) here.reaction
          (place_at tree i e t lt is) here.reopens)

  -- it restarted, and one after it did not
  pub not_restarted_from : (items behind : List L) (s : L) (why : TreeReopenError) → IsTree tree
      → items ≡ behind ++ s ∷ []
      → AreNotRestarted bytes failures tree (drop (i + 1) tree) (reverse behind) why
      → AreNotRestarted bytes failures tree (drop i tree) (reverse items) why
  not_restarted_from items behind s why t taken h =
      rw (drop_at tree i e lt is, taken, from_end behind s)
      (not_restarted_later bytes failures tree e (drop (i + 1) tree) s (reverse behind) why
      (λ q listed. not_again tree i e q t lt is listed) h)

  pub given_from : (items behind left all : List L) (s l : L) (n : Process L) (j k : JournalState)
      (why : TreeReopenError)
      → items ≡ behind ++ s ∷ [] → all ≡ left ++ l ∷ []
      → RestartsIn bytes forced failures tree e s (core_of n) (data_of n) j k
      → HoldsLog bytes forced failures (core_of n) l
      → AreGivenBack bytes forced failures (drop (i + 1) tree) (reverse behind) (reverse left) why
      → AreGivenBack bytes forced failures (drop i tree) (reverse items) (reverse all) why
  given_from items behind left all s l n j k why taken put here stands h =
      rw (drop_at tree i e lt is, taken, put, from_end behind s, from_end left l) (
        given_by bytes forced failures tree e s l why
            (restarted_holds bytes forced failures tree e s l (core_of n) (data_of n) here.reaction
            here.reopens stands),
        h,
      )
