-- The next node finds what the one before it kept of its log.
use Rattle.std.proofs.Common.{◌≡◌, ◌≤◌, ◌+◌, ◌-◌, ◌∙◌, ◌⊎◌, ℕ, Bool, true, false, List, [], ◌∷◌, ◌++◌, length, take, drop, map, inl, inr, Option, Some, None, refl, sym, ap, subst, arith, length-append, take-append-drop}
use Rattle.std.specs.Prelude.{is_some}
use Rattle.std.specs.List.{AllByRecursion, concat}
use Rattle.std.proofs.lemmas.List.{length-take-le, map-append, take_all}
use Rattle.protocol.specs.declared.names.Kind.{Kind}
use Rattle.protocol.specs.declared.names.Kind.TheVariants.{Coordinator, Manager}
use Rattle.protocol.specs.declared.names.ProcessId.{ProcessId}
use Rattle.protocol.specs.declared.records.LogRecord.{LogRecord}
use Rattle.protocol.specs.declared.trees.TreeProcess.{TreeProcess}
use Rattle.protocol.specs.LogNames.{in_log, parent_of}
use Rattle.protocol.specs.Nodes.{AtLeaf, AtRoot, Below, IsCoordinator, Node, Place, Role, is_listed, kept, place_of, role_of}
use Rattle.protocol.specs.Trees.{IsTree}
use Rattle.protocol.specs.World.{Made, World}
use Rattle.log_text.specs.declared.form.LogForm.{LogForm}
use Rattle.log_text.specs.declared.form.LogFormat.TheVariants.{Second}
use Rattle.log_text.specs.Forms.{header}
use Rattle.log_rules.specs.order.Logs.{Whole, read_frames, read_log}
use Rattle.log_rules.specs.order.Orders.{nothing_seen}
use Rattle.log_rules.specs.sound.Sound.{IsSound}
use Rattle.log_records.specs.Sights.{LogSight, body, kept_of, left_by, log_state, records_of}
use Rattle.log_records.specs.Texts.{records_in}
use Rattle.log_records.proofs.Carrying.{behind_header}
use Rattle.log_records.proofs.Frames.{front_of}
use Rattle.log_records.proofs.Restarting.{front_begins}
use Rattle.log_records.proofs.Turns.{records_stand}
use Rattle.log_records.proofs.Within.{left_records}
use Rattle.log_records.proofs.Written.{body_taken}
use Rattle.proof_log_grammar.specs.Grammar.{MayFollowInLog, admitted}
use Rattle.kv_state.specs.Replays.{seen_of}
use Rattle.process_state.specs.States.{CoreState, form_of, kind_of_role}
use Rattle.tree_state.specs.Worlds.{WorldState}
use Rattle.proof_runs.specs.worlds.Follows.{FollowsBehindFaults, StandsAt}
use Rattle.tree_process.specs.Nodes.{FollowAt}
use Rattle.proof_log_order.specs.Orders.{CanStand, log_of}
use Rattle.proof_log_order.proofs.LogsRead.{follow_so, ordered_so}
use Rattle.file_blocks.proofs.Kept.{kept as file_kept}
use Rattle.log_file.specs.declared.store.FileStore.{FileStore}
use Rattle.proof_nodes.specs.Files.{FindsLog, KeepsFile, LeavesFile, StoresLeaveFiles}
use Rattle.proof_nodes.proofs.Fronts.{admitted_front, front_is_read}

-- a store's file is such a file
pub stores_leave : {F : Type 0} (s : FileStore F) → StoresLeaveFiles s
stores_leave s c first others holds is_log on_disk told short = record {
  failures = s.failures;
  log = holds;
  is_log = is_log;
  safe = on_disk.safe;
  told = told;
  short = short;
}

-- Order.

-- the records that a process keeps are those of the model's process, under their whole names
pub logged_are : (s : WorldState) (w : World) (q : ProcessId) (c : CoreState) → StandsAt w s q c
    → records_of c.log.kept ≡ log_of s.tree w q
logged_are s w q c h =
    let p = parent_of c.place.role in
    let n = w.at q in
    ap (λ (ls : List LogRecord). ls ++ c.log.kept.unforced) h.stands.forced
    ∙ ap (λ (ls : List LogRecord). map (in_log p) n.forced ++ ls) h.stands.unforced
    ∙ sym (map-append (in_log p) n.forced n.unforced)
    ∙ ap (λ (x : Place). map (in_log (parent_of x.role)) (kept n)) h.place

module _ (s : WorldState) (es : List Made) (w : World) (is_tree : IsTree s.tree)
    (f : FollowsBehindFaults es w s)
    (q : ProcessId) (c : CoreState) (there : s.node_at q ≡ Some c) where
  at : StandsAt w s q c
  at = let h = f.follows.nodes q c there in record { place = h.place; stands = h.stands }

  listed : is_listed s.tree q ≡ true
  listed = sym (f.follows.listed q) ∙ ap is_some there

  -- a coordinator's records may follow one another
  coordinators_follow : IsCoordinator (role_of s.tree q) → kind_of_role (role_of s.tree q) ≡ Coordinator
      → AllByRecursion (IsSound (kind_of_role c.place.role)) (records_of c.log.kept)
      → is_some (seen_of (records_of c.log.kept)) ≡ true
  coordinators_follow i kind sound =
      let is = logged_are s w q c at in
      let can : CanStand (log_of s.tree w q) =
      subst (λ (ls : List LogRecord). AllByRecursion (IsSound Coordinator) ls) is
      (subst (λ (k : Kind). AllByRecursion (IsSound k) (records_of c.log.kept))
      (ap (λ (x : Place). kind_of_role x.role) at.place ∙ kind) sound) in
      ap (λ (ls : List LogRecord). is_some (seen_of ls)) is
      ∙ ordered_so s.tree es w is_tree f.follows.is_run q listed i can

  by_role : (r : Role) → role_of s.tree q ≡ r → FollowAt r (records_of c.log.kept)
      → AllByRecursion (IsSound (kind_of_role c.place.role)) (records_of c.log.kept)
      → is_some (seen_of (records_of c.log.kept)) ≡ true
  by_role AtRoot e follow sound = coordinators_follow (subst IsCoordinator (sym e) tt)
      (ap kind_of_role e) sound
  by_role (Below p) e follow sound = coordinators_follow (subst IsCoordinator (sym e) tt)
      (ap kind_of_role e) sound
  by_role (AtLeaf p) e follow sound = follow

-- What was found.

module _ (c : CoreState) (bytes : List ℕ) (h : FindsLog c bytes) where
  abbrev l : LeavesFile c h.text h.forced h.number h.first h.others
  l = h.leaves

  abbrev p : LogForm
  p = form_of c.place

  -- how many bytes were found after those that were forced
  abbrev keep : ℕ
  keep = length bytes - h.forced

  -- what was found is a front of what stood in the store, with all that was forced
  is_front : bytes ≡ take (h.forced + keep) h.text
  is_front = by_case ((file_kept h.number h.first h.others (drop h.forced h.text) h.file l.told
      l.short h.left).1
      h.read_as bytes h.read_told h.held)
    where
      by_case : (bytes ≡ concat (h.first ∷ h.others))
          ⊎ (bytes ≡ concat (h.first ∷ h.others) ++ drop h.forced h.text)
          → bytes ≡ take (h.forced + keep) h.text
      by_case (inl e) =
          let is : bytes ≡ take h.forced h.text = e ∙ l.safe in
          let size : length bytes ≡ h.forced = ap length is ∙ length-take-le h.forced h.text l.is_log.within
          in
          let none : h.forced ≡ h.forced + keep = omega (arith, size) in
          is ∙ ap (λ (n : ℕ). take n h.text) none
      by_case (inr e) =
          let is : bytes ≡ h.text = e ∙ ap (λ (t : List ℕ). t ++ drop h.forced h.text) l.safe
          ∙ take-append-drop h.forced h.text in
          is ∙ sym (take_all (h.forced + keep) h.text (omega (arith, ap length is, l.is_log.within)))

  abbrev n : ℕ
  n = h.forced + keep - 5

  long : 5 ≤ h.forced + keep
  long = omega (arith, l.is_log.header_forced)

  found_body : body bytes ≡ take n (body h.text)
  found_body = ap body is_front ∙ body_taken (h.forced + keep) h.text long

  pub begins : take 5 bytes ≡ header Second
  begins = ap (take 5) is_front ∙ front_begins (h.forced + keep) h.text (header Second) long l.is_log.begins

  -- its records are those that the process kept of its log, and that stand whole there
  records_are : records_in p 0 (take n (body h.text)) ≡ left_by c.log keep
  records_are =
      sym (ap (records_in p 0) (body_taken (h.forced + keep) h.text long))
      ∙ left_records p h.text h.forced keep l.failures 0 c.log.failed refl
      l.is_log.header_forced l.is_log.within
      ∙ ap (λ (x : LogSight). left_by x keep) l.log

  all_are : records_of c.log.kept ≡ records_in p 0 (body h.text)
  all_are = ap (λ (x : LogSight). records_of x.kept) (sym l.log) ∙ records_stand p h.text h.forced

  follow : is_some (seen_of (records_of c.log.kept)) ≡ true
      → is_some (admitted nothing_seen (records_in p 0 (take n (body h.text)))) ≡ true
  follow order =
      let all : MayFollowInLog (records_in p 0 (body h.text)) =
      subst MayFollowInLog all_are (follow_so (records_of c.log.kept) order) in
      let front = front_of p 0 n (body h.text) in
      admitted_front nothing_seen (records_in p 0 (take n (body h.text))) front.0
      (subst MayFollowInLog front.1 all)

  pub found_so : is_some (seen_of (records_of c.log.kept)) ≡ true → KeepsFile p c bytes keep
  found_so order =
      let r = front_is_read p n (body h.text) 5 nothing_seen l.is_log.whole (follow order) in
      record {
        torn = r.0;
        read = ap (read_log p) (sym (take-append-drop 5 bytes) ∙ ap (λ (t : List ℕ). t ++ body bytes) begins)
            ∙ behind_header p (body bytes)
            ∙ (ap (λ (t : List ℕ). read_frames p 5 nothing_seen 0 t) found_body ∙ r.1)
            ∙ ap (λ (ls : List LogRecord). Whole ls r.0) records_are;
      }

-- in a tree whose state stands for a run
pub finds_kept : (s : WorldState) (es : List Made) (w : World) → IsTree s.tree → FollowsBehindFaults es w s
    → (q : ProcessId) (c : CoreState) → s.node_at q ≡ Some c → (bytes : List ℕ) (h : FindsLog c bytes)
    → KeepsFile (form_of c.place) c bytes (length bytes - h.forced)
finds_kept s es w is_tree f q c there bytes h =
    let stands = h.leaves.is_log.stands in
    let place = (f.follows.nodes q c there).place in
    found_so c bytes h (by_role s es w is_tree f q c there (role_of s.tree q) refl
    (subst (λ (x : Place). FollowAt x.role (records_of c.log.kept)) place stands.follow) stands.sound)
