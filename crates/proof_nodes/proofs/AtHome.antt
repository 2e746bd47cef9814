-- What a node finds in its own file names nobody else.
use Rattle.std.proofs.Common.{◌≡◌, ◌∙◌, ◌+◌, ◌-◌, ◌&&◌, ◌||◌, ℕ, Bool, true, false, if◌then◌else◌, is_some, nat_le, Option, Some, None, List, [], ◌∷◌, ◌++◌, find, length, map, refl, sym, ap, subst}
use Rattle.std.specs.List.{list_all, list_any}
use Rattle.protocol.specs.declared.names.Case.{Case}
use Rattle.protocol.specs.declared.names.Kind.{Kind}
use Rattle.protocol.specs.declared.names.Kind.TheVariants.{Coordinator, Manager}
use Rattle.protocol.specs.declared.names.ProcessId.{ProcessId}
use Rattle.protocol.specs.declared.names.Ticket.{Ticket}
use Rattle.protocol.specs.declared.records.LogRecord.{LogRecord}
use Rattle.protocol.specs.declared.records.Record.{Record}
use Rattle.protocol.specs.declared.records.Record.TheVariants.{Collecting, Prepare, Commit, Abort}
use Rattle.protocol.specs.declared.trees.TreeProcess.{TreeProcess}
use Rattle.protocol.specs.LogNames.{case_parent, in_log, is_own_by, is_own_record as is_own_here, is_ticketed, parent_of as parent_of_role, same_parent, ticket_parent}
use Rattle.protocol.specs.Names.{process_of, same_process}
use Rattle.protocol.specs.NameLaws.{same_case-refl, same_ticket-refl}
use Rattle.protocol.specs.Nodes.{AtLeaf, AtRoot, Below, Place, Role, is_listed, is_parent, kept, place_of, role_by, role_of}
use Rattle.protocol.specs.Outcomes.{is_joined_message, sent}
use Rattle.protocol.specs.Records.{has, in_list, record_case}
use Rattle.protocol.specs.Trees.{IsTree, parent_of, root_of}
use Rattle.protocol.specs.World.{Made, World}
use Rattle.proof_pairs.specs.turns.Written.{is_coordinators}
use Rattle.proof_processes.specs.WorldHolds.{Coordinates, IsChildRole, NodeHolds, RoleHolds, WorldHolds}
use Rattle.protocol.specs.Audits.{is_naming}
use Rattle.proof_processes.proofs.Tests.{has-cons, left, right}
use Rattle.proof_processes.proofs.Worlds.{all_last}
use Rattle.proof_headline.proofs.Pairs.{joined_pair}
use Rattle.proof_headline.proofs.runs.Headline.{the_world_holds}
use Rattle.log_text.specs.declared.form.LogForm.{LogForm}
use Rattle.log_rules.specs.order.Logs.{Whole, read_log}
use Rattle.log_records.specs.Sights.{LogSight, left_by, record_size, records_of, whole_within}
use Rattle.process_state.specs.States.{CoreState, form_of}
use Rattle.tree_state.specs.Worlds.{WorldState}
use Rattle.proof_runs.specs.worlds.Follows.{FollowsBehindFaults}
use Rattle.proof_runs.proofs.worlds.Kept.{keeps_own}
use Rattle.coord_records.specs.Readings.{place_below, role_below}
use Rattle.proof_log_order.specs.Orders.{log_of}
use Rattle.tree_process.specs.Reopenings.{form_by}
use Rattle.node_engine.specs.Starts.{NamesOthers, is_of_child, is_own_record, names_children, owns}
use Rattle.proof_nodes.specs.Files.{FindsLog}
use Rattle.proof_nodes.specs.Nodes.{OwnFilesAreAtHome}
use Rattle.proof_nodes.proofs.Files.{form_is}
use Rattle.proof_nodes.proofs.Finding.{finds_kept, logged_are}
use Rattle.proof_nodes.proofs.Repeats.{no_decision}
use Rattle.proof_nodes.proofs.Speakers.{has_parent}
use Rattle.proof_nodes.proofs.Starts.{listed_place, listed_role}

-- Lists.

all_two : (a b : Bool) → a ≡ true → b ≡ true → (a && b) ≡ true
all_two a b h k = rw (h, k) refl

first_of : (a b : Bool) → (a && b) ≡ true → a ≡ true
first_of true b h = refl
first_of false b h = absurd (cc)

second_of : (a b : Bool) → (a && b) ≡ true → b ≡ true
second_of true b h = h
second_of false b h = absurd (cc)

-- each ticket of a list passes a test that each ticket passes which is in the list
all_tickets : (f : Ticket → Bool) (ts : List Ticket) → ((t : Ticket) → in_list ts t ≡ true → f t ≡ true)
    → list_all f ts ≡ true
unfolding in_list
all_tickets f [] each = refl
all_tickets f (t ∷ ts) each =
    all_two (f t) (list_all f ts) (each t (left _ _ (same_ticket-refl t)))
    (all_tickets f ts (λ u h. each u (right _ _ h)))

-- each record of a list passes a test that each record passes which is in the list
all_records : (f : Record → Bool) (rs : List Record)
    → ((r : Record) → ((t : Record → Bool) → t r ≡ true → has t rs ≡ true) → f r ≡ true)
    → list_all f rs ≡ true
all_records f [] each = refl
all_records f (r ∷ rs) each =
    all_two (f r) (list_all f rs) (each r (λ t h. has-cons t r rs ∙ left _ _ h))
    (all_records f rs (λ x among. each x (λ t h. has-cons t r rs ∙ right _ _ (among t h))))

all_front : (f : LogRecord → Bool) (n : ℕ) (ls : List LogRecord) → list_all f ls ≡ true
    → list_all f (whole_within n ls) ≡ true
unfolding whole_within
all_front f n [] h = refl
all_front f n (l ∷ ls) h =
    by_size (nat_le (record_size l) n) (all_front f (n - record_size l) ls
    (second_of (f l) (list_all f ls) h))
  where
    by_size : (b : Bool) → list_all f (whole_within (n - record_size l) ls) ≡ true
        → list_all f (if b then l ∷ whole_within (n - record_size l) ls else []) ≡ true
    by_size true rest = all_two (f l) _ (first_of (f l) (list_all f ls) h) rest
    by_size false rest = refl

all_both : (f : LogRecord → Bool) (ls ms : List LogRecord) → list_all f ls ≡ true → list_all f ms ≡ true
    → list_all f (ls ++ ms) ≡ true
all_both f [] ms h k = k
all_both f (l ∷ ls) ms h k =
    all_two (f l) _ (first_of (f l) (list_all f ls) h)
    (all_both f ls ms (second_of (f l) (list_all f ls) h) k)

all_of_first : (f : LogRecord → Bool) (ls ms : List LogRecord) → list_all f (ls ++ ms) ≡ true
    → list_all f ls ≡ true
all_of_first f [] ms h = refl
all_of_first f (l ∷ ls) ms h =
    all_two (f l) _ (first_of (f l) (list_all f (ls ++ ms)) h)
    (all_of_first f ls ms (second_of (f l) (list_all f (ls ++ ms)) h))

all_of_second : (f : LogRecord → Bool) (ls ms : List LogRecord) → list_all f (ls ++ ms) ≡ true
    → list_all f ms ≡ true
all_of_second f [] ms h = h
all_of_second f (l ∷ ls) ms h = all_of_second f ls ms (second_of (f l) (list_all f (ls ++ ms)) h)

-- what a crash leaves of a log passes what all of it passes
all_left : (f : LogRecord → Bool) (l : LogSight) (keep : ℕ) → list_all f (records_of l.kept) ≡ true
    → list_all f (left_by l keep) ≡ true
all_left f l keep h =
    all_both f l.kept.forced _ (all_of_first f l.kept.forced l.kept.unforced h)
    (all_front f (l.behind + keep) l.kept.unforced (all_of_second f l.kept.forced l.kept.unforced h))

-- as the log holds them
all_logged : (f : LogRecord → Bool) (g k : Record → Bool) (p : Option ProcessId) (rs : List Record)
    → ((r : Record) → g r ≡ true → k r ≡ true → f (in_log p r) ≡ true) → list_all g rs ≡ true
    → list_all k rs ≡ true
    → list_all f (map (in_log p) rs) ≡ true
all_logged f g k p [] each h j = refl
all_logged f g k p (r ∷ rs) each h j =
    all_two (f (in_log p r)) _ (each r (first_of (g r) (list_all g rs) h) (first_of (k r) (list_all k rs) j))
    (all_logged f g k p rs each (second_of (g r) (list_all g rs) h) (second_of (k r) (list_all k rs) j))

-- Whose a record is.

-- a case that is the process's own is so as a start looks at it
ticket_so : (k : Kind) (o : Option ProcessId) (a b : Bool) (t : Option Ticket)
    → (a && (b && (is_ticketed (role_by k o) t && same_parent (parent_of_role (role_by k o))
    (parent_of_role (role_by k o))))) ≡ true
    → (a && (b && (is_ticketed (role_below o) t
    && same_parent (ticket_parent (parent_of_role (role_by k o)) t) (parent_of_role (role_below o))))) ≡ true
ticket_so Coordinator None a b None h = h
ticket_so Coordinator None a b (Some t) h = h
ticket_so Coordinator (Some p) a b None h = h
ticket_so Coordinator (Some p) a b (Some t) h = h
ticket_so Manager None a b None h = h
ticket_so Manager None a b (Some t) h = h
ticket_so Manager (Some p) a b None h = h
ticket_so Manager (Some p) a b (Some t) h = h

module _ (tree : List TreeProcess) (e : TreeProcess) where
  abbrev seat : Place
  seat = record { me = e.id; role = role_by e.kind e.parent; tree = tree }

  abbrev above : Option ProcessId
  above = parent_of_role (role_by e.kind e.parent)

  owns_so : (o : Option Case) → is_own_by seat o ≡ true
      → owns e.id e.parent tree (case_parent above o) o ≡ true
  owns_so None h = refl
  owns_so (Some d) h =
      ticket_so e.kind e.parent (same_process d.txn.root (root_of tree))
      (same_process (process_of d) e.id) d.ticket h

  own_so : (r : Record) → is_own_here seat r ≡ true → names_children tree e.id r ≡ true
      → is_own_record e.id e.parent tree (in_log above r) ≡ true
  own_so r h k = all_two _ (names_children tree e.id r) (owns_so (record_case r) h) k

-- Whom records name.

naming_so : (d : Case) (t : Ticket) (ts : List Ticket) → in_list ts t ≡ true
    → (is_naming d t (Collecting d ts) ≡ true) × ((is_naming d t (Prepare d ts) ≡ true)
    × ((is_naming d t (Commit d ts) ≡ true) × (is_naming d t (Abort d ts) ≡ true)))
naming_so d t ts h = (
  rw (same_case-refl d, h) refl,
  (rw (same_case-refl d, h) refl, (rw (same_case-refl d, h) refl, rw (same_case-refl d, h) refl)),
)

naming_is_coordinators : (c : Case) (t : Ticket) (r : Record) → is_naming c t r ≡ true
    → is_coordinators r ≡ true
naming_is_coordinators c t (Collecting d ts) e = refl
naming_is_coordinators c t (Prepare d ts) e = refl
naming_is_coordinators c t (Commit d ts) e = refl
naming_is_coordinators c t (Abort d ts) e = refl
naming_is_coordinators c t r e = absurd (cc)

module _ (s : WorldState) (es : List Made) (w : World) (is_tree : IsTree s.tree)
    (f : FollowsBehindFaults es w s)
    (q : ProcessId) (c : CoreState) (there : s.node_at q ≡ Some c) where
  holds : WorldHolds s.tree w
  holds = the_world_holds s.tree is_tree es w f.follows.is_run

  listed : is_listed s.tree q ≡ true
  listed = sym (f.follows.listed q) ∙ ap is_some there

  was_written : (d : Case) (t : Ticket) → has (is_naming d t) (kept (w.at q)) ≡ true
      → has (is_naming d t) (w.at q).life ≡ true
  was_written d t h =
      (all_last s.tree es w f.follows.is_run q).nested.kept_was_written (is_naming d t) (λ k. refl) h

  -- who is named joined
  joined_by : Coordinates (place_of s.tree q) w.net (w.at q) → (d : Case) (t : Ticket)
      → has (is_naming d t) (kept (w.at q)) ≡ true → is_of_child s.tree q t ≡ true
  joined_by k d t h =
      let j = k.accepted_was_joined d t (k.named_accepted d t (was_written d t h)) in
      let pair = (joined_pair s.tree w holds d t j.1).0 in
      has_parent s.tree t.child q (subst (λ (p : ProcessId). IsChildRole (role_of s.tree t.child) p) j.0
      pair.child)

  named : (r : Role) → role_of s.tree q ≡ r → (d : Case) (t : Ticket)
      → has (is_naming d t) (kept (w.at q)) ≡ true → is_of_child s.tree q t ≡ true
  named AtRoot e d t h =
      joined_by (subst (λ (x : Role). RoleHolds x (place_of s.tree q) w.net (w.at q)) e
      (holds.nodes q listed).role).0 d t h
  named (Below p) e d t h =
      joined_by (subst (λ (x : Role). RoleHolds x (place_of s.tree q) w.net (w.at q)) e
      (holds.nodes q listed).role).0 d t h
  named (AtLeaf p) e d t h =
      absurd (no_decision s.tree es w f.follows.is_run q p e (is_naming d t) (λ j. refl)
      (naming_is_coordinators d t) h)

  children_so : (r : Record) → ((t : Record → Bool) → t r ≡ true → has t (kept (w.at q)) ≡ true)
      → names_children s.tree q r ≡ true
  children_so (Collecting d ts) among = all_tickets (is_of_child s.tree q) ts
      (λ t h. named (role_of s.tree q) refl d t (among (is_naming d t) (naming_so d t ts h).0))
  children_so (Prepare d ts) among = all_tickets (is_of_child s.tree q) ts
      (λ t h. named (role_of s.tree q) refl d t (among (is_naming d t) (naming_so d t ts h).1.0))
  children_so (Commit d ts) among = all_tickets (is_of_child s.tree q) ts
      (λ t h. named (role_of s.tree q) refl d t (among (is_naming d t) (naming_so d t ts h).1.1.0))
  children_so (Abort d ts) among = all_tickets (is_of_child s.tree q) ts
      (λ t h. named (role_of s.tree q) refl d t (among (is_naming d t) (naming_so d t ts h).1.1.1))
  children_so r among = refl

  all_children : list_all (names_children s.tree q) (kept (w.at q)) ≡ true
  all_children = all_records (names_children s.tree q) (kept (w.at q)) children_so

-- What was found.

module _ (s : WorldState) (es : List Made) (w : World) (is_tree : IsTree s.tree)
    (f : FollowsBehindFaults es w s)
    (e : TreeProcess) (listed : find (λ x. same_process x.id e.id) s.tree ≡ Some e) (c : CoreState)
    (there : s.node_at e.id ≡ Some c) where
  abbrev test : LogRecord → Bool
  test = is_own_record e.id e.parent s.tree

  own_here : list_all (is_own_here (seat s.tree e)) (kept (w.at e.id)) ≡ true
  own_here = subst (λ (p : Place). list_all (is_own_here p) (kept (w.at e.id)) ≡ true)
      (listed_place s.tree e listed)
      (keeps_own s.tree es w is_tree f.follows.is_run e.id (sym (f.follows.listed e.id) ∙ ap is_some there))

  all_own : list_all (is_own_record e.id e.parent s.tree) (records_of c.log.kept) ≡ true
  all_own =
      let h = f.follows.nodes e.id c there in
      let is : records_of c.log.kept ≡ map (in_log (above s.tree e)) (kept (w.at e.id)) =
      logged_are s w e.id c (record { place = h.place; stands = h.stands })
      ∙ ap (λ (r : Role). map (in_log (parent_of_role r)) (kept (w.at e.id)))
      (listed_role s.tree e.id e listed) in
      ap (list_all test) is
      ∙ all_logged test (is_own_here (seat s.tree e)) (names_children s.tree e.id) (above s.tree e)
      (kept (w.at e.id))
      (own_so s.tree e) own_here (all_children s es w is_tree f e.id c there)

  at_home : (bytes : List ℕ) → FindsLog c bytes → NamesOthers s.tree e bytes → ⊥
  at_home bytes h others =
      let keep = length bytes - h.forced in
      let keeps = finds_kept s es w is_tree f e.id c there bytes h in
      let read : read_log (form_by e) bytes ≡ Whole (left_by c.log keep) keeps.torn =
      subst (λ (p : LogForm). read_log p bytes ≡ Whole (left_by c.log keep) keeps.torn)
      (form_is s es w f e listed c there) keeps.read in
      let are : records_of others.log.sight.kept ≡ left_by c.log keep =
      same_records _ _ others.opens.torn keeps.torn (sym others.opens.read ∙ read) in
      let clash : true ≡ false =
      sym (ap (list_all test) are ∙ all_left test c.log keep all_own) ∙ others.others in
      cc
    where
      same_records : (a b : List LogRecord) (m n : ℕ) → Whole a m ≡ Whole b n → a ≡ b
      same_records a b m n e = cc

pub own_files_are_at_home : OwnFilesAreAtHome
own_files_are_at_home s es w is_tree f e listed c there bytes h others =
    at_home s es w is_tree f e listed c there bytes h others
