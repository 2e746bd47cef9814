-- Messages that are of no case of the process, on the pair.
use Rattle.std.proofs.Common.{◌≡◌, ◌∙◌, ◌⊎◌, inl, inr, Bool, true, false, ◌||◌, ◌&&◌, Option, Some, None, List, [], ◌∷◌, ◌++◌, filter, refl, sym, ap, subst, arith, if◌then◌else◌}
use Rattle.std.specs.List.{list_any, flat_map}
use Rattle.std.proofs.lemmas.List.Folds.{list_any-append}
use Rattle.protocol.specs.declared.names.Case.{Case}
use Rattle.protocol.specs.declared.names.ProcessId.{ProcessId}
use Rattle.protocol.specs.declared.names.Ticket.{Ticket}
use Rattle.protocol.specs.declared.names.Txn.{Txn}
use Rattle.protocol.specs.declared.names.Outcome.{Outcome}
use Rattle.protocol_words.specs.Variants.{AbortRecord, AbortedOutcome, CollectingRecord, CommitRecord, CommittedOutcome, PrepareRecord}
use Rattle.protocol.specs.declared.names.Presumption.{Presumption}
use Rattle.protocol.specs.declared.names.Presumption.TheVariants.{PresumeAbort, PresumeCommit}
use Rattle.protocol.specs.declared.messages.Message.{Message}
use Rattle.protocol.specs.declared.messages.Message.TheVariants.{Join, Work, Prepare, Commit, Abort, Inquire}
use Rattle.protocol.specs.declared.records.Record.{Record}
use Rattle.protocol.specs.Names.{same_case, same_ticket, same_txn, child_case, root_case, presumed}
use Rattle.protocol.specs.NameLaws.{names, same_case_tells, same_ticket_tells, same_txn_tells}
use Rattle.protocol.specs.Records.{has, has_case, in_list, named_by, named_in, cases_in}
use Rattle.protocol.specs.Nodes.{Role, Effect, no_effect, after, kept}
use Rattle.protocol.specs.Memory.{Memory, memory_of}
use Rattle.protocol.specs.CoordinatorRows.{post, tells_outcome}
use Rattle.protocol.specs.Reactions.{sends_only}
use Rattle.protocol.specs.Standings.{belongs, case_of_child, own_cases, some_case}
use Rattle.protocol.specs.Views.{IsOpenAlike}
use Rattle.proof_pairs.specs.Standing
use Rattle.proof_pairs.specs.readings.ReadingOf.{ParentHalf, Wire, wire, is_root_ticket, is_inquiry_message}
use Rattle.protocol.specs.Audits.{is_collecting_naming, is_prepare_naming, is_decision_naming}
use Rattle.proof_pairs.specs.turns.CoordinatorTurns.{IsOfNoCase, IsNotTaken, ChildSays}
use Rattle.proof_pairs.specs.turns.CoordinatorTurns
use Rattle.proof_pairs.specs.turns.LeafTurns.{Hears}
use Rattle.proof_processes.specs.WorldHolds.{Cascades, RoleHolds, is_record_of}
use Rattle.protocol.specs.Audits.{is_naming}
use Rattle.proof_processes.proofs.Deliveries.{was_sent}
use Rattle.proof_processes.proofs.RootLogs.{recorded_case}
use Rattle.proof_processes.proofs.Tests.{both, either, left, right}
use Rattle.proof_processes.proofs.Worlds.{has_other}
use Rattle.proof_steps.proofs.children.Moves.{unmoved}
use Rattle.proof_steps.proofs.parents.Known.{clash, none_passes, records_name}
use Rattle.proof_steps.proofs.parents.Memories
use Rattle.proof_steps.proofs.parents.Memories.{itself, stays}
use Rattle.proof_steps.proofs.parents.Moves
use Rattle.proof_steps.proofs.parents.OwnDecided.{told_wire}
use Rattle.proof_steps.proofs.parents.Quiet.{DoesNothing, Rests, quiet_fine, begun_silent, shown}
use Rattle.proof_steps.proofs.parents.Rested
use Rattle.proof_steps.proofs.parents.Turns.{Turn, Says, IsSeat, is_top, top, under, Fine, Fits_in, seen, remembered, half, net_part, told_outcome, reading, fine_silent}
use Rattle.proof_steps.proofs.parents.Wires
use Rattle.proof_steps.proofs.parents.Wires.{same_children}
use Rattle.proof_steps.proofs.parents.Writes.{stands_so}

in_filtered : (f : Case → Bool) (cs : List Case) (c : Case) → f c ≡ true
    → list_any (λ y. same_case y c) cs ≡ true
    → list_any (λ y. same_case y c) (filter f cs) ≡ true
in_filtered f [] c e i = absurd (cc)
in_filtered f (d ∷ cs) c e i = by_test (f d) refl (either _ _ i) (in_filtered f cs c e)
  where
    by_test : (b : Bool) → f d ≡ b → (same_case d c ≡ true) ⊎ (list_any (λ y. same_case y c) cs ≡ true)
        → (list_any (λ y. same_case y c) cs ≡ true → list_any (λ y. same_case y c) (filter f cs) ≡ true)
        → list_any (λ y. same_case y c) (if b then d ∷ filter f cs else filter f cs) ≡ true
    by_test true g (inl s) k = left _ _ s
    by_test true g (inr s) k = right _ _ (k s)
    by_test false g (inr s) k = k s
    by_test false g (inl s) k = elim (same_case_tells d c) [
      | inl z ↦ clash (f c) e (ap f (sym z.1) ∙ g)
      | inr z ↦ clash (same_case d c) s z.0
    ]

-- whom a record names is among those that the records name
in_both : (xs ys : List Ticket) (t : Ticket) → in_list (xs ++ ys) t ≡ (in_list xs t || in_list ys t)
unfolding in_list
in_both xs ys t = grind (arith, list_any-append)

named_if : (b : Bool) (ts : List Ticket) (t : Ticket) → (b && in_list ts t) ≡ true
    → in_list (if b then ts else []) t ≡ true
named_if true ts t e = e
named_if false ts t e = absurd (cc)

flat_once : (a : Bool) → (a || false) ≡ true → a ≡ true
flat_once a g = grind (arith, g)

in_record : (c : Case) (t : Ticket) (r : Record) → is_naming c t r ≡ true → in_list (named_in c r) t ≡ true
in_record c t (CollectingRecord d ts) e = named_if (same_case d c) ts t (flat_once _ (flat_once _ e))
in_record c t (PrepareRecord d ts) e = named_if (same_case d c) ts t (flat_once _ e)
in_record c t (CommitRecord d ts) e = named_if (same_case d c) ts t e
in_record c t (AbortRecord d ts) e = named_if (same_case d c) ts t e
in_record c t r e = absurd (cc)

names_record : (c : Case) (t : Ticket) (rs : List Record) → has (is_naming c t) rs ≡ true
    → in_list (named_by c rs) t ≡ true
unfolding named_by has
names_record c t [] e = absurd (cc)
names_record c t (r ∷ rs) e =
    in_both (named_in c r) (flat_map (named_in c) rs) t ∙ by_either (either _ _ e) (names_record c t rs)
  where
    by_either : (is_naming c t r ≡ true) ⊎ (has (is_naming c t) rs ≡ true)
        → (has (is_naming c t) rs ≡ true → in_list (flat_map (named_in c) rs) t ≡ true)
        → (in_list (named_in c r) t || in_list (flat_map (named_in c) rs) t) ≡ true
    by_either (inl now) k = left _ _ (in_record c t r now)
    by_either (inr rest) k = right _ _ (k rest)

turned : (a b : Txn) → same_txn a b ≡ true → same_txn b a ≡ true
turned a b q = grind (arith, names, q)

module _ (turn : Turn) where
  open turn use {place, parent, seat, n, h, net, c, t, up, inv, holds, nested, stands, rooted, by_role}

  abbrev m : Memory
  m = remembered turn

  abbrev p0 : ParentHalf
  p0 = half turn

  abbrev v0 : Wire
  v0 = net_part turn

  -- A case that has a child is looked at.

  looked_at : (r : Role) (o : Option ProcessId) → IsSeat r o → is_root_ticket c.ticket ≡ is_top r → (x : Txn)
      → same_txn x c.txn ≡ true
      → (is_top r ≡ false → list_any (λ y. same_case y c)
      (cases_in (kept n) ++ (memory_of place n (some_case place)).issued) ≡ true)
      → list_any (λ y. same_case y c) (own_cases r place n x) ≡ true
  looked_at _ _ top e x s f = left _ _ (roots_case c.ticket refl e)
    where
      roots_case : (u : Option Ticket) → c.ticket ≡ u → is_root_ticket c.ticket ≡ true
          → same_case (root_case x) c ≡ true
      roots_case None g k =
          subst (λ (o : Option Ticket). same_case (root_case x) (record { txn = c.txn; ticket = o })
          ≡ true) (sym g) (grind (arith, names, s))
      roots_case (Some u) g k = absurd (let z = sym (ap is_root_ticket g) ∙ k in cc)
  looked_at _ _ (under p) e x s f = in_filtered (λ y. same_txn y.txn x) _ c (turned x c.txn s) (f refl)

  cascades : (r : Role) (o : Option ProcessId) → IsSeat r o → is_top r ≡ false → RoleHolds r place net n
      → Cascades place net n
  cascades _ _ top e x = absurd (cc)
  cascades _ _ (under p) e x = x.1.0

  in_first_part : (xs ys : List Case) → list_any (λ y. same_case y c) xs ≡ true
      → list_any (λ y. same_case y c) (xs ++ ys) ≡ true
  in_first_part xs ys e = list_any-append _ xs ys ∙ left _ _ e

  in_second_part : (xs ys : List Case) → list_any (λ y. same_case y c) ys ≡ true
      → list_any (λ y. same_case y c) (xs ++ ys) ≡ true
  in_second_part xs ys e = list_any-append _ xs ys ∙ right _ _ e

  has_so : (cs : List Case) → has_case cs c ≡ true → list_any (λ y. same_case y c) cs ≡ true
  unfolding has_case
  has_so cs e = e

  accepted_is_looked_at : (x : Txn) (u : Ticket) → same_txn x c.txn ≡ true → in_list m.accepted u ≡ true
      → list_any (λ y. same_case y c) (own_cases place.role place n x) ≡ true
  accepted_is_looked_at x u s e =
      looked_at place.role parent seat rooted x s
      (λ below. let q = cascades place.role parent seat below by_role in
      in_second_part (cases_in (kept n)) _
      (has_so _ (q.issued c (λ idle. clash (in_list m.accepted u) e (q.idle_accepts_none c u idle)))))

  named_is_looked_at : (x : Txn) (u : Ticket) → same_txn x c.txn ≡ true → in_list (named_by c (kept n)) u
      ≡ true
      → list_any (λ y. same_case y c) (own_cases place.role place n x) ≡ true
  named_is_looked_at x u s e =
      looked_at place.role parent seat rooted x s
      (λ below. in_first_part (cases_in (kept n)) _ (has_so _
      (recorded_case c (kept n) (has_other (is_naming c u) (is_record_of c) (kept n) is_of_case
      (records_name c u (kept n) e)))))
    where
      is_of_case : (r : Record) → is_naming c u r ≡ true → is_record_of c r ≡ true
      is_of_case (CollectingRecord d ts) f = first (same_case d c) (in_list ts u) (flat _ f)
        where
          first : (a b : Bool) → (a && b) ≡ true → a ≡ true
          first true b g = refl
          first false b g = g

          flat : (a : Bool) → ((a || false) || false) ≡ true → a ≡ true
          flat a g = grind (arith, g)
      is_of_case (PrepareRecord d ts) f = first (same_case d c) (in_list ts u) (flat _ f)
        where
          first : (a b : Bool) → (a && b) ≡ true → a ≡ true
          first true b g = refl
          first false b g = g

          flat : (a : Bool) → (a || false) ≡ true → a ≡ true
          flat a g = grind (arith, g)
      is_of_case (CommitRecord d ts) f = first (same_case d c) (in_list ts u) f
        where
          first : (a b : Bool) → (a && b) ≡ true → a ≡ true
          first true b g = refl
          first false b g = g
      is_of_case (AbortRecord d ts) f = first (same_case d c) (in_list ts u) f
        where
          first : (a b : Bool) → (a && b) ≡ true → a ≡ true
          first true b g = refl
          first false b g = g
      is_of_case r f = absurd (cc)

  -- a ticket that belongs nowhere is not accepted, and not named
  not_there : (x : Txn) (u : Ticket) → case_of_child place n x u ≡ None → (b : Bool)
      → (b ≡ true → list_any (λ y. same_case y c) (own_cases place.role place n x) ≡ true)
      → (b ≡ true → belongs m (kept n) c u ≡ true) → b ≡ false
  not_there x u none false f g = refl
  not_there x u none true f g =
      clash (belongs m (kept n) c u) (g refl)
      (none_passes (λ y. belongs (memory_of place n y) (kept n) y u) (own_cases place.role place n x) c
      none (f refl))

  pub not_accepted : (x : Txn) (u : Ticket) → same_txn x c.txn ≡ true → case_of_child place n x u ≡ None
      → in_list m.accepted u ≡ false
  not_accepted x u s none = not_there x u none (in_list m.accepted u) (accepted_is_looked_at x u s)
      (λ e. left _ _ e)

  not_named : (x : Txn) (u : Ticket) → same_txn x c.txn ≡ true → case_of_child place n x u ≡ None
      → in_list (named_by c (kept n)) u ≡ false
  not_named x u s none =
      not_there x u none (in_list (named_by c (kept n)) u) (named_is_looked_at x u s) (λ e. right _ _ e)

  -- Nothing is done.

  idle_effect : DoesNothing turn no_effect
  idle_effect = record {
    accepts = refl;
    yes_votes = refl;
    no_votes = refl;
    read_votes = refl;
    committed =
        refl;
    aborted = refl;
    told = refl;
  }

  unticketed : (says : Case → Message) (x : Txn) → ChildSays says → Hears h (says (root_case x)) → Rests turn
  unticketed _ x (CoordinatorTurns.votes w) i = Rested.rest_same turn
      (Memories.unticketed_vote turn w x i.0 i.1)
  unticketed _ x (CoordinatorTurns.acknowledged o fs) i =
      Rested.rest_same turn (Memories.unticketed_ack turn o fs x i.0 i.1)
  unticketed _ x CoordinatorTurns.inquires i = Rested.rest_same turn
      (Memories.inquires turn (root_case x) i.0 i.1)

  nowhere : (says : Case → Message) (x : Txn) (u : Ticket) → ChildSays says → Hears h (says (child_case x u))
      → case_of_child place n x u ≡ None → Rests turn
  nowhere _ x u (CoordinatorTurns.votes w) i none =
      Rested.rest_vote turn w x u i.0 i.1 (λ s a. rw (not_accepted x u s none) refl)
  nowhere _ x u (CoordinatorTurns.acknowledged o fs) i none = Rested.rest_ack turn o fs x u i.0 i.1
  nowhere _ x u CoordinatorTurns.inquires i none = Rested.rest_same turn
      (Memories.inquires turn (child_case x u) i.0 i.1)

  not_taken : (msg : Message) → Hears h msg → (o : Option ProcessId) → parent ≡ o → IsNotTaken o msg
      → Rests turn
  not_taken (Work d l op) i o s e = Rested.rest_same turn (Memories.work_comes turn d i.0 l op i.1)
  not_taken (Join d) i None s e = Rested.rest_same turn (Memories.root_passes turn (Join d) i.0 s i.1 refl)
  not_taken (Prepare d l) i None s e = Rested.rest_same turn
      (Memories.root_passes turn (Prepare d l) i.0 s i.1 refl)
  not_taken (Commit d) i None s e = Rested.rest_same turn
      (Memories.root_passes turn (Commit d) i.0 s i.1 refl)
  not_taken (Abort d) i None s e = Rested.rest_same turn (Memories.root_passes turn (Abort d) i.0 s i.1 refl)
  not_taken msg i o s e = absurd e

  pub of_no_case : IsOfNoCase place parent n h → Rests turn
  of_no_case (CoordinatorTurns.unticketed says x k i) = unticketed says x k i
  of_no_case (CoordinatorTurns.belongs_nowhere says x u k i none) = nowhere says x u k i none
  of_no_case (CoordinatorTurns.not_taken msg i e) = not_taken msg i parent refl e

  pub does_nothing : IsOfNoCase place parent n h → IsOpenAlike place (after n h no_effect) c
      → Fine turn no_effect
  does_nothing i later = quiet_fine turn no_effect later idle_effect (of_no_case i)
      (simp (Wires.sent-none)) refl

  -- What is presumed is told.

  stranger : (x : Txn) → same_txn x c.txn ≡ true → case_of_child place n x t ≡ None
      → Standing.IsStranger (reading turn)
  stranger x s none = record {
    up = up;
    not_accepted = not_accepted x t s none;
    not_collected = unnamed (is_collecting_naming c t) collecting_names;
    not_named = unnamed (is_prepare_naming c t) prepare_names;
    not_owed = unnamed (is_decision_naming c t) decision_names;
  }
    where
      collecting_names : (r : Record) → is_collecting_naming c t r ≡ true → is_naming c t r ≡ true
      collecting_names (CollectingRecord d ts) f = rw f refl
      collecting_names r f = absurd (cc)

      prepare_names : (r : Record) → is_prepare_naming c t r ≡ true → is_naming c t r ≡ true
      prepare_names (PrepareRecord d ts) f = rw f refl
      prepare_names r f = absurd (cc)

      decision_names : (r : Record) → is_decision_naming c t r ≡ true → is_naming c t r ≡ true
      decision_names (CommitRecord d ts) f = f
      decision_names (AbortRecord d ts) f = f
      decision_names r f = absurd (cc)

      unnamed : (q : Record → Bool) → ((r : Record) → q r ≡ true → is_naming c t r ≡ true)
          → has q (kept n) ≡ false
      unnamed q f = by_test (has q (kept n)) refl
        where
          by_test : (b : Bool) → has q (kept n) ≡ b → has q (kept n) ≡ false
          by_test false e = e
          by_test true e = clash (in_list (named_by c (kept n)) t)
              (names_record c t (kept n) (has_other q (is_naming c t) (kept n) f e)) (not_named x t s none)

  abbrev pub told : Txn → Ticket → Effect
  told x u = sends_only (post place.me u.child (tells_outcome (presumed x.presumption) (child_case x u)) ∷ [])

  -- the net after it
  told_wire_by : (x : Txn) (u : Ticket) (o : Outcome) (b : Bool)
      → same_case (child_case x u) (child_case c.txn t) ≡ b
      → wire c t (net ++ post place.me u.child (tells_outcome o (child_case x u)) ∷ [])
      ≡ (if b then told_wire turn o else v0)
  told_wire_by x u CommittedOutcome true e = Wires.wire-commit c t net place.me u.child x u true e
  told_wire_by x u CommittedOutcome false e = Wires.wire-commit c t net place.me u.child x u false e
  told_wire_by x u AbortedOutcome true e = Wires.wire-abort c t net place.me u.child x u true e
  told_wire_by x u AbortedOutcome false e = Wires.wire-abort c t net place.me u.child x u false e

  presumed_fits : (p : Presumption) → c.txn.presumption ≡ p → v0.inquire ≡ true
      → Standing.IsStranger (reading turn)
      → Fits_in turn (seen turn (told_outcome turn) p0 (told_wire turn (presumed p)))
  presumed_fits PresumeAbort q a s =
      Moves.presumes_abort c.txn.presumption q (reading turn) inv
      (record { asked = a; nothing_known = inr s })
  presumed_fits PresumeCommit q a s =
      Moves.presumes_commit c.txn.presumption q (reading turn) inv
      (record { asked = a; nothing_known = inr s })

  pub presumes : (x : Txn) (u : Ticket) → Hears h (Inquire (child_case x u)) → case_of_child place n x u
      ≡ None
      → IsOpenAlike place (after n h (told x u)) c → Fine turn (told x u)
  presumes x u i none later = by_test (same_case (child_case x u) (child_case c.txn t)) refl
    where
      says : Says turn m.phase p0.accepted p0.acked
      says = stays turn m (Memories.inquires turn (child_case x u) i.0 i.1) (itself turn)

      sent_so : (w : Wire) → wire c t (net ++ (told x u).messages) ≡ w
          → Fits_in turn (seen turn (told_outcome turn) p0 w) → Fine turn (told x u)
      sent_so w e f =
          fine_silent turn (told x u) later m.phase p0.accepted p0.acked says w e refl
          (subst (λ (y : Bool). Fits_in turn
          (seen turn (told_outcome turn) (stands_so false m.phase p0.accepted p0.acked y p0) w))
          (sym (begun_silent turn (told x u) refl
          (record {
            accepts = refl;
            yes_votes = refl;
            no_votes = refl;
            read_votes = refl;
            committed =
                refl;
            aborted = refl;
            told = refl;
          })))
          (subst (λ (y : ParentHalf). Fits_in turn (seen turn (told_outcome turn) y w))
          (sym (shown turn p0.acked)) f))

      its : same_case (child_case x u) (child_case c.txn t) ≡ true → (same_txn x c.txn ≡ true)
          × (same_ticket u t ≡ true)
      its e = both (same_txn x c.txn) (same_ticket u t) (sym (same_children x c.txn u t) ∙ e)

      presumption_is : same_txn x c.txn ≡ true → x.presumption ≡ c.txn.presumption
      presumption_is e = elim (same_txn_tells x c.txn) [
        | inl z ↦ ap (λ (y : Txn). y.presumption) z.1
        | inr z ↦ clash (same_txn x c.txn) e z.0
      ]

      none_of_it : same_ticket u t ≡ true → case_of_child place n x t ≡ None
      none_of_it e = elim (same_ticket_tells u t) [
        | inl z ↦ subst (λ (y : Ticket). case_of_child place n x y ≡ None) z.1 none
        | inr z ↦ clash (same_ticket u t) e z.0
      ]

      by_test : (b : Bool) → same_case (child_case x u) (child_case c.txn t) ≡ b → Fine turn (told x u)
      by_test false e = sent_so v0 (told_wire_by x u (presumed x.presumption) false e)
          (unmoved c.txn.presumption (reading turn) inv)
      by_test true e =
          let f = its e in
          sent_so (told_wire turn (presumed x.presumption)) (told_wire_by x u (presumed x.presumption) true e)
          (subst (λ (p : Presumption). Fits_in turn
          (seen turn (told_outcome turn) p0 (told_wire turn (presumed p)))) (sym (presumption_is f.0))
          (presumed_fits c.txn.presumption refl
          (was_sent (is_inquiry_message (child_case c.txn t)) net place.me h.input i.0
          (Inquire (child_case x u)) stands i.1 e)
          (stranger x f.0 (none_of_it f.1))))
