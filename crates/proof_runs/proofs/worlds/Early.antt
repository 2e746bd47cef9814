-- At a coordinator below the root no acknowledgement of a promised child was noted before the parent
-- decided: it is passed over.
use Rattle.std.proofs.Common.{◌≡◌, ◌∙◌, inl, inr, ◌||◌, ◌&&◌, ℕ, Bool, true, false, if◌then◌else◌, Option, None, Some, List, [], ◌∷◌, ◌++◌, refl, sym, ap, subst, arith}
use Rattle.std.proofs.lemmas.List.{append-nil}
use Rattle.std.proofs.lemmas.List.Folds.{list_any-append}
use Rattle.protocol.specs.declared.names.Case.{Case}
use Rattle.protocol.specs.declared.names.Outcome.{Outcome}
use Rattle.protocol.specs.declared.names.ProcessId.{ProcessId}
use Rattle.protocol.specs.declared.names.Ticket.{Ticket}
use Rattle.protocol.specs.declared.names.Txn.{Txn}
use Rattle.protocol.specs.declared.messages.Message.TheVariants.{Ack}
use Rattle.protocol.specs.declared.messages.Envelope.{Envelope}
use Rattle.protocol_words.specs.Variants.{MessageInput, PrepareRecord}
use Rattle.protocol.specs.declared.records.Record.{Record}
use Rattle.protocol.specs.declared.records.Record.TheVariants.{Opened}
use Rattle.protocol.specs.declared.standings.Standing.{Standing}
use Rattle.protocol_words.specs.standing
use Rattle.protocol.specs.declared.trees.TreeProcess.{TreeProcess}
use Rattle.protocol.specs.Names.{child_case, same_case, same_outcome, same_ticket, same_txn}
use Rattle.protocol.specs.Records.{boot_of, has, has_case, in_list, is_abort, is_commit, is_end, is_prepare, named_by, named_in, promised_by, promised_in, record_case}
use Rattle.protocol.specs.Restarts.{case_stays, is_known, restarted, staying, trimmed, trims}
use Rattle.protocol.specs.Nodes.{Below, AtRoot, Effect, Heard, Node, Place, after, entries_written, kept, opened_node}
use Rattle.protocol.specs.Memory.{Asked, Memory, has_acked, memory_of}
use Rattle.protocol.specs.Standings.{belongs, case_of_child, coordinator_view, own_cases, standing_by}
use Rattle.protocol.specs.Reactions.{Does, is_passed_over, reacts}
use Rattle.proof_model.proofs.AckLaws.{has_acked-push}
use Rattle.protocol.proofs.ListLaws.{kept-after, memory_of-after}
use Rattle.protocol.proofs.NameTests.{ticket_tells, txn_tells}
use Rattle.proof_model.proofs.PhaseLaws.{asked_quiet}
use Rattle.protocol.specs.Audits.{is_prepare_naming, is_promise}
use Rattle.proof_pairs.specs.turns.Steps.{TurnOf}
use Rattle.proof_pairs.proofs.turns.CoordinatorReactions.{coordinator_turn_of}
use Rattle.proof_pairs.proofs.turns.Steps.{turn_of}
use Rattle.proof_processes.specs.WorldHolds.{JoinedOnce, NodeHolds, is_of, is_record_of}
use Rattle.proof_processes.proofs.Boots.{boot_append, others_boot, trims_memory, turn_none}
use Rattle.proof_processes.proofs.Cases.{viewed}
use Rattle.proof_processes.proofs.RootLogs.{known_stays}
use Rattle.proof_processes.proofs.RowPromises.{effect_promises}
use Rattle.proof_processes.proofs.Tests.{case_is, either, first_false, has-append, has-cons, has-nil, in_either, left, not_both, right}
use Rattle.proof_processes.proofs.Trims.{trim_left}
use Rattle.proof_processes.proofs.Worlds.{has_other}
use Rattle.tree_state.specs.StandsFor.{ChildrenFit}
use Rattle.proof_runs.proofs.CascadeQuiet.{cascaded_place, cascaded_quiet}
use Rattle.proof_runs.proofs.Children.{found_case}
use Rattle.proof_runs.proofs.worlds.Acks.{AcksMove, acks_move, keeps, notes, starts}
use Rattle.proof_runs.proofs.worlds.Cascades.{cascade_children, coordinates}
use Rattle.protocol.specs.declared.messages.Finding.{Finding}

-- Whom a Prepare record names.

in_both : (xs ys : List Ticket) (t : Ticket) → in_list (xs ++ ys) t ≡ (in_list xs t || in_list ys t)
unfolding in_list
in_both xs ys t = list_any-append _ xs ys

in_none : (t : Ticket) → in_list [] t ≡ false
unfolding in_list
in_none t = refl

if_in : (b : Bool) (ts : List Ticket) (t : Ticket) → in_list (if b then ts else []) t ≡ (b && in_list ts t)
if_in true ts t = refl
if_in false ts t = in_none t

module _ (c : Case) (t : Ticket) where
  promised_one : (r : Record) → in_list (promised_in c r) t ≡ is_prepare_naming c t r
  promised_one (PrepareRecord d ts) = if_in (same_case d c) ts t
  promised_one r = in_none t

  pub promised_so : (rs : List Record) → in_list (promised_by c rs) t ≡ has (is_prepare_naming c t) rs
  unfolding promised_by has
  promised_so [] = in_none t
  promised_so (r ∷ rs) = in_both (promised_in c r) (promised_by c rs) t
      ∙ (λ i. promised_one r i || promised_so rs i)

  named_one : (r : Record) → is_prepare_naming c t r ≡ true → in_list (named_in c r) t ≡ true
  named_one (PrepareRecord d ts) e = if_in (same_case d c) ts t ∙ e
  named_one r e = absurd (cc)

  pub prepared_named : (rs : List Record) → has (is_prepare_naming c t) rs ≡ true
      → in_list (named_by c rs) t ≡ true
  unfolding named_by has
  prepared_named [] e = absurd (cc)
  prepared_named (r ∷ rs) e = in_both (named_in c r) (named_by c rs) t
      ∙ elim (either (is_prepare_naming c t r) (has (is_prepare_naming c t) rs) e) [
        | inl now ↦ left _ _ (named_one r now)
        | inr rest ↦ right _ _ (prepared_named rs rest)
      ]

  pub naming_prepares : (r : Record) → is_prepare_naming c t r ≡ true → is_prepare c r ≡ true
  naming_prepares (PrepareRecord d ts) e = first_true (same_case d c) (in_list ts t) e
    where
      first_true : (a b : Bool) → (a && b) ≡ true → a ≡ true
      first_true true b e = refl
      first_true false b e = e
  naming_prepares r e = absurd (cc)

  naming_promises : (r : Record) → is_prepare_naming c t r ≡ true → is_promise c r ≡ true
  naming_promises r e = right _ _ (naming_prepares r e)

-- A case that is not decided.

pub record Undecided (c : Case) (rs : List Record) : Type 0 where
  pub no_end : has (is_end c) rs ≡ false
  pub no_commit : has (is_commit c) rs ≡ false
  pub no_abort : has (is_abort c) rs ≡ false

pub prepared_undecided : (E C A P K N : Bool) (hs : Standing) → (hs ≡ standing.Prepared → ⊥)
    → standing_by E C A P K N hs ≡ standing.Prepared
    → (E ≡ false) × (C ≡ false) × (A ≡ false)
prepared_undecided true C A P K N hs d e = absurd (cc)
prepared_undecided false true A P K true hs d e = absurd (cc)
prepared_undecided false true A P K false hs d e = absurd (cc)
prepared_undecided false false true P K true hs d e = absurd (cc)
prepared_undecided false false true P K false hs d e = absurd (cc)
prepared_undecided false false false true K N hs d e = (refl, refl, refl)
prepared_undecided false false false false true N hs d e = absurd (cc)
prepared_undecided false false false false false N hs d e = absurd (d e)

none_acked : (o : Outcome) (t : Ticket) → has_acked [] o t ≡ false
unfolding has_acked
none_acked o t = refl

module _ (me p : ProcessId) (tree : List TreeProcess) where
  abbrev pub place : Place
  place = cascaded_place me p tree

  -- no acknowledgement of a child that an undecided promise names was noted
  abbrev pub NoneEarly : Node → Type 0
  NoneEarly n =
      (c : Case) (t : Ticket) (o : Outcome) → has (is_prepare_naming c t) (kept n)
      ≡ true → Undecided c (kept n)
      → has_acked (memory_of (cascaded_place me p tree) n c).acks o t ≡ false

  module _ (net : List Envelope) (n : Node) (holds : NodeHolds (cascaded_place me p tree)
      net n) (once : JoinedOnce net)
      (up : n.failed ≡ false)
      (old : NoneEarly n) where
    fit : ChildrenFit (cascaded_place me p tree) n
    fit = cascade_children me p tree net n holds up once

    abbrev memory : Case → Memory
    memory c = memory_of place n c

    -- such a case is Prepared
    is_prepared : (c : Case) (t : Ticket) → has (is_prepare_naming c t) (kept n) ≡ true → Undecided c (kept n)
        → (coordinator_view place n c).standing ≡ standing.Prepared
    is_prepared c t named undecided =
        let prepared : has (is_prepare c) (kept n) ≡ true =
        has_other (is_prepare_naming c t) (is_prepare c) (kept n) (naming_prepares c t) named in
        viewed place n c ∙ rw (undecided.no_end, undecided.no_commit, undecided.no_abort, prepared) refl

    -- an acknowledgement of the child is passed over
    early : (c : Case) (t : Ticket) (o : Outcome) (fs : List Finding) (j : ℕ) (x : Txn)
        → has (is_prepare_naming c t) (kept n) ≡ true
        → Undecided c (kept n)
        → same_txn x c.txn ≡ true → is_passed_over place n (MessageInput j (Ack (child_case x t) o fs)) ≡ true
    early c t o fs j x named undecided of =
        let stands = is_prepared c t named undecided in
        let one : x ≡ c.txn = (txn_tells x c.txn).0 of in
        let listed : has_case (own_cases (Below p) place n x) c ≡ true =
        ap (λ y. has_case (own_cases (Below p) place n y) c) one ∙ fit.listed c (ap is_known stands) in
        let its : belongs (memory c) (kept n) c t ≡ true =
        right (in_list (memory c).accepted t) _ (prepared_named c t (kept n) named) in
        let found : case_of_child place n x t ≡ Some c = found_case place n fit x t c listed its in
        rw (found, stands, up) refl

    module _ (h : Heard) (e : Effect) (heard : is_passed_over (cascaded_place me p tree) n h.input ≡ false)
        (does : reacts (cascaded_place me p tree) n h ≡ Does e) where
      abbrev new : List Record
      new = entries_written e.written

      turn : TurnOf place n h e
      turn = turn_of place n h e does

      same_boot : boot_of (kept n ++ new) ≡ boot_of (kept n)
      same_boot =
          boot_append (kept n) new ∙ others_boot (boot_of (kept n)) new
          (turn_none (Below p) place n h e turn.turn)

      not_early : {A : Type 0} (c : Case) (t : Ticket) (o : Outcome) (fs : List Finding) (j : ℕ)
          (x : Txn) (u : Ticket)
          → h.input ≡ MessageInput j (Ack (child_case x u) o fs)
          → same_txn x c.txn ≡ true → has (is_prepare_naming c t) (kept n) ≡ true
          → Undecided c (kept n) → u ≡ t → A
      not_early c t o fs j x u is of named undecided same =
          let over : is_passed_over place n h.input ≡ true =
          ap (is_passed_over place n) (is ∙ ap (λ v. MessageInput j (Ack (child_case x v) o fs)) same)
          ∙ early c t o fs j x named undecided of in
          absurd (let clash : true ≡ false = sym over ∙ heard in cc)

      not_acked : (a b x y : Bool) → a ≡ (b || (x && y)) → b ≡ false → y ≡ false → a ≡ false
      not_acked a b x y e f g = grind arith

      -- of a case that had promised before
      before : (c : Case) (t : Ticket) (o : Outcome) → has (is_prepare_naming c t) (kept n) ≡ true
          → Undecided c (kept n) → (k : Memory)
          → AcksMove c (memory c) h.input k → has_acked k.acks o t ≡ false
      before c t o named undecided k (keeps same) =
          ap (λ as'. has_acked as' o t) same ∙ old c t o named undecided
      before c t o named undecided k (starts none) = ap (λ as'. has_acked as' o t) none ∙ none_acked o t
      before c t o named undecided k (notes j x u a fs is of late more) =
          ap (λ as'. has_acked as' o t) more ∙ by_ticket (same_ticket u t) refl
        where
          by_ticket : (b : Bool) → same_ticket u t ≡ b
              → has_acked ((memory c).acks ++ (u, a) ∷ []) o t ≡ false
          by_ticket true same = not_early c t a fs j x u is of named undecided ((ticket_tells u t).0 same)
          by_ticket false apart = not_acked _ (has_acked (memory c).acks o t)
              (same_outcome a o) (same_ticket u t)
              (has_acked-push (memory c).acks u t a o) (old c t o named undecided) apart

      -- of a case that promises now
      asked_now : (c : Case) (t : Ticket) (o : Outcome) → (memory c).phase ≡ Asked → (k : Memory)
          → AcksMove c (memory c) h.input k → has_acked k.acks o t ≡ false
      asked_now c t o asked k (keeps same) =
          ap (λ as'. has_acked as' o t) (same ∙ asked_quiet (memory c) (cascaded_quiet me p tree n c) asked)
          ∙ none_acked o t
      asked_now c t o asked k (starts none) = ap (λ as'. has_acked as' o t) none ∙ none_acked o t
      asked_now c t o asked k (notes j x u a fs is of late more) = absurd (late asked)

      undecided_before : (c : Case) → Undecided c (kept n ++ new) → Undecided c (kept n)
      undecided_before c undecided =
          record {
            no_end = first_false _ _ (sym (has-append (is_end c) (kept n) new) ∙ undecided.no_end);
            no_commit = first_false _ _ (sym (has-append (is_commit c) (kept n) new) ∙ undecided.no_commit);
            no_abort = first_false _ _ (sym (has-append (is_abort c) (kept n) new) ∙ undecided.no_abort);
          }

      pub still_none_early : NoneEarly (after n h e)
      still_none_early c t o named undecided =
          ap (λ (m : Memory). has_acked m.acks o t) (memory_of-after place n h e c same_boot)
          ∙ elim (in_either (is_prepare_naming c t) (kept n) new
          (ap (has (is_prepare_naming c t)) (sym (kept-after n h e)) ∙ named)) [
            | inl then_named ↦
                before c t o then_named (undecided_before c
                (subst (Undecided c) (kept-after n h e) undecided)) _
                (acks_move me (boot_of (kept n)) c (memory c) h.input)
            | inr now ↦ asked_now c t o
                (((coordinates me p tree net n holds up).alike up c).collecting_is_asked
                (effect_promises place (Some p) n h e (coordinator_turn_of place n h e does) c
                (has_other (is_prepare_naming c t) (is_promise c) new (naming_promises c t) now)))
                _ (acks_move me (boot_of (kept n)) c (memory c) h.input)
          ]

  -- A trim.

  same_staying : (whole rs : List Record) → staying (Below p) whole rs ≡ staying AtRoot whole rs
  same_staying whole [] = refl
  same_staying whole (r ∷ rs) = by_test (case_stays whole (record_case r)) (same_staying whole rs)
    where
      by_test : (b : Bool) → staying (Below p) whole rs ≡ staying AtRoot whole rs
          → (if b then r ∷ staying (Below p) whole rs else staying (Below p) whole rs)
          ≡ (if b then r ∷ staying AtRoot whole rs else staying AtRoot whole rs)
      by_test true e = ap (λ l. r ∷ l) e
      by_test false e = e

  same_trimmed : (rs : List Record) → trimmed (Below p) rs ≡ trimmed AtRoot rs
  unfolding trimmed
  same_trimmed rs = ap (λ l. (Opened (boot_of rs) ∷ l) ++ []) (same_staying rs rs)

  stays_known : (c : Case) (q : Record → Bool) → ((r : Record) → q r ≡ true → is_record_of c r ≡ true)
      → (whole rs : List Record)
      → has q (staying AtRoot whole rs) ≡ true → case_stays whole (Some c) ≡ true
  unfolding has
  stays_known c q own whole [] e = absurd (cc)
  stays_known c q own whole (r ∷ rs) e =
      by_test (case_stays whole (record_case r)) refl e (stays_known c q own whole rs)
    where
      known : (o : Option Case) → is_of c o ≡ true → case_stays whole o ≡ true
          → case_stays whole (Some c) ≡ true
      known None f g = absurd (cc)
      known (Some d) f g = ap (λ x. case_stays whole (Some x)) (sym (case_is d c f)) ∙ g

      by_test : (b : Bool) → case_stays whole (record_case r) ≡ b
          → has q (if b then r ∷ staying AtRoot whole rs else staying AtRoot whole rs) ≡ true
          → (has q (staying AtRoot whole rs) ≡ true → case_stays whole (Some c) ≡ true)
          → case_stays whole (Some c) ≡ true
      by_test false s f rest = rest f
      by_test true s f rest = elim (either (q r) (has q (staying AtRoot whole rs)) f) [
        | inl now ↦ known (record_case r) (own r now) s
        | inr later ↦ rest later
      ]

  trimmed_known : (c : Case) (t : Ticket) (rs : List Record)
      → has (is_prepare_naming c t) (trimmed AtRoot rs) ≡ true
      → case_stays rs (Some c) ≡ true
  unfolding trimmed
  trimmed_known c t rs e = elim (in_either (is_prepare_naming c t)
      (Opened (boot_of rs) ∷ staying AtRoot rs rs) [] e) [
        | inl first ↦ stays_known c (is_prepare_naming c t) (λ r e. own r (naming_prepares c t r e)) rs rs
            (sym (has-cons (is_prepare_naming c t) (Opened (boot_of rs)) (staying AtRoot rs rs)) ∙ first)
        | inr last ↦
            not_both (is_prepare_naming c t) (has (is_prepare_naming c t) []) last
            (has-nil (is_prepare_naming c t))
      ]
    where
      own : (r : Record) → is_prepare c r ≡ true → is_record_of c r ≡ true
      own r e = grind arith

  undecided_trim : (c : Case) (rs : List Record) → case_stays rs (Some c) ≡ true
      → Undecided c (trimmed AtRoot rs) → Undecided c rs
  undecided_trim c rs known undecided =
      record {
        no_end = none_before (is_end c) (λ r e. grind arith) undecided.no_end;
        no_commit = none_before (is_commit c) (λ r e. grind arith) undecided.no_commit;
        no_abort = none_before (is_abort c) (λ r e. grind arith) undecided.no_abort;
      }
    where
      none_before : (q : Record → Bool) → ((r : Record) → q r ≡ true → is_record_of c r ≡ true)
          → has q (trimmed AtRoot rs) ≡ false → has q rs ≡ false
      none_before q own none = by_test (has q rs) refl
        where
          by_test : (b : Bool) → has q rs ≡ b → has q rs ≡ false
          by_test true e = not_both q (has q (trimmed AtRoot rs)) (known_stays c q own rs known e) none
          by_test false e = e

  trim_left_of : (q : Record → Bool) → ((k : ℕ) → q (Opened k) ≡ false) → (rs : List Record)
      → has q (trimmed AtRoot rs) ≡ true → has q rs ≡ true
  trim_left_of q none rs e =
      elim (trim_left q none AtRoot rs e) [
        | inl old ↦ old
        | inr nothing ↦ not_both q
            (has q []) nothing (has-nil q)
      ]

  kept_trims : (n : Node) → kept (trims place n) ≡ trimmed AtRoot (kept n)
  kept_trims n = append-nil (trimmed (Below p) (kept n)) ∙ same_trimmed (kept n)

  pub trims_none_early : (n : Node) → NoneEarly n → NoneEarly (trims place n)
  trims_none_early n old c t o named undecided =
      let left : has (is_prepare_naming c t) (trimmed AtRoot (kept n)) ≡ true =
      ap (has (is_prepare_naming c t)) (sym (kept_trims n)) ∙ named in
      ap (λ (m : Memory). has_acked m.acks o t) (trims_memory place n c)
      ∙ old c t o (trim_left_of (is_prepare_naming c t) (λ k. refl) (kept n) left)
      (undecided_trim c (kept n) (trimmed_known c t (kept n) left)
      (subst (Undecided c) (kept_trims n) undecided))

  -- A restart.

  pub restarted_none_early : (n : Node) (k : ℕ) → NoneEarly (restarted place n k)
  unfolding memory_of
  restarted_none_early n k c t o named undecided = none_acked o t

  pub opened_none_early : NoneEarly opened_node
  unfolding memory_of
  opened_none_early c t o named undecided = none_acked o t
