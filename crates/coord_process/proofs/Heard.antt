-- Which turn a message meets, and an act.
use Rattle.std.proofs.Common.{◌≡◌, ◌&&◌, ◌||◌, ◌⊎◌, find, ℕ, zero, suc, Bool, true, false, Option, None, Some, List, [], ◌∷◌, if◌then◌else◌, is_none, refl, subst, sym, ap, ◌∙◌, inl, inr}
use Rattle.protocol.specs.declared.names.Case.{Case}
use Rattle.protocol.specs.declared.names.Outcome.{Outcome}
use Rattle.protocol.specs.declared.names.ProcessId.{ProcessId}
use Rattle.protocol.specs.declared.names.Ticket.{Ticket}
use Rattle.protocol.specs.declared.names.Txn.{Txn}
use Rattle.protocol.specs.declared.messages.Finding.{Finding}
use Rattle.protocol.specs.declared.messages.Message.{Message}
use Rattle.protocol.specs.declared.messages.Message.TheVariants.{Joined, Prepare, Commit, Abort}
use Rattle.protocol.specs.declared.standings.Vote.{Vote}
use Rattle.protocol.specs.declared.events.Act.{Act}
use Rattle.protocol.specs.declared.events.Input.{Input}
use Rattle.protocol_words.specs.Variants.{ActInput, MessageInput, WorkAct}
use Rattle.protocol.specs.declared.events.StepError.TheVariants.{Failed, NoSuch, NotAChild, UnknownTxn}
use Rattle.std.specs.Borrow.{Bor}
use Rattle.protocol.specs.declared.events.Act.TheVariants.{Forget as ForgetAct}
use Rattle.protocol.specs.declared.messages.Op.{Op}
use Rattle.protocol.specs.declared.standings.Standing.TheVariants.{Active, Unknown}
use Rattle.protocol.specs.Names.{child_case, same_case, same_process, same_ticket, same_txn}
use Rattle.protocol.specs.LogNames.{parent_of}
use Rattle.protocol.specs.Records.{in_list, is_reported}
use Rattle.protocol.specs.Nodes.{is_leaf, role_of}
use Rattle.protocol.specs.Memory.{ticket_of_child}
use Rattle.protocol.specs.CoordinatorRows.{active_work}
use Rattle.protocol.specs.Standings.{CoordinatorView}
use Rattle.protocol.specs.Reactions.{act_is_listed}
use Rattle.protocol.specs.Restarts.{is_known}
use Rattle.protocol.proofs.NameTests.{case_tells, ticket_tells}
use Rattle.case_table.specs.Tables.{entry_at, live_value}
use Rattle.case_table.proofs.Writes.{live_found}
use Rattle.process_state.specs.Turns.{Turn, Refuses as RefusesTurn, Takes as TakesTurn, FindsChildCase, ack_turn, act_turn, asked_by, asked_of, cascaded_turn, child_says, child_turn, clear_turn, coordinator_act, inquiry_turn, is_case_of, kept_records, message_turn, seat_in, turn_of, vote_turn, work_for_turn, work_turn, no_answer}
use Rattle.coord_cases.specs.declared.held.Held.{Held}
use Rattle.coord_cases.specs.Cases.{Slots, has_child, held_view, view_in}
use Rattle.coord_rows.specs.declared.asked.CaseInput.{CaseInput}
use Rattle.coord_rows.specs.declared.asked.CaseInput.TheVariants.{Joined as AskedJoined, Vote as AskedVote, Ack as AskedAck, Inquire as AskedInquire, Prepare as AskedPrepare, Commits, Aborts, Join, Work, Commit as AskedCommit, AbortActive, AbortCollecting, Ask}
use Rattle.coord_rows.specs.Asks.{Accepts, is_of_root, is_retiring}
use Rattle.coord_cases.specs.Takes.{IsLiveAt}
use Rattle.coord_process.specs.declared.turn.Met.{Met}
use Rattle.coord_process.specs.declared.turn.Met.TheVariants.{Refuses, Takes, Clears, Presumes, Nothing}
use Rattle.coord_process.specs.States.{CoordinatorValue, place_of, role_below, state}
use Rattle.coord_process.specs.Meets.{FindsAt, Hears, HearsFrom, HearsOf, May, Meets, MeetsAct, RetiresAs, RetiresNone, is_of_child, meant, met, met_by_child}

-- What a child asks.

accepts_any : (asked : CaseInput) (v : CoordinatorView) → is_of_child asked ≡ true → Accepts asked v
accepts_any (AskedVote t w) v is = tt
accepts_any (AskedAck t o fs) v is = tt
accepts_any (AskedInquire t) v is = tt
accepts_any (AskedJoined t) v is = tt
accepts_any AskedPrepare v is = tt
accepts_any Commits v is = tt
accepts_any Aborts v is = tt
accepts_any (Join q) v is = tt
accepts_any (Work t op) v is = absurd (cc)
accepts_any AskedCommit v is = tt
accepts_any AbortActive v is = tt
accepts_any AbortCollecting v is = tt
accepts_any Ask v is = tt

not_of_root : (asked : CaseInput) → is_of_child asked ≡ true → is_of_root asked ≡ false
not_of_root (AskedVote t w) is = refl
not_of_root (AskedAck t o fs) is = refl
not_of_root (AskedInquire t) is = refl
not_of_root (AskedJoined t) is = refl
not_of_root AskedPrepare is = refl
not_of_root Commits is = refl
not_of_root Aborts is = refl
not_of_root (Join q) is = refl
not_of_root (Work t op) is = refl
not_of_root AskedCommit is = absurd (cc)
not_of_root AbortActive is = absurd (cc)
not_of_root AbortCollecting is = absurd (cc)
not_of_root Ask is = refl

not_retiring : (asked : CaseInput) → is_of_child asked ≡ true → is_retiring asked ≡ false
not_retiring (AskedVote t w) is = refl
not_retiring (AskedAck t o fs) is = refl
not_retiring (AskedInquire t) is = refl
not_retiring (AskedJoined t) is = refl
not_retiring AskedPrepare is = absurd (cc)
not_retiring Commits is = refl
not_retiring Aborts is = absurd (cc)
not_retiring (Join q) is = refl
not_retiring (Work t op) is = refl
not_retiring AskedCommit is = refl
not_retiring AbortActive is = refl
not_retiring AbortCollecting is = refl
not_retiring Ask is = refl

none_has : (slots : Slots) (x : Txn) (t : Ticket) → FindsAt slots x t None
    → (c : Case) (b : Bool) → same_txn c.txn x ≡ b
    → (b && has_child (view_in slots c) t) ≡ false
none_has slots x t none c true is = none c is
none_has slots x t none c false is = refl

-- where no live case has the child, it meets the other turn
pub hears_none : (v : CoordinatorValue) (x : Txn) (t : Ticket) (asked : CaseInput)
    (otherwise : Met) → FindsAt v.slots x t None
    → ((i : Input) → May v i otherwise) → HearsOf v x t asked otherwise otherwise
hears_none v x t asked otherwise none any =
    record {
      found = None;
      finds = λ c. none_has v.slots x t none c (same_txn c.txn x) refl;
      is = refl;
      may = λ i retires. any i;
    }

-- the case that has the child takes what it asks
pub hears_some : (v : CoordinatorValue) (x : Txn) (t : Ticket) (asked : CaseInput) (otherwise : Met) (key : ℕ)
    (c : Case) → FindsAt v.slots x t (Some (key, c))
    → is_of_child asked ≡ true → v.log.sight.failed ≡ false
    → HearsOf v x t asked otherwise (Takes key c asked)
hears_some v x t asked otherwise key c finds is up =
    record {
      found = Some c;
      finds = rw finds.1 finds.2;
      is = refl;
      may = λ i retires.
          record {
            at = finds.0;
            accepted = accepts_any asked (view_in v.slots c) is;
            root = λ of. let clash : true ≡ false = sym of ∙ not_of_root asked is in absurd (cc);
            up = up;
            retiring = λ d u. retires d u ∙ sym
                (ap (λ b. b && same_case (child_case d.txn u) c) (not_retiring asked is));
          };
    }

-- Messages.

-- what is said of the message's case
of_case : (v : CoordinatorValue) (i : Input) (says : Option Case → Turn) (asked : CaseInput) (c : Case)
    (turn : Met) → FindsChildCase (state v) (asked_by i) None
    → says None ≡ TakesTurn c (met v c asked) → RetiresAs i asked c
    → meant v turn ≡ TakesTurn c (met v c asked)
    → ((i : Input) → RetiresAs i asked c → May v i turn) → Hears v i says turn
of_case v i says asked c turn finds same retires is may =
    record { found = None; finds = finds; is = same ∙ sym is; may = may i retires }

pub hears_joined : (v : CoordinatorValue) (n : ℕ) (c : Case) (t : Ticket) (turn : Met)
    → meant v turn ≡ TakesTurn c (met v c (AskedJoined t))
    → ((i : Input) → RetiresAs i (AskedJoined t) c → May v i turn)
    → Hears v (MessageInput n (Joined c t)) (λ found. child_says (state v) found (Joined c t)) turn
hears_joined v n c t turn is may = of_case v (MessageInput n (Joined c t))
    (λ found. child_says (state v) found (Joined c t)) (AskedJoined t) c turn refl refl (λ d u. refl) is may

module _ (v : CoordinatorValue) (n : ℕ) (p : ProcessId) (c : Case) (turn : Met) where
  pub hears_prepare : (k : ℕ) → meant v turn ≡ TakesTurn c (met v c AskedPrepare)
      → ((i : Input) → RetiresAs i AskedPrepare c → May v i turn)
      → Hears v (MessageInput n (Prepare c k)) (λ found. cascaded_turn (state v) p found (Prepare c k)) turn
  hears_prepare k is may = of_case v (MessageInput n (Prepare c k)) (λ found. cascaded_turn (state v) p found
      (Prepare c k)) AskedPrepare c turn refl refl (λ d u. refl) is may

  pub hears_commit : meant v turn ≡ TakesTurn c (met v c Commits)
      → ((i : Input) → RetiresAs i Commits c → May v i turn)
      → Hears v (MessageInput n (Commit c)) (λ found. cascaded_turn (state v) p found (Commit c)) turn
  hears_commit is may = of_case v (MessageInput n (Commit c))
      (λ found. cascaded_turn (state v) p found (Commit c)) Commits c turn refl refl (λ d u. refl) is may

  pub hears_abort : meant v turn ≡ TakesTurn c (met v c Aborts)
      → ((i : Input) → RetiresAs i Aborts c → May v i turn)
      → Hears v (MessageInput n (Abort c)) (λ found. cascaded_turn (state v) p found (Abort c)) turn
  hears_abort is may = of_case v (MessageInput n (Abort c))
      (λ found. cascaded_turn (state v) p found (Abort c)) Aborts c turn refl refl (λ d u. refl) is may

-- a message of a child is one that asks as its case's ticket, and ends nobody's time
pub heard_from : (v : CoordinatorValue) (i : Input) (d : Case) (says : Option Case → Turn) (turn : Met)
    → asked_by i ≡ asked_of d → RetiresNone i → HearsFrom v d says turn → Hears v i says turn
heard_from v i d says turn by retires hears =
    record {
      found = hears.found;
      finds = subst (λ child. FindsChildCase (state v) child hears.found) (sym by) hears.finds;
      is = hears.is;
      may = hears.may i retires;
    }

module _ (v : CoordinatorValue) (d : Case) where
  -- a case without a ticket is no child's
  pub no_ticket : (says : Ticket → Option Case → Turn) → d.ticket ≡ None
      → HearsFrom v d (λ found. child_turn d (λ t. says t found)) Nothing
  no_ticket says none =
      record { found = None; finds = rw none refl; is = rw none refl; may = λ i retires. tt }

  -- what a ticket asks of the case that was found for it
  pub by_ticket : (turn : Met) (t : Ticket) (asked : CaseInput) (otherwise : Met)
      (says : Ticket → Option Case → Turn)
      → d.ticket ≡ Some t → ((found : Option Case) → says t found ≡ met_by_child v asked otherwise found)
      → HearsOf v d.txn t asked otherwise turn → HearsFrom v d (λ found. child_turn d (λ t. says t found))
      turn
  by_ticket turn t asked otherwise says is same hears =
      record {
        found = hears.found;
        finds = rw is hears.finds;
        is = rw is (same hears.found ∙ hears.is);
        may = hears.may;
      }

-- what is met by each kind of message
module _ (v : CoordinatorValue) where
  pub votes : (t : Ticket) (w : Vote) (found : Option Case)
      → vote_turn (state v) w t found ≡ met_by_child v (AskedVote t w) Nothing found
  votes t w None = refl
  votes t w (Some c) = refl

  pub acknowledges : (t : Ticket) (o : Outcome) (fs : Bor (List Finding)) (found : Option Case)
      → ack_turn (state v) o fs.now t found ≡ met_by_child v (AskedAck t o fs) Nothing found
  acknowledges t o fs None = refl
  acknowledges t o fs (Some c) = refl

  pub inquires : (x : Txn) (t : Ticket) (found : Option Case)
      → inquiry_turn (state v) x t found ≡ met_by_child v (AskedInquire t) (Presumes x t) found
  inquires x t None = refl
  inquires x t (Some c) = refl

-- Any input.

-- a case that has the child, or no entry of the table has it
search : (v : CoordinatorValue) (x : Txn) (t : Ticket) (rest : Slots)
    → ((c : Case) × (is_case_of (state v) x t c ≡ true)) ⊎
    ((k : ℕ) (p : Case × Held) → entry_at rest k ≡ Some p → is_case_of (state v) x t p.0 ≡ false)
search v x t [] = inr (λ k p at. absurd (cc))
search v x t (slot ∷ rest) = by_slot slot (search v x t rest)
  where
    by_slot : (s : Option (Case × Held)) → ((c : Case) × (is_case_of (state v) x t c ≡ true)) ⊎
        ((k : ℕ) (p : Case × Held) → entry_at rest k ≡ Some p → is_case_of (state v) x t p.0 ≡ false)
        → ((c : Case) × (is_case_of (state v) x t c ≡ true)) ⊎ ((k : ℕ) (p : Case × Held)
        → entry_at (s ∷ rest) k ≡ Some p → is_case_of (state v) x t p.0 ≡ false)
    by_slot s (inl there) = inl there
    by_slot None (inr none) = inr behind
      where
        behind : (k : ℕ) (p : Case × Held) → entry_at (None ∷ rest) k ≡ Some p
            → is_case_of (state v) x t p.0 ≡ false
        behind zero p at = absurd (cc)
        behind (suc k) p at = none k p at
    by_slot (Some q) (inr none) = by_test (is_case_of (state v) x t q.0) refl
      where
        by_test : (b : Bool) → is_case_of (state v) x t q.0 ≡ b
            → ((c : Case) × (is_case_of (state v) x t c ≡ true)) ⊎ ((k : ℕ) (p : Case × Held)
            → entry_at (Some q ∷ rest) k ≡ Some p → is_case_of (state v) x t p.0 ≡ false)
        by_test true is = inl (q.0, is)
        by_test false is = inr behind
          where
            behind : (k : ℕ) (p : Case × Held) → entry_at (Some q ∷ rest) k ≡ Some p
                → is_case_of (state v) x t p.0 ≡ false
            behind zero p at = let one : q ≡ p =
                cc in sym (ap (λ (e : Case × Held). is_case_of (state v) x t e.0) one) ∙ is
            behind (suc k) p at = none k p at

both_false : (a b c : Bool) → b ≡ false → (a && (b && c)) ≡ false
both_false true b c is = rw is refl
both_false false b c is = refl

no_case : (v : CoordinatorValue) (x : Txn) (t : Ticket)
    → ((k : ℕ) (p : Case × Held) → entry_at v.slots k ≡ Some p → is_case_of (state v) x t p.0 ≡ false)
    → (c : Case) (value : Option Held) → live_value v.slots c ≡ value → is_case_of (state v) x t c ≡ false
no_case v x t none c None e = both_false _ (is_known (view_in v.slots c).standing) _
    (ap (λ h. is_known (held_view h).standing) e)
no_case v x t none c (Some h) e =
    let there = live_found v.slots c h e in
    let one : there.1 ≡ c = (case_tells there.1 c).0 there.3 in
    sym (ap (is_case_of (state v) x t) one) ∙ none there.0 (there.1, h) there.2

-- whose case a child is of can be told
found_for : (v : CoordinatorValue) (child : Option (Txn × Ticket)) → (found : Option Case)
    × FindsChildCase (state v) child found
found_for v None = (None, refl)
found_for v (Some p) =
    elim (search v p.0 p.1 v.slots) [
      | inl there ↦ (Some there.0, there.1)
      | inr none ↦ (None, λ c. no_case v p.0 p.1 none c (live_value v.slots c) refl)
    ]

-- the input names a child that is not listed
pub meets_unlisted : (v : CoordinatorValue) (i : Input) → act_is_listed v.tree i ≡ false
    → Meets v i (Refuses NoSuch)
unfolding turn_of
meets_unlisted v i unlisted =
    let found = found_for v (asked_by i) in
    record { found = found.0; finds = found.1; is = rw unlisted refl; may = refl }

-- the coordinator has failed
pub meets_failed : (v : CoordinatorValue) (i : Input) → act_is_listed v.tree i ≡ true
    → v.log.sight.failed ≡ true → Meets v i (Refuses Failed)
unfolding turn_of
meets_failed v i listed failed =
    let found = found_for v (asked_by i) in
    record { found = found.0; finds = found.1; is = rw (listed, failed) refl; may = refl }

acts_so : (v : CoordinatorValue) (a : Act) (parent : Option ProcessId)
    → act_turn (role_below parent) (state v) a ≡ coordinator_act (state v) a
acts_so v a None = refl
acts_so v a (Some p) = refl

-- an input at a coordinator that is up
by_tests : (listed failed : Bool) (up : Turn) → listed ≡ true → failed ≡ false
    → (if listed then (if failed then RefusesTurn Failed else up) else RefusesTurn NoSuch) ≡ up
by_tests true false up is not = refl
by_tests true true up is not = absurd (cc)
by_tests false failed up is not = absurd (cc)

-- an act
pub meets_act : (v : CoordinatorValue) (a : Act) (turn : Met) → act_is_listed v.tree (ActInput a) ≡ true
    → v.log.sight.failed ≡ false → MeetsAct v a turn
    → Meets v (ActInput a) turn
unfolding turn_of
meets_act v a turn listed up meets =
    record {
      found = None;
      finds = refl;
      is = by_tests (act_is_listed v.tree (ActInput a))
          v.log.sight.failed (act_turn (role_below v.parent) (state v) a) listed up ∙ acts_so v a v.parent
          ∙ meets.is;
      may = meets.may;
    }

-- a message
pub meets_message : (v : CoordinatorValue) (n : ℕ) (m : Message) (turn : Met) → v.log.sight.failed ≡ false
    → Hears v (MessageInput n m) (λ found. message_turn (place_of v).role (state v) no_answer found m) turn
    → Meets v (MessageInput n m) turn
unfolding turn_of
meets_message v n m turn up hears =
    record {
      found = hears.found;
      finds = hears.finds;
      is = by_tests true v.log.sight.failed
          (message_turn (place_of v).role (state v) no_answer hears.found m) refl up ∙ hears.is;
      may = hears.may;
    }

-- Forget.

-- forget at the root, of a case of which nothing is known
pub meets_forget : (v : CoordinatorValue) (c : Case) → (view_in v.slots c).standing ≡ Unknown
    → v.parent ≡ None
    → v.log.sight.failed ≡ false → MeetsAct v (ForgetAct c) (Clears c)
meets_forget v c unknown root up =
    let w = view_in v.slots c in
    let s = seat_in (state v) c in
    let reported = is_reported (kept_records (state v)) c in
    record {
      is =
          ap (λ p. clear_turn s (is_none (parent_of (role_below p)) && reported) w w.standing) root
          ∙ ap (clear_turn s reported w) unknown;
      may = record { unknown = unknown; root = root; up = up; retiring = λ d t. refl };
    }

-- below the root nothing is reported
pub meets_forget_below : (v : CoordinatorValue) (c : Case) (p : ProcessId)
    → (view_in v.slots c).standing ≡ Unknown → v.parent ≡ Some p
    → MeetsAct v (ForgetAct c) (Refuses UnknownTxn)
meets_forget_below v c p unknown below =
    let w = view_in v.slots c in
    let s = seat_in (state v) c in
    let reported = is_reported (kept_records (state v)) c in
    record {
      is =
          ap (λ q. clear_turn s (is_none (parent_of (role_below q)) && reported) w w.standing) below
          ∙ ap (clear_turn s false w) unknown;
      may = refl;
    }

-- Work.

either_true : (a b : Bool) → b ≡ true → (a || b) ≡ true
either_true true b is = refl
either_true false b is = is

listed_ticket : (ts : List Ticket) (q : ProcessId) (t : Ticket)
    → ticket_of_child ts q ≡ Some t → in_list ts t ≡ true
unfolding ticket_of_child in_list
listed_ticket [] q t found = absurd (cc)
listed_ticket (u ∷ us) q t found = by_test (same_process u.child q) (listed_ticket us q t) found
  where
    by_test : (b : Bool) → (find (λ w. same_process w.child q) us ≡ Some t → in_list us t ≡ true)
        → (if b then Some u else find (λ w. same_process w.child q) us) ≡ Some t
        → (same_ticket u t || in_list us t) ≡ true
    by_test true later found =
        let one : u ≡ t = cc in
        ap (λ b. b || in_list us t) ((ticket_tells u t).1 one)
    by_test false later found = either_true (same_ticket u t) (in_list us t) (later found)

picks : {A : Type 0} (b : Bool) (x y : A) → b ≡ true → (if b then x else y) ≡ x
picks true x y is = refl
picks false x y is = absurd (cc)

-- work is sent to an accepted manager
pub meets_work : (v : CoordinatorValue) (key : ℕ) (c : Case) (q : ProcessId) (t : Ticket) (op : Bor Op)
    → IsLiveAt v.slots key c → (view_in v.slots c).standing ≡ Active
    → ticket_of_child (view_in v.slots c).accepted q ≡ Some t → is_leaf (role_of v.tree t.child) ≡ true
    → v.log.sight.failed ≡ false
    → MeetsAct v (WorkAct c q op.now) (Takes key c (Work t op))
meets_work v key c q t op at active accepted leaf up =
    let w = view_in v.slots c in
    let s = seat_in (state v) c in
    record {
      is =
          ap (work_turn s v.tree q op.now w) active ∙ ap (work_for_turn s v.tree op.now w) accepted
          ∙ picks (is_leaf (role_of v.tree t.child)) (TakesTurn c (active_work s t op.now w))
          (RefusesTurn NotAChild) leaf;
      may = record {
        at = at;
        accepted = listed_ticket w.accepted q t accepted;
        root = λ of. absurd (cc);
        up = up;
        retiring = λ d u. refl;
      };
    }
