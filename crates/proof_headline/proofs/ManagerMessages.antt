-- A manager's messages go to its parent, and are of its own tickets and of cases that it gave.
use Rattle.std.proofs.Common.{◌≡◌, ◌∙◌, ◌-◌, inl, inr, ℕ, zero, suc, Bool, true, false, Option, Some, None, List, [], ◌∷◌, ◌++◌, take, refl, sym, ap, subst, if◌then◌else◌}
use Rattle.std.specs.List.{flat_map}
use Rattle.std.specs.Prelude.{slice_get}
use Rattle.protocol.specs.declared.names.Case.{Case}
use Rattle.protocol.specs.declared.names.Outcome.{Outcome}
use Rattle.protocol_words.specs.Variants.{AbortedOutcome, CaseBranch, CommittedOutcome}
use Rattle.protocol.specs.declared.names.ProcessId.{ProcessId}
use Rattle.protocol.specs.declared.messages.Envelope.{Envelope}
use Rattle.protocol.specs.declared.messages.Message.{Message}
use Rattle.protocol.specs.declared.messages.Message.TheVariants.{Join, Joined, Work, Prepare, Yes, No, Read, Commit, Abort, Ack, Inquire}
use Rattle.protocol.specs.declared.events.Happening.{Happening}
use Rattle.protocol.specs.declared.events.Input.{Input}
use Rattle.protocol.specs.declared.records.Record.{Record}
use Rattle.protocol.specs.declared.trees.TreeProcess.{TreeProcess}
use Rattle.protocol.specs.Names.{process_of, same_case}
use Rattle.protocol.specs.NameLaws.{same_case-refl}
use Rattle.protocol.specs.Records.{cases_in, has}
use Rattle.protocol.specs.Nodes.{AtLeaf, Effect, Heard, Node, Place, Role, is_listed, kept, role_of}
use Rattle.protocol.specs.CoordinatorRows.{tells_outcome}
use Rattle.protocol.specs.ManagerRows.{acknowledgement, is_acknowledged}
use Rattle.protocol.specs.Memory.{fresh_memory}
use Rattle.protocol.specs.Outcomes.{sent}
use Rattle.protocol.specs.Reactions.{leaf_of}
use Rattle.protocol.specs.Restarts.{inquires_by, is_open, left_of, manager_resumes, recorded_branch, reopens, untold_inquiry}
use Rattle.protocol.specs.Standings.{Mark, Unmarked, Promised, Decided, ToldOf, Finished, mark_of, marked_branch}
use Rattle.protocol.specs.World.{InputStands, IsSent, Move, MayHappen}
use Rattle.proof_pairs.specs.readings.ReadingOf.{gives_case}
use Rattle.proof_pairs.specs.turns.LeafTurns.{Hears, LeafTurn, Waits, acknowledges, acknowledges_told, asks, decided, decides, does_nothing, drops, forgets, gives_again, gives_fresh, mark_at, notes, obeys, promised, refuses, repeats_yes, votes_no, votes_read, votes_yes}
use Rattle.proof_pairs.specs.turns.Steps.{StepOf, heard_in, handled, failed_in, passed, failed_passing, reopened, failed_reopening, trims_log, failed_trimming}
use Rattle.proof_pairs.proofs.turns.Steps.{turn_of}
use Rattle.proof_processes.specs.Lasts.{Nested, logs_of}
use Rattle.proof_processes.specs.Marks.{is_branch_record}
use Rattle.proof_processes.specs.WorldHolds.{AboutGiven, AllGo, GoesBy, IsChildRole, IsParent, Issues, is_about, is_record_of}
use Rattle.proof_processes.proofs.Deliveries.{sent_at}
use Rattle.proof_processes.proofs.GivenCases.{branch_record, same_of, unmarked_so}
use Rattle.proof_processes.proofs.Tests.{either, in_either, in_first, in_front, in_second}
use Rattle.proof_processes.proofs.Tickets.{active_is_own}
use Rattle.proof_processes.proofs.Worlds.{has_other}
use Rattle.proof_steps.specs.cascades.Messages.{AllSentBy}
use Rattle.proof_headline.proofs.Grows.{sent_still, sent_then}
use Rattle.protocol.specs.declared.messages.Finding.{Finding}

pub goes_at : (tree : List TreeProcess) (net : List Envelope) (k : ℕ) (l : Envelope) → AllGo tree net
    → slice_get net k ≡ Some l → GoesBy tree l l.message
goes_at tree [] k l g e = absurd (cc)
goes_at tree (m ∷ ls) zero l g e =
    let f : m ≡ l = cc in subst (λ (x : Envelope). GoesBy tree x x.message) f g.0
goes_at tree (m ∷ ls) (suc k) l g e = goes_at tree ls k l g.1 e

module _ (tree : List TreeProcess) (me p : ProcessId) (leaf : role_of tree me
    ≡ AtLeaf p) (listed : is_listed tree me ≡ true)
    (net : List Envelope) where
  -- the process gave the case
  abbrev Own : Case → Type 0
  Own d = (process_of d ≡ me) × (sent (gives_case d) net ≡ true)

  abbrev Fits : Message → Type 0
  Fits (Joined d t) = (t.child ≡ me) × ((process_of d ≡ p) × IsParent tree d)
  Fits (Yes d) = Own d
  Fits (No d) = Own d
  Fits (Read d) = Own d
  Fits (Ack d o fs) = Own d
  Fits (Inquire d) = Own d
  Fits (Join d) = ⊥
  Fits (Work d i op) = ⊥
  Fits (Prepare d k) = ⊥
  Fits (Commit d) = ⊥
  Fits (Abort d) = ⊥

  abbrev pub AllFit : List Envelope → Type 0
  AllFit [] = Unit {0}
  AllFit (l ∷ ls) = ((l.from ≡ me) × ((l.to ≡ p) × Fits l.message)) × AllFit ls

  -- What it says of such messages.

  pub from_here : (ls : List Envelope) → AllFit ls → AllSentBy me ls
  from_here [] f = tt
  from_here (l ∷ ls) f = (f.0.0, from_here ls f.1)

  child_of : (q r : ProcessId) → q ≡ me → r ≡ p → IsChildRole (role_of tree q) r
  child_of q r e f = subst (λ (x : Role). IsChildRole x r) (sym (ap (role_of tree) e ∙ leaf)) (sym f)

  goes_so : (l : Envelope) (m : Message) → l.from ≡ me → l.to ≡ p → Fits m → GoesBy tree l m
  goes_so l (Joined d t) e f g = (
    g.0 ∙ sym e,
    (
      g.1.0 ∙ sym f,
      record {
        parent = g.1.1;
        listed = ap (is_listed tree) g.0 ∙ listed;
        child = child_of t.child (process_of d) g.0 g.1.0;
      },
    ),
  )
  goes_so l (Yes d) e f g = (g.0 ∙ sym e, child_of l.from l.to e f)
  goes_so l (No d) e f g = (g.0 ∙ sym e, child_of l.from l.to e f)
  goes_so l (Read d) e f g = (g.0 ∙ sym e, child_of l.from l.to e f)
  goes_so l (Ack d o fs) e f g = (g.0 ∙ sym e, child_of l.from l.to e f)
  goes_so l (Inquire d) e f g = (g.0 ∙ sym e, child_of l.from l.to e f)
  goes_so l (Join d) e f g = absurd (g)
  goes_so l (Work d i op) e f g = absurd (g)
  goes_so l (Prepare d k) e f g = absurd (g)
  goes_so l (Commit d) e f g = absurd (g)
  goes_so l (Abort d) e f g = absurd (g)

  pub all_go : (ls : List Envelope) → AllFit ls → AllGo tree ls
  all_go [] f = tt
  all_go (l ∷ ls) f = (goes_so l l.message f.0.0 f.0.1.0 f.0.1.1, all_go ls f.1)

  of_own : (d e : Case) → Own d → same_case d e ≡ true → sent (gives_case e) net ≡ true
  of_own d e g f = subst (λ (x : Case). sent (gives_case x) net ≡ true) (same_of d e f) g.1

  about_own : (d : Case) (m : Message) → Fits m → is_about d m ≡ true → sent (gives_case d) net ≡ true
  about_own d (Yes e) f g = of_own e d f g
  about_own d (No e) f g = of_own e d f g
  about_own d (Read e) f g = of_own e d f g
  about_own d (Ack e o fs) f g = of_own e d f g
  about_own d (Inquire e) f g = of_own e d f g
  about_own d (Joined e t) f g = absurd (cc)
  about_own d (Join e) f g = absurd (f)
  about_own d (Work e i op) f g = absurd (f)
  about_own d (Prepare e k) f g = absurd (f)
  about_own d (Commit e) f g = absurd (f)
  about_own d (Abort e) f g = absurd (f)

  given_so : (ls : List Envelope) → AllFit ls → (d : Case) → sent (is_about d) ls ≡ true
      → sent (gives_case d) net ≡ true
  unfolding sent
  given_so [] f d e = absurd (cc)
  given_so (l ∷ ls) f d e = elim (either (is_about d l.message) (sent (is_about d) ls) e) [
    | inl now ↦ about_own d l.message f.0.1.1 now
    | inr rest ↦ given_so ls f.1 d rest
  ]

  pub about_given : (ls : List Envelope) → AllFit ls → AboutGiven net → AboutGiven (net ++ ls)
  about_given ls f old d e = sent_still (gives_case d) net ls (elim (sent_then (is_about d) net ls e) [
    | inl new ↦ given_so ls f d new
    | inr before ↦ old d before
  ])

  -- Its messages are such.
  module _ (goes : AllGo tree net) (given : AboutGiven net) (n : Node) (nested : Nested (logs_of n))
      (issues : Issues (record { me = me; role = AtLeaf p; tree = tree }) net n) where
    abbrev place : Place
    place = record { me = me; role = AtLeaf p; tree = tree }

    recorded : (d : Case) → has (is_branch_record d) (kept n) ≡ true → Own d
    recorded d e = issues.recorded_is_given d (nested.kept_was_written (is_record_of d) (λ k. refl)
        (has_other (is_branch_record d) (is_record_of d) (kept n) (branch_record d) e))

    open_has_record : (d : Case) (rs : List Record) → is_open (mark_of (CaseBranch d) rs) ≡ true
        → has (is_branch_record d) rs ≡ true
    open_has_record d rs e = by_test (has (is_branch_record d) rs) refl
      where
        by_test : (b : Bool) → has (is_branch_record d) rs ≡ b → has (is_branch_record d) rs ≡ true
        by_test true f = f
        by_test false f = absurd (let x = sym (ap is_open (unmarked_so d rs f)) ∙ e in cc)

    module _ (h : Heard) (stands : InputStands net me h.input) where
      heard_goes : (m : Message) → Hears h m → (l : Envelope)
          × ((l.to ≡ me) × ((l.message ≡ m) × GoesBy tree l m))
      heard_goes m i =
          let s : IsSent net me i.0 m = subst (λ (x : Input). InputStands net me x) i.1 stands in (
            record { from = s.sender; to = me; message = m },
            (
              refl,
              (
                refl,
                goes_at tree net s.place _ goes
                    s.stands,
              ),
            ),
          )

      heard_given : (m : Message) → Hears h m → (d : Case) → is_about d m ≡ true → sent (gives_case d) net
          ≡ true
      heard_given m i d e =
          let s : IsSent net me i.0 m = subst (λ (x : Input). InputStands net me x) i.1 stands in
          given d (sent_at (is_about d) net s.place _ s.stands e)

      prepared : (d : Case) (k : ℕ) → Hears h (Prepare d k) → Own d
      prepared d k i =
          let g = heard_goes (Prepare d k) i in
          (g.1.1.1.0 ∙ g.1.0, heard_given (Prepare d k) i d (same_case-refl d))

      told : (d : Case) (o : Outcome) → Hears h (tells_outcome o d) → Own d
      told d CommittedOutcome i =
          let g = heard_goes (Commit d) i in
          (g.1.1.1.0 ∙ g.1.0, heard_given (Commit d) i d (same_case-refl d))
      told d AbortedOutcome i =
          let g = heard_goes (Abort d) i in (g.1.1.1.0 ∙ g.1.0, heard_given (Abort d) i d (same_case-refl d))

      joins : (d : Case) → Hears h (Join d) → (process_of d ≡ p) × IsParent tree d
      joins d i =
          let g = heard_goes (Join d) i in
          let up : p ≡ g.0.from = subst (λ (x : Role). IsChildRole x g.0.from) (ap (role_of tree) g.1.0
          ∙ leaf) g.1.1.1.1.1 in
          (g.1.1.1.0 ∙ sym up, g.1.1.1.1.0)

      acknowledged : (d : Case) (o : Outcome) (fs : List Finding) (b : Bool) → Own d
          → AllFit (if b then record { from = me; to = p; message = Ack d o fs } ∷ [] else [])
      acknowledged d o fs true e = ((refl, (refl, e)), tt)
      acknowledged d o fs false e = tt

      answers : (d : Case) (o : Outcome) (fs : List Finding) → Hears h (tells_outcome o d)
          → AllFit (acknowledgement (leaf_of place p d) o fs)
      answers d o fs i = acknowledged d o fs (is_acknowledged d.txn.presumption o) (told d o i)

      waits_open : (x : Mark) → Waits x → is_open x ≡ true
      waits_open _ promised = refl
      waits_open _ decided = refl

      turn_fits : (e : Effect) → LeafTurn place p n h e → AllFit e.messages
      turn_fits _ does_nothing = tt
      turn_fits _ (gives_again d t i a) = ((refl, (refl, (active_is_own place n d d t a, joins d i))), tt)
      turn_fits _ (gives_fresh d i a s) = ((refl, (refl, (refl, joins d i))), tt)
      turn_fits _ (votes_yes d k ws i a) = ((refl, (refl, prepared d k i)), tt)
      turn_fits _ (votes_read d k i a) = ((refl, (refl, prepared d k i)), tt)
      turn_fits _ (votes_no d k i a) = ((refl, (refl, prepared d k i)), tt)
      turn_fits _ (repeats_yes d k i a) = ((refl, (refl, prepared d k i)), tt)
      turn_fits _ (refuses d k i a) = ((refl, (refl, prepared d k i)), tt)
      turn_fits _ (obeys d o i e) = answers d o _ i
      turn_fits _ (notes d o i e) = answers d o _ i
      turn_fits _ (acknowledges_told d o i e) = answers d o _ i
      turn_fits _ (acknowledges d o i e) = answers d o _ i
      turn_fits _ (drops d i a) = answers d AbortedOutcome _ i
      turn_fits _ (asks d i k) =
          ((refl, (refl, recorded d (open_has_record d (kept n) (waits_open (mark_at n d) k)))), tt)
      turn_fits _ (decides d o i e) = tt
      turn_fits _ (forgets d i k) = tt

    -- A restart asks about branches that are open in what is left.
    module _ (rs : List Record) (known : (d : Case) → is_open (mark_of (CaseBranch d) rs) ≡ true → Own d)
      where
        fit_both : (xs ys : List Envelope) → AllFit xs → AllFit ys → AllFit (xs ++ ys)
        fit_both [] ys a b = b
        fit_both (x ∷ xs) ys a b = (a.0, fit_both xs ys a.1 b)

        untold_fits : (d : Case) (o : Option Outcome) → Own d → AllFit (untold_inquiry me p d o)
        untold_fits d None e = ((refl, (refl, e)), tt)
        untold_fits d (Some o) e = tt

        by_mark : (d : Case) (x : Mark) → mark_of (CaseBranch d) rs ≡ x
            → (let v = marked_branch fresh_memory x in AllFit (inquires_by me p d v v.standing))
        by_mark d Unmarked e = tt
        by_mark d Finished e = tt
        by_mark d Promised e = ((refl, (refl, known d (ap is_open e))), tt)
        by_mark d Decided e = ((refl, (refl, known d (ap is_open e))), tt)
        by_mark d (ToldOf o) e = tt

        resumed_fits : (d : Case) → AllFit (manager_resumes me p rs d)
        unfolding recorded_branch
        resumed_fits d = by_mark d (mark_of (CaseBranch d) rs) refl

        resumes_fit : (cs : List Case) → AllFit (flat_map (manager_resumes me p rs) cs)
        resumes_fit [] = tt
        resumes_fit (d ∷ cs) =
            fit_both (manager_resumes me p rs d) (flat_map (manager_resumes me p rs) cs) (resumed_fits d)
            (resumes_fit cs)

    reopened_none : {A : Type 0} (d : Case) (j : ℕ)
        → has (is_branch_record d) (reopens (AtLeaf p) (left_of n j)) ≡ true → A
    unfolding has
    reopened_none d j e = absurd (cc)

    left_own : (j : ℕ) (d : Case)
        → is_open (mark_of (CaseBranch d) (left_of n j ++ reopens (AtLeaf p) (left_of n j))) ≡ true → Own d
    left_own j d e =
        elim (in_either (is_branch_record d) (left_of n j) (reopens (AtLeaf p) (left_of n j))
        (open_has_record d _ e)) [
          | inl left ↦ elim (in_either (is_branch_record d) n.forced (take j n.unforced) left) [
            | inl front ↦ recorded d (in_first (is_branch_record d) n.forced n.unforced front)
            | inr rest ↦ recorded d
                (in_second (is_branch_record d) n.forced n.unforced
                (in_front (is_branch_record d) j n.unforced rest))
          ]
          | inr new ↦ reopened_none d j new
        ]

    pub messages_fit : (m : Move) → MayHappen net me m.step.happening → (e : Effect) (k : Node)
        → StepOf place n m e k
        → AllFit e.messages
    messages_fit m stands _ _ (handled i g hp np r) =
        turn_fits (heard_in m i) (subst (λ (x : Happening). MayHappen net me x) hp stands) g (turn_of place n
        (heard_in m i) g r).turn
    messages_fit m stands _ _ (failed_in i f g fl hp np r) = tt
    messages_fit m stands _ _ (passed i hp r) = tt
    messages_fit m stands _ _ (failed_passing i f fl hp r) = tt
    messages_fit m stands _ _ (reopened j hp) =
        let rs = left_of n j ++ reopens (AtLeaf p) (left_of n j) in resumes_fit rs (left_own j) (cases_in rs)
    messages_fit m stands _ _ (failed_reopening j f fl hp) = tt
    messages_fit m stands _ _ (trims_log hp up) = tt
    messages_fit m stands _ _ (failed_trimming f fl hp up) = tt
