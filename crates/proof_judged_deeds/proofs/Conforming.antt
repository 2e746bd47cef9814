-- What happens at a key store is a step of the judge, and so what it answers is a legal history.
use Rattle.std.proofs.Common.{◌≡◌, ℕ, Bool, not, Option, Some, None, List, [], ◌∷◌, length, Result, Ok, Err, refl, ap, sym, subst, ◌∙◌, inl, arith}
use Rattle.std.specs.Prelude.{Contains}
use Rattle.std.proofs.lemmas.Bool.{false≢true}
use Rattle.xa_words.specs.code
use Rattle.xa_codes.specs.declared.code.Code.{Code}
use Rattle.xa_codes.specs.declared.flags.Flags.{Flags}
use Rattle.xa_tables.specs.declared.call.Verb.{Verb}
use Rattle.xa_tables.specs.declared.states.BranchState.{BranchState}
use Rattle.xa_tables.specs.declared.states.BranchState.TheVariants.{S0, S1, S2, S3, S4, S5}
use Rattle.xa_xid.specs.declared.xid.Xid.{Xid}
use Rattle.xa_branch.specs.Branches.{state_in}
use Rattle.xa_branch.proofs.Placed.{AllIn}
use Rattle.xa_branch.specs.Scans.{ScanList, has_scan, scan_of}
use Rattle.xa_assoc.specs.Associations.{AreThreadsListedOnce}
use Rattle.xa_assoc.specs.declared.states.States.{States}
use Rattle.xa_assoc.specs.Answers.{AnswersCall, AreNewStates, Recovers, SameStates}
use Rattle.xa_assoc.specs.Ready.{is_closed}
use Rattle.xa_branch.specs.declared.decision.Decision.{Decision as Known}
use Rattle.proof_xa.proofs.Reached.{bare_moved, empty_states}
use Rattle.protocol.specs.declared.records.Write.{Write}
use Rattle.judge_state.specs.declared.parts.JudgedBranch.{JudgedBranch}
use Rattle.judge_state.specs.declared.parts.JudgedDecision.{JudgedDecision}
use Rattle.judge_words.specs.stand
use Rattle.judge_state.specs.Sights.{Sight, first_sight}
use Rattle.judge_state.specs.Questions.{active_of}
use Rattle.judge_rules.specs.declared.calls.JudgedAnswer.{JudgedAnswer}
use Rattle.judge_words.specs.answer
use Rattle.judge_rules.specs.declared.calls.BranchVerb.{BranchVerb}
use Rattle.judge_words.specs.verb
use Rattle.judge_rules.specs.declared.calls.JudgedCall.{JudgedCall}
use Rattle.judge_words.specs.call
use Rattle.judge_rules.specs.declared.calls.HistoryEvent.{HistoryEvent}
use Rattle.judge_words.specs.function
use Rattle.judge_rules.specs.Histories.{IsLegal, JudgeLeads}
use Rattle.judge_rules.specs.Scans.{write_row}
use Rattle.judge_rules.specs.Steps.{next}
use Rattle.proof_judged_deeds.specs.Deeds.{Closed, Deed, Decided, Ended, Finished, Is, IsScan, DeedsLead, Limited, Loses, NoMore, Opened, Recovered, Restarted, Started, StillKnown, Trimmed, Undecided, Unread, Unwritten, Wrote, decision_of, ends_branch, is_commit, none_lost, on, rows_for}
use Rattle.proof_judged_deeds.specs.Names.{NameNumbers, lacks_forced, value_number}
use Rattle.proof_judged_deeds.proofs.Answering.{commit_steps, end_steps, forget_steps, prepare_steps, rollback_steps, start_steps}
use Rattle.proof_judged_deeds.proofs.Closing.{close_goes}
use Rattle.proof_judged_deeds.proofs.Ledgers.{Carries, Ledger}
use Rattle.proof_judged_deeds.proofs.Losing.{AreLost, lost_ends, lost_stays}
use Rattle.proof_judged_deeds.proofs.Restarting.{restart_goes}
use Rattle.proof_judged_deeds.proofs.Doubting.{AreNamedOnce}
use Rattle.proof_judged_deeds.proofs.Lists.{all_weaker}
use Rattle.proof_judged_deeds.proofs.Links.{is_one, is_two}
use Rattle.proof_judged_deeds.proofs.Mirrors.{AreBranches, IsBegun, IsBranch, IsFree, Mirrors, is_begun, same_mirrors, stand_as}
use Rattle.proof_judged_deeds.proofs.Opening.{Moves, decide_goes, in_next, like_mirrors, no_holders, open_goes, written_tables}
use Rattle.proof_judged_deeds.proofs.Recovering.{code_goes, given_goes}
use Rattle.proof_judged_deeds.proofs.Rows.{first_in}
use Rattle.proof_judged_deeds.proofs.Steps.{Goes, goes_failed}

-- of each branch that an operator decided the same is known
stand_same : (s : BranchState) (c k : JudgedDecision) → (s ≡ S5 → c ≡ k) → stand_as s c ≡ stand_as s k
stand_same S0 c k h = refl
stand_same S1 c k h = refl
stand_same S2 c k h = refl
stand_same S3 c k h = refl
stand_same S4 c k h = refl
stand_same S5 c k h = ap (λ z. Some (stand.Heuristic z)) (h refl)

known_branches : (n : NameNumbers) (st : Xid → BranchState) (d f : Xid → JudgedDecision)
    (bs : List JudgedBranch)
    → ((y : Xid) → st y ≡ S5 → f y ≡ d y) → AreBranches n st d bs → AreBranches n st f bs
known_branches n st d f bs same are = record {
  each = all_weaker (IsBranch n st d) (IsBranch n st f) (λ b is. record {
    xid = is.xid;
    is = is.is;
    stands = stand_same (st is.xid) (f is.xid) (d is.xid) (same is.xid) ∙ is.stands;
  }) bs are.each;
  known = are.known;
}

pub known_mirrors : (n : NameNumbers) (m : States) (d f : Xid → JudgedDecision) (s : Sight) → StillKnown m d f
    → Mirrors n m d s
    → Mirrors n m f s
known_mirrors n m d f s same mirrors = record {
  opened = mirrors.opened;
  waits = mirrors.waits;
  tied = mirrors.tied;
  branches = known_branches n (state_in m.branches.branches) d f s.branches same mirrors.branches;
  orderly = mirrors.orderly;
  shut = mirrors.shut;
  scans = mirrors.scans;
}

module _ (n : NameNumbers) (old new : States) (d f : Xid → JudgedDecision) (l l' : Xid → Bool) (s : Sight)
    (e : HistoryEvent)
    (mirrors : Mirrors n old d s) (lost : AreLost n l s.lost)
    (once : AreThreadsListedOnce new.associations.holders) where
  abbrev Result_of : Type 0
  Result_of = Moves n s e.call e.answer old new f l'

  abbrev Carried : Sight → JudgedCall → JudgedAnswer → Type 0
  Carried u c a = Carries n s u (state_in old.branches.branches) (state_in new.branches.branches) c a

  told : (c : JudgedCall) (a : JudgedAnswer) (u : Sight) → Is e c a → Contains (next lacks_forced s c a) u
      → Mirrors n new f u
      → AreLost n l' u.lost → Carried u c a → Result_of
  told c a u is row m left books = record {
    sight = u;
    row = subst (λ (b : JudgedCall). Contains (next lacks_forced s b e.answer) u) (sym is.calls)
        (subst (λ (b : JudgedAnswer). Contains (next lacks_forced s c b) u) (sym is.says) row);
    mirrors = m;
    lost = left;
    books = subst (λ (b : JudgedCall). Carried u b e.answer) (sym is.calls)
        (subst (λ (b : JudgedAnswer). Carried u c b) (sym is.says) books);
  }

  -- the same is remembered
  kept : (u : Sight) → NoMore l l' → u.lost ≡ s.lost → AreLost n l' u.lost
  kept u less is = lost_stays n l l' s.lost u.lost is less lost

  branch : (v : BranchVerb) (t : ℕ) (x : Xid) (flags : Flags) (c : Code)
      → Is e (call.Function (function.Branch v (on n t x flags))) (answer.Code c) → StillKnown new d f
      → (goes : Goes n v s t x flags c new d) → AreLost n l' goes.sight.lost → Result_of
  branch v t x flags c is same goes left =
      told (call.Function (function.Branch v (on n t x flags))) (answer.Code c) goes.sight is
      (in_next s (call.Function (function.Branch v (on n t x flags))) (answer.Code c) goes.sight
      mirrors.waits goes.row)
      (known_mirrors n new d f goes.sight same goes.mirrors) left goes.books

  -- nothing changed but room, and the judge stays where it is
  stays : (c : JudgedCall) (a : JudgedAnswer) → Is e c a → SameStates old new → StillKnown new d f
      → NoMore l l'
      → Contains (next lacks_forced s c a) s → Carried s c a → Result_of
  stays c a is same known less row books = told c a s is row
      (known_mirrors n new d f s known (same_mirrors n old new d s same mirrors)) (kept s less refl) books

  -- a call that finishes a branch
  ended : (v : BranchVerb) (w : Verb) (t : ℕ) (x : Xid) (flags : Flags) (c : Code) → ends_branch v w
      → Loses old new x l l'
      → (goes : Goes n v s t x flags c new d) → AreLost n l' goes.sight.lost
  ended verb.Prepare w t x flags c ends loses goes =
      lost_ends n old new d s x l l' mirrors lost loses goes.sight goes.lost
  ended verb.Commit w t x flags c ends loses goes =
      lost_ends n old new d s x l l' mirrors lost loses goes.sight goes.lost
  ended verb.Rollback w t x flags c ends loses goes =
      lost_ends n old new d s x l l' mirrors lost loses goes.sight goes.lost
  ended verb.Forget w t x flags c ends loses goes =
      lost_ends n old new d s x l l' mirrors lost loses goes.sight goes.lost
  ended verb.Start w t x flags c ends loses goes = absurd ends
  ended verb.End w t x flags c ends loses goes = absurd ends

  -- a call on a branch that changes nothing
  limited : (v : BranchVerb) (t : ℕ) (x : Xid) (flags : Flags) (c : Code) → NoMore l l'
      → (goes : Goes n v s t x flags c new d) → AreLost n l' goes.sight.lost
  limited verb.Start t x flags c less goes = kept goes.sight less goes.lost
  limited verb.End t x flags c less goes = kept goes.sight less goes.lost
  limited verb.Prepare t x flags c less goes =
      lost_ends n old new d s x l l' mirrors lost (λ y h. inl (less y h)) goes.sight goes.lost
  limited verb.Commit t x flags c less goes =
      lost_ends n old new d s x l l' mirrors lost (λ y h. inl (less y h)) goes.sight goes.lost
  limited verb.Rollback t x flags c less goes =
      lost_ends n old new d s x l l' mirrors lost (λ y h. inl (less y h)) goes.sight goes.lost
  limited verb.Forget t x flags c less goes =
      lost_ends n old new d s x l l' mirrors lost (λ y h. inl (less y h)) goes.sight goes.lost

  -- a write leaves what is remembered
  written_lost : (o : Option ℕ) (t k v : ℕ) → (write_row o t k v s).lost ≡ s.lost
  written_lost None t k v = refl
  written_lost (Some x) t k v = refl

  finished : (v : BranchVerb) (w : Verb) (ws : List Write) (k : Known) (t : ℕ) (x : Xid)
      (flags : Flags) (c : Code)
      → ends_branch v w → d x ≡ decision_of k.outcome → AnswersCall (rows_for old x ws k) old new w t x
      flags.0 c
      → Goes n v s t x flags c new d
  finished verb.Prepare w ws k t x flags c ends is h =
      prepare_steps n old new d s t x flags c mirrors once ws k
      (subst (λ (q : Verb). AnswersCall (rows_for old x ws k) old new q t x flags.0 c) ends h)
  finished verb.Commit w ws k t x flags c ends is h =
      commit_steps n old new d s t x flags c mirrors once ws k is
      (subst (λ (q : Verb). AnswersCall (rows_for old x ws k) old new q t x flags.0 c) ends h)
  finished verb.Rollback w ws k t x flags c ends is h =
      rollback_steps n old new d s t x flags c mirrors once ws k is
      (subst (λ (q : Verb). AnswersCall (rows_for old x ws k) old new q t x flags.0 c) ends h)
  finished verb.Forget w ws k t x flags c ends is h = forget_steps n old new d s t x flags c mirrors once ws k
      (subst (λ (q : Verb). AnswersCall (rows_for old x ws k) old new q t x flags.0 c) ends h)
  finished verb.Start w ws k t x flags c ends is h = absurd ends
  finished verb.End w ws k t x flags c ends is h = absurd ends

  recovered : (t count : ℕ) (flags : Flags) (r : Result (List Xid) Code) (a : JudgedAnswer)
      → Recovers old new t count flags.0 r
      → IsScan n r a → StillKnown new d f → NoMore l l'
      → Is e (call.Function (function.Recover t count flags)) a
      → Result_of
  recovered t count flags (Err c) a h says same less is =
      let g = code_goes n old new d s t count flags.0 mirrors c h in
      told (call.Function (function.Recover t count flags)) (answer.Code c) g.0
      (record { calls = is.calls; says = is.says ∙ says })
      (in_next s (call.Function (function.Recover t count flags)) (answer.Code c) g.0 mirrors.waits g.1)
      (known_mirrors n new d f g.0 same g.2)
      (kept g.0 less (ap (λ (h : Ledger). h.lost) g.3)) g.3
  recovered t count flags (Ok xs) (answer.Given ks) h says same less is =
      let g = given_goes n old new d s t count flags.0 mirrors xs ks says h in
      told (call.Function (function.Recover t count flags)) (answer.Given ks) g.0 is
      (in_next s (call.Function (function.Recover t count flags)) (answer.Given ks) g.0 mirrors.waits g.1)
      (known_mirrors n new d f g.0 same g.2)
      (kept g.0 less (ap (λ (h : Ledger). h.lost) g.3)) g.3
  recovered t count flags (Ok xs) (answer.Code c) h says same less is = absurd says
  recovered t count flags (Ok xs) (answer.Found v) h says same less is = absurd says
  recovered t count flags (Ok xs) answer.Done h says same less is = absurd says
  recovered t count flags (Ok xs) answer.Refused h says same less is = absurd says
  recovered t count flags (Ok xs) answer.Told h says same less is = absurd says
  recovered t count flags (Ok xs) answer.Hung h says same less is = absurd says

  pub deed_moves : Deed n old new d f l l' e → Result_of
  deed_moves (Opened flags migrates c h same less is) =
      let g = open_goes n old new d s flags migrates c mirrors once h in
      told (call.Function (function.Open flags)) (answer.Code c) g.0 is
      (in_next s (call.Function (function.Open flags)) (answer.Code c) g.0 mirrors.waits g.1)
      (known_mirrors n new d f g.0 same g.2)
      (kept g.0 less (ap (λ (h : Ledger). h.lost) g.3)) g.3
  deed_moves (Started wanted t x flags c h same less is) =
      let goes = start_steps n old new d s t x flags c mirrors once wanted h in
      branch verb.Start t x flags c is same goes (kept goes.sight less goes.lost)
  deed_moves (Ended wanted t x flags c h same less is) =
      let goes = end_steps n old new d s t x flags c mirrors once wanted h in
      branch verb.End t x flags c is same goes (kept goes.sight less goes.lost)
  deed_moves (Finished v w ws k t x flags c ends knows h same loses is) =
      let goes = finished v w ws k t x flags c ends knows h in
      branch v t x flags c is same goes (ended v w t x flags c ends loses goes)
  deed_moves (Limited v t x flags same known less is) =
      let goes = goes_failed n v s t x flags code.RmErr old new d mirrors (refl, same) in
      branch v t x flags code.RmErr is known goes (limited v t x flags code.RmErr less goes)
  deed_moves (Closed flags c counted h same less is) =
      let g = close_goes n old new d s flags c mirrors counted h in
      told (call.Function (function.Close flags)) (answer.Code c) g.0 is
      (in_next s (call.Function (function.Close flags)) (answer.Code c) g.0 mirrors.waits g.1)
      (known_mirrors n new d f g.0 same g.2)
      (kept g.0 less (ap (λ (h : Ledger). h.lost) g.3)) g.3
  deed_moves (Recovered t count flags r a h says same less is) =
      recovered t count flags r a h says same less is
  deed_moves (Decided x o q takes is others less event) =
      let g = decide_goes n old new d f s x o mirrors q takes is others in
      told (call.Decide (n.xid x) (is_commit o)) answer.Done g.0 event
      (in_next s (call.Decide (n.xid x) (is_commit o)) answer.Done g.0 mirrors.waits g.1) g.2
      (kept g.0 less g.3) g.4
  deed_moves (Undecided x o same known less is) = stays (call.Decide (n.xid x) (is_commit o)) answer.Refused
      is same known less
      (in_next s (call.Decide (n.xid x) (is_commit o)) answer.Refused s mirrors.waits (first_in s [])) refl
  deed_moves (Wrote t k v same known less is) =
      let u = write_row (active_of t s) t (n.word k) (value_number n v) s in
      told (call.Put t (n.word k) (value_number n v)) answer.Done u is
      (in_next s (call.Put t (n.word k) (value_number n v)) answer.Done u mirrors.waits (first_in u []))
      (known_mirrors n new d f u known (like_mirrors n new d u s
      (written_tables (active_of t s) t (n.word k) (value_number n v) s)
      (same_mirrors n old new d s same mirrors)))
      (kept u less (written_lost (active_of t s) t (n.word k) (value_number n v))) refl
  deed_moves (Unwritten t k v same known less is) =
      stays (call.Put t (n.word k) (value_number n v)) answer.Refused is same known less
      (in_next s (call.Put t (n.word k) (value_number n v)) answer.Refused s mirrors.waits (first_in s []))
      refl
  deed_moves (Unread t k same known less is) = stays (call.Get t (n.word k)) answer.Refused is same known less
      (in_next s (call.Get t (n.word k)) answer.Refused s mirrors.waits (first_in s [])) refl
  deed_moves (Trimmed same known less is) = stays call.Trim answer.Told is same known less
      (in_next s call.Trim answer.Told s mirrors.waits (first_in s [])) refl
  deed_moves (Restarted cut h is) =
      let g = restart_goes n old new d f l l' s cut mirrors lost h in
      told (call.Restart cut) answer.Told g.0 is
      (in_next s (call.Restart cut) answer.Told g.0 mirrors.waits g.1) g.2 g.3 g.4

-- New tables are those of the judge's first state.

none_listed : (es : List (ℕ × Option Xid)) → length es ≡ 0 → AreThreadsListedOnce es
none_listed [] h = tt
none_listed (e ∷ es) h = absurd (omega arith)

pub new_mirrors : (n : NameNumbers) (m : States) (d : Xid → JudgedDecision) → AreNewStates m
    → Mirrors n m d first_sight
new_mirrors n m d new =
    let free : IsFree m.associations = (
      λ t x. empty_states m.associations new.associations new.seats t x,
      λ x. bare_moved m.associations new.associations x,
    ) in
    let none : (x : Xid) → state_in m.branches.branches x ≡ S0 =
    λ x. ap (λ (bs : List (Xid × BranchState)). state_in bs x) new.branches in
    record {
      opened = sym (ap (λ i. not (is_closed i)) new.init);
      waits = refl;
      tied = record {
        one = λ t x. sym (ap is_one (free.0 t x));
        two = λ t x. sym (ap is_two (free.0 t x));
        named = tt;
        moved = λ x. sym (free.1 x);
        moved_named = tt;
      };
      branches = record { each = tt; known = λ x. sym (ap is_begun (none x)) };
      orderly = record {
        once = none_listed m.associations.holders new.associations.holders;
        here = subst (λ (bs : List (Xid × BranchState)). AllIn IsBegun bs) (sym new.branches) tt;
        named = subst (λ (bs : List (Xid × BranchState)). AreNamedOnce bs) (sym new.branches) tt;
        busy = λ x e. absurd (let q : S0 ≡ S1 = sym (none x) ∙ e in cc);
        quiet = λ t x e. free.0 t x;
        unmoved = λ x e. free.1 x;
        kept = λ t x. inl (free.0 t x);
        holding = λ t h. absurd (no_holders m.associations.holders t new.associations.holders h);
      };
      shut = λ e. free;
      scans = record {
        open_so = λ t. sym (ap (λ (z : ScanList). has_scan z t) new.scans);
        each = λ t rest e. absurd (let f : None ≡ Some rest =
            sym (ap (λ (z : ScanList). scan_of z t) new.scans) ∙ e in cc);
      };
    }

-- Whole histories.

leads_on : (n : NameNumbers) (m : States) (d : Xid → JudgedDecision) (l : Xid → Bool) (s : Sight)
    (es : List HistoryEvent) → Mirrors n m d s
    → AreLost n l s.lost → DeedsLead n m d l es → (u : Sight) × JudgeLeads lacks_forced s es u
leads_on n m d l s [] mirrors lost h = (s, refl)
leads_on n m d l s (e ∷ es) mirrors lost h =
    let step = deed_moves n m h.0 d h.1 l h.2 s e mirrors lost h.3 h.4 in
    let rest = leads_on n h.0 h.1 h.2 step.sight es step.mirrors step.lost h.5 in
    (rest.0, (step.sight, step.row, rest.1))

pub deeds_legal : (n : NameNumbers) (m : States) (d : Xid → JudgedDecision) (es : List HistoryEvent)
    → AreNewStates m → DeedsLead n m d none_lost es
    → IsLegal lacks_forced es
deeds_legal n m d es new h = leads_on n m d none_lost first_sight es (new_mirrors n m d new)
    (record { each = tt; here = λ x e. absurd (false≢true e) }) h
