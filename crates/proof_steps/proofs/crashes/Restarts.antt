-- A coordinator's restart, also one in which its device fails, keeps the invariant of each pair below it.
use Rattle.std.proofs.Common.{◌≡◌, ◌∙◌, ◌||◌, ◌&&◌, ℕ, Bool, true, false, List, [], ◌++◌, refl, sym, ap, subst, arith}
use Rattle.std.specs.Prelude.{not, reverse}
use Rattle.protocol.specs.declared.names.Case.{Case}
use Rattle.protocol.specs.declared.names.Presumption.{Presumption}
use Rattle.protocol.specs.declared.names.Presumption.TheVariants.{PresumeAbort, PresumeCommit}
use Rattle.protocol.specs.declared.names.Ticket.{Ticket}
use Rattle.protocol.specs.declared.records.Record.{Record}
use Rattle.protocol.specs.declared.standings.Standing.{Standing}
use Rattle.protocol.specs.Records.{has, is_collecting, is_prepare, is_commit, is_abort, is_end}
use Rattle.protocol.specs.Nodes.{Node, kept}
use Rattle.protocol.specs.Memory.{Memory, fresh_memory}
use Rattle.protocol.specs.Restarts.{left_of}
use Rattle.proof_pairs.specs.Reading.{Reading, Closed}
use Rattle.proof_pairs.specs.Invariant.{Common, PresumedAbort}
use Rattle.proof_pairs.specs.ParentCrash
use Rattle.proof_pairs.specs.ParentCrash.{ParentFront, IsParentFront}
use Rattle.proof_pairs.proofs.ParentCrashAbort
use Rattle.proof_pairs.proofs.ParentCrashCommit
use Rattle.proof_pairs.specs.readings.ReadingOf.{ParentHalf, ChildHalf, Wire, reading_from, parent_half_at, phase_by, is_born}
use Rattle.protocol.specs.Audits.{is_decision_naming}
use Rattle.proof_processes.specs.WorldHolds.{InvariantOf}
use Rattle.proof_processes.proofs.CaseOrders.{AllFit}
use Rattle.proof_steps.proofs.children.Moves.{Fits, onward, common_of}
use Rattle.proof_steps.proofs.crashes.Behind
use Rattle.proof_steps.proofs.crashes.Fronts.{parent_front, is_front}
use Rattle.proof_steps.proofs.crashes.Losing.{Lost, refused_by, refused_lost, left_undecided, reading_broken, reading_broken_aborting, reading_reopened_naming, reading_reopened}
use Rattle.proof_steps.proofs.crashes.LostHalves.{Crashed, lost}
use Rattle.proof_steps.proofs.crashes.Moves
use Rattle.proof_steps.proofs.crashes.Reopened.{collects_alone, is_alone}
use Rattle.proof_steps.proofs.crashes.Resumed.{commit_again, abort_again}

-- What goes out again, as the reading has it.

none_aborted : (fc fa fe ab co owed ak ck a owes : Bool) → ab ≡ false → owes
    ≡ ((ab && co) || ((fc || fa) && owed))
    → a ≡ (ab || fa) → (owed ≡ true → ck ≡ true) → (ck ≡ true → ak ≡ false) → (fa ≡ true → ak ≡ true)
    → (not fc && (a && (not fe && owes))) ≡ false
none_aborted fc fa fe ab co owed ak ck a owes e f g h i j = grind arith

commits_again : (fc fa fe ab co owed owes : Bool) → ab ≡ false → owes ≡ ((ab && co) || ((fc || fa) && owed))
    → (fc && (not fe && owes)) ≡ ((fc && not fe) && ((fc || fa) && owed))
commits_again fc fa fe ab co owed owes e f = grind arith

none_committed : (fc fa fe u co owed ak ck owes : Bool) → owes ≡ ((u && co) || ((fc || fa) && owed))
    → (u ≡ true → fc ≡ false) → (owed ≡ true → ak ≡ true) → (ck ≡ true → ak ≡ false) → (fc ≡ true → ck ≡ true)
    → (fc && (not fe && owes)) ≡ false
none_committed fc fa fe u co owed ak ck owes e f g h i = grind arith

aborts_again : (fc fa fe u co owed ak ck a owes before : Bool) → owes ≡ ((u && co) || ((fc || fa) && owed))
    → a ≡ (u || fa) → (u ≡ true → (fc ≡ false) × (fe ≡ false)) → (fa ≡ true → ak ≡ true)
    → (ck ≡ true → ak ≡ false) → (fc ≡ true → ck ≡ true)
    → ((not fc && (a && (not fe && owes))) || before)
    ≡ (((u && co) || ((fa && not fe) && ((fc || fa) && owed))) || before)
aborts_again fc fa fe u co owed ak ck a owes before e f g h i j = grind arith

undecided_alone : (u fc fa fe fp fk : Bool) → u ≡ ((((fk && not fp) && not fc) && not fa) && not fe) → u
    ≡ true
    → (fc ≡ false) × ((fe ≡ false) × (fa ≡ false))
undecided_alone u fc fa fe fp fk e f = grind arith

owed_alone : (fc fa co owed : Bool) → fc ≡ false → fa ≡ false → ((true && co) || ((fc || fa) && owed)) ≡ co
owed_alone fc fa co owed e f = grind arith

-- forced to the end: what is forced is what is left
forced_left : (front forced : ParentFront) (b : Bool) (p p' : ParentHalf) → Lost front forced b p p'
    → forced.collecting ≡ front.collecting → forced.own_prepare ≡ front.own_prepare → forced.commit
    ≡ front.commit
    → Lost front front b p p'
forced_left front forced b p p' l e f g = record {
  phase = l.phase;
  accepted = l.accepted;
  acked = l.acked;
  took_part = l.took_part;
  first_yes = l.first_yes;
  first_no = l.first_no;
  first_read = l.first_read;
  told_committed = l.told_committed;
  told_aborted = l.told_aborted;
  collecting_kept = l.collecting_kept;
  own_prepare_kept = l.own_prepare_kept;
  commit_kept = l.commit_kept;
  abort_kept = l.abort_kept;
  end_kept = l.end_kept;
  collects = l.collects;
  names = l.names;
  owed = l.owed;
  collecting_forced = l.collecting_forced ∙ e;
  own_prepare_forced = l.own_prepare_forced ∙ f;
  own_prepare_ever = l.own_prepare_ever ∙ ap (λ x. x || p.own_prepare_ever) f;
  commit_forced = l.commit_forced ∙ g;
}

module _ (root manager outcome above : Bool) (k : ChildHalf) (v : Wire) (c : Case) (t : Ticket)
    (n n' : Node) (j : ℕ) (new : List Record) (s s' : Standing) (m : Memory) (fit : AllFit [] (kept n))
    (now : Crashed c t n n' j new) (closed : phase_by n'.failed s' ≡ Closed)
    (life_so : n'.life ≡ reverse new ++ n.life)
    (alone : has (is_abort c) new ≡ true → collects_alone c (left_of n j) ≡ true)
  where
    abbrev p : ParentHalf
    p = parent_half_at s m n c t

    abbrev p' : ParentHalf
    p' = parent_half_at s' fresh_memory n' c t

    abbrev r0 : Reading
    r0 = reading_from root manager outcome above p k v

    abbrev left : List Record
    left = left_of n j

    abbrev front : ParentFront
    front = parent_front c left

    abbrev forced : ParentFront
    forced = parent_front c n'.forced

    abbrev ab : Bool
    ab = has (is_abort c) new

    l : Lost (parent_front c (left_of n j)) (parent_front c n'.forced) (has (is_abort c) new)
        (parent_half_at s m n c t) (parent_half_at s' fresh_memory n' c t)
    l = lost c t n n' j new s s' m fit now closed

    abbrev outcome' : Bool
    outcome' = (root && forced.commit) || outcome

    module _ (born : is_born root p'.begun v.given ≡ is_born root p.begun v.given)
        (refused : refused_by root outcome' p' v ≡ refused_lost root outcome front p v)
      where
        -- The device failed.

        module _ (pr : Presumption) (failed : n'.failed ≡ true) (fit' : AllFit [] (kept n'))
            (holds : (q : Record → Bool) → has q n.forced ≡ true → has q n'.forced ≡ true)
            (inv : InvariantOf pr r0)
          where
            fronts : IsParentFront front r0
            fronts =
                Behind.fronts pr root manager outcome above k v c t n n' j new s s' m fit now closed
                life_so alone inv

            lost_first : Fits pr r0 (ParentCrash.parent_loses front r0)
            lost_first = Moves.loses pr front r0 inv fronts

            -- what is forced then is a front of what is kept then
            front_then : (r : Reading) → r.abort_kept ≡ (ab || front.abort)
                → r.collecting_kept ≡ front.collecting → r.own_prepare_kept ≡ front.own_prepare
                → r.commit_kept ≡ front.commit → r.end_kept ≡ front.end
                → r.collecting_forced ≡ p.collecting_forced → r.own_prepare_forced ≡ p.own_prepare_forced
                → r.commit_forced ≡ p.commit_forced
                → IsParentFront forced r
            front_then r a b d e f g h i =
                is_front c n'.forced n'.unforced n.forced fit' holds r
                (record {
                  collecting = b ∙ sym l.collecting_kept;
                  own_prepare = d ∙ sym l.own_prepare_kept;
                  commit = e ∙ sym l.commit_kept;
                  abort = a ∙ sym l.abort_kept;
                  end = f ∙ sym l.end_kept;
                  collecting_before = λ x. sym g ∙ x;
                  own_prepare_before = λ x. sym h ∙ x;
                  commit_before = λ x. sym i ∙ x;
                })

            plain : ab ≡ false → Fits pr r0 (reading_from root manager outcome' above p' k v)
            plain e =
                let r1 = ParentCrash.parent_loses front r0 in
                subst (λ (z : Reading). Fits pr r0 z)
                (sym (reading_broken root manager outcome above p p' k v front forced
                (subst (λ b. Lost front forced b p p') e l) failed born refused))
                (onward pr r0 r1 (ParentCrash.hardens_failed_parent forced r1) lost_first
                (Moves.hardens_failed pr forced r1 lost_first.invariant
                (record {
                  failed = refl;
                  front_of = front_then r1 (ap (λ b. b || front.abort) (sym e)) refl refl refl refl refl
                      refl refl;
                })))

            aborted : ab ≡ true → pr ≡ PresumeCommit
                → Fits pr r0 (reading_from root manager outcome' above p' k v)
            aborted e q =
                let a = is_alone c left (has (is_collecting c) left) (has (is_prepare c) left)
                (has (is_commit c) left) (has (is_abort c) left) (has (is_end c) left) (alone e) in
                let r1 = ParentCrash.parent_loses front r0 in
                let r2 = ParentCrash.fails_to_abort_at_restart r1 in
                let second : Fits pr r1 r2 =
                subst (λ x. InvariantOf x r1 → Fits x r1 r2) (sym q)
                (λ h. ParentCrashCommit.fails_to_abort_at_restart r1 h
                (record { failed = refl; undecided = alone e }))
                lost_first.invariant in
                subst (λ (z : Reading). Fits pr r0 z)
                (sym (reading_broken_aborting root manager outcome above p p' k v front forced
                (subst (λ b. Lost front forced b p p') e l) failed
                (l.owed
                ∙ (ap (λ b. (b && (front.collecting && p.collects)) ||
                ((front.commit || front.abort) && p.owed)) e
                ∙ owed_alone front.commit front.abort (front.collecting && p.collects) p.owed a.no_commit
                a.no_abort))
                born refused))
                (onward pr r0 r2 (ParentCrash.hardens_failed_parent forced r2)
                (onward pr r0 r1 r2 lost_first second)
                (Moves.hardens_failed pr forced r2 second.invariant
                (record {
                  failed = refl;
                  front_of = front_then r2 (ap (λ b. b || front.abort) (sym e)) refl refl refl refl refl
                      refl refl;
                })))

            never : ab ≡ true → pr ≡ PresumeAbort
                → Fits pr r0 (reading_from root manager outcome' above p' k v)
            never e q =
                absurd (ends (sym (fronts.had_collecting
                (is_alone c left (has (is_collecting c) left) (has (is_prepare c) left)
                (has (is_commit c) left) (has (is_abort c) left) (has (is_end c) left) (alone e)).collects)
                ∙ (subst (λ x. InvariantOf x r0) q inv).never_collects))
              where
                ends : true ≡ false → ⊥
                ends x = cc

            pub breaks_fits : Fits pr r0 (reading_from root manager outcome' above p' k v)
            breaks_fits = by_test ab refl pr refl
              where
                by_test : (b : Bool) → ab ≡ b → (q : Presumption) → pr ≡ q
                    → Fits pr r0 (reading_from root manager outcome' above p' k v)
                by_test false e q f = plain e
                by_test true e PresumeAbort f = never e f
                by_test true e PresumeCommit f = aborted e f

        -- It did not fail.

        module _ (pr : Presumption) (up : n'.failed ≡ false) (rs : List Record)
            (all : (q : Record → Bool) → has q rs ≡ has q (kept n'))
            (forced_so : (q : Record → Bool) → has q n'.forced ≡ has q (kept n'))
            (aborts : ab ≡ collects_alone c left)
            (inv : InvariantOf pr r0)
          where
            abbrev again : Bool
            again = commit_again rs c t

            abbrev aborted_again : Bool
            aborted_again = abort_again rs c t

            abbrev v' : Wire
            v' = record v { commit = again || v.commit; abort = aborted_again || v.abort }

            common : Common r0
            common = common_of pr r0 inv

            fronts' : IsParentFront front r0
            fronts' =
                Behind.fronts pr root manager outcome above k v c t n n' j new s s' m fit now closed
                life_so alone inv

            whole : (b : Bool) → ab ≡ b → Lost front front b p p'
            whole b e =
                forced_left front forced b p p' (subst (λ x. Lost front forced x p p') e l)
                (forced_so (is_collecting c) ∙ l.collecting_kept)
                (forced_so (is_prepare c) ∙ l.own_prepare_kept)
                (forced_so (is_commit c) ∙ l.commit_kept)

            commit_so : forced.commit ≡ front.commit
            commit_so = forced_so (is_commit c) ∙ l.commit_kept

            abbrev then : Bool
            then = (root && front.commit) || outcome

            outcome_so : outcome' ≡ then
            outcome_so = ap (λ b. (root && b) || outcome) commit_so

            refused_then : refused_by root then p' v ≡ refused_lost root outcome front p v
            refused_then = subst (λ b. refused_by root b p' v ≡ refused_lost root outcome front p v)
                outcome_so refused

            owes : has (is_decision_naming c t) rs
                ≡ ((ab && (front.collecting && p.collects)) || ((front.commit || front.abort) && p.owed))
            owes = all (is_decision_naming c t) ∙ l.owed

            abbrev Owes : Bool
            Owes = has (is_decision_naming c t) rs

            again_so : again ≡ (front.commit && (not front.end && Owes))
            again_so =
                ap (λ b. b && (not (has (is_end c) rs) && Owes)) (all (is_commit c) ∙ l.commit_kept)
                ∙ ap (λ b. front.commit && (not b && Owes)) (all (is_end c) ∙ l.end_kept)

            aborted_so : aborted_again ≡ (not front.commit &&
                (has (is_abort c) rs && (not front.end && Owes)))
            aborted_so =
                ap (λ b. not b && (has (is_abort c) rs && (not (has (is_end c) rs) && Owes)))
                (all (is_commit c) ∙ l.commit_kept)
                ∙ ap (λ b. not front.commit && (has (is_abort c) rs && (not b && Owes)))
                (all (is_end c) ∙ l.end_kept)

            abort_rs : has (is_abort c) rs ≡ (ab || front.abort)
            abort_rs = all (is_abort c) ∙ l.abort_kept

            not_both : p.commit_kept ≡ true → p.abort_kept ≡ false
            not_both e = (common.commit_decided e).1

            abbrev R : Bool → Wire → Reading
            R o w = reading_from root manager o above p' k w

            ends : {A : Type 0} → true ≡ false → A
            ends x = absurd (cc)

            by_abort : pr ≡ PresumeAbort → Fits pr r0 (R outcome' v')
            by_abort q =
                let h = subst (λ x. InvariantOf x r0) q inv in
                let none : ab ≡ false = none_alone h ab refl in
                let commits : again
                ≡ ((front.commit && not front.end) && ((front.commit || front.abort) && p.owed)) =
                again_so ∙ commits_again front.commit front.abort front.end ab
                (front.collecting && p.collects) p.owed Owes
                none owes in
                let aborts_not : aborted_again ≡ false =
                aborted_so
                ∙ none_aborted front.commit front.abort front.end ab (front.collecting && p.collects) p.owed
                p.abort_kept p.commit_kept (has (is_abort c) rs) Owes none owes abort_rs h.owed_stands
                not_both
                fronts'.had_abort in
                subst (λ (z : Reading). Fits pr r0 z)
                (sym (ap (λ b. R b v') outcome_so
                ∙ (ap (λ b. R then (record v {
                  commit = b || v.commit;
                  abort = aborted_again || v.abort;
                })) commits
                ∙ (ap (λ b. R then (record v {
                  commit = ((front.commit && not front.end) && ((front.commit || front.abort) && p.owed))
                      || v.commit;
                  abort = b || v.abort;
                })) aborts_not
                ∙ reading_reopened_naming root manager outcome above p p' k v front (whole false none) up
                (never_forced h) born refused_then))))
                (subst (λ x. InvariantOf x r0 → Fits x r0 (ParentCrash.parent_restarts_naming front r0))
                (sym q)
                (λ i. ParentCrashAbort.parent_restarts front r0 i fronts') inv)
              where
                none_alone : PresumedAbort r0 → (b : Bool) → ab ≡ b → ab ≡ false
                none_alone h true e =
                    ends (sym (fronts'.had_collecting
                    (is_alone c left (has (is_collecting c) left) (has (is_prepare c) left)
                    (has (is_commit c) left) (has (is_abort c) left) (has (is_end c) left)
                    (alone e)).collects)
                    ∙ h.never_collects)
                none_alone h false e = e

                both_false : (a b d : Bool) → (a ≡ true → d ≡ true) → (b ≡ true → d ≡ true) → d ≡ false
                    → a ≡ b
                both_false a b d f g e = grind arith

                never_forced : PresumedAbort r0 → front.collecting ≡ p.collecting_forced
                never_forced h =
                    both_false front.collecting p.collecting_forced p.collecting_kept fronts'.had_collecting
                    common.forced_collecting h.never_collects

            by_commit : pr ≡ PresumeCommit → Fits pr r0 (R outcome' v')
            by_commit q =
                let h = subst (λ x. InvariantOf x r0) q inv in
                let u : Bool = left_undecided root manager outcome above p p' k v front in
                let is_u : ab ≡ u = aborts in
                let decided = λ (e : u ≡ true). undecided_alone u front.commit front.abort front.end
                front.own_prepare
                front.collecting refl e in
                let owes_u = owes
                ∙ ap (λ b. (b && (front.collecting && p.collects)) ||
                ((front.commit || front.abort) && p.owed)) is_u in
                let commits_not : again ≡ false =
                again_so
                ∙ none_committed front.commit front.abort front.end u (front.collecting && p.collects)
                p.owed p.abort_kept
                p.commit_kept Owes owes_u (λ e. (decided e).0) h.owed_stands not_both fronts'.had_commit in
                let aborts_so =
                ap (λ b. b || v.abort) aborted_so
                ∙ aborts_again front.commit front.abort front.end u (front.collecting && p.collects)
                p.owed p.abort_kept
                p.commit_kept (has (is_abort c) rs) Owes v.abort owes_u
                (abort_rs ∙ ap (λ b. b || front.abort) is_u)
                (λ e. ((decided e).0, (decided e).1.0)) fronts'.had_abort not_both fronts'.had_commit in
                subst (λ (z : Reading). Fits pr r0 z)
                (sym (ap (λ b. R b v') outcome_so
                ∙ (ap (λ b. R then (record v {
                  commit = b || v.commit;
                  abort = aborted_again || v.abort;
                })) commits_not
                ∙ (ap (λ b. R then (record v { abort = b })) aborts_so
                ∙ reading_reopened root manager outcome above p p' k v front (whole u is_u) up born
                refused_then))))
                (subst (λ x. InvariantOf x r0 → Fits x r0 (ParentCrash.parent_restarts front r0)) (sym q)
                (λ i. ParentCrashCommit.parent_restarts front r0 i fronts') inv)

            pub reopens_fits : Fits pr r0 (R outcome' v')
            reopens_fits = by_presumption pr refl
              where
                by_presumption : (x : Presumption) → pr ≡ x → Fits pr r0 (R outcome' v')
                by_presumption PresumeAbort e = by_abort e
                by_presumption PresumeCommit e = by_commit e
