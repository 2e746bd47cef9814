-- What is written of a run, as the report of its script.
use Rattle.std.proofs.Common.{◌≡◌, ◌∙◌, ◌⊎◌, ◌+◌, ◌<◌, ◌≤◌, ap, refl, sym, subst, inl, inr, eqb, eq-eqb, if◌then◌else◌, Bool, true, false, ℕ, zero, suc, List, [], ◌∷◌, All, Result, Ok, Err, IfOk, arith}
use Rattle.std.proofs.lemmas.Bool.{cases_lt}
use Rattle.std.proofs.lemmas.List.Elements.{All-cons, All-nil}
use Rattle.protocol.specs.declared.events.JournalEntry.{JournalEntry}
use Rattle.protocol.specs.declared.events.Event.{Event}
use Rattle.protocol.specs.declared.trees.TreeProcess.{TreeProcess}
use Rattle.tree_script.specs.Inputs.{IsScript}
use Rattle.report_io.specs.declared.streams.Failure.{Failure}
use Rattle.report_io.specs.declared.streams.Failure.TheVariants as failure
use Rattle.report_io.specs.declared.status.Status.{Status}
use Rattle.report_io.specs.declared.status.Status.TheVariants.{Ended, Refused, Stopped}
use Rattle.cluster_process.specs.declared.errors.PostError.{PostError}
use Rattle.cluster_process.specs.Passes.{PassState}
use Rattle.cluster_ties.specs.Views.{AreBelow, pairs_by}
use Rattle.cluster_tree.specs.Closing.{IsMet}
use Rattle.cluster_tree.specs.Passes.{IsDelivery, IsLonger, new_pass, new_passes}
use Rattle.cluster_engine.specs.declared.engine.ClusterOutput.{ClusterOutput}
use Rattle.cluster_engine.specs.Made.{AreLonger, AreMade, FirstMade, FirstStops, StopsAt}
use Rattle.cluster_engine.specs.Reports.{AreAsked, CannotReport, CannotWrite, ClosesUnnumbered, IsClusterReport, IsPostFailure, RefusesBehind, RefusesOne, RunsTree, TellsClosed, WritesReport}
use Rattle.cluster_engine.proofs.Making.{AreNext, first_new}

by_status : (output : ClusterOutput) (status : Status) (input : List ℕ) (tree : List TreeProcess)
    (events : List Event)
    (text : List ℕ) → IsScript input tree events → WritesReport output status tree events text
    → IsClusterReport output status input text
by_status output Ended input tree events text script writes =
    record { tree = tree; events = events; script = script; writes = writes }
by_status output Stopped input tree events text script writes =
    record { tree = tree; events = events; script = script; writes = writes }
by_status output Refused input tree events text script writes = absurd writes

-- what is written of a script's tree is the report of the script
pub reported : {A E : Type 0} (text_of : A × Status → List ℕ) (output : ClusterOutput) (input : List ℕ)
    (tree : List TreeProcess) (events : List Event) (made : Result (A × Status) E)
    → IsScript input tree events
    → IfOk made (λ r. WritesReport output r.1 tree events (text_of r))
    → IfOk made (λ r. IsClusterReport output r.1 input (text_of r))
reported text_of output input tree events (Ok r) script writes =
    by_status output r.1 input tree events (text_of r) script writes
reported text_of output input tree events (Err e) script writes = tt

-- the first of some new passes is the one that leads
stops_first : (tree : List TreeProcess) (events : List Event) (workers : ℕ)
    (given : List PassState) (made : ℕ)
    (why : PostError) → 0 < workers → given ≡ new_passes workers → FirstStops tree events given made why
    → StopsAt tree events (new_pass 0) made why
stops_first tree events zero given made why some new stops = absurd (omega (arith, some))
stops_first tree events (suc n) given made why some new stops =
    subst (λ l. FirstStops tree events l made why) (new ∙ (first_new n).1) stops

-- the line of a refused event is what is written of a run that stopped there
pub refused_written : {A E : Type 0} (text_of : A × Status → List ℕ) (output : ClusterOutput)
    (tree : List TreeProcess)
    (events : List Event) (workers : ℕ) (given : List PassState) (count : ℕ) (why : PostError)
    (made : Result (A × Status) E) → 0 < workers → given ≡ new_passes workers
    → FirstStops tree events given count why
    → IfOk made (λ r. RefusesBehind count why (text_of r)) → IfOk made (λ r. r.1 ≡ Stopped)
    → IfOk made (λ r. WritesReport output r.1 tree events (text_of r))
refused_written text_of output tree events workers given count why (Ok r) some new stops line status =
    let refuses : RefusesOne tree events (text_of r) = record {
      made = count;
      why = why;
      stops = stops_first tree events workers given count why some new stops;
      tells = line;
    } in
    subst (λ s. WritesReport output s tree events (text_of r)) (sym status) refuses
refused_written text_of output tree events workers given count why (Err e) some new stops line status = tt

-- a pass that was new, with which messages were delivered alone, has deliveries alone
all_deliver : (c : ℕ) (q : PassState) → IsLonger (new_pass c) q → All IsDelivery q.pairs
all_deliver c q long = subst (All IsDelivery) (sym long.pairs) long.deliver

-- of the passes of those who do not lead, the first of whom has this number
others_deliver : (journal : List (ℕ × JournalEntry)) (n c : ℕ) (ps qs : List PassState) → AreNext n c ps
    → AreLonger ps qs
    → All (IsMet journal) qs → (k : ℕ) → c ≤ k → k < c + n → All IsDelivery (pairs_by k 0 journal)
others_deliver journal zero c ps qs next long met k low high = absurd (omega (arith, low, high))
others_deliver journal (suc n) c [] qs next long met k low high = absurd next
others_deliver journal (suc n) c (p ∷ ps) [] next long met k low high = absurd long
others_deliver journal (suc n) c (p ∷ ps) (q ∷ qs) next long met k low high =
    elim (cases_lt c k) [
      | inl lt ↦ others_deliver journal n (suc c) ps qs next.1 long.1
          (λ i d within. met (suc i) d (omega (arith, within))) k
          (omega (arith, lt)) (omega (arith, high))
      | inr ge ↦
          let same : c ≡ k = omega (arith, ge, low) in
          let own : IsLonger (new_pass c) q = subst (λ x. IsLonger x q) next.0 long.0 in
          let here : q.pairs ≡ pairs_by q.caller 0 journal = met 0 q (omega arith) in
          subst (All IsDelivery) (here ∙ ap (λ m. pairs_by m 0 journal) (own.caller ∙ same))
          (all_deliver c q own)
    ]

-- each entry of a journal was asked for, where those under each number but the first are deliveries
all_asked : (n k : ℕ) (journal : List (ℕ × JournalEntry)) → AreBelow n journal
    → ((c : ℕ) → 1 ≤ c → c < n → All IsDelivery (pairs_by c k journal)) → AreAsked journal
all_asked n k [] below others = All-nil (λ x. (x.0 ≡ 0) ⊎ IsDelivery x)
all_asked n k (x ∷ xs) below others =
    All-cons (λ x. (x.0 ≡ 0) ⊎ IsDelivery x) x xs (first x.0 refl)
    (all_asked n (suc k) xs below.1 (λ c low high. rest c (eqb c x.0) (others c low high)))
  where
    first : (c : ℕ) → x.0 ≡ c → (x.0 ≡ 0) ⊎ IsDelivery x
    first zero is = inl is
    first (suc c) is =
        let lt = below.0 in
        let low : 1 ≤ x.0 = omega (arith, is) in
        let all = subst (λ b. All IsDelivery (if b then (k, x.1) ∷ pairs_by x.0 (suc k) xs
        else pairs_by x.0 (suc k) xs))
        (eq-eqb x.0 x.0 refl) (others x.0 low lt) in
        inr (all 0 (k, x.1) (omega arith))

    rest : (c : ℕ) (b : Bool)
        → All IsDelivery (if b then (k, x.1) ∷ pairs_by c (suc k) xs else pairs_by c (suc k) xs)
        → All IsDelivery (pairs_by c (suc k) xs)
    rest c true all = λ i d within. all (suc i) d (omega (arith, within))
    rest c false all = all

runs_tree : (output : ClusterOutput) (tree : List TreeProcess) (events : List Event) (n : ℕ)
    (rest : List PassState)
    (q : PassState) (qs : List PassState) (text : List ℕ) → AreNext n 1 rest
    → AreMade tree events (new_pass 0) q
    → AreLonger rest qs → TellsClosed output tree (suc n) (q ∷ qs) text → RunsTree output tree events text
runs_tree output tree events n rest q qs text next made long told = record {
  journal = told.journal;
  logs = told.logs;
  closed = told.closed;
  pass = q;
  made = made;
  met = told.met 0 q (omega arith);
  asked = all_asked (suc n) 0 told.journal told.known
      (λ c low high. others_deliver told.journal n 1 rest qs next long
      (λ i d within. told.met (suc i) d (omega (arith, within))) c low (omega (arith, high)));
  tells = told.tells;
}

told_so : (output : ClusterOutput) (tree : List TreeProcess) (events : List Event) (n : ℕ)
    (rest passes : List PassState)
    (text : List ℕ) → AreNext n 1 rest → FirstMade tree events (new_pass 0 ∷ rest) passes
    → TellsClosed output tree (suc n) passes text → RunsTree output tree events text
told_so output tree events n rest [] text next made told = absurd made
told_so output tree events n rest (q ∷ qs) text next made told =
    runs_tree output tree events n rest q qs text next made.0 made.1 told

-- what a closed cluster tells is what is written of its run
pub closed_written : {A E : Type 0} (text_of : A × Status → List ℕ) (output : ClusterOutput)
    (tree : List TreeProcess)
    (events : List Event) (workers callers : ℕ) (given passes : List PassState) (made : Result (A × Status) E)
    → 0 < workers → workers ≡ callers → given ≡ new_passes workers → FirstMade tree events given passes
    → IfOk made (λ r. TellsClosed output tree callers passes (text_of r)) → IfOk made (λ r. r.1 ≡ Ended)
    → IfOk made (λ r. WritesReport output r.1 tree events (text_of r))
closed_written text_of output tree events zero callers given passes made some as_many new first told status =
    absurd (omega (arith, some))
closed_written text_of output tree events (suc n) callers given passes (Ok r) some as_many new
    first told status =
    let rest = first_new n in
    subst (λ s. WritesReport output s tree events (text_of r)) (sym status)
    (told_so output tree events n rest.0 passes (text_of r) rest.2
    (subst (λ l. FirstMade tree events l passes) (new ∙ rest.1) first)
    (subst (λ k. TellsClosed output tree k passes (text_of r)) (sym as_many) told))
closed_written text_of output tree events (suc n) callers given passes (Err e) some as_many new first
    told status = tt

-- Why nothing is written.

-- the journal of a closed cluster has too many messages to be told
pub not_closed : (tree : List TreeProcess) (events : List Event) (why : Failure)
    → (why ≡ failure.Memory) ⊎ ((why ≡ failure.Exhausted) × ClosesUnnumbered tree)
    → (why ≡ failure.Memory) ⊎ CannotWrite tree events why
not_closed tree events why (inl memory) = inl memory
not_closed tree events why (inr (exhausted, closes)) = inr (inr (exhausted, closes))

-- one of the events was refused for a reason after which no run goes on
pub not_posted : (tree : List TreeProcess) (events : List Event) (workers : ℕ)
    (given : List PassState) (made : ℕ)
    (refusal : PostError) (why : Failure) → 0 < workers → given ≡ new_passes workers
    → FirstStops tree events given made refusal → (why ≡ failure.Memory) ⊎ IsPostFailure refusal why
    → (why ≡ failure.Memory) ⊎ CannotWrite tree events why
not_posted tree events workers given made refusal why some new stops (inl memory) = inl memory
not_posted tree events workers given made refusal why some new stops (inr fails) =
    inr (inl (record {
      made = made;
      refusal = refusal;
      stops = stops_first tree events workers given made refusal some new stops;
      fails = fails;
    }))

-- nothing is written of a script
pub not_reported : (input : List ℕ) (tree : List TreeProcess) (events : List Event) (why : Failure)
    → IsScript input tree events → (why ≡ failure.Memory) ⊎ CannotWrite tree events why
    → (why ≡ failure.Memory) ⊎ CannotReport input why
not_reported input tree events why script (inl memory) = inl memory
not_reported input tree events why script (inr cannot) =
    inr (record { tree = tree; events = events; script = script; cannot = cannot })
