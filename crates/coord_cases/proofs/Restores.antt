-- The live cases as records leave them, one after another.
use Rattle.std.proofs.Common.{◌≡◌, ◌∙◌, ◌⊎◌, inl, inr, ℕ, Bool, true, false, List, [], ◌∷◌, ◌++◌, Option, Some, None, if◌then◌else◌, refl, sym, ap, subst}
use Rattle.std.proofs.lemmas.Bool.{cases_eq}
use Rattle.std.proofs.lemmas.Grind.{flat_map-append}
use Rattle.std.proofs.lemmas.List.{append-nil, append_assoc}
use Rattle.std.specs.List.{AllByRecursion, IsDistinct, flat_map}
use Rattle.std.specs.Map.{keys_of, lookup}
use Rattle.protocol.specs.declared.names.Case.{Case}
use Rattle.protocol.specs.declared.names.ProcessId.{ProcessId}
use Rattle.protocol.specs.declared.messages.Envelope.{Envelope}
use Rattle.protocol.specs.declared.standings.Standing.{Standing}
use Rattle.protocol.specs.declared.standings.Standing.TheVariants.{Unknown, Active, Collecting, Prepared, Committing, Aborting, Heuristic}
use Rattle.protocol.specs.Names.{same_case}
use Rattle.protocol.specs.Restarts.{is_known, resumes_by}
use Rattle.protocol.specs.Standings.{CoordinatorView, known_view, unknown_view}
use Rattle.protocol.proofs.Equality.{case_equality}
use Rattle.protocol.proofs.NameTests.{case_tells}
use Rattle.case_table.specs.Tables.{entry_at, live_value}
use Rattle.coord_effects.specs.declared.seat.OwnCase.{OwnCase}
use Rattle.coord_effects.specs.Rows.{seat_meant}
use Rattle.coord_cases.specs.declared.held.Held.{Held}
use Rattle.coord_cases.specs.Cases.{Restores, Slots, held_view, ticket_in, view_in}
use Rattle.coord_records.specs.Summaries.{Summary, restored_view, standing_of, view_of}
use Rattle.coord_records.specs.Readings.{ReadLog, SummaryTable, same}
use Rattle.coord_cases.specs.Restores.{IsRestored, RestoresAll, RestoresNext, resumed_of, view_found}
use Rattle.coord_records.proofs.CaseTables.{apart_back, is_same}

known_so : (st : Standing) → (st ≡ Unknown → ⊥) → is_known st ≡ true
known_so Unknown h = absurd (h refl)
known_so Active h = refl
known_so Collecting h = refl
known_so Prepared h = refl
known_so Committing h = refl
known_so Aborting h = refl
known_so Heuristic h = refl

known_is : (st : Standing) (v : CoordinatorView) → (st ≡ Unknown → ⊥) → known_view st v ≡ v
known_is Unknown v h = absurd (h refl)
known_is Active v h = refl
known_is Collecting v h = refl
known_is Prepared v h = refl
known_is Committing v h = refl
known_is Aborting v h = refl
known_is Heuristic v h = refl

module _ (s : OwnCase) (summary : Summary) (old : Slots) (sent : List Envelope)
    (gone : live_value old s.case ≡ None) where
  -- a case of which nothing is left
  pub next_unknown : standing_of summary ≡ Unknown → RestoresNext s summary old old sent sent
  next_unknown unknown =
      record {
        messages = sym (ap (λ (v : CoordinatorView). sent ++ resumes_by (seat_meant s) v v.standing)
            forgotten ∙ append-nil sent);
        own = ap held_view gone ∙ sym forgotten;
        others = λ d differs. refl;
        only = λ d differs none. none;
        tickets = λ d. refl;
        entries = λ k p at. inl at;
      }
    where
      forgotten : view_of summary ≡ unknown_view
      forgotten = ap (λ st. known_view st (restored_view st summary)) unknown

  -- a live case
  pub next_live : (st : Standing) (live : CoordinatorView) (new : Slots) (now_sent : List Envelope)
      → st ≡ standing_of summary → (st ≡ Unknown → ⊥)
      → live ≡ restored_view st summary → Restores old new s.case live
      → now_sent ≡ sent ++ resumes_by (seat_meant s) live live.standing
      → RestoresNext s summary old new sent now_sent
  next_live st live new now_sent stands known is restores sends =
      record {
        messages = sends ∙ ap (λ (v : CoordinatorView). sent ++ resumes_by (seat_meant s) v v.standing)
            viewed;
        own = restores.moves.own ∙ viewed;
        others = restores.moves.others;
        only = restores.only;
        tickets = restores.tickets;
        entries = entries;
      }
    where
      viewed : live ≡ view_of summary
      viewed = is ∙ sym (known_is st (restored_view st summary) known)
          ∙ ap (λ t. known_view t (restored_view t summary)) stands

      entries : (k : ℕ) (p : Case × Held) → entry_at new k ≡ Some p
          → (entry_at old k ≡ Some p) ⊎ IsRestored p
      entries k p at =
          elim (cases_eq k restores.key) [
            | inl one ↦
                let same_entry : Some (s.case, record { given_for = None; live = live }) ≡ Some p =
                sym restores.updates.changed ∙ sym (ap (entry_at new) one) ∙ at in
                let entry : (s.case, record { given_for = None; live = live }) ≡ p = cc in
                inr (
                  ap (λ (q : Case × Held). q.1.given_for) (sym entry),
                  ap (λ (q : Case × Held). is_known q.1.live.standing) (sym entry)
                      ∙ ap (λ (v : CoordinatorView). is_known v.standing) is ∙ known_so st known,
                )
            | inr other ↦ inl (sym (restores.updates.others k other) ∙ at)
          ]

-- Entries one after another.

found_then : Option Summary → Option Summary → Option Summary
found_then None o = o
found_then (Some s) o = Some s

lookup_end : (d c : Case) (s : Summary) (es : SummaryTable) → lookup (same d) (es ++ (c, s) ∷ [])
    ≡ found_then (lookup (same d) es) (if same d c then Some s else None)
unfolding found_then
lookup_end d c s [] = refl
lookup_end d c s (e ∷ es) = by_test (lookup_end d c s es) (same d e.0)
  where
    by_test : lookup (same d) (es ++ (c, s) ∷ []) ≡ found_then (lookup (same d) es) (if same d
        c then Some s else None) → (b : Bool) → (if b then Some e.1 else lookup (same d) (es ++ (c, s) ∷ []))
        ≡ found_then (if b then Some e.1 else lookup (same d) es) (if same d c then Some s else None)
    by_test rest true = refl
    by_test rest false = rest

lookup_other : (d c : Case) (s : Summary) (es : SummaryTable) → same_case c d ≡ false
    → lookup (same d) (es ++ (c, s) ∷ []) ≡ lookup (same d) es
unfolding found_then
lookup_other d c s es differs =
    lookup_end d c s es ∙ ap (λ b. found_then (lookup (same d) es) (if b then Some s else None))
    (case_equality d c ∙ apart_back c d differs) ∙ nothing (lookup (same d) es)
  where
    nothing : (o : Option Summary) → found_then o None ≡ o
    nothing None = refl
    nothing (Some t) = refl

lookup_own : (c : Case) (s : Summary) (es : SummaryTable) → lookup (same c) es ≡ None
    → lookup (same c) (es ++ (c, s) ∷ []) ≡ Some s
unfolding found_then
lookup_own c s es none =
    lookup_end c c s es ∙ ap (λ o. found_then o (if same c c then Some s else None)) none
    ∙ ap (λ b. if b then Some s else None) (case_equality c c ∙ (case_tells c c).1 refl)

differs_there : (P : Case → Type 0) (c : Case) (s : Summary) (es rest : SummaryTable)
    → AllByRecursion P (keys_of (es ++ (c, s) ∷ rest)) → P c
differs_there P c s [] rest all = all.0
differs_there P c s (e ∷ es) rest all = differs_there P c s es rest all.1

-- what comes later was not found before
pub not_before : (c : Case) (s : Summary) (done rest : SummaryTable)
    → IsDistinct same (keys_of (done ++ (c, s) ∷ rest)) → lookup (same c) done ≡ None
unfolding IsDistinct
not_before c s [] rest apart = refl
not_before c s (e ∷ done) rest apart =
    let differs : same e.0 c ≡ false = differs_there (λ d. same e.0 d ≡ false) c s done rest apart.0 in
    let back : same c e.0 ≡ false = case_equality c e.0
    ∙ apart_back e.0 c (sym (case_equality e.0 c) ∙ differs) in
    ap (λ b. if b then Some e.1 else lookup (same c) done) back ∙ not_before c s done rest apart.1

none_live : (c : Case) → live_value {V = Held} [] c ≡ None
unfolding live_value
none_live c = refl

none_viewed : (c : Case) → view_in [] c ≡ unknown_view
none_viewed c = ap held_view (none_live c)

none_given : (d : Case) → ticket_in [] d ≡ None
unfolding ticket_in
none_given d = refl

-- the entries in front of these rest are restored
pub record IsRestoring (me : ProcessId) (parent : Option ProcessId) (es rest : SummaryTable)
    (slots : Slots) (sent : List Envelope) : Type 0 where
  pub done : SummaryTable
  pub split : done ++ rest ≡ es
  pub apart : IsDistinct same (keys_of es)
  pub messages : sent ≡ flat_map (resumed_of me parent) done
  pub views : (c : Case) → view_in slots c ≡ view_found (lookup (same c) done)
  pub absent : (c : Case) → lookup (same c) done ≡ None → live_value slots c ≡ None
  pub tickets : (d : Case) → ticket_in slots d ≡ None
  pub entries : (k : ℕ) (p : Case × Held) → entry_at slots k ≡ Some p → IsRestored p

module _ (me : ProcessId) (parent : Option ProcessId) (es : SummaryTable) where
  pub restoring_begins : (slots : Slots) (sent : List Envelope) → IsDistinct same (keys_of es) → slots ≡ []
      → sent ≡ [] → IsRestoring me parent es es slots sent
  restoring_begins slots sent apart bare quiet =
      subst (λ t. IsRestoring me parent es es t sent) (sym bare)
      (subst (λ ms. IsRestoring me parent es es [] ms) (sym quiet)
      (record {
        done = [];
        split = refl;
        apart = apart;
        messages = refl;
        views = λ c. none_viewed c;
        absent = λ c none. none_live c;
        tickets = λ d. none_given d;
        entries = λ k p at. absurd (cc);
      }))

  -- the next case is not live yet
  pub restoring_is_new : (c : Case) (s : Summary) (rest : SummaryTable) (slots : Slots) (sent : List Envelope)
      → IsRestoring me parent es ((c, s) ∷ rest) slots sent → live_value slots c ≡ None
  restoring_is_new c s rest slots sent restoring =
      restoring.absent c (not_before c s restoring.done rest
      (subst (λ t. IsDistinct same (keys_of t)) (sym restoring.split) restoring.apart))

  pub restoring_goes_on : (c : Case) (s : Summary) (rest : SummaryTable) (slots new : Slots)
      (sent now_sent : List Envelope)
      → IsRestoring me parent es ((c, s) ∷ rest) slots sent
      → RestoresNext (record { me = me; parent = parent; case = c }) s slots new sent now_sent
      → IsRestoring me parent es rest new now_sent
  restoring_goes_on c s rest slots new sent now_sent restoring next =
      record {
        done = restoring.done ++ (c, s) ∷ [];
        split = append_assoc restoring.done ((c, s) ∷ []) rest ∙ restoring.split;
        apart = restoring.apart;
        messages =
            next.messages ∙ ap (λ ms. ms ++ resumed_of me parent (c, s)) restoring.messages
            ∙ ap (λ ms. flat_map (resumed_of me parent) restoring.done ++ ms)
            (sym (append-nil (resumed_of me parent (c, s))))
            ∙ sym (flat_map-append (resumed_of me parent) restoring.done ((c, s) ∷ []));
        views = λ d. viewed d (same_case c d) refl;
        absent = λ d none. gone d none (same_case c d) refl;
        tickets = λ d. next.tickets d ∙ restoring.tickets d;
        entries = λ k p at. elim (next.entries k p at)
            [ inl was ↦ restoring.entries k p was | inr made ↦ made ];
      }
    where
      fresh : lookup (same c) restoring.done ≡ None
      fresh = not_before c s restoring.done rest
          (subst (λ t. IsDistinct same (keys_of t)) (sym restoring.split) restoring.apart)

      viewed : (d : Case) (b : Bool) → same_case c d ≡ b
          → view_in new d ≡ view_found (lookup (same d) (restoring.done ++ (c, s) ∷ []))
      viewed d true is =
          subst (λ e. view_in new e ≡ view_found
          (lookup (same e) (restoring.done ++ (c, s) ∷ []))) (is_same c d is)
          (next.own ∙ ap view_found (sym (lookup_own c s restoring.done fresh)))
      viewed d false is = next.others d is ∙ restoring.views d
          ∙ ap view_found (sym (lookup_other d c s restoring.done is))

      gone : (d : Case) → lookup (same d) (restoring.done ++ (c, s) ∷ []) ≡ None → (b : Bool)
          → same_case c d ≡ b → live_value new d ≡ None
      gone d none true is =
          let there : Some s ≡ None =
          sym (lookup_own c s restoring.done fresh) ∙ subst
          (λ e. lookup (same e) (restoring.done ++ (c, s) ∷ []) ≡ None) (sym (is_same c d is)) none in
          absurd (cc)
      gone d none false is = next.only d is (restoring.absent d
          (sym (lookup_other d c s restoring.done is) ∙ none))

-- all are restored
pub restoring_ends : (me : ProcessId) (parent : Option ProcessId) (r : ReadLog)
    (slots : Slots) (sent : List Envelope)
    → IsRestoring me parent r.table [] slots sent → RestoresAll me parent r slots sent
restoring_ends me parent r slots sent restoring =
    let all : restoring.done ≡ r.table = sym (append-nil restoring.done) ∙ restoring.split in
    record {
      messages = restoring.messages ∙ ap (flat_map (resumed_of me parent)) all;
      views = λ c. restoring.views c ∙ ap (λ t. view_found (lookup (same c) t)) all;
      tickets = restoring.tickets;
      entries = restoring.entries;
    }
