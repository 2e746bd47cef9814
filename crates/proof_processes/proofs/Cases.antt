-- The cases of which a cascaded coordinator has a record, a memory or a child are its own.
use Rattle.std.proofs.Common.{◌≡◌, ◌≢◌, ◌∙◌, ◌⊎◌, ◌||◌, inl, inr, Bool, true, false, Option, Some, None, List, [], ◌∷◌, ◌++◌, refl, sym, subst, if◌then◌else◌, arith}
use Rattle.std.specs.Prelude.{fold, filter, find, not}
use Rattle.protocol.specs.declared.names.Case.{Case}
use Rattle.protocol.specs.declared.names.ProcessId.{ProcessId}
use Rattle.protocol.specs.declared.names.Ticket.{Ticket}
use Rattle.protocol.specs.declared.names.Txn.{Txn}
use Rattle.protocol.specs.declared.names.Presumption.{Presumption}
use Rattle.protocol.specs.declared.names.Presumption.TheVariants.{PresumeAbort, PresumeCommit}
use Rattle.protocol.specs.declared.records.Record.{Record}
use Rattle.protocol_words.specs.Variants.{AbortRecord, CollectingRecord, CommitRecord, EndRecord, PrepareRecord}
use Rattle.protocol.specs.declared.standings.Standing.{Standing}
use Rattle.protocol.specs.declared.standings.Standing.TheVariants.{Unknown, Active, Collecting, Prepared, Committing, Aborting, Heuristic}
use Rattle.protocol.specs.Names.{same_case}
use Rattle.protocol.specs.NameLaws.{same_case_tells}
use Rattle.protocol.specs.Records.{has, has_case, record_case, with_case, with_record, cases_in, is_end, is_commit, is_abort, is_prepare, is_collecting}
use Rattle.protocol.specs.Nodes.{Place, Role, Below, Node, kept}
use Rattle.protocol.specs.Memory.{Memory, Phase, Idle, memory_of}
use Rattle.protocol.specs.Standings.{coordinator_view, coordinator_standing, view_at, phase_standing, own_cases, case_of_child, some_case}
use Rattle.proof_processes.specs.Owns.{is_own_case, is_foreign, is_foreign_case, AllOwn}
use Rattle.proof_processes.proofs.Memories.{Own, memory_owns, own_both}

-- Records.

module _ (me : ProcessId) where
  own_if : (b : Bool) (cs : List Case) (c : Case) → AllOwn me cs → is_own_case me c ≡ true
      → AllOwn me (if b then cs else cs ++ c ∷ [])
  own_if true cs c a o = a
  own_if false cs c a o = own_both me cs (c ∷ []) a (o, tt)

  own_with : (cs : List Case) (o : Option Case) → AllOwn me cs → is_foreign_case me o ≡ false
      → AllOwn me (with_case cs o)
  own_with cs None a e = a
  own_with cs (Some c) a e = own_if (has_case cs c) cs c a (is_so (is_own_case me c) e)
    where
      is_so : (b : Bool) → not b ≡ false → b ≡ true
      is_so true f = refl
      is_so false f = absurd (cc)

  own_recorded : (cs : List Case) (rs : List Record) → AllOwn me cs → has (is_foreign me) rs ≡ false
      → AllOwn me (fold with_record cs rs)
  unfolding has
  own_recorded cs [] a e = a
  own_recorded cs (r ∷ rs) a e =
      own_recorded (with_record cs r) rs (own_with cs (record_case r) a (first_false _ _ e))
      (second_false _ _ e)
    where
      first_false : (a b : Bool) → (a || b) ≡ false → a ≡ false
      first_false a b e = grind arith

      second_false : (a b : Bool) → (a || b) ≡ false → b ≡ false
      second_false a b e = grind arith

  pub own_cases_in : (rs : List Record) → has (is_foreign me) rs ≡ false → AllOwn me (cases_in rs)
  unfolding cases_in
  own_cases_in rs e = own_recorded [] rs tt e

  own_filtered : (f : Case → Bool) (cs : List Case) → AllOwn me cs → AllOwn me (filter f cs)
  own_filtered f [] a = tt
  own_filtered f (c ∷ cs) a = by_test (f c) refl (own_filtered f cs a.1)
    where
      by_test : (b : Bool) → f c ≡ b → AllOwn me (filter f cs) → AllOwn me (filter f (c ∷ cs))
      by_test true e k = rw e (a.0, k)
      by_test false e k = rw e k

  own_found : (f : Case → Bool) (cs : List Case) (c : Case) → AllOwn me cs → find f cs ≡ Some c
      → is_own_case me c ≡ true
  own_found f [] c a e = absurd (cc)
  own_found f (d ∷ cs) c a e = by_test (f d) (find f cs) e (own_found f cs c a.1)
    where
      by_test : (b : Bool) (o : Option Case) → (if b then Some d else o) ≡ Some c
          → (o ≡ Some c → is_own_case me c ≡ true)
          → is_own_case me c ≡ true
      by_test true o g k = subst (λ (x : Case). is_own_case me x ≡ true) (let h : d ≡ c = cc in h) a.0
      by_test false o g k = k g

-- the case of a child
pub child_of_own : (place : Place) (p : ProcessId) → place.role ≡ Below p → (n : Node)
    → has (is_foreign place.me) (kept n) ≡ false
    → (x : Txn) (t : Ticket) (c : Case) → case_of_child place n x t ≡ Some c → is_own_case place.me c ≡ true
child_of_own place p e n none x t c found =
    own_found place.me _ (own_cases place.role place n x) c
    (subst (λ (r : Role). AllOwn place.me (own_cases r place n x)) (sym e)
    (own_filtered place.me _ (cases_in (kept n) ++ (memory_of place n (some_case place)).issued)
    (own_both place.me (cases_in (kept n)) (memory_of place n (some_case place)).issued
    (own_cases_in place.me (kept n) none) (memory_owns place p e n (some_case place)).issued)))
    found

-- A case that is known.

none_of_it : (q r : Record → Bool) (xs : List Record) → ((x : Record) → q x ≡ true → r x ≡ true)
    → has r xs ≡ false → has q xs ≡ false
unfolding has
none_of_it q r [] f e = refl
none_of_it q r (x ∷ xs) f e = none_in (q x) (r x) (has q xs) (has r xs) (f x) (none_of_it q r xs f) e
  where
    none_in : (a b c d : Bool) → (a ≡ true → b ≡ true) → (d ≡ false → c ≡ false) → (b || d) ≡ false
        → (a || c) ≡ false
    none_in true b c d f g e = absurd (let h = f refl in grind arith)
    none_in false b c d f g e = g (rest b d e)
      where
        rest : (b d : Bool) → (b || d) ≡ false → d ≡ false
        rest b d e = grind arith

module _ (me : ProcessId) (c : Case) (other : is_own_case me c ≡ false) where
  of_case : (d : Case) → same_case d c ≡ true → not (is_own_case me d) ≡ true
  of_case d e = elim (same_case_tells d c) [
    | inl t ↦ subst (λ (x : Case). not (is_own_case me x) ≡ true) (sym t.1) (rw other refl)
    | inr f ↦ absurd (let k = f.0 in cc)
  ]

  of_end : (r : Record) → is_end c r ≡ true → is_foreign me r ≡ true
  of_end (EndRecord d rep) e = of_case d e
  of_end r e = absurd (cc)

  of_commit : (r : Record) → is_commit c r ≡ true → is_foreign me r ≡ true
  of_commit (CommitRecord d ts) e = of_case d e
  of_commit r e = absurd (cc)

  of_abort : (r : Record) → is_abort c r ≡ true → is_foreign me r ≡ true
  of_abort (AbortRecord d ts) e = of_case d e
  of_abort r e = absurd (cc)

  of_prepare : (r : Record) → is_prepare c r ≡ true → is_foreign me r ≡ true
  of_prepare (PrepareRecord d ts) e = of_case d e
  of_prepare r e = absurd (cc)

  of_collecting : (r : Record) → is_collecting c r ≡ true → is_foreign me r ≡ true
  of_collecting (CollectingRecord d ts) e = of_case d e
  of_collecting r e = absurd (cc)

  idle_is_unknown : (p : Presumption) (ph : Phase) → ph ≡ Idle → phase_standing p ph ≡ Unknown
  idle_is_unknown PresumeAbort ph e = rw e refl
  idle_is_unknown PresumeCommit ph e = rw e refl

  unknown_of : (rs : List Record) (m : Memory) → has (is_foreign me) rs ≡ false → Own me c m
      → coordinator_standing rs c m ≡ Unknown
  unknown_of rs m none o =
      rw (
        none_of_it (is_end c) (is_foreign me) rs of_end none,
        none_of_it (is_commit c) (is_foreign me) rs of_commit none,
        none_of_it (is_abort c) (is_foreign me) rs of_abort none,
        none_of_it (is_prepare c) (is_foreign me) rs of_prepare none,
        none_of_it (is_collecting c) (is_foreign me) rs of_collecting none,
      )
      (idle_is_unknown c.txn.presumption m.phase (idle o.not_idle))
    where
      idle : {A : Type 0} → A ⊎ (is_own_case me c ≡ true) → A
      idle (inl a) = a
      idle (inr own) = absurd (cc)

view_standing : (st : Standing) (rs : List Record) (c : Case) (m : Memory)
    → (view_at st rs c m).standing ≡ st
view_standing Unknown rs c m = refl
view_standing Active rs c m = refl
view_standing Collecting rs c m = refl
view_standing Prepared rs c m = refl
view_standing Committing rs c m = refl
view_standing Aborting rs c m = refl
view_standing Heuristic rs c m = refl

pub viewed : (place : Place) (n : Node) (c : Case)
    → (coordinator_view place n c).standing ≡ coordinator_standing (kept n) c (memory_of place n c)
unfolding coordinator_view
viewed place n c = view_standing (coordinator_standing (kept n) c (memory_of place n c)) (kept n) c
    (memory_of place n c)

pub known_is_own : (place : Place) (p : ProcessId) → place.role ≡ Below p → (n : Node)
    → has (is_foreign place.me) (kept n) ≡ false
    → (c : Case) → (coordinator_view place n c).standing ≢ Unknown → is_own_case place.me c ≡ true
known_is_own place p e n none c known = by_own (is_own_case place.me c) refl
  where
    by_own : (b : Bool) → is_own_case place.me c ≡ b → is_own_case place.me c ≡ true
    by_own true f = f
    by_own false f = absurd
        (known (viewed place n c ∙ unknown_of place.me c f (kept n) (memory_of place n c) none
        (memory_owns place p e n c)))
