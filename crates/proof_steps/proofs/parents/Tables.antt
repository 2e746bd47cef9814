-- Which records a case has where it stands so.
use Rattle.std.proofs.Common.{◌≡◌, ◌∙◌, Bool, true, false, ◌||◌, ◌&&◌, List, [], ◌∷◌, ◌++◌, refl, sym, ap, arith, if◌then◌else◌}
use Rattle.std.specs.List.{flat_map}
use Rattle.std.proofs.lemmas.List.Folds.{list_any-append}
use Rattle.protocol.specs.declared.names.Case.{Case}
use Rattle.protocol.specs.declared.names.Ticket.{Ticket}
use Rattle.protocol.specs.declared.names.Presumption.{Presumption}
use Rattle.protocol.specs.declared.names.Presumption.TheVariants.{PresumeAbort, PresumeCommit}
use Rattle.protocol.specs.declared.records.Record.{Record}
use Rattle.protocol.specs.declared.records.Record.TheVariants.{Opened, End, Committed, RolledBack, Direct, HeurCommit, HeurRollback, Told, Forgot, Base, Pair, Cleared}
use Rattle.protocol_words.specs.Variants.{AbortRecord, CollectingRecord, CommitRecord, PrepareRecord, PreparedRecord}
use Rattle.protocol.specs.declared.standings.Standing.{Standing}
use Rattle.protocol.specs.declared.standings.Standing.TheVariants.{Unknown, Active, Collecting, Prepared, Committing, Aborting}
use Rattle.protocol.specs.Names.{same_case}
use Rattle.protocol.specs.Records.{has, in_list, none_of, owing_in, owing_by, is_end, is_commit, is_abort, is_prepare, is_collecting}
use Rattle.protocol.specs.Nodes.{Place, Node, kept}
use Rattle.protocol.specs.Memory.{Phase, Idle, Open, Asked, Over, memory_of}
use Rattle.protocol.specs.Standings.{coordinator_view, standing_by, phase_standing}
use Rattle.protocol.specs.Audits.{is_decision_naming}
use Rattle.proof_pairs.proofs.readings.Named.{in_list-none}
use Rattle.proof_processes.proofs.Cases.{viewed}

-- what memory alone says is Active, Collecting or Unknown
pub data IsHeard : Standing → Type 0 where
  heard_unknown : IsHeard Unknown
  heard_active : IsHeard Active
  heard_collecting : IsHeard Collecting

heard_by : (p : Presumption) (ph : Phase) → IsHeard (phase_standing p ph)
heard_by PresumeAbort Idle = heard_unknown
heard_by PresumeAbort Open = heard_active
heard_by PresumeAbort Asked = heard_collecting
heard_by PresumeAbort Over = heard_unknown
heard_by PresumeCommit Idle = heard_unknown
heard_by PresumeCommit Open = heard_active
heard_by PresumeCommit Asked = heard_unknown
heard_by PresumeCommit Over = heard_unknown

pub record CommittingFacts (E C N : Bool) : Type 0 where
  pub no_end : E ≡ false
  pub commit : C ≡ true
  pub some : N ≡ false

committing_by : (E C A P K N : Bool) (s : Standing) → IsHeard s → standing_by E C A P K N s ≡ Committing
    → CommittingFacts E C N
committing_by true C A P K N s i e = absurd (cc)
committing_by false true A P K true s i e = absurd (cc)
committing_by false true A P K false s i e = record { no_end = refl; commit = refl; some = refl }
committing_by false false true P K true s i e = absurd (cc)
committing_by false false true P K false s i e = absurd (cc)
committing_by false false false true K N s i e = absurd (cc)
committing_by false false false false true N s i e = absurd (cc)
committing_by false false false false false N _ heard_unknown e = absurd (cc)
committing_by false false false false false N _ heard_active e = absurd (cc)
committing_by false false false false false N _ heard_collecting e = absurd (cc)

pub record AbortingFacts (E A N : Bool) : Type 0 where
  pub no_end : E ≡ false
  pub abort : A ≡ true
  pub some : N ≡ false

aborting_by : (E C A P K N : Bool) (s : Standing) → IsHeard s → standing_by E C A P K N s ≡ Aborting
    → AbortingFacts E A N
aborting_by true C A P K N s i e = absurd (cc)
aborting_by false true A P K true s i e = absurd (cc)
aborting_by false true A P K false s i e = absurd (cc)
aborting_by false false true P K true s i e = absurd (cc)
aborting_by false false true P K false s i e = record { no_end = refl; abort = refl; some = refl }
aborting_by false false false true K N s i e = absurd (cc)
aborting_by false false false false true N s i e = absurd (cc)
aborting_by false false false false false N _ heard_unknown e = absurd (cc)
aborting_by false false false false false N _ heard_active e = absurd (cc)
aborting_by false false false false false N _ heard_collecting e = absurd (cc)

pub record PreparedFacts (E C A P : Bool) : Type 0 where
  pub no_end : E ≡ false
  pub no_commit : C ≡ false
  pub no_abort : A ≡ false
  pub promise : P ≡ true

prepared_by : (E C A P K N : Bool) (s : Standing) → IsHeard s → standing_by E C A P K N s ≡ Prepared
    → PreparedFacts E C A P
prepared_by true C A P K N s i e = absurd (cc)
prepared_by false true A P K true s i e = absurd (cc)
prepared_by false true A P K false s i e = absurd (cc)
prepared_by false false true P K true s i e = absurd (cc)
prepared_by false false true P K false s i e = absurd (cc)
prepared_by false false false true K N s i e =
    record { no_end = refl; no_commit = refl; no_abort = refl; promise = refl }
prepared_by false false false false true N s i e = absurd (cc)
prepared_by false false false false false N _ heard_unknown e = absurd (cc)
prepared_by false false false false false N _ heard_active e = absurd (cc)
prepared_by false false false false false N _ heard_collecting e = absurd (cc)

-- a case that is Unknown: it ended, or its decision names nobody, or it has no record
pub data UnknownFacts (E C A P K N : Bool) : Type 0 where
  ended : E ≡ true → UnknownFacts E C A P K N
  committed : C ≡ true → N ≡ true → UnknownFacts E C A P K N
  aborted : C ≡ false → A ≡ true → N ≡ true → UnknownFacts E C A P K N
  unrecorded : C ≡ false → P ≡ false → K ≡ false → UnknownFacts E C A P K N

unknown_by : (E C A P K N : Bool) (s : Standing) → standing_by E C A P K N s ≡ Unknown
    → UnknownFacts E C A P K N
unknown_by true C A P K N s e = ended refl
unknown_by false true A P K true s e = committed refl refl
unknown_by false true A P K false s e = absurd (cc)
unknown_by false false true P K true s e = aborted refl refl refl
unknown_by false false true P K false s e = absurd (cc)
unknown_by false false false true K N s e = absurd (cc)
unknown_by false false false false true N s e = absurd (cc)
unknown_by false false false false false N s e = unrecorded refl refl refl

module _ (place : Place) (n : Node) (c : Case) where
  abbrev s : Standing
  s = (coordinator_view place n c).standing

  heard_here : IsHeard (phase_standing c.txn.presumption (memory_of place n c).phase)
  heard_here = heard_by c.txn.presumption (memory_of place n c).phase

  pub committing_facts : s ≡ Committing
      → CommittingFacts (has (is_end c) (kept n)) (has (is_commit c) (kept n)) (none_of (owing_by c (kept n)))
  committing_facts e = committing_by _ _ _ _ _ _ _ heard_here (sym (viewed place n c) ∙ e)

  pub aborting_facts : s ≡ Aborting
      → AbortingFacts (has (is_end c) (kept n)) (has (is_abort c) (kept n)) (none_of (owing_by c (kept n)))
  aborting_facts e = aborting_by _ _ _ _ _ _ _ heard_here (sym (viewed place n c) ∙ e)

  pub prepared_facts : s ≡ Prepared
      → PreparedFacts (has (is_end c) (kept n)) (has (is_commit c) (kept n)) (has (is_abort c) (kept n))
      (has (is_prepare c) (kept n))
  prepared_facts e = prepared_by _ _ _ _ _ _ _ heard_here (sym (viewed place n c) ∙ e)

  pub unknown_facts : s ≡ Unknown
      → UnknownFacts (has (is_end c) (kept n)) (has (is_commit c) (kept n)) (has (is_abort c) (kept n))
      (has (is_prepare c) (kept n)) (has (is_collecting c) (kept n)) (none_of (owing_by c (kept n)))
  unknown_facts e = unknown_by _ _ _ _ _ _ _ (sym (viewed place n c) ∙ e)

-- Whom decisions name.

somebody : {A : Type 0} (u : Ticket) (us : List Ticket) → none_of (u ∷ us) ≡ true → A
unfolding none_of
somebody u us e = absurd (cc)

pub none_in : (ts : List Ticket) (t : Ticket) → none_of ts ≡ true → in_list ts t ≡ false
none_in [] t e = in_list-none t
none_in (u ∷ us) t e = somebody u us e

in_both : (xs ys : List Ticket) (t : Ticket) → in_list (xs ++ ys) t ≡ (in_list xs t || in_list ys t)
unfolding in_list
in_both xs ys t = grind (arith, list_any-append)

if_named : (b : Bool) (ts : List Ticket) (t : Ticket) → in_list (if b then ts else []) t ≡ (b && in_list ts t)
if_named true ts t = refl
if_named false ts t = in_list-none t

owing_in-naming : (c : Case) (t : Ticket) (r : Record) → in_list (owing_in c r) t ≡ is_decision_naming c t r
owing_in-naming c t (CommitRecord d ts) = if_named (same_case d c) ts t
owing_in-naming c t (AbortRecord d ts) = if_named (same_case d c) ts t
owing_in-naming c t (Opened n) = in_list-none t
owing_in-naming c t (CollectingRecord d ts) = in_list-none t
owing_in-naming c t (PrepareRecord d ts) = in_list-none t
owing_in-naming c t (End d rep) = in_list-none t
owing_in-naming c t (Cleared d) = in_list-none t
owing_in-naming c t (PreparedRecord b ws) = in_list-none t
owing_in-naming c t (Committed b) = in_list-none t
owing_in-naming c t (RolledBack b) = in_list-none t
owing_in-naming c t (Direct b ws) = in_list-none t
owing_in-naming c t (HeurCommit b) = in_list-none t
owing_in-naming c t (HeurRollback b) = in_list-none t
owing_in-naming c t (Told b o) = in_list-none t
owing_in-naming c t (Forgot b) = in_list-none t
owing_in-naming c t (Base n) = in_list-none t
owing_in-naming c t (Pair k v) = in_list-none t

pub owing_by-naming : (c : Case) (t : Ticket) (rs : List Record)
    → in_list (owing_by c rs) t ≡ has (is_decision_naming c t) rs
unfolding owing_by has
owing_by-naming c t [] = in_list-none t
owing_by-naming c t (r ∷ rs) =
    in_both (owing_in c r) (flat_map (owing_in c) rs) t
    ∙ (ap (λ b. b || in_list (flat_map (owing_in c) rs) t) (owing_in-naming c t r)
    ∙ ap (λ b. is_decision_naming c t r || b) (owing_by-naming c t rs))
