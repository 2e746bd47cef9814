-- The tickets that records name.
use Rattle.std.proofs.Common.{◌≡◌, subst, ◌∙◌, ap, sym, ◌+◌, ◌&&◌, ◌||◌, not, ℕ, Bool, true, false, Option, Some, None, List, [], ◌∷◌, ◌++◌, append_assoc, refl, arith, if◌then◌else◌}
use Rattle.std.specs.List.{flat_map}
use Rattle.std.proofs.lemmas.List.{append-nil}
use Rattle.protocol.specs.declared.names.Case.{Case}
use Rattle.protocol.specs.declared.names.Ticket.{Ticket}
use Rattle.protocol.specs.declared.records.Record.{Record}
use Rattle.protocol_words.specs.Variants.{AbortRecord, CommitRecord}
use Rattle.protocol.specs.Names.{same_case}
use Rattle.protocol.specs.NameLaws.{same_case-refl, same_txn-refl, same_ticket_tells}
use Rattle.protocol.specs.Records.{has, none_of, is_commit, is_abort, named_by, named_in, promised_by, promised_in, owing_by, owing_in}
use Rattle.protocol.proofs.ListLaws.{has-push, memory_of-after, kept-after}

-- Lists of tickets that records name.

pub flat_push : (f : Record → List Ticket) (xs : List Record) (r : Record)
    → flat_map f (xs ++ r ∷ []) ≡ flat_map f xs ++ f r
flat_push f [] r = append-nil (f r)
flat_push f (x ∷ xs) r = ap (λ l. f x ++ l) (flat_push f xs r)
    ∙ sym (append_assoc (f x) (flat_map f xs) (f r))

pub named_by-push : (c : Case) (xs : List Record) (r : Record)
    → named_by c (xs ++ r ∷ []) ≡ named_by c xs ++ named_in c r
unfolding named_by
named_by-push c xs r = flat_push (named_in c) xs r

pub promised_by-push : (c : Case) (xs : List Record) (r : Record)
    → promised_by c (xs ++ r ∷ []) ≡ promised_by c xs ++ promised_in c r
unfolding promised_by
promised_by-push c xs r = flat_push (promised_in c) xs r

pub owing_by-push : (c : Case) (xs : List Record) (r : Record)
    → owing_by c (xs ++ r ∷ []) ≡ owing_by c xs ++ owing_in c r
unfolding owing_by
owing_by-push c xs r = flat_push (owing_in c) xs r

pub either_false : (a b : Bool) → (a || b) ≡ false → a ≡ false
either_false true b e = absurd (cc)
either_false false b e = refl

pub other_false : (a b : Bool) → (a || b) ≡ false → b ≡ false
other_false true b e = absurd (cc)
other_false false b e = e

pub none_nil : none_of [] ≡ true
unfolding none_of
none_nil = refl

pub ruleset pushed = (
  has-push,
  named_by-push,
  promised_by-push,
  owing_by-push,
  append-nil,
  same_case-refl,
  none_nil,
)

-- if there is no decision nobody owes an acknowledgement
pub undecided_owes : (c : Case) (rs : List Record) → has (is_commit c) rs ≡ false
    → has (is_abort c) rs ≡ false → owing_by c rs ≡ []
unfolding has owing_by
undecided_owes c [] h k = refl
undecided_owes c (CommitRecord d ts ∷ rs) h k =
    let no : same_case d c ≡ false = either_false (same_case d c) (has (is_commit c) rs) h in
    rw no (undecided_owes c rs (other_false (same_case d c) (has (is_commit c) rs) h) k)
undecided_owes c (AbortRecord d ts ∷ rs) h k =
    let no : same_case d c ≡ false = either_false (same_case d c) (has (is_abort c) rs) k in
    rw no (undecided_owes c rs h (other_false (same_case d c) (has (is_abort c) rs) k))
undecided_owes c (r ∷ rs) h k = undecided_owes c rs h k
