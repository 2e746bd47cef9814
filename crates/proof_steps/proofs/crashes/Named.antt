-- Whom the records of a case name, as a test of the records.
use Rattle.std.proofs.Common.{◌≡◌, ◌∙◌, ◌||◌, ◌&&◌, Bool, true, false, List, [], ◌∷◌, ◌++◌, refl, ap, arith, if◌then◌else◌}
use Rattle.std.specs.List.{flat_map}
use Rattle.std.proofs.lemmas.List.Folds.{list_any-append}
use Rattle.protocol.specs.declared.names.Case.{Case}
use Rattle.protocol.specs.declared.names.Ticket.{Ticket}
use Rattle.protocol.specs.declared.names.Outcome.{Outcome}
use Rattle.protocol.specs.declared.records.Record.{Record}
use Rattle.protocol.specs.declared.records.Record.TheVariants.{Collecting, Prepare, Commit, Abort}
use Rattle.protocol.specs.Names.{same_case}
use Rattle.protocol.specs.Records.{has, in_list, none_of, named_in, named_by, owing_in, owing_by}
use Rattle.protocol.specs.Memory.{has_acked}
use Rattle.protocol.specs.Standings.{still_owed}
use Rattle.protocol.specs.Audits.{is_decision_naming}
use Rattle.protocol.specs.Audits.{is_naming}

listed-append : (xs ys : List Ticket) (t : Ticket) → in_list (xs ++ ys) t ≡ (in_list xs t || in_list ys t)
unfolding in_list
listed-append xs ys t = list_any-append _ xs ys

listed-if : (b : Bool) (ts : List Ticket) (t : Ticket) → in_list (if b then ts else []) t
    ≡ (b && in_list ts t)
unfolding in_list
listed-if true ts t = refl
listed-if false ts t = refl

none-listed : (t : Ticket) → in_list [] t ≡ false
unfolding in_list
none-listed t = refl

first_of : (a : Bool) → a ≡ ((a || false) || false)
first_of a = grind arith

second_of : (a : Bool) → a ≡ ((false || a) || false)
second_of a = grind arith

third_of : (a : Bool) → a ≡ ((false || false) || a)
third_of a = grind arith

module _ (c : Case) (t : Ticket) where
  named-one : (r : Record) → in_list (named_in c r) t ≡ is_naming c t r
  named-one (Collecting d ts) = listed-if (same_case d c) ts t ∙ first_of (same_case d c && in_list ts t)
  named-one (Prepare d ts) = listed-if (same_case d c) ts t ∙ second_of (same_case d c && in_list ts t)
  named-one (Commit d ts) = listed-if (same_case d c) ts t
  named-one (Abort d ts) = listed-if (same_case d c) ts t
  named-one r = none-listed t

  -- the records of a case name the ticket
  pub named-by : (rs : List Record) → in_list (named_by c rs) t ≡ has (is_naming c t) rs
  unfolding named_by has
  named-by [] = none-listed t
  named-by (r ∷ rs) =
      listed-append (named_in c r) (flat_map (named_in c) rs) t
      ∙ (ap (λ b. b || in_list (flat_map (named_in c) rs) t) (named-one r)
      ∙ ap (λ b. is_naming c t r || b) (named-by rs))

  owing-one : (r : Record) → in_list (owing_in c r) t ≡ is_decision_naming c t r
  owing-one (Commit d ts) = listed-if (same_case d c) ts t
  owing-one (Abort d ts) = listed-if (same_case d c) ts t
  owing-one r = none-listed t

  -- a decision of the case names the ticket
  pub owing-by : (rs : List Record) → in_list (owing_by c rs) t ≡ has (is_decision_naming c t) rs
  unfolding owing_by has
  owing-by [] = none-listed t
  owing-by (r ∷ rs) =
      listed-append (owing_in c r) (flat_map (owing_in c) rs) t
      ∙ (ap (λ b. b || in_list (flat_map (owing_in c) rs) t) (owing-one r)
      ∙ ap (λ b. is_decision_naming c t r || b) (owing-by rs))

-- with nothing acknowledged all that is owed still is
pub all_owed : (o : Outcome) (ts : List Ticket) → still_owed [] o ts ≡ ts
unfolding still_owed has_acked
all_owed o [] = refl
all_owed o (t ∷ ts) = ap (λ us. t ∷ us) (all_owed o ts)

-- a list with a ticket in it is not empty
pub somebody : (ts : List Ticket) (t : Ticket) → in_list ts t ≡ true → none_of ts ≡ false
unfolding none_of in_list
somebody [] t e = absurd (cc)
somebody (u ∷ us) t e = refl
