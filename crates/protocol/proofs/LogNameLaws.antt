-- What a process wrote into its log under whole names it reads there again.
use Rattle.std.proofs.Common.{◌≡◌, ap, refl, Bool, true, ◌&&◌, if◌then◌else◌, Option, Some, None, List, [], ◌∷◌}
use Rattle.std.proofs.lemmas.Bool.{and_parts}
use Rattle.protocol.specs.declared.names.Case.{Case}
use Rattle.protocol.specs.declared.names.Ticket.{Ticket}
use Rattle.protocol.specs.declared.records.Record.{Record}
use Rattle.protocol.specs.Nodes.{Role, AtRoot, Below, AtLeaf, Place}
use Rattle.protocol.specs.Records.{record_case}
use Rattle.protocol.specs.LogNames.{ReadsBack, case_parent, foreign_to, is_own, is_own_by, is_ticketed, own_by, own_records, parent_of, same_parent, ticket_parent}

own_parent : (role : Role) (t : Option Ticket) (a b : Bool)
    → (a && (b && (is_ticketed role t && same_parent (parent_of role) (parent_of role)))) ≡ true
    → (a && (b && (is_ticketed role t && same_parent (ticket_parent (parent_of role) t) (parent_of role))))
    ≡ true
own_parent AtRoot None a b h = h
own_parent AtRoot (Some t) a b h = h
own_parent (Below p) None a b h = h
own_parent (Below p) (Some t) a b h = h
own_parent (AtLeaf p) None a b h = h
own_parent (AtLeaf p) (Some t) a b h = h

own_again : (place : Place) (r : Record) (o : Option Case) → is_own_by place o ≡ true
    → own_by place (record { entry = r; parent = case_parent (parent_of place.role) o }) o ≡ r ∷ []
own_again place r None h = refl
own_again place r (Some c) h =
    let own : is_own place (ticket_parent (parent_of place.role) c.ticket) c ≡ true =
    own_parent place.role c.ticket _ _ h in
    ap (λ b. if b then r ∷ [] else foreign_to place.role (ticket_parent (parent_of place.role) c.ticket) c r)
    own

pub reads_back : (place : Place) (rs : List Record) → ReadsBack place rs
unfolding own_records
reads_back place [] h = refl
reads_back place (r ∷ rs) h =
    let both = and_parts _ _ h in
    rw (own_again place r (record_case r) both.0, reads_back place rs both.1) refl
