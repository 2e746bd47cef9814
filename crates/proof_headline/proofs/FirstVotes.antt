-- The first vote of a ticket that a case has heard.
use Rattle.std.proofs.Common.{◌≡◌, ◌∙◌, ◌⊎◌, inl, inr, ◌||◌, ◌&&◌, Bool, true, false, Option, Some, None, List, [], ◌∷◌, refl, sym, ap, subst, if◌then◌else◌}
use Rattle.std.specs.List.{list_any}
use Rattle.protocol.specs.declared.names.Case.{Case}
use Rattle.protocol.specs.declared.names.Ticket.{Ticket}
use Rattle.protocol.specs.declared.standings.Vote.{Vote}
use Rattle.protocol_words.specs.Variants.{VoteNo, VoteRead, VoteYes}
use Rattle.protocol.specs.Names.{same_case, same_ticket}
use Rattle.protocol.specs.Outcomes.{consents, first_vote, vote_in}
use Rattle.protocol.specs.Memory.{same_vote}
use Rattle.proof_processes.proofs.Tests.{left, right}

vote_is : (u v : Vote) → Some u ≡ Some v → u ≡ v
vote_is u v e = cc

abbrev heard_such : List (Case × (Ticket × Vote)) → Case → Ticket → Vote → Bool
heard_such vs c t v = list_any (λ a. same_case a.0 c && (same_ticket a.1.0 t && same_vote v a.1.1)) vs

module _ (c : Case) (t : Ticket) where
  vote_itself : (v : Vote) → same_vote v v ≡ true
  vote_itself VoteYes = refl
  vote_itself VoteNo = refl
  vote_itself VoteRead = refl

  none_heard : (vs : List (Case × (Ticket × Vote))) → first_vote vs c t ≡ None → (v : Vote)
      → heard_such vs c t v ≡ false
  unfolding first_vote
  none_heard [] e v = refl
  none_heard (a ∷ vs) e v = by_rest (first_vote vs c t) refl (none_heard vs) e
    where
      by_test : (x y z s : Bool) → s ≡ false → (if x && y then Some a.1.1 else None) ≡ None
          → ((x && (y && z)) || s) ≡ false
      by_test true true z s e f = absurd (cc)
      by_test true false z s e f = e
      by_test false y z s e f = e

      by_rest : (o : Option Vote) → first_vote vs c t ≡ o
          → (first_vote vs c t ≡ None → (v : Vote) → heard_such vs c t v ≡ false)
          → vote_in a c t (first_vote vs c t) ≡ None → heard_such (a ∷ vs) c t v ≡ false
      by_rest (Some u) f g e = absurd (let y = sym (ap (vote_in a c t) f) ∙ e in cc)
      by_rest None f g e =
          by_test (same_case a.0 c) (same_ticket a.1.0 t) (same_vote v a.1.1) (heard_such vs c t v) (g f v)
          (sym (ap (vote_in a c t) f) ∙ e)

  some_heard : (vs : List (Case × (Ticket × Vote))) (v : Vote) → first_vote vs c t ≡ Some v
      → heard_such vs c t v ≡ true
  unfolding first_vote
  some_heard [] v e = absurd (cc)
  some_heard (a ∷ vs) v e = by_rest (first_vote vs c t) refl (some_heard vs v) e
    where
      by_test : (x y : Bool) (u : Vote) (s : Bool) → (if x && y then Some u else None) ≡ Some v
          → ((x && (y && same_vote v u)) || s) ≡ true
      by_test true true u s e = left _ _ (subst (λ (z : Vote). same_vote v z
          ≡ true) (sym (vote_is u v e)) (vote_itself v))
      by_test true false u s e = absurd (cc)
      by_test false y u s e = absurd (cc)

      by_rest : (o : Option Vote) → first_vote vs c t ≡ o
          → (first_vote vs c t ≡ Some v → heard_such vs c t v ≡ true)
          → vote_in a c t (first_vote vs c t) ≡ Some v → heard_such (a ∷ vs) c t v ≡ true
      by_rest (Some u) f g e = right _ _ (g (f ∙ (sym (ap (vote_in a c t) f) ∙ e)))
      by_rest None f g e = by_test (same_case a.0 c) (same_ticket a.1.0 t) a.1.1 (heard_such vs c t v) (sym
          (ap (vote_in a c t) f) ∙ e)

  pub first_consents : (vs : List (Case × (Ticket × Vote)))
      → (heard_such vs c t VoteYes ≡ true) ⊎ (heard_such vs c t VoteRead ≡ true)
      → heard_such vs c t VoteNo ≡ false
      → consents (first_vote vs c t) ≡ true
  first_consents vs e none = by_first (first_vote vs c t) refl
    where
      by_first : (o : Option Vote) → first_vote vs c t ≡ o → consents (first_vote vs c t) ≡ true
      by_first None f = absurd (elim e [
        | inl consent ↦ let y = sym (none_heard vs f VoteYes) ∙ consent in cc
        | inr read ↦ let y = sym (none_heard vs f VoteRead) ∙ read in cc
      ])
      by_first (Some VoteYes) f = rw f refl
      by_first (Some VoteRead) f = rw f refl
      by_first (Some VoteNo) f = absurd (let y = sym none ∙ some_heard vs VoteNo f in cc)
