-- A vote that counts, and one that is taken back.
use Rattle.std.proofs.Common.{◌≡◌, Bool, true, false, not, ◌&&◌, ◌||◌, List, [], ◌∷◌, ◌++◌, refl, subst, sym, ap, ◌∙◌}
use Rattle.protocol.specs.declared.names.Ticket.{Ticket}
use Rattle.protocol.specs.declared.events.StepError.{StepError}
use Rattle.protocol.specs.declared.standings.Vote.{Vote}
use Rattle.protocol.specs.declared.standings.Vote.TheVariants.{Yes, No, Read}
use Rattle.protocol.specs.Names.{same_ticket}
use Rattle.protocol.specs.Nodes.{reaction_of}
use Rattle.protocol.specs.Records.{in_list}
use Rattle.protocol.specs.Memory.{has_voted, is_counted, same_vote, voted_so, works_of}
use Rattle.protocol.specs.Standings.{CoordinatorView}
use Rattle.protocol.specs.CoordinatorRows.{Row, collecting_after, collecting_vote}
use Rattle.protocol.specs.SameViews.{SameRow, SameView}
use Rattle.protocol.proofs.NameTests.{ticket_tells}
use Rattle.process_state.proofs.Alike.{collecting_after-same, has_voted-so, row_effect-same}
use Rattle.coord_effects.specs.declared.effect.RowEffect.{RowEffect}
use Rattle.coord_effects.specs.declared.seat.OwnCase.{OwnCase}
use Rattle.coord_case.specs.Lives.{Uncounts}
use Rattle.coord_effects.specs.Rows.{DoesRow, NotWritten, seat_meant}
use Rattle.coord_case.proofs.Children.{voted_so-push}

so_few : (y n r : Bool) → (y || (n || r)) ≡ false → (y ≡ false) × (n ≡ false) × (r ≡ false)
so_few false false false h = (refl, refl, refl)
so_few true n r h = absurd (cc)
so_few false true r h = absurd (cc)
so_few false false true h = absurd (cc)

voted_none : (o : Vote) (vs : List (Ticket × Vote)) (t : Ticket)
    → has_voted vs t ≡ false → voted_so o vs t ≡ false
voted_none o vs t h = by_vote o (so_few _ _ _ (sym (has_voted-so vs t) ∙ h))
  where
    by_vote : (o : Vote) → (voted_so Yes vs t ≡ false) × (voted_so No vs t ≡ false)
        × (voted_so Read vs t ≡ false) → voted_so o vs t ≡ false
    by_vote Yes k = k.0
    by_vote No k = k.1
    by_vote Read k = k.2

taken_back : (a b x : Bool) → (x ≡ true → a ≡ false) → ((a || (b && x)) && not x) ≡ a
taken_back true true true h = sym (h refl)
taken_back true false true h = sym (h refl)
taken_back false true true h = refl
taken_back false false true h = refl
taken_back true b false h = refl
taken_back false true false h = refl
taken_back false false false h = refl

counted_new : (a b : Bool) → (a && not b) ≡ true → b ≡ false
counted_new true false h = refl
counted_new false false h = refl
counted_new true true h = absurd (cc)
counted_new false true h = absurd (cc)

pub takes_back : (old mid new : CoordinatorView) (t : Ticket) (w : Vote)
    → is_counted old.accepted old.votes t ≡ true
    → SameView mid (record old { votes = old.votes ++ (t, w) ∷ [] }) → Uncounts t mid new → SameView new old
takes_back old mid new t w counted counts back =
    let unheard : has_voted old.votes t ≡ false = counted_new _ _ counted in
    record {
      standing = back.standing ∙ counts.standing;
      accepted = back.accepted ∙ counts.accepted;
      voted = λ o u.
          back.voted o u ∙ ap (λ b. b && not (same_ticket t u))
          (counts.voted o u ∙ voted_so-push o old.votes t w u)
          ∙ taken_back (voted_so o old.votes u) (same_vote o w) (same_ticket t u) (λ h. ap
          (voted_so o old.votes) (sym ((ticket_tells t u).0 h)) ∙ voted_none o old.votes t unheard);
      worked = λ u. ap (λ ws. works_of ws u) back.works ∙ counts.worked u;
      promised = back.promised ∙ counts.promised;
      named = λ u. ap (λ ts. in_list ts u) back.named ∙ counts.named u;
      owed = λ u. ap (λ ts. in_list ts u) back.owed ∙ counts.owed u;
      found = back.found ∙ counts.found;
    }

same_view-trans : (u v w : CoordinatorView) → SameView u v → SameView v w → SameView u w
same_view-trans u v w a b =
    record {
      standing = a.standing ∙ b.standing;
      accepted = a.accepted ∙ b.accepted;
      voted = λ o t. a.voted o t ∙ b.voted o t;
      worked = λ t. a.worked t ∙ b.worked t;
      promised = a.promised ∙ b.promised;
      named = λ t. a.named t ∙ b.named t;
      owed = λ t. a.owed t ∙ b.owed t;
      found = a.found ∙ b.found;
    }

-- an effect that does a row does the same row
does_same : (s : OwnCase) (r q : Row) (effect : RowEffect) (view : CoordinatorView) → SameRow r q
    → DoesRow s r effect view → DoesRow s q effect view
does_same s r q effect view same does =
    record {
      written = does.written ∙ same.written;
      framed = does.framed;
      reaction = does.reaction ∙ ap reaction_of (row_effect-same s.case r q same);
      view_is = same_view-trans view r.view q.view does.view_is same.view;
    }

-- the row after a vote that counts is the row of the vote
pub does_vote : (s : OwnCase) (t : Ticket) (w : Vote) (old mid new : CoordinatorView) (effect : RowEffect)
    → is_counted old.accepted old.votes t ≡ true
    → SameView mid (record old { votes = old.votes ++ (t, w) ∷ [] })
    → DoesRow s (collecting_after (seat_meant s) mid w) effect new
    → DoesRow s (collecting_vote (seat_meant s) t w old) effect new
does_vote s t w old mid new effect counted counts does =
    let after = record old { votes = old.votes ++ (t, w) ∷ [] } in
    let same : SameRow (collecting_after (seat_meant s) mid w) (collecting_after (seat_meant s) after w) =
    collecting_after-same mid after counts (seat_meant s) w in
    let done : DoesRow s (collecting_after (seat_meant s) after w) effect new =
    does_same s _ _ effect new same does in
    rw counted (record {
      written = done.written;
      framed = done.framed;
      reaction = done.reaction;
      view_is = done.view_is;
    })

-- what that row does not write, the row of the vote does not
pub unwritten_vote : (s : OwnCase) (t : Ticket) (w : Vote) (old mid : CoordinatorView) (e : StepError)
    → is_counted old.accepted old.votes t ≡ true
    → SameView mid (record old { votes = old.votes ++ (t, w) ∷ [] })
    → NotWritten s.parent (collecting_after (seat_meant s) mid w).written e
    → NotWritten s.parent (collecting_vote (seat_meant s) t w old).written e
unwritten_vote s t w old mid e counted counts h =
    let after = record old { votes = old.votes ++ (t, w) ∷ [] } in
    let same : SameRow (collecting_after (seat_meant s) mid w) (collecting_after (seat_meant s) after w) =
    collecting_after-same mid after counts (seat_meant s) w in
    rw counted (subst (λ ws. NotWritten s.parent ws e) same.written h)
