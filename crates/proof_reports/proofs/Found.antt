-- Lists of findings, one within another; and messages among others.
use Rattle.std.proofs.Common.{◌≡◌, ◌∙◌, ◌⊎◌, ◌||◌, inl, inr, ℕ, zero, suc, Bool, true, Some, List, [], ◌∷◌, ◌++◌, refl, ap, arith}
use Rattle.std.specs.Prelude.{slice_get}
use Rattle.std.proofs.lemmas.List.Folds.{list_any-append}
use Rattle.protocol.specs.declared.names.Outcome.{Outcome}
use Rattle.protocol.specs.declared.names.Ticket.{Ticket}
use Rattle.protocol.specs.declared.names.Txn.{Txn}
use Rattle.protocol.specs.declared.messages.Finding.{Finding}
use Rattle.protocol.specs.declared.messages.Finding.TheVariants.{Mixed, Unreported}
use Rattle.protocol.specs.declared.messages.Message.{Message}
use Rattle.protocol.specs.declared.messages.Envelope.{Envelope}
use Rattle.protocol.specs.Records.{in_list, in_order, mixed_of, unreported_of}
use Rattle.proof_reports.proofs.FindingLaws.{mixed_both, mixed_in_order, unreported_both, unreported_in_order}
use Rattle.protocol.specs.Outcomes.{sent}
use Rattle.proof_processes.proofs.Tests.{left, right}
use Rattle.proof_reports.specs.SinceOpened.{Acked, IsAmong, Within}

-- Findings.

pub within_same : (fs : List Finding) → Within fs fs
within_same fs = record { mixed = λ t e. e; unreported = λ t e. e }

pub within_then : (fs gs hs : List Finding) → Within fs gs → Within gs hs → Within fs hs
within_then fs gs hs f g =
    record { mixed = λ t e. g.mixed t (f.mixed t e); unreported = λ t e. g.unreported t (f.unreported t e) }

pub in_list_both : (xs ys : List Ticket) (t : Ticket) → in_list (xs ++ ys) t ≡ (in_list xs t || in_list ys t)
unfolding in_list
in_list_both xs ys t = grind (arith, list_any-append)

pub within_first : (fs gs : List Finding) → Within fs (fs ++ gs)
within_first fs gs = record {
  mixed = λ t e. ap (λ ts. in_list ts t) (mixed_both fs gs)
      ∙ (in_list_both (mixed_of fs) (mixed_of gs) t ∙ left _ _ e);
  unreported = λ t e. ap (λ ts. in_list ts t) (unreported_both fs gs)
      ∙ (in_list_both (unreported_of fs) (unreported_of gs) t ∙ left _ _ e);
}

pub within_second : (fs gs : List Finding) → Within gs (fs ++ gs)
within_second fs gs = record {
  mixed = λ t e. ap (λ ts. in_list ts t) (mixed_both fs gs)
      ∙ (in_list_both (mixed_of fs) (mixed_of gs) t ∙ right _ _ e);
  unreported = λ t e. ap (λ ts. in_list ts t) (unreported_both fs gs)
      ∙ (in_list_both (unreported_of fs) (unreported_of gs) t ∙ right _ _ e);
}

-- put in order, findings say what they said
pub within_in_order : (fs : List Finding) → Within fs (in_order fs)
within_in_order fs = record {
  mixed = λ t e. ap (λ ts. in_list ts t) (mixed_in_order fs) ∙ e;
  unreported = λ t e. ap (λ ts. in_list ts t) (unreported_in_order fs) ∙ e;
}

-- Messages.

pub among_first : (m : Message) (xs ys : List Envelope) → IsAmong m xs → IsAmong m (xs ++ ys)
among_first m [] ys i = absurd i
among_first m (x ∷ xs) ys (inl e) = inl e
among_first m (x ∷ xs) ys (inr i) = inr (among_first m xs ys i)

pub among_second : (m : Message) (xs ys : List Envelope) → IsAmong m ys → IsAmong m (xs ++ ys)
among_second m [] ys i = i
among_second m (x ∷ xs) ys i = inr (among_second m xs ys i)

pub among_either : (m : Message) (xs ys : List Envelope) → IsAmong m (xs ++ ys) → IsAmong m xs ⊎ IsAmong m ys
among_either m [] ys i = inr i
among_either m (x ∷ xs) ys (inl e) = inl (inl e)
among_either m (x ∷ xs) ys (inr i) = elim (among_either m xs ys i) [
  | inl a ↦ inl (inr a)
  | inr b ↦ inr b
]

pub among_at : (ls : List Envelope) (k : ℕ) (l : Envelope) → slice_get ls k ≡ Some l → IsAmong l.message ls
among_at [] k l e = absurd (cc)
among_at (m ∷ ls) zero l e = inl (let f : m ≡ l = cc in ap (λ (x : Envelope). x.message) f)
among_at (m ∷ ls) (suc k) l e = inr (among_at ls k l e)

pub among_sent : (q : Message → Bool) (m : Message) → q m ≡ true → (ls : List Envelope) → IsAmong m ls
    → sent q ls ≡ true
unfolding sent
among_sent q m e [] i = absurd i
among_sent q m e (l ∷ ls) (inl f) = left _ _ (ap q f ∙ e)
among_sent q m e (l ∷ ls) (inr i) = right (q l.message) _ (among_sent q m e ls i)

pub acked_within : (ls : List Envelope) (x : Txn) (o : Outcome) (fs gs : List Finding) (t : Ticket)
    → Within fs gs
    → Acked ls x o fs t → Acked ls x o gs t
acked_within ls x o fs gs t w a =
    record { found = a.found; is_sent = a.is_sent; within = within_then a.found fs gs a.within w }

pub acked_still : (ls ms : List Envelope) (x : Txn) (o : Outcome) (fs : List Finding) (t : Ticket)
    → Acked ls x o fs t → Acked (ls ++ ms) x o fs t
acked_still ls ms x o fs t a =
    record { found = a.found; is_sent = among_first _ ls ms a.is_sent; within = a.within }
