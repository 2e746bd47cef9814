-- Findings in the order of a text.
use Rattle.std.proofs.Common.{◌≡◌, ◌∙◌, ap, sym, List, [], ◌∷◌, ◌++◌, map, refl}
use Rattle.std.proofs.lemmas.List.{append-nil}
use Rattle.protocol.specs.declared.names.Ticket.{Ticket}
use Rattle.protocol.specs.declared.messages.Finding.{Finding}
use Rattle.protocol.specs.declared.messages.Finding.TheVariants.{Mixed, Unreported}
use Rattle.protocol.specs.Records.{in_order, mixed_of, unreported_of}

pub mixed_both : (fs gs : List Finding) → mixed_of (fs ++ gs) ≡ mixed_of fs ++ mixed_of gs
unfolding mixed_of
mixed_both [] gs = refl
mixed_both (Mixed t ∷ fs) gs = ap (λ ts. t ∷ ts) (mixed_both fs gs)
mixed_both (Unreported t ∷ fs) gs = mixed_both fs gs

pub unreported_both : (fs gs : List Finding) → unreported_of (fs ++ gs) ≡ unreported_of fs ++ unreported_of gs
unfolding unreported_of
unreported_both [] gs = refl
unreported_both (Mixed t ∷ fs) gs = unreported_both fs gs
unreported_both (Unreported t ∷ fs) gs = ap (λ ts. t ∷ ts) (unreported_both fs gs)

all_mixed : (ts : List Ticket) → mixed_of (map (λ t. Mixed t) ts) ≡ ts
unfolding mixed_of
all_mixed [] = refl
all_mixed (t ∷ ts) = ap (λ us. t ∷ us) (all_mixed ts)

none_mixed : (ts : List Ticket) → mixed_of (map (λ t. Unreported t) ts) ≡ []
unfolding mixed_of
none_mixed [] = refl
none_mixed (t ∷ ts) = none_mixed ts

all_unreported : (ts : List Ticket) → unreported_of (map (λ t. Unreported t) ts) ≡ ts
unfolding unreported_of
all_unreported [] = refl
all_unreported (t ∷ ts) = ap (λ us. t ∷ us) (all_unreported ts)

none_unreported : (ts : List Ticket) → unreported_of (map (λ t. Mixed t) ts) ≡ []
unfolding unreported_of
none_unreported [] = refl
none_unreported (t ∷ ts) = none_unreported ts

-- the order changes neither of the two lists
pub mixed_in_order : (fs : List Finding) → mixed_of (in_order fs) ≡ mixed_of fs
mixed_in_order fs =
    mixed_both (map (λ t. Mixed t) (mixed_of fs)) (map (λ t. Unreported t) (unreported_of fs))
    ∙ (ap (λ ts. ts ++ mixed_of (map (λ t. Unreported t) (unreported_of fs))) (all_mixed (mixed_of fs))
    ∙ (ap (λ ts. mixed_of fs ++ ts) (none_mixed (unreported_of fs)) ∙ append-nil (mixed_of fs)))

pub unreported_in_order : (fs : List Finding) → unreported_of (in_order fs) ≡ unreported_of fs
unreported_in_order fs =
    unreported_both (map (λ t. Mixed t) (mixed_of fs)) (map (λ t. Unreported t) (unreported_of fs))
    ∙ (ap (λ ts. ts ++ unreported_of (map (λ t. Unreported t) (unreported_of fs)))
    (none_unreported (mixed_of fs))
    ∙ all_unreported (unreported_of fs))

-- what is in order stays as it is
pub in_order_twice : (fs : List Finding) → in_order (in_order fs) ≡ in_order fs
in_order_twice fs =
    ap (λ ts. map (λ t. Mixed t) ts ++ map (λ t. Unreported t) (unreported_of (in_order fs)))
    (mixed_in_order fs)
    ∙ ap (λ ts. map (λ t. Mixed t) (mixed_of fs) ++ map (λ t. Unreported t) ts) (unreported_in_order fs)
