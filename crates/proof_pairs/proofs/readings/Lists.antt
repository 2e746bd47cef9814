-- What a joined list says of a test, a fold and a message.
use Rattle.std.proofs.Common.{◌≡◌, Bool, false, ◌||◌, List, [], ◌∷◌, ◌++◌, refl, arith}
use Rattle.std.proofs.lemmas.List.Folds.{list_any-append}
use Rattle.std.proofs.lemmas.Grind.{fold-append}
use Rattle.protocol.specs.declared.messages.Message.{Message}
use Rattle.protocol.specs.declared.messages.Envelope.{Envelope}
use Rattle.protocol.specs.declared.records.Record.{Record}
use Rattle.protocol.specs.declared.records.BranchName.{BranchName}
use Rattle.protocol.specs.Records.{has, boot_of, boot_after}
use Rattle.protocol.specs.Standings.{mark_of, mark_after}
use Rattle.protocol.specs.Outcomes.{sent}

-- tests of joined lists, the new element first

pub has-append : (q : Record → Bool) (xs ys : List Record) → has q (xs ++ ys) ≡ (has q ys || has q xs)
unfolding has
has-append q xs ys = grind (arith, list_any-append)

pub has-push : (q : Record → Bool) (xs : List Record) (r : Record) → has q (xs ++ r ∷ []) ≡ (q r || has q xs)
unfolding has
has-push q xs r = grind (arith, list_any-append)

pub has-push_behind : (q : Record → Bool) (xs ys : List Record) (r : Record)
    → has q (xs ++ (ys ++ r ∷ [])) ≡ (q r || has q (xs ++ ys))
unfolding has
has-push_behind q xs ys r = grind (arith, list_any-append)

pub has-nil : (q : Record → Bool) (xs : List Record) → has q (xs ++ []) ≡ has q xs
unfolding has
has-nil q xs = grind (arith, list_any-append)

pub has-cons : (q : Record → Bool) (r : Record) (xs : List Record) → has q (r ∷ xs) ≡ (q r || has q xs)
unfolding has
has-cons q r xs = refl

pub has-none : (q : Record → Bool) → has q [] ≡ false
unfolding has
has-none q = refl

pub has-history : (q : Record → Bool) (f l d : List Record)
    → has q ((f ++ l) ++ d) ≡ (has q (f ++ l) || has q d)
unfolding has
has-history q f l d = list_any-append q (f ++ l) d

pub sent-push : (q : Message → Bool) (xs : List Envelope) (l : Envelope)
    → sent q (xs ++ l ∷ []) ≡ (q l.message || sent q xs)
unfolding sent
sent-push q xs l = grind (arith, list_any-append)

pub sent-nil : (q : Message → Bool) (xs : List Envelope) → sent q (xs ++ []) ≡ sent q xs
unfolding sent
sent-nil q xs = grind (arith, list_any-append)

pub sent-append : (q : Message → Bool) (xs ys : List Envelope) → sent q (xs ++ ys) ≡ (sent q ys || sent q xs)
unfolding sent
sent-append q xs ys = grind (arith, list_any-append)

pub boot_of-push : (rs : List Record) (r : Record)
    → boot_of ((rs ++ r ∷ []) ++ []) ≡ boot_after (boot_of rs) r
unfolding boot_of
boot_of-push rs r = grind (arith, fold-append)

pub boot_of-push_behind : (f l : List Record) (r : Record)
    → boot_of (f ++ (l ++ r ∷ [])) ≡ boot_after (boot_of (f ++ l)) r
unfolding boot_of
boot_of-push_behind f l r = grind (arith, fold-append)

pub mark_of-push : (b : BranchName) (rs : List Record) (r : Record)
    → mark_of b ((rs ++ r ∷ []) ++ []) ≡ mark_after b (mark_of b rs) r
unfolding mark_of
mark_of-push b rs r = grind (arith, fold-append)

pub mark_of-push_behind : (b : BranchName) (f l : List Record) (r : Record)
    → mark_of b (f ++ (l ++ r ∷ [])) ≡ mark_after b (mark_of b (f ++ l)) r
unfolding mark_of
mark_of-push_behind b f l r = grind (arith, fold-append)

pub has-nil_behind : (q : Record → Bool) (xs ys : List Record) → has q (xs ++ (ys ++ [])) ≡ has q (xs ++ ys)
unfolding has
has-nil_behind q xs ys = grind (arith, list_any-append)

pub boot_of-nil_behind : (f l : List Record) → boot_of (f ++ (l ++ [])) ≡ boot_of (f ++ l)
unfolding boot_of
boot_of-nil_behind f l = grind (arith, fold-append)

pub mark_of-nil_behind : (b : BranchName) (f l : List Record)
    → mark_of b (f ++ (l ++ [])) ≡ mark_of b (f ++ l)
unfolding mark_of
mark_of-nil_behind b f l = grind (arith, fold-append)
