-- An earlier run, and what was made since, are one run.
use Rattle.std.proofs.Common.{◌≡◌, ◌∙◌, ◌+◌, ℕ, suc, List, [], ◌∷◌, ◌++◌, sym, ap, subst, arith, append_assoc, length}
use Rattle.std.specs.Prelude.{slice_get}
use Rattle.std.proofs.lemmas.List.{append-nil}
use Rattle.protocol.specs.declared.names.ProcessId.{ProcessId}
use Rattle.protocol.specs.declared.messages.Envelope.{Envelope}
use Rattle.protocol.specs.declared.events.Happening.{Happening}
use Rattle.protocol.specs.declared.events.Happening.TheVariants.{Restart, Trim}
use Rattle.protocol_words.specs.Variants.{ActInput, Handles, MessageInput}
use Rattle.protocol.specs.declared.events.Input.{Input}
use Rattle.protocol.specs.declared.trees.TreeProcess.{TreeProcess}
use Rattle.protocol.specs.World.{InputStands, IsRun, Made, MayHappen, World, makes}
use Rattle.protocol.proofs.RunLaws.{makes_at}
use Rattle.proof_reopened.specs.Earlier.{Earlier, IsSince, opens_over, then_makes}

-- A message that was sent since was sent.

get_behind : (xs ys : List Envelope) (j : ℕ) → slice_get (xs ++ ys) (length xs + j) ≡ slice_get ys j
get_behind [] ys j = let e : 0 + j ≡ j = omega arith in ap (slice_get ys) e
get_behind (x ∷ xs) ys j =
    let e : length (x ∷ xs) + j ≡ suc (length xs + j) = omega arith in
    ap (slice_get (x ∷ (xs ++ ys))) e ∙ get_behind xs ys j

pub input_behind : (before sent : List Envelope) (q : ProcessId) (i : Input) → InputStands sent q i
    → InputStands (before ++ sent) q i
input_behind before sent q (ActInput a) s = tt
input_behind before sent q (MessageInput k m) s = record {
  sender = s.sender;
  place = length before + s.place;
  stands = get_behind before sent s.place ∙ s.stands;
}

pub stands_behind : (before sent : List Envelope) (q : ProcessId) (h : Happening) → MayHappen sent q h
    → MayHappen (before ++ sent) q h
stands_behind before sent q (Handles i) s = input_behind before sent q i s
stands_behind before sent q (Restart k) s = tt
stands_behind before sent q Trim s = tt

-- The net has those of the earlier run, and after them those that were sent since.

pub net_since : (tree : List TreeProcess) (o : Earlier) (es : List Made) (sent : List Envelope) (w : World)
    → IsSince tree o es sent w → w.net ≡ o.world.net ++ sent
net_since tree o _ _ _ opens_over = sym (append-nil o.world.net)
net_since tree o _ _ _ (then_makes es sent w m e w' since by stands made) =
    ap (λ (y : World). y.net) (makes_at tree w m e w' made).world
    ∙ (ap (λ xs. xs ++ e.messages) (net_since tree o es sent w since)
    ∙ append_assoc o.world.net sent e.messages)

-- what was sent since was sent
pub happens_in : (tree : List TreeProcess) (o : Earlier) (es : List Made) (sent : List Envelope) (w : World)
    → IsSince tree o es sent w → (q : ProcessId) (h : Happening) → MayHappen sent q h → MayHappen w.net q h
happens_in tree o es sent w since q h s =
    subst (λ net. MayHappen net q h) (sym (net_since tree o es sent w since))
    (stands_behind o.world.net sent q h s)

pub whole_run : (tree : List TreeProcess) (o : Earlier) → IsRun tree o.moves o.world → (es : List Made)
    (sent : List Envelope) (w : World) → IsSince tree o es sent w → IsRun tree (es ++ o.moves) w
whole_run tree o run _ _ _ opens_over = run
whole_run tree o run _ _ _ (then_makes es sent w m e w' since by stands made) =
    makes (es ++ o.moves) w m e w' (whole_run tree o run es sent w since)
    (happens_in tree o es sent w since m.step.process m.step.happening stands) made
