-- What a process does with a message, or with an act, if it reacts.
use Rattle.std.proofs.Common.{◌≡◌, ℕ, Bool, true, false, subst, if◌then◌else◌}
use Rattle.protocol.specs.declared.messages.Message.{Message}
use Rattle.protocol.specs.declared.events.Act.{Act}
use Rattle.protocol.specs.declared.events.Input.{Input}
use Rattle.protocol_words.specs.Variants.{ActInput, MessageInput}
use Rattle.protocol.specs.declared.events.StepError.{StepError}
use Rattle.protocol.specs.declared.events.StepError.TheVariants.{Failed, NoSuch}
use Rattle.protocol.specs.Nodes.{Effect, Heard, Node, Place}
use Rattle.protocol.specs.Reactions.{Does, Refused, act_is_listed, acts, handles, hears, names_listed, reacts}

does_so : (g e : Effect) → Does g ≡ Does e → g ≡ e
does_so g e q = cc

pub never : {A : Type 0} (x : StepError) (e : Effect) → Refused x ≡ Does e → A
never x e q = absurd (cc)

module _ (place : Place) (n : Node) (h : Heard) (e : Effect) (r : reacts place n h ≡ Does e) where
  -- a message: the process is up, and the effect is its row's
  pub hears_so : (k : ℕ) (m : Message) → h.input ≡ MessageInput k m
      → hears place.role h.version place n h.data_answer m ≡ e
  unfolding reacts
  hears_so k m i = by_up n.failed
      (subst (λ (x : Input). (if act_is_listed place.tree x then handles place n h x else Refused NoSuch)
      ≡ Does e) i r)
    where
      by_up : (b : Bool)
          → (if b then Refused Failed else Does (hears place.role h.version place n h.data_answer m)) ≡ Does e
          → hears place.role h.version place n h.data_answer m ≡ e
      by_up true q = never Failed e q
      by_up false q = does_so (hears place.role h.version place n h.data_answer m) e q

  -- an act: it is not refused
  pub acts_so : (a : Act) → h.input ≡ ActInput a → acts place.role place n a ≡ Does e
  unfolding reacts
  acts_so a i = by_listed (names_listed place.tree a) n.failed
      (subst (λ (x : Input). (if act_is_listed place.tree x then handles place n h x else Refused NoSuch)
      ≡ Does e) i r)
    where
      by_listed : (b f : Bool)
          → (if b then (if f then Refused Failed else acts place.role place n a) else Refused NoSuch) ≡ Does e
          → acts place.role place n a ≡ Does e
      by_listed true false q = q
      by_listed true true q = never Failed e q
      by_listed false f q = never NoSuch e q
