-- A message that a process handles: the world that its step makes.
use Rattle.std.proofs.Common.{if◌then◌else◌, ◌≡◌, ap, sym, subst, Bool, true, false, List, Some, None, refl, ℕ}
use Rattle.protocol.specs.declared.names.ProcessId.{ProcessId}
use Rattle.protocol.specs.declared.messages.Message.{Message}
use Rattle.protocol_words.specs.Variants.{MessageInput}
use Rattle.protocol.specs.declared.events.StepError.TheVariants.{Failed}
use Rattle.protocol.specs.declared.events.Fault.{Fault}
use Rattle.protocol.specs.declared.trees.TreeProcess.{TreeProcess}
use Rattle.protocol.specs.Nodes.{First, Heard, DataAnswer, Effect, Node, Place, Role, fails_in, place_of, role_of, is_listed}
use Rattle.protocol.specs.Reactions.{Refused, Does, reacts, hears, passes_at}
use Rattle.protocol.specs.World.{World, Refuses, world_makes, world_stepped, node_makes, input_makes, passes_over, restart_makes, trim_makes, fault_effect}
use Rattle.protocol.specs.Restarts.{restarted, restart_effect, trims, trim_effect}
use Rattle.proof_pairs.specs.readings.Steps.{handled, made_at, delivers, fails_at, restarts_at, trims_at}

pair_same : {A B : Type 0} (d p q : A × B) → Some p ≡ Some q → p ≡ q
pair_same d p q h = cc

delivered_by : (b f : Bool) (w : World) (q : ProcessId) (h : Heard) (made : Effect) (e : Effect) (w' : World)
    → (if b then world_stepped w q (input_makes (w.at q) h None (if f then Refused Failed else Does made))
    else None) ≡ Some (e, w')
    → (f ≡ false) × (w' ≡ handled w q h made)
delivered_by true false w q h made e w' s =
    let both : (made, handled w q h made) ≡ (e, w') = pair_same (e, w') (made, handled w q h made) (e, w')
    s in
    (refl, sym (ap (λ (x : Effect × World). x.1) both))
delivered_by true true w q h made e w' s = absurd (cc)
delivered_by false f w q h made e w' s = absurd (cc)

-- the message is not passed over
abbrev Takes : Role → Place → Node → ℕ → Message → Type 0
Takes role place n i message = passes_at role place n (MessageInput i message) ≡ false

-- the process was up, and did what its role hears
delivered : (tree : List TreeProcess) (w : World) (q : ProcessId) (i : ℕ) (message : Message)
    (a : DataAnswer) (e : Effect) (w' : World)
    → Takes (role_of tree q) (place_of tree q) (w.at q) i message
    → world_makes tree w (delivers q i message a) ≡ Some (e, w')
    → ((w.at q).failed ≡ false) × (w' ≡ handled w q
    (record { input = MessageInput i message; data_answer = a; version = First })
    (hears (role_of tree q) First (place_of tree q) (w.at q) a message))
unfolding world_makes node_makes reacts
delivered tree w q i message a e w' taken s =
    let h : Heard = record { input = MessageInput i message; data_answer = a; version = First } in
    delivered_by (is_listed tree q) (w.at q).failed w q h
    (hears (role_of tree q) First (place_of tree q) (w.at q) a message) e w'
    (subst (λ (b : Bool). (if is_listed tree q then world_stepped w q (if b then passes_over (w.at q) None
    else input_makes (w.at q) h None (if (w.at q).failed then Refused Failed
    else Does (hears (role_of tree q) First (place_of tree q) (w.at q) a message))) else None) ≡ Some (e, w'))
    taken
    s)

-- the same, where the process's role is known
pub delivered_as : (tree : List TreeProcess) (w : World) (q : ProcessId) (role : Role) (i : ℕ)
    (message : Message) (a : DataAnswer) (e : Effect) (w' : World)
    → role_of tree q ≡ role → world_makes tree w (delivers q i message a) ≡ Some (e, w')
    → Takes role (record { me = q; role = role; tree = tree }) (w.at q) i message
    → ((w.at q).failed ≡ false) × (w' ≡ handled w q
    (record { input = MessageInput i message; data_answer = a; version = First })
    (hears role First (record { me = q; role = role; tree = tree }) (w.at q) a message))
delivered_as tree w q role i message a e w' known s taken =
    let taken' = subst (λ (r : Role). Takes r (record { me = q; role = r; tree = tree }) (w.at q) i message)
    (sym known) taken in
    let both = delivered tree w q i message a e w' taken' s in (
      both.0,
      subst (λ (r : Role). w' ≡ handled w q
          (record { input = MessageInput i message; data_answer = a; version = First })
          (hears r First (record { me = q; role = r; tree = tree }) (w.at q) a message)) known both.1,
    )

-- The same with a fault.

failed_by : (b u : Bool) (w : World) (q : ProcessId) (h : Heard) (made : Effect) (f : Fault) (e : Effect)
    (w' : World)
    → (if b then world_stepped w q (input_makes (w.at q) h (Some f)
    (if u then Refused Failed else Does made)) else None) ≡ Some (e, w')
    → (u ≡ false) × (w' ≡ made_at w q (fails_in (w.at q) h made f.appended f.forced)
    (fault_effect made f.appended))
failed_by true false w q h made f e w' s =
    let left = made_at w q (fails_in (w.at q) h made f.appended f.forced) (fault_effect made f.appended) in
    let both : (fault_effect made f.appended, left) ≡ (e, w') = pair_same (e, w')
    (fault_effect made f.appended, left) (e, w') s in
    (refl, sym (ap (λ (x : Effect × World). x.1) both))
failed_by true true w q h made f e w' s = absurd (cc)
failed_by false u w q h made f e w' s = absurd (cc)

failed_in : (tree : List TreeProcess) (w : World) (q : ProcessId) (i : ℕ) (message : Message)
    (a : DataAnswer) (f : Fault) (e : Effect) (w' : World)
    → Takes (role_of tree q) (place_of tree q) (w.at q) i message
    → world_makes tree w (fails_at q i message a f) ≡ Some (e, w')
    → ((w.at q).failed ≡ false) × (w' ≡ made_at w q
    (fails_in (w.at q) (record { input = MessageInput i message; data_answer = a; version = First })
    (hears (role_of tree q) First (place_of tree q) (w.at q) a message) f.appended f.forced)
    (fault_effect (hears (role_of tree q) First (place_of tree q) (w.at q) a message) f.appended))
unfolding world_makes node_makes reacts
failed_in tree w q i message a f e w' taken s =
    let h : Heard = record { input = MessageInput i message; data_answer = a; version = First } in
    failed_by (is_listed tree q) (w.at q).failed w q h
    (hears (role_of tree q) First (place_of tree q) (w.at q) a message) f e w'
    (subst (λ (b : Bool). (if is_listed tree q then world_stepped w q (if b then passes_over (w.at q) (Some f)
    else input_makes (w.at q) h (Some f) (if (w.at q).failed then Refused Failed
    else Does (hears (role_of tree q) First (place_of tree q) (w.at q) a message))) else None) ≡ Some (e, w'))
    taken
    s)

pub failed_as : (tree : List TreeProcess) (w : World) (q : ProcessId) (role : Role) (i : ℕ)
    (message : Message) (a : DataAnswer) (f : Fault) (e : Effect) (w' : World)
    → role_of tree q ≡ role → world_makes tree w (fails_at q i message a f) ≡ Some (e, w')
    → Takes role (record { me = q; role = role; tree = tree }) (w.at q) i message
    → ((w.at q).failed ≡ false) × (w' ≡ made_at w q
    (fails_in (w.at q) (record { input = MessageInput i message; data_answer = a; version = First })
    (hears role First (record { me = q; role = role; tree = tree }) (w.at q) a message) f.appended f.forced)
    (fault_effect (hears role First (record { me = q; role = role; tree = tree }) (w.at q) a message)
    f.appended))
failed_as tree w q role i message a f e w' known s taken =
    let taken' = subst (λ (r : Role). Takes r (record { me = q; role = r; tree = tree }) (w.at q) i message)
    (sym known) taken in
    let both = failed_in tree w q i message a f e w' taken' s in (
      both.0,
      subst (λ (r : Role). w' ≡ made_at w q
          (fails_in (w.at q) (record { input = MessageInput i message; data_answer = a; version = First })
          (hears r First (record { me = q; role = r; tree = tree }) (w.at q) a message) f.appended f.forced)
          (fault_effect (hears r First (record { me = q; role = r; tree = tree }) (w.at q) a message)
          f.appended))
          known both.1,
    )

-- A restart.

restarted_by : (b : Bool) (w : World) (q : ProcessId) (place : Place) (k : ℕ) (e : Effect) (w' : World)
    → (if b then world_stepped w q (restart_makes place (w.at q) k None) else None) ≡ Some (e, w')
    → w' ≡ made_at w q (restarted place (w.at q) k) (restart_effect place (w.at q) k)
restarted_by true w q place k e w' s =
    let left = made_at w q (restarted place (w.at q) k) (restart_effect place (w.at q) k) in
    let both : (restart_effect place (w.at q) k, left) ≡ (e, w') = pair_same (e, w')
    (restart_effect place (w.at q) k, left) (e, w') s in
    sym (ap (λ (x : Effect × World). x.1) both)
restarted_by false w q place k e w' s = absurd (cc)

restarted_in : (tree : List TreeProcess) (w : World) (q : ProcessId) (k : ℕ) (a : DataAnswer) (e : Effect)
    (w' : World)
    → world_makes tree w (restarts_at q k a) ≡ Some (e, w')
    → w' ≡ made_at w q (restarted (place_of tree q) (w.at q) k)
    (restart_effect (place_of tree q) (w.at q) k)
unfolding world_makes node_makes
restarted_in tree w q k a e w' s = restarted_by (is_listed tree q) w q (place_of tree q) k e w' s

pub restarted_as : (tree : List TreeProcess) (w : World) (q : ProcessId) (role : Role) (k : ℕ)
    (a : DataAnswer) (e : Effect) (w' : World)
    → role_of tree q ≡ role → world_makes tree w (restarts_at q k a) ≡ Some (e, w')
    → w' ≡ made_at w q (restarted (record { me = q; role = role; tree = tree }) (w.at q) k)
    (restart_effect (record { me = q; role = role; tree = tree }) (w.at q) k)
restarted_as tree w q role k a e w' known s =
    subst (λ (r : Role). w' ≡ made_at w q (restarted (record { me = q; role = r; tree = tree }) (w.at q) k)
    (restart_effect (record { me = q; role = r; tree = tree }) (w.at q) k)) known
    (restarted_in tree w q k a e w' s)

-- A trim.

trimmed_by : (b u : Bool) (w : World) (q : ProcessId) (place : Place) (e : Effect) (w' : World)
    → (if b then world_stepped w q (if u then Refuses Failed else trim_makes place (w.at q) None) else
    None) ≡ Some (e, w')
    → (u ≡ false) × (w' ≡ made_at w q (trims place (w.at q)) (trim_effect place (w.at q)))
trimmed_by true false w q place e w' s =
    let left = made_at w q (trims place (w.at q)) (trim_effect place (w.at q)) in
    let both : (trim_effect place (w.at q), left) ≡ (e, w') = pair_same (e, w')
    (trim_effect place (w.at q), left) (e, w') s in
    (refl, sym (ap (λ (x : Effect × World). x.1) both))
trimmed_by true true w q place e w' s = absurd (cc)
trimmed_by false u w q place e w' s = absurd (cc)

trimmed_in : (tree : List TreeProcess) (w : World) (q : ProcessId) (a : DataAnswer) (e : Effect) (w' : World)
    → world_makes tree w (trims_at q a) ≡ Some (e, w')
    → ((w.at q).failed ≡ false) × (w' ≡ made_at w q (trims (place_of tree q) (w.at q))
    (trim_effect (place_of tree q) (w.at q)))
unfolding world_makes node_makes
trimmed_in tree w q a e w' s = trimmed_by (is_listed tree q) (w.at q).failed w q (place_of tree q) e w' s

pub trimmed_as : (tree : List TreeProcess) (w : World) (q : ProcessId) (role : Role) (a : DataAnswer)
    (e : Effect) (w' : World)
    → role_of tree q ≡ role → world_makes tree w (trims_at q a) ≡ Some (e, w')
    → ((w.at q).failed ≡ false) × (w' ≡ made_at w q
    (trims (record { me = q; role = role; tree = tree }) (w.at q))
    (trim_effect (record { me = q; role = role; tree = tree }) (w.at q)))
trimmed_as tree w q role a e w' known s =
    let both = trimmed_in tree w q a e w' s in (
      both.0,
      subst (λ (r : Role). w' ≡ made_at w q
          (trims (record { me = q; role = r; tree = tree }) (w.at q))
          (trim_effect (record { me = q; role = r; tree = tree }) (w.at q))) known both.1,
    )
