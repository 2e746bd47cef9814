-- In every run by the second version since its tree was opened last: what holds of the acknowledgements sent
-- since.
use Rattle.std.proofs.Common.{◌≡◌, ◌∙◌, ◌+◌, ◌-◌, ℕ, suc, Bool, true, false, Some, List, [], ◌∷◌, ◌++◌, refl, sym, ap, subst, arith, append_assoc}
use Rattle.std.specs.Prelude.{length, slice_get}
use Rattle.std.proofs.lemmas.List.{append-nil}
use Rattle.protocol.specs.declared.names.ProcessId.{ProcessId}
use Rattle.protocol.specs.declared.messages.Envelope.{Envelope}
use Rattle.protocol.specs.declared.messages.Message.{Message}
use Rattle.protocol.specs.declared.events.Happening.{Happening}
use Rattle.protocol.specs.declared.events.Happening.TheVariants.{Restart, Trim}
use Rattle.protocol_words.specs.Variants.{ActInput, Handles, MessageInput}
use Rattle.protocol.specs.declared.events.Input.{Input}
use Rattle.protocol.specs.declared.trees.TreeProcess.{TreeProcess}
use Rattle.protocol.specs.Nodes.{Effect, Node, Second, Version, is_listed}
use Rattle.protocol.specs.Trees.{IsTree}
use Rattle.protocol.specs.World.{InputIsNew, IsDown, IsNewInNet, IsRun, IsRunBy, Made, Move, MayHappen, World, first_opens, next, opened_world, reopens, world_makes}
use Rattle.protocol.proofs.RunLaws.{makes_at, runs_by_are_runs}
use Rattle.proof_headline.proofs.runs.Headline.{the_world_holds}
use Rattle.proof_reports.specs.SinceOpened.{AllHeardAmong, InputAmong, IsAmong, SinceOpened}
use Rattle.proof_reports.proofs.Found.{among_at, among_second}
use Rattle.proof_reports.proofs.Naming.{never}
use Rattle.proof_reports.proofs.SinceOpened.{since_step}

-- these messages were sent after N others
pub record Behind (net : List Envelope) (before : ℕ) (ls : List Envelope) : Type 0 where
  pub earlier : List Envelope
  pub whole : net ≡ earlier ++ ls
  pub counted : length earlier ≡ before

get_behind : (xs ys : List Envelope) (j : ℕ) → slice_get (xs ++ ys) (length xs + j) ≡ slice_get ys j
get_behind [] ys j = let e : 0 + j ≡ j = omega arith in ap (slice_get ys) e
get_behind (x ∷ xs) ys j =
    let e : length (x ∷ xs) + j ≡ suc (length xs + j) = omega arith in
    ap (slice_get (x ∷ (xs ++ ys))) e ∙ get_behind xs ys j

-- a message that is delivered, of those that were sent since, is one of them
pub delivered_among : (net : List Envelope) (before : ℕ) (ls : List Envelope) → Behind net before ls
    → (q : ProcessId)
    (i : Input) → InputIsNew net before q i → InputAmong ls i
delivered_among net before ls b q (ActInput a) s = tt
delivered_among net before ls b q (MessageInput k m) s =
    among_at ls (k - 1) _
    (sym (get_behind b.earlier ls (k - 1))
    ∙ (ap (λ (c : ℕ). slice_get (b.earlier ++ ls) (c + (k - 1))) b.counted
    ∙ (ap (λ zs. slice_get zs (before + (k - 1))) (sym b.whole) ∙ s.stands)))

pub stands_new : (net : List Envelope) (before : ℕ) (q : ProcessId) (x : Happening)
    → IsNewInNet net before q x
    → MayHappen net q x
stands_new net before q (Handles (ActInput a)) s = tt
stands_new net before q (Handles (MessageInput k m)) s =
    record { sender = s.sender; place = before + (k - 1); stands = s.stands }
stands_new net before q (Restart k) s = tt
stands_new net before q Trim s = tt

behind_more : (net : List Envelope) (before : ℕ) (ls ms : List Envelope) → Behind net before ls
    → Behind (net ++ ms) before (ls ++ ms)
behind_more net before ls ms b = record {
  earlier = b.earlier;
  whole = ap (λ zs. zs ++ ms) b.whole ∙ append_assoc b.earlier ls ms;
  counted = b.counted;
}

-- the messages sent since the tree was opened last, with what holds of them
pub record Since (tree : List TreeProcess) (before : ℕ) (w : World) : Type 0 where
  pub messages : List Envelope
  pub behind : Behind w.net before messages
  pub holds : SinceOpened tree messages w

pub among_net : (net : List Envelope) (before : ℕ) (ls : List Envelope) → Behind net before ls → (x : Message)
    → IsAmong x ls → IsAmong x net
among_net net before ls b x i = subst (λ zs. IsAmong x zs) (sym b.whole) (among_second x b.earlier ls i)

module _ (tree : List TreeProcess) (is_tree : IsTree tree) where
  -- a process that is up where every listed one is down has heard nothing
  down_heard : (es : List Made) (w : World) → IsRun tree es w → IsDown tree w → (q : ProcessId)
      → (w.at q).failed ≡ false → AllHeardAmong [] (w.at q).heard
  down_heard es w run down q up = by_listed (is_listed tree q) refl
    where
      by_listed : (b : Bool) → is_listed tree q ≡ b → AllHeardAmong [] (w.at q).heard
      by_listed true f = absurd (never _ (down q f) up)
      by_listed false f =
          subst (λ (n : Node). AllHeardAmong [] n.heard)
          (sym ((the_world_holds tree is_tree es w run).unlisted q f)) tt

  pub since_then : (before : ℕ) (es : List Made) (w : World) (m : Move) (e : Effect) (w' : World)
      → IsRun tree es w → m.version ≡ Second → IsNewInNet w.net before m.step.process m.step.happening
      → world_makes tree w m ≡ Some (e, w') → (s : Since tree before w)
      → SinceOpened tree (s.messages ++ e.messages) w'
  since_then before es w m e w' run second new made s =
      since_step tree is_tree es w run s.messages (among_net w.net before s.messages s.behind)
      s.holds m e w' second
      (λ i hp. delivered_among w.net before s.messages s.behind m.step.process i
      (subst (λ (x : Happening). IsNewInNet w.net before m.step.process x) hp new))
      (stands_new w.net before m.step.process m.step.happening new) made

  since_next : (before : ℕ) (es : List Made) (w : World) (m : Move) (e : Effect) (w' : World)
      → IsRun tree es w → m.version ≡ Second → IsNewInNet w.net before m.step.process m.step.happening
      → world_makes tree w m ≡ Some (e, w') → Since tree before w → Since tree before w'
  since_next before es w m e w' run second new made s = record {
    messages = s.messages ++ e.messages;
    behind = subst (λ zs. Behind zs before (s.messages ++ e.messages))
        (sym (ap (λ (y : World). y.net) (makes_at tree w m e w' made).world))
        (behind_more w.net before s.messages e.messages s.behind);
    holds = since_then before es w m e w' run second new made s;
  }

  -- as the tree opens nothing was sent
  pub opened_since : SinceOpened tree [] opened_world
  opened_since = record {
    heard = λ q up. tt;
    managers = λ x t p leaf o fs i clean. absurd i;
    coordinators = λ x t p role o fs i clear. absurd i;
  }

  since_runs : (v : Version) (before : ℕ) (es : List Made) (w : World) → IsRunBy tree v before es w
      → v ≡ Second
      → Since tree before w
  since_runs _ _ _ _ (first_opens v) e = record {
    messages = [];
    behind = record { earlier = []; whole = refl; counted = refl };
    holds = opened_since;
  }
  since_runs _ _ _ _ (next v before es w m e w' run by new made) second =
      since_next before es w m e w' (runs_by_are_runs tree v before es w run) (by ∙ second) new made
      (since_runs v before es w run second)
  since_runs _ _ _ _ (reopens v before es w run down) second = record {
    messages = [];
    behind = record { earlier = w.net; whole = sym (append-nil w.net); counted = refl };
    holds = record {
      heard = down_heard es w (runs_by_are_runs tree v before es w run) down;
      managers = λ x t p leaf o fs i clean. absurd i;
      coordinators = λ x t p role o fs i clear. absurd i;
    };
  }

  pub since_opened : (before : ℕ) (es : List Made) (w : World) → IsRunBy tree Second before es w
      → Since tree before w
  since_opened before es w run = since_runs Second before es w run refl
