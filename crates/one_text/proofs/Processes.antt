-- Two states to which the same events led keep the same logs, if no device failed in the run.
use Rattle.std.proofs.Common.{◌≡◌, ◌<◌, ◌∙◌, ◌++◌, ℕ, Bool, true, false, Option, Some, None, List, [], ◌∷◌, refl, sym, ap, subst}
use Rattle.std.specs.Prelude.{All, is_some, map}
use Rattle.protocol.specs.LogNames.{in_log, parent_of}
use Rattle.protocol.specs.declared.names.ProcessId.{ProcessId}
use Rattle.protocol.specs.declared.records.LogRecord.{LogRecord}
use Rattle.protocol.specs.declared.trees.TreeProcess.{TreeProcess}
use Rattle.protocol.specs.Nodes.{Node, Place, is_listed, place_of}
use Rattle.log_text.specs.Forms.{header}
use Rattle.log_text.specs.Payloads.{records_text}
use Rattle.log_records.specs.Sights.{ReadsAs, records_of}
use Rattle.log_script.specs.declared.line.ProcessLog.{ProcessLog}
use Rattle.log_script.specs.Lines.{process_log}
use Rattle.process_state.specs.States.{CoreState, form_of, logged}
use Rattle.proof_runs.specs.worlds.Follows.{StandsAt}
use Rattle.tree_state.specs.Worlds.{WorldState}
use Rattle.proof_runs.proofs.worlds.AlikeTrees.{AlikeTrees}
use Rattle.tree_process.specs.Nodes.{SpellsLog}
use Rattle.tree_world.specs.LogsLeft.{AreByteLogs, AreLogs}
use Rattle.tree_world.specs.Nodes.{SpellsLogBy}
use Rattle.one_text.proofs.Bytes.{log_is}

-- the records of a process of the model that sits there, as its log holds them
abbrev named : Place → Node → List LogRecord
named place n = map (in_log (parent_of place.role)) n.forced ++ map (in_log (parent_of place.role)) n.unforced

-- the bytes of its log
abbrev spelled : Place → Node → List ℕ
spelled place n = header (form_of place).format ++ records_text (form_of place) (named place n)

module _ (v w : WorldState) (alike : AlikeTrees v w)
    (up : (q : ProcessId) → (alike.world.at q).failed ≡ false) where
  -- what a process spells is what the model's process there spells
  spells : (s : WorldState) (q : ProcessId) (c : CoreState) (text : List ℕ) → StandsAt alike.world s q c
      → All (λ b. b < 256) text → SpellsLog c text → text ≡ spelled c.place (alike.world.at q)
  spells s q c text at bytes reads =
      let n = alike.world.at q in
      let records : records_of c.log.kept ≡ named c.place n =
      ap (λ (l : List LogRecord). l ++ c.log.kept.unforced) at.stands.forced
      ∙ ap (λ (l : List LogRecord). logged c n.forced ++ l) at.stands.unforced in
      let whole : ReadsAs (form_of c.place) text (records_of c.log.kept) false =
      subst (λ (b : Bool). ReadsAs (form_of c.place) text (records_of c.log.kept) b)
      (at.stands.failed ∙ up q) reads in
      log_is (form_of c.place) text (records_of c.log.kept) bytes whole
      ∙ ap (λ (l : List LogRecord). header (form_of c.place).format ++ records_text (form_of c.place) l)
      records

  both_spell : (q : ProcessId) (c d : CoreState) (a b : List ℕ) → v.node_at q ≡ Some c → w.node_at q ≡ Some d
      → All (λ x. x < 256) a → All (λ x. x < 256) b → SpellsLog c a → SpellsLog d b → b ≡ a
  both_spell q c d a b here there xs ys h k =
      let one = alike.here.follows.nodes q c here in
      let two = alike.there.follows.nodes q d there in
      let place : d.place ≡ c.place =
      two.place ∙ ap (λ (es : List TreeProcess). place_of es q) alike.tree ∙ sym one.place in
      spells (record w { entries = _ }) q d b two ys k
      ∙ ap (λ (p : Place). spelled p (alike.world.at q)) place
      ∙ sym (spells (record v { entries = _ }) q c a one xs h)

  -- a process is there in both states, or in none
  both_there : (q : ProcessId) → is_some (w.node_at q) ≡ is_some (v.node_at q)
  both_there q =
      alike.there.follows.listed q ∙ ap (λ (es : List TreeProcess). is_listed es q) alike.tree
      ∙ sym (alike.here.follows.listed q)

  same_log : (q : ProcessId) (o p : Option CoreState) (a b : List ℕ) → v.node_at q ≡ o → w.node_at q ≡ p
      → All (λ x. x < 256) a → All (λ x. x < 256) b → SpellsLogBy o a → SpellsLogBy p b → b ≡ a
  same_log q None None a b here there xs ys h k = k ∙ sym h
  same_log q (Some c) (Some d) a b here there xs ys h k = both_spell q c d a b here there xs ys h k
  same_log q None (Some d) a b here there xs ys h k =
      let both : true ≡ false = sym (ap is_some there) ∙ both_there q ∙ ap is_some here in absurd (cc)
  same_log q (Some c) None a b here there xs ys h k =
      let both : false ≡ true = sym (ap is_some there) ∙ both_there q ∙ ap is_some here in absurd (cc)

  -- the logs of these processes are the same
  pub same_logs : (es : List TreeProcess) (ls ms : List ProcessLog) → AreByteLogs ls → AreByteLogs ms
      → AreLogs v es ls → AreLogs w es ms → ms ≡ ls
  same_logs [] [] [] xs ys h k = refl
  same_logs [] [] (m ∷ ms) xs ys h k = elim k [ ]
  same_logs [] (l ∷ ls) ms xs ys h k = elim h [ ]
  same_logs (e ∷ es) [] ms xs ys h k = elim h [ ]
  same_logs (e ∷ es) (l ∷ ls) [] xs ys h k = elim k [ ]
  same_logs (e ∷ es) (l ∷ ls) (m ∷ ms) xs ys h k =
      let process : m.process ≡ l.process = k.0 ∙ sym h.0 in
      let bytes : m.bytes ≡ l.bytes =
      same_log e.id (v.node_at e.id) (w.node_at e.id) l.bytes m.bytes refl refl xs.0 ys.0 h.1 k.1 in
      let same : m ≡ l =
      ap (λ (p : ProcessId). process_log p m.bytes) process ∙ ap (process_log l.process) bytes in
      ap (λ (x : ProcessLog). x ∷ ms) same ∙ ap (λ (xs : List ProcessLog). l ∷ xs)
      (same_logs es ls ms xs.1 ys.1 h.2 k.2)
