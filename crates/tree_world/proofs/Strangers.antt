-- The records of a log, one by one, up to the first that may not be in it.
use Rattle.std.proofs.Common.{◌≡◌, ◌∙◌, ℕ, Bool, true, false, Option, Some, None, List, [], ◌∷◌, drop, sym, ap}
use Rattle.protocol.specs.declared.records.LogRecord.{LogRecord}
use Rattle.protocol.specs.declared.trees.TreeProcess.{TreeProcess}
use Rattle.protocol.specs.Records.{boot_after}
use Rattle.log_text.specs.declared.form.LogForm.{LogForm}
use Rattle.log_text.specs.Forms.{form_in}
use Rattle.log_rules.specs.order.Logs.{read_as, read_log}
use Rattle.log_script.specs.Places.{Placed, placed, placed_in}
use Rattle.tree_world.specs.OwnNames.{damage_in, fault_of, first_stranger, is_at_home, place_or, sound_to, stranger_of, stranger_or}

-- after the last record there is none
pub none_strange : (home : ℕ → LogRecord → Bool) (boot : ℕ) (xs : List Placed) (all : Option ℕ) → xs ≡ []
    → first_stranger home boot xs ≡ all → None ≡ all
unfolding first_stranger
none_strange home boot xs all e h = sym (ap (first_stranger home boot) e) ∙ h

-- a record that may be there is passed over
pub home_goes_on : (home : ℕ → LogRecord → Bool) (boot next : ℕ) (xs more : List Placed)
    (place : ℕ) (l : LogRecord)
    (all : Option ℕ) → xs ≡ placed place l ∷ more → home boot l ≡ true → next ≡ boot_after boot l.entry
    → first_stranger home boot xs ≡ all → first_stranger home next more ≡ all
unfolding first_stranger
home_goes_on home boot next xs more place l all e at goes h =
    ap (λ b. first_stranger home b more) goes
    ∙ sym (ap (first_stranger home boot) e
    ∙ ap (λ b. stranger_or b place (first_stranger home (boot_after boot l.entry) more)) at) ∙ h

-- one that may not is the first
pub stranger_there : (home : ℕ → LogRecord → Bool) (boot : ℕ) (xs more : List Placed)
    (place : ℕ) (l : LogRecord)
    (all : Option ℕ) → xs ≡ placed place l ∷ more → home boot l ≡ false → first_stranger home boot xs ≡ all
    → Some place ≡ all
unfolding first_stranger
stranger_there home boot xs more place l all e away h =
    sym (ap (first_stranger home boot) e
    ∙ ap (λ b. stranger_or b place (first_stranger home (boot_after boot l.entry) more)) away) ∙ h

-- What is looked for in the bytes before the damage, by the form that the bytes name, is the first stranger.
module _ (tree : List TreeProcess) (e : TreeProcess) (bytes frames sound : List ℕ) (form : LogForm)
    (damage found : Option ℕ)
    (by : form ≡ form_in bytes e.id e.kind) (damaged : damage ≡ damage_in (read_log form bytes))
    (before : sound ≡ sound_to damage bytes) (behind : frames ≡ drop 5 sound)
    (first : found ≡ first_stranger (is_at_home tree e) 0 (placed_in form 5 0 frames)) where
  damage_is : damage ≡ damage_in (read_as e.id e.kind bytes)
  damage_is = damaged ∙ ap (λ f. damage_in (read_log f bytes)) by

  stranger_is : found ≡ stranger_of tree e bytes
  stranger_is = first ∙ ap (λ f. first_stranger (is_at_home tree e) 0 (placed_in f 5 0 frames)) by
      ∙ ap (λ xs. first_stranger (is_at_home tree e) 0 (placed_in (form_in bytes e.id e.kind) 5 0 xs))
      (behind ∙ ap (drop 5) (before ∙ ap (λ d. sound_to d bytes) damage_is))

  -- the fault is the first stranger, or else the damage
  fault_is : place_or found damage ≡ fault_of tree e bytes
  fault_is = ap (λ o. place_or o damage) stranger_is ∙ ap (place_or (stranger_of tree e bytes)) damage_is

  pub fault_by_stranger : (place : ℕ) → found ≡ Some place → Some place ≡ fault_of tree e bytes
  fault_by_stranger place is = ap (λ o. place_or o damage) (sym is) ∙ fault_is

  pub fault_by_damage : found ≡ None → damage ≡ fault_of tree e bytes
  fault_by_damage is = ap (λ o. place_or o damage) (sym is) ∙ fault_is
