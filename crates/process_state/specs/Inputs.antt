-- What a process handles, as it is lent to it.
use Rattle.protocol.specs.declared.events.Input.{Input}
use Rattle.protocol_words.specs.Variants.{ActInput, MessageInput}
use Rattle.process_state.specs.declared.inputs.InputRef.{InputRef}
use Rattle.process_state.specs.declared.inputs.InputRef.TheVariants.{Act, Message}

-- the input that is lent
abbrev pub input_of : InputRef → Input
input_of (Act a) = ActInput a.now
input_of (Message k m) = MessageInput k m.now
