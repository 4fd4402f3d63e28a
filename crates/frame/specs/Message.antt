-- What the code answers for bytes that are to be a message.
use Rattle.std.specs.Prelude.{ℕ, ◌+◌, ◌<◌, ◌≤◌, ◌≢◌, List, length, codes}
use Rattle.model.specs.Frames.{max_data, length_byte, Message}
use Rattle.frame.specs.declared.message.MessageError.{MessageError}
use Rattle.frame.specs.declared.message.MessageError.TheVariants.{NoHeader, TooLong, WrongLength, NoMemory}

-- the first fault that fits; a message without one can still want for memory
abbrev pub Fault : List ℕ → MessageError → Type 0
Fault xs NoHeader = length xs < 3
Fault xs TooLong = (3 ≤ length xs) × (max_data < length_byte xs)
Fault xs WrongLength = (3 ≤ length xs) × (length_byte xs ≤ max_data) × (length xs ≢ length_byte xs + 3)
Fault xs NoMemory = Message xs

-- each fault in words
abbrev pub says : MessageError → List ℕ
says NoHeader = codes "no header"
says TooLong = codes "length byte above 253"
says WrongLength = codes "length byte and data differ"
says NoMemory = codes "no memory"
