-- The sentence on what is wrong with a file. Assumes nothing.
use Rattle.std.specs.Prelude.{ℕ, List, [], ◌++◌, Some, None, Option, codes, decimal}
use Rattle.hour.specs.Fault as hour
use Rattle.hour.specs.declared.fault.Fault as hour_fault
use Rattle.hourfile.specs.declared.fault.Fault.{Fault}
use Rattle.hourfile.specs.declared.fault.Fault.TheVariants.{Hour, TooLarge, IllFormed, TextTooShort}
use Rattle.hoursettle.specs.Reason.{reason}

-- a refused call: the reason in words, and the subject
abbrev pub refused : hour_fault.Fault → List ℕ
refused fault = reason fault ++ (codes " (" ++ (decimal (hour.refusal fault).subject ++ codes ")"))

-- the line at fault, if there is one
abbrev pub in_line : Option ℕ → List ℕ
in_line None = []
in_line (Some line) = codes "line " ++ (decimal line ++ codes ": ")

-- what is wrong with a file, in words; with no line it is the file as a whole
abbrev pub sentence : Option ℕ → Fault → List ℕ
sentence line (Hour fault) = in_line line ++ refused fault
sentence line TooLarge = codes "the file has more than 32768 bytes"
sentence line (IllFormed place) = in_line line ++ (codes "ill formed at byte " ++ decimal place)
sentence line (TextTooShort needed) = codes "the print needs a text of " ++ (decimal needed ++ codes " bytes")
