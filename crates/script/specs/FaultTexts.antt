-- What a fault prints.
use Rattle.std.specs.Prelude.{ℕ, List, codes}
use Rattle.script.specs.declared.faults.LineFault.{LineFault}
use Rattle.script.specs.declared.faults.LineFault.TheVariants as fault

abbrev pub fault_text : LineFault → List ℕ
fault_text fault.Action = codes "the first word names no action"
fault_text fault.Missing = codes "a word is missing"
fault_text fault.TooMany = codes "there are words or spaces too many"
fault_text fault.Letter = codes "a file or a draft is named by one letter from a to z"
fault_text fault.Number = codes "a number is wanted, in decimal digits"
fault_text fault.TooLarge = codes "a number is too large"
fault_text fault.Hex = codes "bytes are wanted, as pairs of lower-case hexadecimal digits, or - for none"
fault_text fault.Guid = codes "a GUID has 16 bytes"
fault_text fault.Memory = codes "there is no memory for the bytes of the line"
fault_text fault.Long = codes "a line has at most 262144 bytes"
fault_text fault.NoFile = codes "no file has this letter"
fault_text fault.NoDraft = codes "no draft has this letter"
fault_text fault.FileTaken = codes "a file has this letter already"
fault_text fault.DraftTaken = codes "a draft has this letter already"
fault_text fault.Opened = codes "a file that is open cannot be covered"
fault_text fault.Covered = codes "a file can be covered twice at most"
