-- The documents' numbers of the refusals, the rules and the endings: the scope's section "Numbers of the answers".
use Rattle.std.specs.Prelude.{ℕ}
use Rattle.model.specs.declared.Fault.{Fault}
use Rattle.model.specs.declared.Fault.TheVariants.{TooLong, BadLine, Misplaced, Malformed, TooMany, NotThere, Unlawful, WrongTables}
use Rattle.model.specs.declared.Rule.{Rule}
use Rattle.model.specs.declared.Rule.TheVariants.{KnownOp, TemplateAllowed, GetOffered, Encrypt, Decrypt, Store, Return, Handle, Derive}
use Rattle.model.specs.declared.Full.{Full}
use Rattle.model.specs.declared.Full.TheVariants.{Rows, Keys}

abbrev pub fault_number : Fault → ℕ
fault_number TooLong = 1
fault_number BadLine = 2
fault_number Misplaced = 3
fault_number Malformed = 4
fault_number TooMany = 5
fault_number NotThere = 6
fault_number Unlawful = 7
fault_number WrongTables = 15

-- reading lets no step through whose op is unknown: KnownOp is never broken in a file that was read
abbrev pub rule_number : Rule → ℕ
rule_number KnownOp = 4
rule_number TemplateAllowed = 16
rule_number GetOffered = 17
rule_number Encrypt = 18
rule_number Decrypt = 19
rule_number Store = 20
rule_number Return = 21
rule_number Handle = 22
rule_number Derive = 23

abbrev pub full_number : Full → ℕ
full_number Rows = 32
full_number Keys = 33
