-- The exit statuses of the program, and what it says on standard error (this project's own).
use Rattle.std.specs.Prelude.{ℕ, List, [], ◌∷◌, ◌++◌, codes, decimal}
use Rattle.service.specs.declared.exit.Exit.{Exit}
use Rattle.service.specs.declared.exit.Exit.TheVariants as exit

abbrev pub status_of : Exit → ℕ
status_of exit.Ok = 0
status_of exit.Usage = 2
status_of exit.ReadFault = 3
status_of exit.WriteFault = 4
status_of (exit.Refused at) = 7
status_of exit.NoMemory = 8
status_of (exit.BadDef word) = 9
status_of (exit.TooManyFiltered line) = 10
status_of (exit.TooBig limit) = 12
status_of exit.Enough = 13

-- the name of an exit, and each of its fields with its value
abbrev pub name_of : Exit → List ℕ
name_of exit.Ok = []
name_of exit.Usage = []
name_of exit.ReadFault = codes "ReadFault"
name_of exit.WriteFault = codes "WriteFault"
name_of (exit.Refused at) = codes "Refused at=" ++ decimal at
name_of exit.NoMemory = codes "NoMemory"
name_of (exit.BadDef word) = codes "BadDef word=" ++ decimal word
name_of (exit.TooManyFiltered line) = codes "TooManyFiltered line=" ++ decimal line
name_of (exit.TooBig limit) = codes "TooBig limit=" ++ decimal limit
name_of exit.Enough = codes "Enough"

abbrev pub usage : List ℕ
usage = codes "usage: labelload dryrun MODEL COLUMN... | run [JOURNAL] | serve ADDRESS WORKERS [JOURNAL] | generate NUMBER LOADS\n"

abbrev pub said : Exit → List ℕ
said e = codes "labelload: " ++ name_of e ++ 10 ∷ []

-- what is said on standard error: nothing where all went well
abbrev pub text_of : Exit → List ℕ
text_of exit.Ok = []
text_of exit.Usage = usage
text_of exit.ReadFault = said exit.ReadFault
text_of exit.WriteFault = said exit.WriteFault
text_of (exit.Refused at) = said (exit.Refused at)
text_of exit.NoMemory = said exit.NoMemory
text_of (exit.BadDef word) = said (exit.BadDef word)
text_of (exit.TooManyFiltered line) = said (exit.TooManyFiltered line)
text_of (exit.TooBig limit) = said (exit.TooBig limit)
text_of exit.Enough = said exit.Enough
