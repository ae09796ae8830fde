-- The lines that the program prints. All of them are ours.
use Rattle.std.specs.Prelude.{ℕ, List, ◌++◌, codes, decimal}
use Rattle.pp_conf.specs.Settings.{name_of}
use Rattle.pp_conf.specs.declared.fault.ConfFault.{ConfFault}
use Rattle.pp_conf.specs.declared.fault.ConfFault.TheVariants.{Usage, TooLong, BadLine, BadValue, OutOfMemory}

abbrev pub usage_line : List ℕ
usage_line = codes "usage: polipo [-c FILE] [-g SEED] [name=value ...]\n"

abbrev pub no_memory_line : List ℕ
no_memory_line = codes "polipo: out of memory\n"

abbrev pub unread_line : List ℕ
unread_line = codes "polipo: cannot read the configuration\n"

abbrev pub no_disk_line : List ℕ
no_disk_line = codes "polipo: cannot list the cache folder\n"

abbrev pub no_listener_line : ℕ → List ℕ
no_listener_line port = codes "polipo: cannot listen on port " ++ decimal port ++ codes "\n"

-- why words and text give no settings
abbrev pub fault_line : ConfFault → List ℕ
fault_line Usage = usage_line
fault_line TooLong = codes "polipo: the configuration is too long\n"
fault_line (BadLine k) = codes "polipo: configuration line " ++ decimal k ++ codes " is not understood\n"
fault_line (BadValue s) = codes "polipo: bad value for " ++ name_of s ++ codes "\n"
fault_line OutOfMemory = no_memory_line
