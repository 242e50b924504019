-- The table of refusals (RULES.md, "Refusals"): the number and the name of each of the eight cases.
-- Assumes nothing.
use Rattle.std.specs.Prelude.{ℕ, ◌-◌, List, [], ◌∷◌, ◌++◌, length, replicate}
use Rattle.errno.specs.declared.Errno.{Errno}
use Rattle.errno.specs.Ascii.{ascii}
use Rattle.errno.specs.declared.Errno.TheVariants.{Enoent, Ebusy, Eexist, Enodev}
use Rattle.errno.specs.declared.Errno.TheVariants.{Einval, Enospc, Eaddrinuse, Eaddrnotavail}

-- the errno value of each case
unfoldable pub number_of : Errno → ℕ
number_of Enoent = 2
number_of Ebusy = 16
number_of Eexist = 17
number_of Enodev = 19
number_of Einval = 22
number_of Enospc = 28
number_of Eaddrinuse = 98
number_of Eaddrnotavail = 99

-- the name of each case, in ASCII
unfoldable pub name_of : Errno → List ℕ
name_of Enoent = ascii "ENOENT"
name_of Ebusy = ascii "EBUSY"
name_of Eexist = ascii "EEXIST"
name_of Enodev = ascii "ENODEV"
name_of Einval = ascii "EINVAL"
name_of Enospc = ascii "ENOSPC"
name_of Eaddrinuse = ascii "EADDRINUSE"
name_of Eaddrnotavail = ascii "EADDRNOTAVAIL"

-- a name, then zeros up to 14 bytes
abbrev pub padded : List ℕ → List ℕ
padded name = name ++ replicate (14 - length name) 0

-- the eight cases by ascending number, as the table has them
unfoldable pub cases : List Errno
cases = Enoent ∷ Ebusy ∷ Eexist ∷ Enodev ∷ Einval ∷ Enospc ∷ Eaddrinuse ∷ Eaddrnotavail ∷ []
