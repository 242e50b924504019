-- `two` meets its contract: no word is spelled where the default arm is reached.
use Rattle.std.proofs.Common.{arith}
use Rattle.errno.specs.Ascii.{ascii}
use Rattle.wordtext.proofs.Laws.{same_tells}
use Rattle.linewords.specs.Requests.{by_words}
use Rattle.linewords.specs.Asked.{asked}
use Rattle.linewords.proofs.two.Goals.{in_default-via-then-w-lt4, in_default-via-else-w-lt4+then-w-lt5+in-111+in-112+in-101+in_default-1, in_default-via-else-w-lt4+then-w-lt5+in-111+in-112+in_default-1, in_default-via-else-w-lt4+then-w-lt5+in-111+in_default-1, in_default-via-else-w-lt4+then-w-lt5+in_default-1, in_default-via-else-w-lt4+else-w-lt5+then-w-lt6+in-99+in-108+in-111+in-115+in_default-1, in_default-via-else-w-lt4+else-w-lt5+then-w-lt6+in-99+in-108+in-111+in_default-1, in_default-via-else-w-lt4+else-w-lt5+then-w-lt6+in-99+in-108+in_default-1, in_default-via-else-w-lt4+else-w-lt5+then-w-lt6+in-99+in_default-1, in_default-via-else-w-lt4+else-w-lt5+then-w-lt6+in_default-1, in_default-via-else-w-lt4+else-w-lt5+else-w-lt6+then-w-lt7+in-99+in-114+in-101+in-97+in-116+in_default-1, in_default-via-else-w-lt4+else-w-lt5+else-w-lt6+then-w-lt7+in-99+in-114+in-101+in-97+in_default-1, in_default-via-else-w-lt4+else-w-lt5+else-w-lt6+then-w-lt7+in-99+in-114+in-101+in_default-1, in_default-via-else-w-lt4+else-w-lt5+else-w-lt6+then-w-lt7+in-99+in-114+in_default-1, in_default-via-else-w-lt4+else-w-lt5+else-w-lt6+then-w-lt7+in-99+in_default-1, in_default-via-else-w-lt4+else-w-lt5+else-w-lt6+then-w-lt7+in-114+in-101+in-109+in-111+in-118+in_default-1, in_default-via-else-w-lt4+else-w-lt5+else-w-lt6+then-w-lt7+in-114+in-101+in-109+in-111+in_default-1, in_default-via-else-w-lt4+else-w-lt5+else-w-lt6+then-w-lt7+in-114+in-101+in-109+in_default-1, in_default-via-else-w-lt4+else-w-lt5+else-w-lt6+then-w-lt7+in-114+in-101+in_default-1, in_default-via-else-w-lt4+else-w-lt5+else-w-lt6+then-w-lt7+in-114+in_default-1, in_default-via-else-w-lt4+else-w-lt5+else-w-lt6+then-w-lt7+in-97+in-112+in-109+in-97-w-23+in-115+in_default-1, in_default-via-else-w-lt4+else-w-lt5+else-w-lt6+then-w-lt7+in-97+in-112+in-109+in-97-w-23+in_default-1, in_default-via-else-w-lt4+else-w-lt5+else-w-lt6+then-w-lt7+in-97+in-112+in-109+in_default-1, in_default-via-else-w-lt4+else-w-lt5+else-w-lt6+then-w-lt7+in-97+in-112+in_default-1, in_default-via-else-w-lt4+else-w-lt5+else-w-lt6+then-w-lt7+in-97+in-113+in-109+in-97-w-27+in-115+in_default-1, in_default-via-else-w-lt4+else-w-lt5+else-w-lt6+then-w-lt7+in-97+in-113+in-109+in-97-w-27+in_default-1, in_default-via-else-w-lt4+else-w-lt5+else-w-lt6+then-w-lt7+in-97+in-113+in-109+in_default-1, in_default-via-else-w-lt4+else-w-lt5+else-w-lt6+then-w-lt7+in-97+in-113+in_default-1, in_default-via-else-w-lt4+else-w-lt5+else-w-lt6+then-w-lt7+in-97+in_default-1, in_default-via-else-w-lt4+else-w-lt5+else-w-lt6+then-w-lt7+in_default-1, in_default-via-else-w-lt4+else-w-lt5+else-w-lt6+else-w-lt7}
use Rattle.linewords.proofs.two.Goals as goal

pub returns-in_default : goal.returns-in_default
unfolding ascii asked by_words
returns-in_default c = elim c.in_default.branch [
  | in_default-via-then-w-lt4 w ↦ grind (arith, same_tells)
  | in_default-via-else-w-lt4+then-w-lt5+in-111+in-112+in-101+in_default-1 w ↦ grind (arith, same_tells)
  | in_default-via-else-w-lt4+then-w-lt5+in-111+in-112+in_default-1 w ↦ grind (arith, same_tells)
  | in_default-via-else-w-lt4+then-w-lt5+in-111+in_default-1 w ↦ grind (arith, same_tells)
  | in_default-via-else-w-lt4+then-w-lt5+in_default-1 w ↦ grind (arith, same_tells)
  | in_default-via-else-w-lt4+else-w-lt5+then-w-lt6+in-99+in-108+in-111+in-115+in_default-1 w ↦ grind (arith, same_tells)
  | in_default-via-else-w-lt4+else-w-lt5+then-w-lt6+in-99+in-108+in-111+in_default-1 w ↦ grind (arith, same_tells)
  | in_default-via-else-w-lt4+else-w-lt5+then-w-lt6+in-99+in-108+in_default-1 w ↦ grind (arith, same_tells)
  | in_default-via-else-w-lt4+else-w-lt5+then-w-lt6+in-99+in_default-1 w ↦ grind (arith, same_tells)
  | in_default-via-else-w-lt4+else-w-lt5+then-w-lt6+in_default-1 w ↦ grind (arith, same_tells)
  | in_default-via-else-w-lt4+else-w-lt5+else-w-lt6+then-w-lt7+in-99+in-114+in-101+in-97+in-116+in_default-1 w ↦ grind (arith, same_tells)
  | in_default-via-else-w-lt4+else-w-lt5+else-w-lt6+then-w-lt7+in-99+in-114+in-101+in-97+in_default-1 w ↦ grind (arith, same_tells)
  | in_default-via-else-w-lt4+else-w-lt5+else-w-lt6+then-w-lt7+in-99+in-114+in-101+in_default-1 w ↦ grind (arith, same_tells)
  | in_default-via-else-w-lt4+else-w-lt5+else-w-lt6+then-w-lt7+in-99+in-114+in_default-1 w ↦ grind (arith, same_tells)
  | in_default-via-else-w-lt4+else-w-lt5+else-w-lt6+then-w-lt7+in-99+in_default-1 w ↦ grind (arith, same_tells)
  | in_default-via-else-w-lt4+else-w-lt5+else-w-lt6+then-w-lt7+in-114+in-101+in-109+in-111+in-118+in_default-1 w ↦ grind (arith, same_tells)
  | in_default-via-else-w-lt4+else-w-lt5+else-w-lt6+then-w-lt7+in-114+in-101+in-109+in-111+in_default-1 w ↦ grind (arith, same_tells)
  | in_default-via-else-w-lt4+else-w-lt5+else-w-lt6+then-w-lt7+in-114+in-101+in-109+in_default-1 w ↦ grind (arith, same_tells)
  | in_default-via-else-w-lt4+else-w-lt5+else-w-lt6+then-w-lt7+in-114+in-101+in_default-1 w ↦ grind (arith, same_tells)
  | in_default-via-else-w-lt4+else-w-lt5+else-w-lt6+then-w-lt7+in-114+in_default-1 w ↦ grind (arith, same_tells)
  | in_default-via-else-w-lt4+else-w-lt5+else-w-lt6+then-w-lt7+in-97+in-112+in-109+in-97-w-23+in-115+in_default-1 w ↦ grind (arith, same_tells)
  | in_default-via-else-w-lt4+else-w-lt5+else-w-lt6+then-w-lt7+in-97+in-112+in-109+in-97-w-23+in_default-1 w ↦ grind (arith, same_tells)
  | in_default-via-else-w-lt4+else-w-lt5+else-w-lt6+then-w-lt7+in-97+in-112+in-109+in_default-1 w ↦ grind (arith, same_tells)
  | in_default-via-else-w-lt4+else-w-lt5+else-w-lt6+then-w-lt7+in-97+in-112+in_default-1 w ↦ grind (arith, same_tells)
  | in_default-via-else-w-lt4+else-w-lt5+else-w-lt6+then-w-lt7+in-97+in-113+in-109+in-97-w-27+in-115+in_default-1 w ↦ grind (arith, same_tells)
  | in_default-via-else-w-lt4+else-w-lt5+else-w-lt6+then-w-lt7+in-97+in-113+in-109+in-97-w-27+in_default-1 w ↦ grind (arith, same_tells)
  | in_default-via-else-w-lt4+else-w-lt5+else-w-lt6+then-w-lt7+in-97+in-113+in-109+in_default-1 w ↦ grind (arith, same_tells)
  | in_default-via-else-w-lt4+else-w-lt5+else-w-lt6+then-w-lt7+in-97+in-113+in_default-1 w ↦ grind (arith, same_tells)
  | in_default-via-else-w-lt4+else-w-lt5+else-w-lt6+then-w-lt7+in-97+in_default-1 w ↦ grind (arith, same_tells)
  | in_default-via-else-w-lt4+else-w-lt5+else-w-lt6+then-w-lt7+in_default-1 w ↦ grind (arith, same_tells)
  | in_default-via-else-w-lt4+else-w-lt5+else-w-lt6+else-w-lt7 w ↦ grind (arith, same_tells)
]
