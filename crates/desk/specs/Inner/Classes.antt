-- The classes of jobs as the code has them.
use Rattle.std.specs.Prelude.{Bool, true, false}
use Rattle.desk.specs.declared.class.Class.{Class}
use Rattle.desk.specs.declared.class.Class.TheVariants.{Lo, Hi}

-- Whether a class is taken from the back.
abbrev pub from_back : Class → Bool
from_back Lo = true
from_back Hi = false
