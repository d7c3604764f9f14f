-- Why a line has no answer.
use Rattle.script.specs.declared.failure.Failure.{Failure}
use Rattle.script.specs.declared.failure.Failure.TheVariants.{NotTaken, OutOfMemory}
use Rattle.hex.specs.declared.error.FromHexError.{FromHexError}
use Rattle.hex.specs.declared.error.FromHexError.TheVariants.{OutOfMemory as NoMemory}

-- what an error of reading hex makes of a line
abbrev pub failure_of : FromHexError → Failure
failure_of NoMemory = OutOfMemory
failure_of _ = NotTaken
