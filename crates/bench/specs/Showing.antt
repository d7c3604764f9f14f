-- How `show` says what the key does.
use Rattle.std.specs.Prelude.{ℕ, List, ◌++◌, codes, decimal}
use Rattle.state.specs.declared.Transaction.{Transaction}
use Rattle.state.specs.declared.Phase.{Phase}
use Rattle.state.specs.declared.Phase.TheVariants.{Idle, Gathering, Waiting, Answering}

-- a space, and a number behind it
abbrev pub spaced : ℕ → List ℕ
spaced n = codes " " ++ decimal n

-- `HOLDER COMMAND LENGTH`
abbrev pub transaction_text : Transaction → List ℕ
transaction_text t = decimal t.holder.0 ++ (spaced t.command ++ spaced t.size)

-- the phase by its name, and its numbers behind it
abbrev pub phase_text : Phase → List ℕ
phase_text Idle = codes " idle"
phase_text (Gathering t done left) = codes " gathering " ++ (transaction_text t ++ (spaced done ++ spaced left))
phase_text (Waiting t) = codes " waiting " ++ transaction_text t
phase_text (Answering t done) = codes " answering " ++ (transaction_text t ++ spaced done)
