-- What the answers of the sender's calls say: each case by document 01's number and values.
use Rattle.std.specs.Prelude.{Option, Result, Some, None, Ok, Err}
use Rattle.sender.specs.declared.SenderError.{SenderError}
use Rattle.sender.specs.declared.SenderState.{SenderState}
use Rattle.tsar.specs.Rows.{Refusal}
use Rattle.sender.specs.declared.Sent.{Sent}
use Rattle.sender.specs.declared.Turned.{Turned}
use Rattle.sender.specs.declared.Progress.{Progress}
use Rattle.sender.specs.Numbers.{sender_number}
use Rattle.sender.specs.Calls.{Answer, refused, answered, refuses, Step, Turn}

abbrev pub sender_says : Result SenderState SenderError → Answer
sender_says (Ok s) = answered s
sender_says (Err e) = refused (sender_number e)

-- what a call gave
abbrev pub sent : Sent → Step
sent x = record { answer = sender_says x.answer; sender = x.sender }

abbrev pub turned : Turned → Turn
turned x = record { answer = sender_says x.answer; progress = x.progress }

-- what a call gave of the progress p: a refusal that comes before any step leaves it as it was
abbrev pub turned_by : Progress → Result Turned SenderError → Turn
turned_by p (Ok t) = turned t
turned_by p (Err e) = refuses (sender_number e) p

-- what a check says, by number
abbrev pub checked_by : {T : Type 0} → Result T SenderError → Option Refusal
checked_by (Ok x) = None
checked_by (Err e) = Some (sender_number e)
