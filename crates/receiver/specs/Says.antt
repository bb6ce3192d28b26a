-- What the answers of the calls say: each case by document 01's number and values.
use Rattle.receiver.specs.declared.Call.{Call}
use Rattle.receiver.specs.declared.ReceiveError.{ReceiveError}
use Rattle.receiver.specs.declared.Reception.{Reception}
use Rattle.std.specs.Prelude.{ℕ, List, [], Option, Result, Some, None, Ok, Err}
use Rattle.tsar.specs.Rows.{Refusal}
use Rattle.receiver.specs.declared.Reported.{Reported}
use Rattle.receiver.specs.Numbers.{receive_number}
use Rattle.receiver.specs.Answers.{Answer, refused, answered, Step}
use Rattle.receiver.specs.Advance.{Made}

abbrev pub try_new_says : Result Unit ReceiveError → Option Refusal
try_new_says (Ok tt) = None
try_new_says (Err e) = Some (receive_number e)

abbrev pub receive_says : Result Reception ReceiveError → Answer
receive_says (Ok x) = answered x.response x.message
receive_says (Err e) = refused (receive_number e)

abbrev pub advance_says : Result (Option Reported) ReceiveError → Answer
advance_says (Ok x) = answered x None
advance_says (Err e) = refused (receive_number e)

abbrev pub cancel_says : Result Unit ReceiveError → Answer
cancel_says (Ok tt) = answered None None
cancel_says (Err e) = refused (receive_number e)

-- what a call gave, with the store and the output that it left; a call that is lent no output leaves none
abbrev pub made : Call Unit → Made
made x = record { refused = try_new_says x.answer; receiver = x.receiver }

abbrev pub received : Call Reception → List ℕ → List ℕ → Step
received x store out = record { answer = receive_says x.answer; receiver = x.receiver; store = store; output = out }

abbrev pub advanced : Call (Option Reported) → List ℕ → Step
advanced x store = record { answer = advance_says x.answer; receiver = x.receiver; store = store; output = [] }

abbrev pub canceled : Call Unit → List ℕ → Step
canceled x store = record { answer = cancel_says x.answer; receiver = x.receiver; store = store; output = [] }
