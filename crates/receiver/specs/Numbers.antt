-- Document 01's numbers, 'Refusals by what is returned': 30 to 38, 60 to 62, and the codec's own; 64 is change request 2026-11's.
use Rattle.tsar.specs.Rows.{Refusal}
use Rattle.tsar.specs.Numbers.{number}
use Rattle.receiver.specs.declared.ReceiveError.{ReceiveError}
use Rattle.receiver.specs.declared.ReceiveError.TheVariants as error

abbrev pub receive_number : ReceiveError → Refusal
receive_number error.Identity = (30, 0)
receive_number error.Service = (31, 0)
receive_number error.TransactionId = (32, 0)
receive_number (error.Codec e) = number e
receive_number error.ClockRegression = (33, 0)
receive_number error.TimeOverflow = (34, 0)
receive_number error.UnparsedSegment = (35, 0)
receive_number error.BeginRequired = (36, 0)
receive_number error.TimerDue = (37, 0)
receive_number error.Closed = (38, 0)
receive_number error.Store = (60, 0)
receive_number error.Output = (61, 0)
receive_number error.ImpossibleState = (62, 0)
receive_number error.Profile = (64, 0)
