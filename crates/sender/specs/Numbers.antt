-- Document 01's numbers, 'Refusals by what is returned': 30 to 34, 38, 40 to 49, 62, 63, and the codec's own; 64 is change request 2026-11's.
use Rattle.tsar.specs.Rows.{Refusal}
use Rattle.tsar.specs.Numbers.{number}
use Rattle.sender.specs.declared.SenderError.{SenderError}
use Rattle.sender.specs.declared.SenderError.TheVariants as error

abbrev pub sender_number : SenderError → Refusal
sender_number error.Identity = (30, 0)
sender_number error.Plan = (40, 0)
sender_number (error.Codec e) = number e
sender_number error.ClockRegression = (33, 0)
sender_number error.TimeOverflow = (34, 0)
sender_number error.CounterOverflow = (41, 0)
sender_number error.Closed = (38, 0)
sender_number error.StaleSubmission = (42, 0)
sender_number error.NotSubmitted = (43, 0)
sender_number error.ReceiptTime = (44, 0)
sender_number error.Peer = (45, 0)
sender_number error.Service = (31, 0)
sender_number error.TransactionId = (32, 0)
sender_number error.ResponsesProhibited = (46, 0)
sender_number error.UnparsedResponse = (47, 0)
sender_number error.UnsubmittedAcknowledgment = (48, 0)
sender_number error.ContradictoryReceipt = (49, 0)
sender_number error.ImpossibleState = (62, 0)
sender_number error.Tickets = (63, 0)
sender_number error.Profile = (64, 0)
